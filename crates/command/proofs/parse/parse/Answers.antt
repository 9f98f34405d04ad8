use Rattle.std.proofs.Common.{◌∙◌}
use Rattle.std.proofs.lemmas.Result.{err_from_is_err_and}
use Rattle.command.specs.Words.{numerals}
use Rattle.command.specs.Commands.{verb_of}
use Rattle.command.proofs.Texts.{first_word, after_word, has_words}
use Rattle.command.proofs.Saying.{at_fault, no_command, no_number, taken, line_says}
use Rattle.command.proofs.parse.parse.Goals as goal

pub returns-in_err-verb : goal.returns-in_err-verb
returns-in_err-verb c =
    let name = c.in-Some.name.now in
    let begins = c.split_whitespace-words.ensures.rest in
    let first = first_word _ name _ c.in-Some.ensures.steps in
    let later = has_words _ (after_word _ name _ first (rw begins c.before_comment.utf8)) in
    let p = err_from_is_err_and c.from_residual.result c.from_residual.ensures.1 in
    rw (p.1, p.2)
    (line_says c.before_comment.ensures begins first later.0 later.1 _ (no_command (verb_of name) (numerals 32 later.0) _ c.in_err-verb.ensures.value))

pub numbers-requires : goal.numbers-requires
numbers-requires c =
    let first = first_word _ c.in-Some.name.now _ c.in-Some.ensures.steps in
    after_word _ c.in-Some.name.now _ first (rw c.split_whitespace-words.ensures.rest c.before_comment.utf8)

pub returns-in_err-numbers : goal.returns-in_err-numbers
returns-in_err-numbers c =
    let name = c.in-Some.name.now in
    let begins = c.split_whitespace-words.ensures.rest in
    let first = first_word _ name _ c.in-Some.ensures.steps in
    let p = err_from_is_err_and c.from_residual-in_err-numbers.result c.from_residual-in_err-numbers.ensures.1 in
    rw (p.1, p.2) (at_fault _ _ c.in_err-numbers.field-0.0 c.in_err-numbers.ensures (λ fault h.
    line_says c.before_comment.ensures begins first h.0 h.1 _ (no_number (verb_of name) (numerals 32 h.0) _ fault c.in_ok-verb.ensures.value h.2)))

pub returns-in_err-command : goal.returns-in_err-command
returns-in_err-command c =
    let name = c.in-Some.name.now in
    let begins = c.split_whitespace-words.ensures.rest in
    let first = first_word _ name _ c.in-Some.ensures.steps in
    let h = c.in_ok-numbers.ensures in
    let p = err_from_is_err_and c.from_residual-in_err-command.result c.from_residual-in_err-command.ensures.1 in
    let says = taken (verb_of name) (numerals 32 h.0) _ c.deref.result.now c.in_ok-verb.ensures.value (rw c.deref.ensures.value h.2) in
    rw (p.1, p.2) (at_fault _ _ c.in_err-command.field-0.0 c.in_err-command.ensures (λ fault e.
    line_says c.before_comment.ensures begins first h.0 h.1 _ (e ∙ says)))

pub returns : goal.returns
returns c =
    let name = c.in-Some.name.now in
    let begins = c.split_whitespace-words.ensures.rest in
    let first = first_word _ name _ c.in-Some.ensures.steps in
    let h = c.in_ok-numbers.ensures in
    let says = taken (verb_of name) (numerals 32 h.0) _ c.deref.result.now c.in_ok-verb.ensures.value (rw c.deref.ensures.value h.2) in
    line_says c.before_comment.ensures begins first h.0 h.1 _ (c.in_ok-command.ensures ∙ says)
