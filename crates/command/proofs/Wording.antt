-- The words of a line, one after the other, and the numbers that they write.
use Rattle.std.proofs.Common.{◌≡◌, ℕ, ◌^◌, ◌<◌, Bool, true, false, cond, ◌&&◌, ltb, List, [], ◌∷◌, length, get_or, drop, Some, None, Ok, Err, Option, Result, sym, refl, ap, ◌∙◌, ⊎_elim, rules}
use Rattle.std.specs.Str.{all_ascii_digits}
use Rattle.std.specs.Result.{OkIff, result_ok, result_map_both}
use Rattle.std.specs.Str.Parse.{ParsesUnsigned}
use Rattle.std.specs.Option.{ok_or}
use Rattle.command.specs.declared.kinds.LineFault.{LineFault}
use Rattle.command.specs.declared.kinds.LineFault.TheVariants.{NoNumber}
use Rattle.command.specs.declared.kinds.ParseError.{ParseError}
use Rattle.command.specs.declared.kinds.ParseError.TheVariants.{Line}
use Rattle.std.proofs.lemmas.Str.Parse.{IsNumeralModel, numerals_by_fold, parse_plain, parse_plus}
use Rattle.std.proofs.lemmas.Bool.{cases_eq, cond-true, cond-false, and_from, and_parts, lt-ltb, ltb-true, eq-eqb, ne_eqb}
use Rattle.command.proofs.Gathering.{gathers, joined}
use Rattle.command.specs.Commands.{narrow, all_narrow}
use Rattle.command.specs.Words.{read_on, fitting, numeral, before, numerals}

untrue : (b : Bool) → (b ≡ true → ⊥) → b ≡ false
untrue true h = absurd (h refl)
untrue false h = refl

own : IsNumeralModel (λ ds. all_ascii_digits ds ≡ true) (read_on 0)
own = numerals_by_fold _ (search rules) read_on (search rules)

-- what `parse` answers is the number that the digits write, if they write one that fits
digits_read : {E : Type 0} (ds : List ℕ) (r : Result ℕ E) → OkIff r ((all_ascii_digits ds ≡ true) × (0 < length ds) × (read_on 0 ds < 2 ^ 32)) (read_on 0 ds) → result_ok r ≡ fitting 32 ds
digits_read ds (Ok x) h = ap Some h.1 ∙ sym (cond-true _ _ _ (and_from _ _ (lt-ltb _ _ h.0.1) (and_from _ _ h.0.0 (lt-ltb _ _ h.0.2))))
digits_read ds (Err e) h = sym (cond-false _ _ _ (untrue _ (λ q.
    let p = and_parts (ltb 0 (length ds)) _ q in
    let r = and_parts (all_ascii_digits ds) _ p.1 in
    h (r.0, ltb-true _ _ p.0, ltb-true _ _ r.1))))

pub number_read : {E : Type 0} (w : List ℕ) (r : Result ℕ E) → ParsesUnsigned 32 10 w r → result_ok r ≡ numeral 32 w
number_read w r h = ⊎_elim
    (λ e. digits_read (drop 1 w) r (parse_plus own 32 w r h e) ∙ ap (λ i. fitting 32 (drop i w)) (sym (cond-true _ 1 0 (eq-eqb _ 43 e))))
    (λ n. digits_read w r (parse_plain own 32 w r h n) ∙ ap (λ i. fitting 32 (drop i w)) (sym (cond-false _ 1 0 (ne_eqb _ 43 n))))
    (cases_eq (get_or w 0 0) 43)

-- an error that is a line's fault
abbrev lined : {T : Type 0} → Result T LineFault → Result T ParseError
lined r = result_map_both (λ x. x) Line r

joined-numerals : (x : Option ℕ) (xs : Option (List ℕ)) → joined (ok_or x (Line NoNumber)) (lined (ok_or xs NoNumber)) ≡ lined (ok_or (before x xs) NoNumber)
joined-numerals None xs = refl
joined-numerals (Some x) None = refl
joined-numerals (Some x) (Some xs) = refl

pub gathers-numerals : (ws : List (List ℕ)) → gathers (λ w. ok_or (numeral 32 w) (Line NoNumber)) ws ≡ lined (ok_or (numerals 32 ws) NoNumber)
gathers-numerals [] = refl
gathers-numerals (w ∷ ws) =
    ap (joined (ok_or (numeral 32 w) (Line NoNumber))) (gathers-numerals ws) ∙ joined-numerals (numeral 32 w) (numerals 32 ws)

joined-narrow : (b c : Bool) (x : ℕ) (xs : List ℕ)
    → joined (cond b (Ok x) (Err (Line NoNumber))) (lined (cond c (Ok xs) (Err NoNumber))) ≡ lined (cond (b && c) (Ok (x ∷ xs)) (Err NoNumber))
joined-narrow true true x xs = refl
joined-narrow true false x xs = refl
joined-narrow false c x xs = refl

pub gathers-narrow : (xs : List ℕ) → gathers (λ x. cond (narrow x) (Ok x) (Err (Line NoNumber))) xs ≡ lined (cond (all_narrow xs) (Ok xs) (Err NoNumber))
gathers-narrow [] = refl
gathers-narrow (x ∷ xs) =
    ap (joined (cond (narrow x) (Ok x) (Err (Line NoNumber)))) (gathers-narrow xs) ∙ joined-narrow (narrow x) (all_narrow xs) x xs
