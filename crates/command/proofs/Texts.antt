-- Each text has words, and so has what follows one of its words.
use Rattle.std.proofs.Common.{◌≡◌, ℕ, ◌<◌, Bool, true, false, not, List, [], ◌∷◌, ◌++◌, length, sym, refl, ap, ◌∙◌, subst, ⊎_elim, append_assoc, length-append, arith}
use Rattle.std.specs.Str.{IsUtf8, NoCharPasses, EmptyOrStartsWithPassing, all_scalars, encode_utf8_all}
use Rattle.std.specs.Char.{is_whitespace, is_not_whitespace, encode_utf8, IsScalar}
use Rattle.std.proofs.lemmas.Str.{IsUtf8-past_char, length-encode, len_utf8_bounds}
use Rattle.std.proofs.lemmas.Bool.{and_parts, cases_Bool}
use Rattle.std.specs.Str.Iter.{split_whitespace_steps, split_whitespace_rest}
use Rattle.command.proofs.Gathering.{Source}
use Rattle.command.specs.Words.{FirstWord, Words}

-- what `split_whitespace` says of an item
pub first_word : (bs w rest : List ℕ) → (gap : List ℕ) × (bs ≡ gap ++ (w ++ rest)) × (0 < length w)
    × NoCharPasses is_not_whitespace gap × NoCharPasses is_whitespace w
    × ((more : List ℕ) × EmptyOrStartsWithPassing is_whitespace rest more) → FirstWord bs w rest
first_word bs w rest cut = record { gap = cut.0; cut = cut.1; some = cut.2; blank = cut.3; solid = cut.4; ends = cut.5 }

after_chars : (cs bs rest : List ℕ) → IsUtf8 bs → bs ≡ encode_utf8_all cs ++ rest → IsUtf8 rest
after_chars [] bs rest u e = subst IsUtf8 e u
after_chars (c ∷ cs) bs rest u e =
    after_chars cs (encode_utf8_all cs ++ rest) rest (IsUtf8-past_char bs _ c u (e ∙ append_assoc (encode_utf8 c) (encode_utf8_all cs) rest)) refl

after_none : (p : ℕ → Bool) (xs bs rest : List ℕ) → NoCharPasses p xs → IsUtf8 bs → bs ≡ xs ++ rest → IsUtf8 rest
after_none p xs bs rest h u e = after_chars h.0 bs rest u (e ∙ ap (λ ys. ys ++ rest) (sym h.1))

-- what follows a word of a text is a text
pub after_word : (bs w rest : List ℕ) → FirstWord bs w rest → IsUtf8 bs → IsUtf8 rest
after_word bs w rest h u =
    after_none is_whitespace w (w ++ rest) rest h.solid (after_none is_not_whitespace h.gap bs (w ++ rest) h.blank u h.cut) refl

-- bs goes on with a word that has begun, which may end at once
record InWord (bs : List ℕ) : Type 0 where
  word : List ℕ
  rest : List ℕ
  cut : bs ≡ word ++ rest
  solid : NoCharPasses is_whitespace word
  ends : (more : List ℕ) × EmptyOrStartsWithPassing is_whitespace rest more
  later : (ws : List (List ℕ)) × Words rest ws

module _ (c : ℕ) (bs : List ℕ) where
  blank_before : is_whitespace c ≡ true → (ws : List (List ℕ)) → Words bs ws → Words (encode_utf8 c ++ bs) ws
  blank_before b [] h = (c ∷ h.0, ap (λ xs. encode_utf8 c ++ xs) h.1, (ap not b, h.2))
  blank_before b (w ∷ ws) h =
      let f = h.1 in (
        h.0,
        record {
          gap = encode_utf8 c ++ f.gap;
          cut = ap (λ xs. encode_utf8 c ++ xs) f.cut ∙ sym (append_assoc (encode_utf8 c) f.gap (w ++ h.0));
          some = f.some;
          blank = (c ∷ f.blank.0, ap (λ xs. encode_utf8 c ++ xs) f.blank.1, (ap not b, f.blank.2));
          solid = f.solid;
          ends = f.ends;
        },
        h.2,
      )

  ended : IsScalar c → is_whitespace c ≡ true → (ws : List (List ℕ)) × Words bs ws → InWord (encode_utf8 c ++ bs)
  ended s b later = record {
    word = [];
    rest = encode_utf8 c ++ bs;
    cut = refl;
    solid = ([], refl, tt);
    ends = (bs, λ _. (c, b, refl, s));
    later = (later.0, blank_before b later.0 later.1);
  }

  longer : is_whitespace c ≡ false → InWord bs → InWord (encode_utf8 c ++ bs)
  longer n i = record {
    word = encode_utf8 c ++ i.word;
    rest = i.rest;
    cut = ap (λ xs. encode_utf8 c ++ xs) i.cut ∙ sym (append_assoc (encode_utf8 c) i.word i.rest);
    solid = (c ∷ i.solid.0, ap (λ xs. encode_utf8 c ++ xs) i.solid.1, (n, i.solid.2));
    ends = i.ends;
    later = i.later;
  }

whole : (bs : List ℕ) (i : InWord bs) → 0 < length i.word → (ws : List (List ℕ)) × Words bs ws
whole bs i some =
    (i.word ∷ i.later.0, (i.rest, record { gap = []; cut = i.cut; some = some; blank = ([], refl, tt); solid = i.solid; ends = i.ends }, i.later.1))

words_of_chars : (cs : List ℕ) → all_scalars cs ≡ true → ((ws : List (List ℕ)) × Words (encode_utf8_all cs) ws) × InWord (encode_utf8_all cs)
unfolding ended longer
words_of_chars [] _ = (([], ([], refl, tt)), record { word = []; rest = []; cut = refl; solid = ([], refl, tt); ends = ([], λ l. absurd (omega arith)); later = ([], ([], refl, tt)) })
words_of_chars (c ∷ cs) h =
    let p = and_parts _ (all_scalars cs) h in
    let later = words_of_chars cs p.1 in
    let bs : List ℕ = encode_utf8_all cs in
    ⊎_elim
    (λ b. let e = ended c bs p.0 b later.0 in (e.later, e))
    (λ n. let i = longer c bs n later.1 in (whole (encode_utf8 c ++ bs) i (omega (arith, length-append (encode_utf8 c) later.1.word, length-encode c, (len_utf8_bounds c).0)), i))
    (cases_Bool (is_whitespace c))

-- each text has words
pub has_words : (bs : List ℕ) → IsUtf8 bs → (ws : List (List ℕ)) × Words bs ws
has_words bs u = subst (λ xs. (ws : List (List ℕ)) × Words xs ws) u.1.1 (words_of_chars u.0 u.1.0).0

pub texts : Source split_whitespace_steps (λ x. x.now) (λ s. IsUtf8 (split_whitespace_rest s)) (λ s ws. Words (split_whitespace_rest s) ws)
texts = record {
  next = λ s t x e u. let first = first_word _ x.now _ e in (after_word _ x.now _ first u, λ ws l. (_, first, l));
  end = λ s t e. e.1;
  left = λ s u. has_words _ u;
}
