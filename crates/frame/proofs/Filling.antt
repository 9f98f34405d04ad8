-- Lists of values, one for each variable: as a closure fills them, and as a loop writes them into a list of zeros.
use Rattle.std.proofs.Common.{◌≡◌, ℕ, zero, suc, ◌+◌, ◌-◌, ◌<◌, ◌≤◌, List, ◌++◌, length, get_or, set, drop, replicate, ap, ◌∙◌, subst, ⊎_elim, sym, arith}
use Rattle.std.specs.Fn.{Called, Mut}
use Rattle.std.specs.Array.{IsFromFnResult, IsFromFnResultFrom}
use Rattle.std.proofs.lemmas.Bool.{cases_eq, cases_lt}
use Rattle.std.proofs.lemmas.List.{get_or_append_left, get_or-append_right, get_or-drop, get_or-replicate, get_or_past}
use Rattle.std.proofs.lemmas.List.Edits.{fill_by_more}

module _ {F : Type 0} {g : Mut F (ℕ × Unit {0}) ℕ} {f : F} (p : ℕ → ℕ) (each : (v y : ℕ) (q : F) → Called g f (v, tt) y q → (q ≡ f) × (y ≡ p v)) where
  from : (xs : List ℕ) (i n : ℕ) → IsFromFnResultFrom g f xs i n → (v : ℕ) → i ≤ v → v < i + n → get_or xs v 0 ≡ p v
  from xs i zero made v l h = absurd (omega arith)
  from xs i (suc n) (q, y, is, call, rest) v l h =
      let e = each i y q call in
      ⊎_elim
      (λ at. ap (λ k. get_or xs k 0) at ∙ is.1 0 ∙ e.1 ∙ ap p (sym at))
      (λ off. from xs (i + 1) n (subst (λ k. IsFromFnResultFrom g k xs (i + 1) n) e.0 rest) v (omega arith) (omega arith))
      (cases_eq v i)

  -- what `from_fn` makes, where its closure answers p of each variable and stays as it is
  pub filled : (xs : List ℕ) (n : ℕ) → IsFromFnResult g f xs n → (v : ℕ) → v < n → get_or xs v 0 ≡ p v
  filled xs n made v h = from xs 0 n made.each v (omega arith) (omega arith)

-- a list of 32 values of which the first n were written, and the others are 0 still
module _ (xs : List ℕ) (n u : ℕ) (long : length xs ≡ n) where
  pub written : u < n → get_or (xs ++ drop n (replicate 32 0)) u 0 ≡ get_or xs u 0
  written h = get_or_append_left xs (drop n (replicate 32 0)) 0 u (omega (arith, long))

  pub unwritten : n ≤ u → get_or (xs ++ drop n (replicate 32 0)) u 0 ≡ 0
  unwritten h =
      get_or-append_right xs (drop n (replicate 32 0)) n u 0 long h
      ∙ get_or-drop n (replicate 32 0) (u - n) 0
      ∙ ⊎_elim (get_or-replicate 32 (n + (u - n)) 0 0) (λ l. get_or_past (replicate 32 0) (n + (u - n)) 0 (omega (arith, l))) (cases_lt (n + (u - n)) 32)

-- one value more of p is written
pub written_more : (p : ℕ → ℕ) (xs : List ℕ) (v y : ℕ) → v < length xs → y ≡ p v → ((u : ℕ) → u < v → get_or xs u 0 ≡ p u) → (u : ℕ) → u < v + 1 → get_or (set xs v y) u 0 ≡ p u
written_more p xs v y l e low u h = ap (λ z. get_or (set xs v z) u 0) e ∙ fill_by_more p xs v 0 l low u h
