-- What `map` and then `try_collect` gather from a source: a value for each item, or the first fault.
use Rattle.std.proofs.Common.{◌≡◌, ℕ, zero, suc, ◌+◌, ◌<◌, ◌≤◌, ◌⊎◌, ⊎_elim, List, [], ◌∷◌, ◌++◌, map, length, Some, None, Ok, Err, Vec, Global, vec_items, vec_len, vec_capacity, Option, Result, IfOk, sym, refl, ap, ap₂, ◌∙◌, subst, append-nil, append_assoc, arith}
use Rattle.std.specs.Option.{IsSomeAnd}
use Rattle.std.specs.List.{slice_get, FoldsTo}
use Rattle.std.specs.Result.{IfErr, result_map_both}
use Rattle.std.specs.Iterator.{Yields, TryCollects}
use Rattle.std.specs.Iterator.Adapters.{map_source, map_callee, map_steps}
use Rattle.std.specs.Iterator.Runs.{SomeRun, EndsAtFirstErr}
use Rattle.std.specs.declared.iter.Map.{Map}
use Rattle.std.specs.declared.alloc.AllocError.{AllocError}
use Rattle.std.specs.Fn.{Called}
use denote.Param.Members.{Mut}
use Rattle.std.proofs.iter.runs.Made.{took, at-is}
use Rattle.std.proofs.iter.Yields.{fronts}
use Rattle.std.proofs.lemmas.List.{nil_from_length}
use Rattle.std.specs.Slice.Iter.{iter_rest}
use Rattle.command.specs.declared.kinds.LineFault.{LineFault}
use Rattle.command.specs.declared.kinds.ParseError.{ParseError}
use Rattle.command.specs.declared.kinds.ParseError.TheVariants.{Line, OutOfMemory}
use Rattle.command.specs.Faults.{IfMemorySuffices}

-- the first is put before the others, if neither is an error
abbrev pub joined : Result ℕ ParseError → Result (List ℕ) ParseError → Result (List ℕ) ParseError
joined (Err e) r = Err e
joined (Ok y) (Err e) = Err e
joined (Ok y) (Ok ys) = Ok (y ∷ ys)

module _ {X : Type 0} (h : X → Result ℕ ParseError) where
  abbrev pub gathers : List X → Result (List ℕ) ParseError
  gathers [] = Ok []
  gathers (x ∷ xs) = joined (h x) (gathers xs)

  all_ok : (xs : List X) (ys : List ℕ) → map h xs ≡ map Ok ys → gathers xs ≡ Ok ys
  all_ok [] [] e = refl
  all_ok [] (y ∷ ys) e = absurd (cc)
  all_ok (x ∷ xs) [] e = absurd (cc)
  all_ok (x ∷ xs) (y ∷ ys) e =
      let first : h x ≡ Ok y = cc in
      let others : map h xs ≡ map Ok ys = cc in
      rw first (rw (all_ok xs ys others) refl)

  first_err : (xs more : List X) (i : ℕ) (e : ParseError) → IsSomeAnd (slice_get (map h xs) i) (λ r. Err e ≡ r)
      → ((k : ℕ) → k < i → IsSomeAnd (slice_get (map h xs) k) (λ r. (y : ℕ) × (Ok y ≡ r))) → gathers (xs ++ more) ≡ Err e
  first_err [] more i e at below = absurd at
  first_err (x ∷ xs) more zero e at below = rw (sym at) refl
  first_err (x ∷ xs) more (suc i) e at below =
      rw (sym (below 0 (omega arith)).1) (rw (first_err xs more i e at (λ k l. below (suc k) (omega arith))) refl)

-- what is said of a result with a line's fault, from what is said of it with an error
pub of_line : (found : Result (Vec ℕ Global) LineFault) (r : Result (List ℕ) LineFault)
    → result_map_both vec_items Line found ≡ result_map_both (λ xs. xs) Line r → result_map_both vec_items (λ fault. fault) found ≡ r
of_line (Ok v) (Ok xs) e = cc
of_line (Ok v) (Err d) e = absurd (cc)
of_line (Err d) (Ok xs) e = absurd (cc)
of_line (Err d) (Err f) e = cc

-- the values that were put into a list one by one
values : {V E : Type 0} (items : V → List ℕ) (extends : V → List ℕ → V → Type 0)
    (law : (v w : V) (ys : List ℕ) → extends v ys w → items w ≡ items v ++ ys) (xs : List (Result ℕ E)) (b v : V)
    → FoldsTo (λ p x q. (y : ℕ) × (Ok y ≡ x) × extends p (y ∷ []) q) b xs v → (ys : List ℕ) × (xs ≡ map Ok ys) × (items v ≡ items b ++ ys)
values items extends law [] b v e = ([], refl, ap items (sym e) ∙ sym (append-nil (items b)))
values items extends law (x ∷ xs) b v e =
    let later = values items extends law xs e.0 v e.2 in
    (e.1.0 ∷ later.0, ap₂ ◌∷◌ (sym e.1.1) later.1, later.2 ∙ ap (λ ys. ys ++ later.0) (law b e.0 _ e.1.2) ∙ append_assoc (items b) _ later.0)

abbrev pub Extends : Vec ℕ Global → List ℕ → Vec ℕ Global → Type 0
Extends v ys w = (vec_items w ≡ vec_items v ++ ys) × (vec_len w ≡ vec_len v + length ys) × (vec_capacity v ≤ vec_capacity w)

-- what is left of a source, whose items are read as v says, and what each call of `next` leaves
pub record Source {S A X : Type 0} (steps : S → Option A → S → Type 0) (v : A → X) (Fine : S → Type 0) (Left : S → List X → Type 0) : Type 0 where
  pub next : (s t : S) (x : A) → steps s (Some x) t → Fine s → Fine t × ((xs : List X) → Left t xs → Left s (v x ∷ xs))
  pub end : (s t : S) → steps s None t → Left s []
  pub left : (s : S) → Fine s → (xs : List X) × Left s xs

pub slices : Source fronts (λ x. x.now) (λ _. Unit {0}) (λ s (xs : List ℕ). iter_rest s ≡ xs)
slices = record {
  next = λ s t x e _. (tt, λ xs l. e ∙ ap (λ ys. x.now ∷ ys) l);
  end = λ s t e. nil_from_length (iter_rest s) e.0;
  left = λ s _. (iter_rest s, refl);
}

module _ {S A F X : Type 0} {steps : S → Option A → S → Type 0} {v : A → X} {Fine : S → Type 0} {Left : S → List X → Type 0} (source : Source steps v Fine Left)
    (g : Mut F (A × Unit {0}) (Result ℕ ParseError)) (f : F) (h : X → Result ℕ ParseError)
    (calls : (x : A) (r : Result ℕ ParseError) (q : F) → Called g f (x, tt) r q → (q ≡ f) × (r ≡ h (v x))) where
  through : (items : List (Result ℕ ParseError)) (s t : Map S F) → Yields (map_steps steps g) s items t → map_callee s ≡ f → Fine (map_source s)
      → (xs : List X) × (items ≡ map h xs) × ((more : List X) → Left (map_source t) more → Left (map_source s) (xs ++ more)) × Fine (map_source t)
  through [] s t y c fine = ([], refl, (λ more l. subst (λ u. Left (map_source u) more) (sym y) l), subst (λ u. Fine (map_source u)) y fine)
  through (r ∷ items) s t y c fine =
      let x = y.1.0 in
      let call = calls x r _ (subst (λ k. Called g k (x, tt) r (map_callee y.0)) c y.1.2) in
      let n = source.next (map_source s) (map_source y.0) x y.1.1 fine in
      let later = through items y.0 t y.2 call.0 n.0 in
      (v x ∷ later.0, ap₂ ◌∷◌ call.1 later.1, (λ more l. n.1 (later.0 ++ more) (later.2 more l)), later.3)

  -- of the vector or the first fault that `try_collect` answers
  pub gathered : (s : Map S F) (r : Result (Vec ℕ Global) ParseError) → map_callee s ≡ f → Fine (map_source s)
      → IfOk r (TryCollects (map_steps steps g) (λ x y. y ≡ x) (λ ys w. (vec_items w ≡ ys) × (vec_len w ≡ length ys)) Extends s)
      → IfErr r (λ e. ((full : AllocError) × (e ≡ OutOfMemory full)) ⊎ SomeRun (map_steps steps g) s (λ p. EndsAtFirstErr p (λ x y. y ≡ x) e))
      → IfMemorySuffices r (λ found. (xs : List X) × Left (map_source s) xs × (result_map_both vec_items Line found ≡ gathers h xs))
  gathered s (Ok w) c fine ok err =
      let vals = values vec_items Extends (λ _ _ _ e. e.0) ok.0 ok.1 w ok.4 in
      let run = ok.2.1 in
      let seen = through ok.0 s run.0 run.1 c fine in
      let all : gathers h seen.0 ≡ Ok vals.0 = all_ok h seen.0 vals.0 (sym seen.1 ∙ vals.1) in
      (seen.0, subst (Left (map_source s)) (append-nil seen.0) (seen.2 [] (source.end _ _ run.2.0)), ap Ok (vals.2 ∙ ap (λ ys. ys ++ vals.0) ok.3.0) ∙ sym all)
  gathered s (Err (OutOfMemory full)) c fine ok err = tt
  gathered s (Err (Line fault)) c fine ok err =
      ⊎_elim
      (λ m. let e = m.1 in absurd (cc))
      (λ run.
      let p = run.0 in
      let i = run.2.0 in
      let seen = through p.items s (took p).0 (subst (λ k. Yields (map_steps steps g) k p.items (took p).0) run.1 (took p).1) c fine in
      let rest = source.left _ seen.3 in
      let at : (k : ℕ) (P : Result ℕ ParseError → Type 0) → IsSomeAnd (p.at k) P → IsSomeAnd (slice_get (map h seen.0) k) P
      = λ k P. subst (λ o. IsSomeAnd o P) (at-is p k ∙ ap (λ xs. slice_get xs k) seen.1) in
      (seen.0 ++ rest.0, seen.2 rest.0 rest.1, sym (first_err h seen.0 rest.0 i (Line fault) (at i _ run.2.2) (λ k l. at k _ (run.2.3 k l)))))
      err
