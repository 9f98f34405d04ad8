use Rattle.std.proofs.Common.{◌≡◌, ℕ, zero, suc, ◌+◌, ◌<◌, ◌≤◌, List, get_or, subst, sym, ⊎_elim, rules, arith}
use denote.Param.Members.{Mut}
use Rattle.std.specs.Fn.{Called}
use Rattle.std.specs.Array.{IsFromFnResultFrom}
use Rattle.std.proofs.lemmas.Bool.{cases_eq}
use Rattle.model.proofs.Positions.{start_all}
use Rattle.task.proofs.moves.start_position.Goals as goal

-- what each call of a closure gives that no call changes, the array made by it has at each index
made_all : {F : Type 0} (m : Mut F (ℕ × Unit {0}) ℕ) (f : F) (Q : ℕ → ℕ → Type 0) → ((i y : ℕ) (q : F) → Called m f (i, tt) y q → (q ≡ f) × Q i y)
    → (ys : List ℕ) (i n : ℕ) → IsFromFnResultFrom m f ys i n → (k : ℕ) → i ≤ k → k < i + n → Q k (get_or ys k 0)
made_all m f Q h ys i zero each k l u = absurd (omega arith)
made_all m f Q h ys i (suc n) (q, y, at, called, rest) k l u =
    let (same, here) = h i y q called in
    ⊎_elim
    (λ e. subst (λ j. Q j (get_or ys j 0)) e (subst (Q i) (sym (at.1 0)) here))
    (λ ne. made_all m f Q h ys (i + 1) n (subst (λ p. IsFromFnResultFrom m p ys (i + 1) n) same rest) k (omega arith) (omega arith))
    (cases_eq i k)

pub returns : goal.returns
returns g c =
    let s = c.args.source.now in
    let t = g.S.TaskSource.task s in
    let law = g.met.S.TaskSource.lawful s in
    let h = c.from_fn.ensures.items in
    start_all t law c.from_fn.result h.long
    (λ v l. made_all _ _ (λ i y. y ≡ t.start i) (λ i y q k. search rules) c.from_fn.result 0 32 h.each v (omega arith) l)
