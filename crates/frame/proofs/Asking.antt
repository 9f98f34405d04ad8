-- A question asked of each variable below n in turn.
use Rattle.std.proofs.Common.{◌≡◌, ℕ, ◌<◌, Bool, true, false, Decides, Option, List, length, get_or, refl, sym, subst, arith}
use Rattle.std.specs.Bool.{MatchBool}
use Rattle.std.specs.Option.{MatchOption}
use Rattle.std.specs.Fn.{Called, Mut}
use Rattle.std.specs.Iterator.{YieldsThen}
use Rattle.std.specs.List.{AllWithin, FoldsTo, HoldsAt, range_with_len}
use Rattle.std.specs.declared.ops.Range.{Range}
use Rattle.std.proofs.iter.Yields.{nat_range_steps}
use Rattle.std.proofs.lemmas.Bool.{false≢true}
use Rattle.std.proofs.lemmas.List.FromFn.{length-range_with_len, get_or-range_with_len}
use Rattle.std.proofs.lemmas.Iterator.{cases_from_all, YieldsList-from_range}

module _ (Yes : ℕ → Type 0) (n : ℕ) where
  at : (v : ℕ) → v < n → get_or (range_with_len 0 n) v 0 ≡ v
  at v h = omega (arith, get_or-range_with_len 0 n v 0 h)

  decided : (r : Bool) → MatchBool r (AllWithin Yes (range_with_len 0 n) 0 (length (range_with_len 0 n))) ((k : ℕ) × (k < length (range_with_len 0 n)) × HoldsAt (λ v. Yes v → ⊥) (range_with_len 0 n) k) → Decides r ((v : ℕ) → v < n → Yes v)
  decided true h = (λ e v l. subst Yes (at v l) (h v 0 (omega arith) (omega (arith, length-range_with_len 0 n))), λ all. refl)
  decided false h = let l : h.0 < n = omega (arith, h.1, length-range_with_len 0 n) in (λ e. absurd (false≢true e), λ all. absurd (h.2 0 (subst Yes (sym (at h.0 l)) (all h.0 l))))

  -- what `all` answers over the variables below n, where its closure answers of each and stays as it is
  pub all_decided : {F : Type 0} {g : Mut F (ℕ × Unit {0}) Bool} {u : Range ℕ} {f : F} (r : Bool)
      → (xs : List ℕ) × (o : Option ℕ) × (j : F) × YieldsThen nat_range_steps (record { start = 0; end = n }) xs o u × FoldsTo (λ p x q. Called g p (x, tt) true q) f xs j × MatchOption o (r ≡ true) (λ x. (r ≡ false) × ((h : F) × Called g j (x, tt) false h))
      → ((v : ℕ) (b : Bool) (q : F) → Called g f (v, tt) b q → (q ≡ f) × Decides b (Yes v)) → Decides r ((v : ℕ) → v < n → Yes v)
  all_decided {u = u} {f = f} r ran each =
      decided r (cases_from_all u f r Yes (λ v. Yes v → ⊥) ran (YieldsList-from_range 0 n n refl (omega arith)) (λ v q k. let e = each v true q k in (e.0, e.1.0 refl)) (λ v q k y. false≢true ((each v false q k).1.1 y)))
