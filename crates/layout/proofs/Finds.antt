-- What a search over the records answers, which goes by how many others come before each.
use Rattle.std.proofs.Common.{◌≡◌, ℕ, ◌+◌, ◌-◌, ◌<◌, ◌≤◌, min, Bool, true, false, List, Some, None, Option, Bor, subst, arith}
use denote.Param.Members.{Mut}
use Rattle.std.specs.Prelude.{⊤, MatchOption}
use Rattle.std.specs.declared.ops.Range.{Range}
use Rattle.std.specs.Fn.{CalledAt}
use Rattle.std.specs.Iterator.{YieldsThen}
use Rattle.std.specs.List.{FoldsTo}
use Rattle.std.proofs.iter.Yields.{nat_range_steps}
use Rattle.std.proofs.lemmas.Iterator.{first_from_Range}

-- the answer of a search over m records, by a number that is one less than the record's: Yes of the record that it found and No of all
-- before it, or No of all where it found none
abbrev pub Finds : ℕ → (ℕ → Type 0) → (ℕ → Type 0) → Option ℕ → Type 0
Finds m Yes No r = MatchOption r ((k : ℕ) → 1 ≤ k → k ≤ m → No k) (λ i. (i < m) × (min (i + 1) 65535 ≡ i + 1) × Yes (i + 1) × ((k : ℕ) → 1 ≤ k → k ≤ i → No k))

module _ (m : ℕ) (few : m ≤ 65535) (Yes No : ℕ → Type 0) where
  before : (i : ℕ) → i < m → min (i + 1) 65535 ≡ i + 1
  before i h = omega (arith, few)

  none_from : (k n : ℕ) → n ≤ m → ((i : ℕ) → 0 ≤ i → i < n → No (min (i + 1) 65535)) → 1 ≤ k → k ≤ n → No k
  none_from k n l h low high =
      let i = k - 1 in
      let e : min (i + 1) 65535 ≡ k = omega (arith, before i (omega arith)) in
      subst No e (h i (omega arith) (omega arith))

  pub first_record : (r : Option ℕ) → MatchOption r ((i : ℕ) → 0 ≤ i → i < m → No (min (i + 1) 65535)) (λ i. (0 ≤ i) × (i < m) × Yes (min (i + 1) 65535) × ((j : ℕ) → 0 ≤ j → j < i → No (min (j + 1) 65535)))
      → Finds m Yes No r
  first_record None h = λ k low high. none_from k m (omega arith) h low high
  first_record (Some i) h = (h.1, before i h.1, subst Yes (before i h.1) h.2, λ k low high. none_from k i (omega (arith, h.1)) h.3 low high)

-- the same of `find` over the records' numbers less one, whose closure tests the record
pub record_found : {F : Type 0} {g : Mut F (Bor ℕ × Unit {0}) Bool} (m : ℕ) → m ≤ 65535 → (Yes No : ℕ → Type 0) (u : Range ℕ) (f : F) (r : Option ℕ)
    → (xs : List ℕ) × (j : F) × YieldsThen nat_range_steps (record { start = 0; end = m }) xs r u × FoldsTo (λ p x q. CalledAt g p x false q) f xs j × MatchOption r ⊤ (λ x. (h : F) × CalledAt g j x true h)
    → ((i : ℕ) (q : F) → CalledAt g f i true q → Yes (min (i + 1) 65535)) → ((i : ℕ) (q : F) → CalledAt g f i false q → (q ≡ f) × No (min (i + 1) 65535))
    → Finds m Yes No r
record_found m few Yes No u f r ran right wrong =
    first_record m few Yes No r (first_from_Range (record { start = 0; end = m }) u f r (λ i. Yes (min (i + 1) 65535)) (λ i. No (min (i + 1) 65535)) ran right wrong)
