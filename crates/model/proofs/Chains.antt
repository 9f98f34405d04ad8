-- A card's chains are whole, and how a walk along one goes on.
use Rattle.std.proofs.Common.{◌≡◌, ℕ, zero, suc, ◌+◌, ◌<◌, ◌≤◌, List, length, Some, None, refl, arith}
use Rattle.std.proofs.lemmas.Bool.Decides.{nat_tests}
use Rattle.std.specs.List.{AllByRecursion}
use Rattle.model.specs.Card.{variables, records, variable_of, value_of, next_of, Chain, chain, value_in, Nexts, Records, Ascends, Rising, WholeChain}

-- ---- a walk that looks for the variable v, with i records to go at most

pub walk_end : (ws : List ℕ) (v i : ℕ) → value_in ws (chain i ws 0) v ≡ None
walk_end ws v zero = refl
walk_end ws v (suc i) = refl

pub walk_here : (ws : List ℕ) (k v i : ℕ) → 1 ≤ i → 1 ≤ k → variable_of ws k ≡ v → value_in ws (chain i ws k) v ≡ Some (value_of ws k)
walk_here ws k v zero l h e = absurd (omega arith)
walk_here ws k v (suc i) l h e = grind (arith, nat_tests)

pub walk_on : (ws : List ℕ) (k v i j : ℕ) → i ≡ suc j → 1 ≤ k → (variable_of ws k ≡ v → ⊥) → value_in ws (chain i ws k) v ≡ value_in ws (chain j ws (next_of ws k)) v
walk_on ws k v i j e h n = grind (arith, nat_tests)

-- ---- a card's chains

-- a chain of so many records at most has no more
chain_few : (ws : List ℕ) (i k : ℕ) → length (chain i ws k) ≤ i
chain_few ws zero k = omega arith
chain_few ws (suc i) k = grind (arith, nat_tests, chain_few ws i (next_of ws k))

module _ (ws : List ℕ) (nexts : Nexts ws) (recs : Records ws) (ascends : Ascends ws) where
  -- i more records are enough where the variables up to n are at most i
  ends : (i k : ℕ) → k ≤ records ws → (1 ≤ k → variables ws ≤ variable_of ws k + i) → Chain ws k (chain i ws k)
  ends zero k h far = grind (arith, recs k)
  ends (suc i) k h far = grind (arith, nat_tests, nexts k, ascends k, ends i (next_of ws k))

  -- the variables after k are above k's
  above : (i k b : ℕ) → k ≤ records ws → (1 ≤ k → b < variable_of ws k) → AllByRecursion (λ j. b < variable_of ws j) (chain i ws k)
  above zero k b h far = tt
  above (suc i) k b h far = grind (arith, nat_tests, nexts k, ascends k, above i (next_of ws k) b)

  rises : (i k : ℕ) → k ≤ records ws → Rising ws (chain i ws k)
  rises zero k h = tt
  rises (suc i) k h = grind (arith, nat_tests, nexts k, ascends k, above i (next_of ws k) (variable_of ws k), rises i (next_of ws k))

  pub chain_whole : (k : ℕ) → k ≤ records ws → WholeChain ws k
  chain_whole k h = (ends (variables ws) k h (λ l. omega arith), chain_few ws (variables ws) k, rises (variables ws) k h)
