-- The task of a card keeps the limits.
use Rattle.std.proofs.Common.{◌≡◌, ℕ, zero, suc, ◌+◌, ◌*◌, ◌≤◌, List, None, refl, arith}
use Rattle.std.proofs.lemmas.Bool.Decides.{nat_tests}
use Rattle.model.specs.Tasks.{Lawful, Within}
use Rattle.model.specs.Card.{word, variables, records, goal_at, needed_at, made_at, next_of, chain, value_in, card, Counts, Sizes, Starts, Heads, Nexts, Records}

module _ (ws : List ℕ) (counts : Counts ws) (sizes : Sizes ws) (starts : Starts ws) (heads : Heads ws) (nexts : Nexts ws) (recs : Records ws) where
  -- the value of v in a chain is one of v's values
  within : (i k v : ℕ) → k ≤ records ws → Within (value_in ws (chain i ws k) v) ((card ws).size v)
  within zero k v h = tt
  within (suc i) k v h = grind (arith, nat_tests, nexts k, recs k, within i (next_of ws k) v)

  none_beyond : (i k v : ℕ) → k ≤ records ws → variables ws ≤ v → value_in ws (chain i ws k) v ≡ None
  none_beyond zero k v h l = refl
  none_beyond (suc i) k v h l = grind (arith, nat_tests, nexts k, recs k, none_beyond i (next_of ws k) v)

  pub card_lawful : Lawful (card ws)
  card_lawful = record {
    variables = (counts.0, counts.1);
    operators = counts.2;
    sizes = λ v. grind (arith, nat_tests, sizes v);
    outside = λ v h. grind (arith, nat_tests);
    starts = λ v. grind (arith, nat_tests, starts v);
    needs = λ o v. grind (arith, nat_tests, heads (1 + 2 * o), within (variables ws) (word ws (needed_at ws o)) v);
    makes = λ o v. grind (arith, nat_tests, heads (2 + 2 * o), within (variables ws) (word ws (made_at ws o)) v);
    goals = λ v. grind (arith, heads 0, within (variables ws) (word ws (goal_at ws)) v);
    no_needs = λ o v. grind (arith, nat_tests, heads (1 + 2 * o), none_beyond (variables ws) (word ws (needed_at ws o)) v);
    no_makes = λ o v. grind (arith, nat_tests, heads (2 + 2 * o), none_beyond (variables ws) (word ws (made_at ws o)) v);
    no_goals = λ v. grind (arith, heads 0, none_beyond (variables ws) (word ws (goal_at ws)) v);
  }
