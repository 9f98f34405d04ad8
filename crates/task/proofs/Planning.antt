-- What is wrong with a list of operators, and what of it is tried first.
use Rattle.std.proofs.Common.{◌≡◌, ℕ, ◌+◌, ◌<◌, ◌≤◌, false, List, [], ◌∷◌, ◌++◌, length, get_or, take, drop, Decides, sym, ap, ◌∙◌, subst, inl, inr, arith, lit<, lit≤}
use Rattle.std.proofs.lemmas.Bool.{false≢true}
use Rattle.std.proofs.lemmas.List.{take-append-drop, take_more, drop_more, length-take-le}
use Rattle.model.specs.Tasks.{Task, Position, Lawful, Holds, Applies, after, Leads, position, advanced}
use Rattle.model.specs.Orders.{Earlier, First}
use Rattle.model.proofs.Leading.{leads_once, leads_known, leads_more, leads_next}
use Rattle.model.proofs.Positions.{advanced_position}
use Rattle.model.proofs.Firsts.{Ranged, first_left}
use Rattle.task.specs.declared.fault.PlanFault.{PlanFault}
use Rattle.task.specs.declared.fault.PlanFault.TheVariants.{TooLong, NoSuchOperator, DoesNotApply, MissesGoal}
use Rattle.task.specs.Faults.{plan_turn}
use Rattle.task.specs.Plans.{FollowWrong, long, unknown, blocked, GoalWrong, misses, PlanWrong, Followed, Accepted}

-- ---- operators that can be followed have nothing wrong with them

followed_right : (t : Task) (os : List ℕ) → Followed t os → (e : PlanFault) → FollowWrong t os e → ⊥
followed_right t os (short, (q, l)) e (long h) = omega arith
followed_right t os (short, (q, l)) e (unknown i h k) = omega (arith, leads_known t os t.start q l i h)
followed_right t os (short, (q, l)) e (blocked before rest o p s h k) = grind (arith, leads_next t before rest o t.start q p)

accepted_right : (t : Task) (os : List ℕ) → Accepted t os → (e : PlanFault) → PlanWrong t os e → ⊥
accepted_right t os (short, (q, l, g)) e (inl w) = followed_right t os (short, (q, l)) e w
accepted_right t os (short, (q, l, g)) e (inr (misses v p m k)) = grind (arith, leads_once t os t.start q p, g v)

-- so where something is wrong, the list is not followed, and not accepted
pub not_followed : (t : Task) (os : List ℕ) (e : PlanFault) → FollowWrong t os e → Decides false (Followed t os)
not_followed t os e w = (λ z. absurd (false≢true z), λ h. absurd (followed_right t os h e w))

pub not_accepted : (t : Task) (os : List ℕ) (e : PlanFault) → PlanWrong t os e → Decides false (Accepted t os)
not_accepted t os e w = (λ z. absurd (false≢true z), λ h. absurd (accepted_right t os h e w))

-- ---- the first of what is wrong with following

pub first_long : (t : Task) (os : List ℕ) → 16383 < length os → First plan_turn (FollowWrong t os) TooLong
first_long t os h = (long h, λ d w k. grind arith)

pub first_unknown : (t : Task) (os : List ℕ) (i : ℕ) → length os ≤ 16383 → i < length os → t.m ≤ get_or os i 0 → ((j : ℕ) → j < i → (j < length os) × (t.m ≤ get_or os j 0) → ⊥) → First plan_turn (FollowWrong t os) (NoSuchOperator i)
first_unknown t os i fit l h low = (unknown i l h, λ d w k. grind (arith, low))

-- operators that apply in turn are not blocked before their end
unblocked : (t : Task) (before rest xs ys : List ℕ) (o u : ℕ) (p q r : Position) → before ++ (o ∷ rest) ≡ xs ++ (u ∷ ys) → Leads t before p q → Leads t xs p r → length xs < length before → Applies t u r
unblocked t [] rest xs ys o u p q r e l m h = absurd (omega arith)
unblocked t (b ∷ before) rest [] ys o u p q r e l m h = grind arith
unblocked t (b ∷ before) rest (x ∷ xs) ys o u p q r e l m h = grind (arith, unblocked t before rest xs ys o u (after t b p) q r)

module _ (t : Task) (os : List ℕ) (fit : length os ≤ 16383) (known : (i : ℕ) → (i < length os) × (t.m ≤ get_or os i 0) → ⊥) where
  pub first_blocked : (i : ℕ) (p : Position) → i < length os → Leads t (take i os) t.start p → (Applies t (get_or os i 0) p → ⊥) → First plan_turn (FollowWrong t os) (DoesNotApply i)
  first_blocked i p l reached stuck = (subst (λ j. FollowWrong t os (DoesNotApply j)) count (blocked (take i os) (drop (i + 1) os) (get_or os i 0) p split reached stuck), go)
    where
      count : length (take i os) ≡ i
      count = length-take-le i os (omega arith)

      split : os ≡ take i os ++ (get_or os i 0 ∷ drop (i + 1) os)
      split = sym (take-append-drop i os) ∙ ap (λ xs. take i os ++ xs) (drop_more os i 0 l)

      go : (d : PlanFault) → FollowWrong t os d → Earlier (plan_turn d) (plan_turn (DoesNotApply i)) → ⊥
      go d (long x) k = omega arith
      go d (unknown j m x) k = known j (m, x)
      go d (blocked xs ys u r q m x) k = x (unblocked t (take i os) (drop (i + 1) os) xs ys (get_or os i 0) u t.start p r (sym split ∙ q) reached m (omega (arith, count, k)))

-- ---- one operator more

pub follow_more : (t : Task) → Lawful t → (os xs : List ℕ) (i : ℕ) → i < length os → get_or os i 0 < t.m → t.n ≤ length xs → Leads t (take i os) t.start (position xs) → Applies t (get_or os i 0) (position xs)
    → Leads t (take (i + 1) os) t.start (position (advanced t (get_or os i 0) xs))
follow_more t law os xs i l known room reached fits =
    rw (take_more os i 0 l, advanced_position t law (get_or os i 0) xs room) (leads_more t (take i os) (get_or os i 0) t.start (position xs) reached known fits)

-- ---- and with the goal

follow_range : (t : Task) (os : List ℕ) → Ranged plan_turn (FollowWrong t os) 16 17
follow_range t os e (long h) = (lit≤ tt, lit≤ tt)
follow_range t os e (unknown i h k) = (lit≤ tt, lit≤ tt)
follow_range t os e (blocked before rest o p q h k) = (lit≤ tt, lit≤ tt)

goal_range : (t : Task) (os : List ℕ) → Ranged plan_turn (GoalWrong t os) 18 18
goal_range t os e (misses v q l k) = (lit≤ tt, lit≤ tt)

pub first_follow : (t : Task) (os : List ℕ) (e : PlanFault) → First plan_turn (FollowWrong t os) e → First plan_turn (PlanWrong t os) e
first_follow t os e h = first_left plan_turn (FollowWrong t os) (GoalWrong t os) 16 17 18 18 (follow_range t os) (goal_range t os) (lit< tt) e h

pub first_missed : (t : Task) (os : List ℕ) (v : ℕ) (q : Position) → length os ≤ 16383 → Leads t os t.start q → (Holds (t.goal v) (q v) → ⊥) → ((u : ℕ) → u < v → (Holds (t.goal u) (q u) → ⊥) → ⊥) → First plan_turn (PlanWrong t os) (MissesGoal v)
first_missed t os v q fit l h low = (inr (misses v q l h), go)
  where
    go : (d : PlanFault) → PlanWrong t os d → Earlier (plan_turn d) (plan_turn (MissesGoal v)) → ⊥
    go d (inl w) k = followed_right t os (fit, (q, l)) d w
    go d (inr (misses u p m x)) k = grind (arith, low u, leads_once t os t.start q p)
