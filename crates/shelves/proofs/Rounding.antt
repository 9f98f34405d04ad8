-- A survey's rounds and a projection's best plan: there is one at most, and the rounds are below the frame's size.
use Rattle.std.proofs.Common.{◌≡◌, ℕ, zero, suc, ◌<◌, ◌≤◌, true, false, eqb, List, [], ◌∷◌, length, sym, refl, ap, ◌∙◌, subst, ⊎_elim, arith}
use Rattle.std.specs.List.{All, IsDistinct, list_any}
use Rattle.std.proofs.lemmas.Bool.{false≢true, ne_eqb}
use Rattle.std.proofs.lemmas.Bool.Decides.{nat_tests}
use Rattle.std.proofs.lemmas.List.Elements.{All-nil, All-cons, All-head, All-tail, All-weaker, recursion_from_All}
use Rattle.std.proofs.lemmas.Map.Steps.{length-le_from_distinct_below}
use Rattle.model.specs.Tasks.{Task, Position, Legal, Lawful, after}
use Rattle.model.specs.Frames.{onto, code, frame_size}
use Rattle.model.proofs.Firsts.{neither_earlier}
use Rattle.model.proofs.Reducing.{after_legal}
use Rattle.model.proofs.LeavingOut.{leave_out_lawful}
use Rattle.model.proofs.Coding.{code_below_size, same_code}
use Rattle.shelves.specs.Shelves.{Shelf}
use Rattle.shelves.specs.Surveys.{Reaches, Rounds, Best, SurveysDetermined}
use Rattle.shelves.proofs.Surveying.{files_once}

rounds_most : (t : Task) (ss : List Shelf) (f a b : ℕ) → Rounds t ss f a → Rounds t ss f b → a ≤ b
rounds_most t ss f a b x y = ⊎_elim
    (λ e. omega arith)
    (λ m. let (fewer, r, l) = y.enough m.0 m.1 m.2.0 m.2.1 in omega (arith, m.3 fewer r))
    x.needed

pub rounds_once : (t : Task) (ss : List Shelf) (f a b : ℕ) → Rounds t ss f a → Rounds t ss f b → a ≡ b
rounds_once t ss f a b x y = omega (arith, rounds_most t ss f a b x y, rounds_most t ss f b a y x)

pub best_once : (t : Task) (f : ℕ) (a b : List ℕ) → Best t f a → Best t f b → a ≡ b
best_once t f a b x y =
    let l : length a ≡ length b = omega (arith, x.fewest b y.reaches, y.fewest a x.reaches) in
    neither_earlier a b l (y.smallest a x.reaches l) (x.smallest b y.reaches (sym l))

-- ---- a position from which k operators are the fewest, then one from which one less are, and so on

module _ (t : Task) (law : Lawful t) (ss : List Shelf) (f : ℕ) where
  pub record Fewest (k : ℕ) (q : Position) : Type 0 where
    pub legal : Legal (onto f t) q
    pub way : (os : List ℕ) × Reaches t ss f os q × (length os ≡ k)
    pub none : (os : List ℕ) → Reaches t ss f os q → k ≤ length os

  next : (k : ℕ) (q : Position) → Fewest (suc k) q → (p : Position) × Fewest k p
  next k q h = go h.way.0 h.way.1 h.way.2
    where
      go : (os : List ℕ) → Reaches t ss f os q → length os ≡ suc k → (p : Position) × Fewest k p
      go [] r e = absurd (omega arith)
      go (o ∷ os) r e = (
        after (onto f t) o q,
        record {
          legal = after_legal (onto f t) (leave_out_lawful f t law) o q h.legal;
          way = (os, r.3, omega arith);
          none = λ xs x. let l : suc k ≤ length (o ∷ xs) = h.none (o ∷ xs) (r.0, r.1, r.2, x) in omega arith;
        },
      )

  -- the code of a position from which at most k operators are the fewest
  abbrev Near : ℕ → ℕ → Type 0
  Near k c = (j : ℕ) × (q : Position) × (j ≤ k) × (code t f q ≡ c) × Fewest j q

  apart : (k j : ℕ) (p q : Position) → j ≤ k → Fewest (suc k) p → Fewest j q → code t f p ≡ code t f q → ⊥
  apart k j p q l x y e =
      let one : p ≡ q = same_code t law f p q x.legal y.legal e in
      let long : suc k ≤ length y.way.0 = x.none y.way.0 (subst (Reaches t ss f y.way.0) (sym one) y.way.1) in
      omega (arith, y.way.2)

  codes : (k : ℕ) (q : Position) → Fewest k q → (xs : List ℕ) × (length xs ≡ suc k) × All (Near k) xs × IsDistinct eqb xs
  unfolding IsDistinct
  codes zero q h = (code t f q ∷ [], refl, All-cons (Near 0) (code t f q) [] (0, q, omega arith, refl, h) (All-nil (Near 0)), (tt, tt))
  codes (suc k) q h =
      let p = next k q h in
      let (xs, l, near, distinct) = codes k p.0 p.1 in
      let further = All-weaker (Near k) (Near (suc k)) (λ c x. (x.0, x.1, omega (arith, x.2), x.3, x.4)) xs near in
      let other : (c : ℕ) → Near k c → eqb (code t f q) c ≡ false = λ c x. ne_eqb (code t f q) c (λ e. apart k x.0 q x.1 x.2 h x.4 (e ∙ sym x.3)) in
      let new = All-weaker (Near k) (λ c. eqb (code t f q) c ≡ false) other xs near in (
        code t f q ∷ xs,
        ap suc l,
        All-cons (Near (suc k)) (code t f q) xs (suc k, q, omega arith, refl, h) further,
        (recursion_from_All (λ c. eqb (code t f q) c ≡ false) xs new, distinct),
      )

  -- each of them is below the frame's size
  near_below : (k : ℕ) (xs : List ℕ) → All (Near k) xs → (c : ℕ) → list_any (eqb c) xs ≡ true → c < frame_size t f
  near_below k [] near c h = absurd (false≢true h)
  near_below k (x ∷ xs) near c h =
      let (j, q, l, e, fewest) = All-head (Near k) x xs near in
      grind (arith, nat_tests, code_below_size t f q fewest.legal, near_below k xs (All-tail (Near k) x xs near) c)

  pub fewest_below : (k : ℕ) (q : Position) → Fewest k q → k < frame_size t f
  fewest_below k q h =
      let (xs, l, near, distinct) = codes k q h in
      omega (arith, length-le_from_distinct_below xs (frame_size t f) distinct (near_below k xs near))

  pub rounds_below : (r : ℕ) → Rounds t ss f r → r < frame_size t f
  rounds_below r h = ⊎_elim
      (λ e. omega (arith, code_below_size t f (onto f t).start (leave_out_lawful f t law).starts))
      (λ m. fewest_below r m.0 (record { legal = m.1; way = m.2; none = m.3 }))
      h.needed

pub surveys_determined : SurveysDetermined
surveys_determined = record { sets = files_once; rounds = rounds_once; few = rounds_below; plans = best_once }
