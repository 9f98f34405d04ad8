-- A claim's set, code by code: what the tests of one code tell, and which fault is tried first.
use Rattle.std.proofs.Common.{◌≡◌, ℕ, ◌+◌, ◌<◌, Bool, true, false, not, ◌&&◌, List, Some, Decides, sym, ap, ◌∙◌, subst, subst₂, arith, below_more}
use Rattle.model.specs.Tasks.{Task, Position, Lawful, Applies, after, IsGoal}
use Rattle.model.specs.Orders.{Earlier, First}
use Rattle.model.specs.Frames.{onto, width_by, values_by, code, frame_size, values}
use Rattle.model.proofs.Coding.{values_legal, values_code}
use Rattle.model.proofs.LeavingOut.{leave_out_lawful}
use Rattle.model.proofs.Reducing.{after_legal}
use Rattle.frame.specs.declared.frame.Frame.{Frame}
use Rattle.frame.specs.Held.{size_in}
use Rattle.frame.specs.Steps.{LeadsTo}
use Rattle.shelves.specs.Shelves as shelves
use Rattle.shelves.specs.Shelves.{covered, bit_of}
use Rattle.records.specs.Records.{shelves_of}
use Rattle.records.proofs.Looking.{covered_same}
use Rattle.checks.specs.declared.closed.Claim.{Claim}
use Rattle.checks.specs.declared.fault.RegisterFault.{RegisterFault}
use Rattle.checks.specs.declared.fault.RegisterFault.TheVariants.{MeetsGoal, LeadsOut}
use Rattle.checks.specs.Faults.{register_turn}
use Rattle.checks.specs.Wrong.{Open, Leaves, SetWrong, meets, leads}
use Rattle.checks.specs.Closing.{Fits, code_covered, Sealed}

-- ---- which fault is tried first

-- nothing leads out of the claim's set at the codes below n, nor is a goal met
abbrev pub SealedBelow : Task → Claim → ℕ → Type 0
SealedBelow t q n = (k : ℕ) → k < n → Sealed t (shelves_of q.shelves.pool.now q.shelves.records.now) q.frame.now.mask (bit_of q.bytes.now) k

-- none of the operators below m leads out of it at the code c
abbrev pub KeptBelow : Task → Claim → ℕ → ℕ → Type 0
KeptBelow t q c m = (o : ℕ) → o < m → Leaves t (shelves_of q.shelves.pool.now q.shelves.records.now) q.frame.now.mask (bit_of q.bytes.now) c o → ⊥

module _ (t : Task) (ss : List shelves.Shelf) (f : ℕ) (set : ℕ → Bool) where
  pub set_right : ((k : ℕ) → k < frame_size t f → Sealed t ss f set k) → (e : RegisterFault) → SetWrong t ss f set e → ⊥
  set_right low _ (meets c o g) = (low c o.0 o).0 g
  set_right low _ (leads c u o l w) = (low c o.0 o).1 u l w

  pub first_goal : (c : ℕ) → ((k : ℕ) → k < c → Sealed t ss f set k) → Open t ss f set c → IsGoal (onto f t) (values t f c) → First register_turn (SetWrong t ss f set) (MeetsGoal c)
  first_goal c low o g = (meets c o g, go)
    where
      go : (e : RegisterFault) → SetWrong t ss f set e → Earlier (register_turn e) (register_turn (MeetsGoal c)) → ⊥
      go _ (meets k p h) e = grind (arith, low k)
      go _ (leads k u p l w) e = grind (arith, low k)

  pub first_out : (c o : ℕ) → ((k : ℕ) → k < c → Sealed t ss f set k) → Open t ss f set c → (IsGoal (onto f t) (values t f c) → ⊥) → o < t.m → Leaves t ss f set c o → ((u : ℕ) → u < o → Leaves t ss f set c u → ⊥)
      → First register_turn (SetWrong t ss f set) (LeadsOut c o)
  first_out c o low p none l w least = (leads c o p l w, go)
    where
      go : (e : RegisterFault) → SetWrong t ss f set e → Earlier (register_turn e) (register_turn (LeadsOut c o)) → ⊥
      go _ (meets k p' h) e = grind (arith, low k)
      go _ (leads k u p' m v) e = grind (arith, low k, least u)

-- ---- what the tests of a code tell

module _ (t : Task) (law : Lawful t) (q : Claim) (fits : Fits t q.frame.now q.shelves.records.now) where
  abbrev frame : Frame
  frame = q.frame.now

  abbrev bytes : List ℕ
  bytes = q.bytes.now

  abbrev f : ℕ
  f = frame.mask

  abbrev ss : List shelves.Shelf
  ss = shelves_of q.shelves.pool.now q.shelves.records.now

  covered_code : (c : ℕ) → code_covered q c ≡ covered t ss f (values t f c)
  covered_code c = covered_same t q.shelves.pool.now q.shelves.records.now f (values_by (size_in frame.sizes) f c) fits.2 ∙ ap (λ size. covered t ss f (values_by size f c)) fits.1

  pub size_same : frame.size ≡ frame_size t f
  size_same = frame.whole ∙ (λ i. width_by (fits.1 i) f (fits.0 i))

  pub is_open : (c : ℕ) → c < frame.size → true ≡ (bit_of bytes c && not (code_covered q c)) → Open t ss f (bit_of bytes) c
  is_open c h e = grind (arith, size_same, covered_code c)

  pub not_open : (c : ℕ) → false ≡ (bit_of bytes c && not (code_covered q c)) → Open t ss f (bit_of bytes) c → ⊥
  not_open c e o = grind (arith, covered_code c)

  pub goal_same : (c : ℕ) → IsGoal (onto f t) (values t f c) → IsGoal (onto f t) (values_by (size_in frame.sizes) f c)
  goal_same c h = subst (λ size. IsGoal (onto f t) (values_by size f c)) (sym fits.1) h

  pub goal_there : (c : ℕ) → IsGoal (onto f t) (values_by (size_in frame.sizes) f c) → IsGoal (onto f t) (values t f c)
  goal_there c h = subst (λ size. IsGoal (onto f t) (values_by size f c)) fits.1 h

  -- an operator that applies leads out where its code is neither claimed nor covered
  module _ (c o d : ℕ) (step : LeadsTo (onto f t) (size_in frame.sizes) f frame.n o c (Some d)) where
    abbrev next : Position
    next = after (onto f t) o (values t f c)

    there : Applies (onto f t) o (values t f c) × (d ≡ code t f next)
    there = subst₂ (λ size n. LeadsTo (onto f t) size f n o c (Some d)) fits.1 fits.0 step

    covered_next : code_covered q d ≡ covered t ss f next
    covered_next =
        covered_code d ∙ ap (λ x. covered t ss f (values t f x)) there.1
        ∙ ap (covered t ss f) (values_code t law f next (after_legal (onto f t) (leave_out_lawful f t law) o (values t f c) (values_legal t law f c)))

    pub leaves_decided : Decides (not (bit_of bytes d) && not (code_covered q d)) (Leaves t ss f (bit_of bytes) c o)
    leaves_decided = grind (arith, there, covered_next)

  -- ---- the walk over the codes

  pub sealed_skipped : (c : ℕ) → SealedBelow t q c → false ≡ (bit_of bytes c && not (code_covered q c)) → SealedBelow t q (c + 1)
  sealed_skipped c low e = below_more _ c low (λ o. absurd (not_open c e o))

  pub sealed_passed : (c : ℕ) → SealedBelow t q c → (IsGoal (onto f t) (values_by (size_in frame.sizes) f c) → ⊥) → KeptBelow t q c t.m → SealedBelow t q (c + 1)
  sealed_passed c low miss kept = below_more _ c low (λ o. ((λ h. miss (goal_same c h)), kept))

  pub nothing_wrong : SealedBelow t q frame.size → (e : RegisterFault) → SetWrong t ss f (bit_of bytes) e → ⊥
  nothing_wrong low = set_right t ss f (bit_of bytes) (λ k h. low k (omega (arith, size_same)))

  pub goal_is_first : (c : ℕ) → c < frame.size → SealedBelow t q c → true ≡ (bit_of bytes c && not (code_covered q c)) → IsGoal (onto f t) (values_by (size_in frame.sizes) f c)
      → First register_turn (SetWrong t ss f (bit_of bytes)) (MeetsGoal c)
  goal_is_first c l low e g = first_goal t ss f (bit_of bytes) c low (is_open c l e) (goal_there c g)

  pub out_is_first : (c o : ℕ) → c < frame.size → o < t.m → SealedBelow t q c → true ≡ (bit_of bytes c && not (code_covered q c)) → (IsGoal (onto f t) (values_by (size_in frame.sizes) f c) → ⊥)
      → Leaves t ss f (bit_of bytes) c o → KeptBelow t q c o → First register_turn (SetWrong t ss f (bit_of bytes)) (LeadsOut c o)
  out_is_first c o l m low e miss w kept = first_out t ss f (bit_of bytes) c o low (is_open c l e) (λ h. miss (goal_same c h)) m w kept
