-- What surveys decide: after the survey of a frame, each position that is hopeless in the projection is on a shelf.
use Rattle.std.proofs.Common.{ℕ, ◌≤◌, Bool, T, [], ◌∷◌, sym, refl, subst, inl, inr, ⊎_elim, arith}
use lib.Count.{ones}
use Rattle.std.proofs.lemmas.Bool.{cond-true}
use Rattle.model.specs.Tasks.{Task, Position, Legal, Lawful, Hopeless}
use Rattle.model.specs.Reductions.{image_of}
use Rattle.model.specs.LeaveOut.{kept}
use Rattle.model.specs.Frames.{In, onto, code, frame_size, IsFrame, choose}
use Rattle.model.proofs.Reducing.{plans_up}
use Rattle.model.proofs.LeavingOut.{leave_out_lawful, leave_out_reduces}
use Rattle.model.proofs.Insides.{leave_more_out}
use Rattle.model.proofs.Coding.{code_below_size, code_kept}
use Rattle.model.proofs.Widening.{wider}
use Rattle.shelves.specs.Shelves.{held, place, Each}
use Rattle.shelves.specs.Surveys.{Surveyed}
use Rattle.shelves.specs.Filing.{State, some_below, joined, filed, is_hopeless}
use Rattle.shelves.specs.Standing.{Sure, Good, NoPlanWithin}
use Rattle.shelves.proofs.Shelving.{held_at_held, covered_held, covered_kept, each_both, each_held}
use Rattle.shelves.proofs.Growing.{held_grows}
use Rattle.shelves.proofs.Joined.{joined_held}
use Rattle.shelves.proofs.Counting.{some_below_has}
use Rattle.shelves.proofs.Surveying.{surveyed_has}
use Rattle.shelves.proofs.Standing.{joins, filed_keeps, hopeless_held}

module _ (t : Task) (law : Lawful t) where
  -- a set that has the position is not empty, so it is filed
  pub filed_held : (s : State) (f : ℕ) (set : ℕ → Bool) (p : Position) → Legal t p → T (set (code t f p)) → T (held t (filed t s f set).shelves p)
  filed_held s f set p h b =
      let q : Position = image_of (kept f) p in
      let some : T (some_below (frame_size t f) set) = some_below_has (frame_size t f) set (code t f q) (code_below_size t f q ((leave_out_reduces f t).legal p h)) (subst (λ c. T (set c)) (sym (code_kept t f p)) b) in
      subst (λ (x : State). T (held t x.shelves p)) (sym (cond-true (some_below (frame_size t f) set) (joins t s f set) s (grind arith)))
      (held_at_held t p (joined s.shelves f set) (place s.shelves f) (joined_held t p s.shelves f set b))

  pub survey_holds : (s : State) (f : ℕ) (set : ℕ → Bool) → Surveyed t s.shelves f set → (p : Position) → Legal t p → Hopeless (onto f t) (image_of (kept f) p) → T (held t (filed t s f set).shelves p)
  survey_holds s f set surveyed p h none = ⊎_elim
      (λ c. held_grows t p s.shelves (filed t s f set).shelves (filed_keeps t s f set).0 (covered_held t p f s.shelves (subst T (covered_kept t p f s.shelves) c)))
      (λ b. filed_held s f set p h (subst (λ c. T (set c)) (code_kept t f p) b))
      (surveyed_has t law s.shelves f (Hopeless (onto f t))
      (λ q k c. inr ((λ g. c [] q refl g), λ o l a. inl (λ os r w g. c (o ∷ os) r (l, a, w) g)))
      set surveyed (image_of (kept f) p) ((leave_out_reduces f t).legal p h) none)

  -- ---- projections onto at most k variables

  -- one without a plan lies inside one of exactly k variables from whose start no goal position is reached
  pub no_plan_wider : (k : ℕ) → k ≤ t.n → NoPlanWithin t k → (g : ℕ) × In g (choose t.n k) × Hopeless (onto g t) (onto g t).start
  no_plan_wider k few bar =
      let (g, i, in') = wider t.n k bar.0 bar.1 bar.2 few in
      (g, i, λ os q l e. bar.3 os (plans_up (onto g t) (onto bar.0 t) (kept bar.0) (leave_out_lawful g t law) (leave_more_out bar.0 g t in') os (q, l, e)))

  -- a hopeless verdict comes of a projection without a plan
  pub hopeless_no_plan : (k : ℕ) (s : State) → Good t s → Each (λ r. ones r.frame ≤ k) s.shelves → T (is_hopeless s.verdict) → NoPlanWithin t k
  hopeless_no_plan k s good few h =
      let all = each_both (Sure t) (λ r. IsFrame t r.frame × (ones r.frame ≤ k)) s.shelves good.sure
      (each_both (λ r. IsFrame t r.frame) (λ r. ones r.frame ≤ k) s.shelves good.ordered.frames few) in
      let (r, fact, on) = each_held (λ r. Sure t r × (IsFrame t r.frame × (ones r.frame ≤ k))) t t.start s.shelves all (hopeless_held t law s good h) in
      let f : ℕ = r.frame in
      (f, fact.1.0.1, fact.1.1, λ os plan. fact.0 (onto f t).start (leave_out_lawful f t law).starts (subst (λ x. T (r.bits x)) (sym (code_kept t f t.start)) on) os plan.0 plan.1 plan.2)
