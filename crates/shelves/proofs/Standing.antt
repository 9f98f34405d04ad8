-- What an opening, filings of closed sets and plans leave: hopeless shelves, each closed, and a verdict that is right.
use Rattle.std.proofs.Common.{◌≡◌, ℕ, Bool, true, false, cond, ◌||◌, T, ◌⊎◌, List, length, sym, refl, ◌∙◌, subst, inl, inr, ⊎_elim, arith}
use Rattle.std.proofs.lemmas.Bool.{cond_both}
use Rattle.model.specs.Tasks.{Task, Lawful, Hopeless, Plan}
use Rattle.model.specs.Reductions.{Reduces}
use Rattle.model.specs.Frames.{frame_size, IsFrame}
use Rattle.model.proofs.Reducing.{start_down}
use Rattle.shelves.specs.declared.verdict.Verdict.{Verdict}
use Rattle.shelves.specs.declared.verdict.Verdict.TheVariants as verdict
use Rattle.shelves.specs.Shelves.{Shelf, held, held_at, place, Grows}
use Rattle.shelves.specs.Closed.{Closed}
use Rattle.shelves.specs.Filing.{State, opened, some_below, joined, judged, filed, found, planned, is_hopeless}
use Rattle.shelves.specs.Standing.{Sure, Fits, Right, Good, Keeps, FilingStands}
use Rattle.shelves.proofs.Shelving.{held_at_held, each_weaker}
use Rattle.shelves.proofs.Growing.{grows_self, grows_on, held_at_grows}
use Rattle.shelves.proofs.Joined.{shelf, joined_grows, held_joined, joined_held, each_joined, joined_apart}
use Rattle.shelves.proofs.Closing.{closed_grows, closed_union}
use Rattle.shelves.proofs.Soundness.{closed_hopeless, held_hopeless}

-- ---- nothing is taken back

pub keeps_self : (s : State) → Keeps s s
keeps_self s = (grows_self s.shelves, inr refl, (refl, refl))

pub keeps_same : (s s' : State) → s' ≡ s → Keeps s s'
keeps_same s s' e = subst (Keeps s) (sym e) (keeps_self s)

pub keeps_on : (a b c : State) → Keeps a b → Keeps b c → Keeps a c
keeps_on a b c g h = (
  grows_on a.shelves b.shelves c.shelves g.0 h.0,
  ⊎_elim inl (λ e. ⊎_elim (λ u. inl (sym e ∙ u)) (λ k. inr (k ∙ e)) h.1) g.1,
  (h.2.0 ∙ g.2.0, h.2.1 ∙ g.2.1),
)

judged_keeps : (v : Verdict) (b : Bool) (i : ℕ) → (v ≡ verdict.Open) ⊎ (judged v b i ≡ v)
judged_keeps verdict.Open b i = inl refl
judged_keeps (verdict.Hopeless j) b i = inr refl
judged_keeps (verdict.Feasible l) b i = inr refl

found_keeps : (v : Verdict) (l : ℕ) → (v ≡ verdict.Open) ⊎ (found v l ≡ v)
found_keeps verdict.Open l = inl refl
found_keeps (verdict.Hopeless j) l = inr refl
found_keeps (verdict.Feasible k) l = inr refl

-- the state once a set that is not empty is filed
abbrev pub joins : Task → State → ℕ → (ℕ → Bool) → State
joins t s f set =
    let ss = joined s.shelves f set in
    let i = place s.shelves f in
    record { n = s.n; sizes = s.sizes; shelves = ss; verdict = judged s.verdict (held_at t ss i t.start) i }

pub filed_keeps : (t : Task) (s : State) (f : ℕ) (set : ℕ → Bool) → Keeps s (filed t s f set)
filed_keeps t s f set =
    cond_both (some_below (frame_size t f) set) (joins t s f set) s (Keeps s)
    (λ e. (joined_grows s.shelves f set, judged_keeps s.verdict _ _, (refl, refl)))
    (λ e. keeps_self s)

pub planned_keeps : (s : State) (l : ℕ) → Keeps s (planned s l)
planned_keeps s l = (grows_self s.shelves, found_keeps s.verdict l, (refl, refl))

-- ---- what each step leaves

sure_union : (t : Task) (f : ℕ) (a b : ℕ → Bool) → Sure t (shelf f a) → Sure t (shelf f b) → Sure t (shelf f (λ c. a c || b c))
sure_union t f a b sa sb p h u = ⊎_elim (sa p h) (sb p h) (grind arith)

judged_right : (t : Task) (ss : List Shelf) (f : ℕ) (set : ℕ → Bool) (v : Verdict) → Right t ss v → Right t (joined ss f set) (judged v (held_at t (joined ss f set) (place ss f) t.start) (place ss f))
judged_right t ss f set verdict.Open r = go (held_at t (joined ss f set) (place ss f) t.start) (λ k. k)
    (λ h. ⊎_elim (λ k. absurd (r k)) (joined_held t t.start ss f set) (held_joined t t.start ss f set h))
  where
    go : (b : Bool) → (T b → T (held_at t (joined ss f set) (place ss f) t.start)) → (T (held t (joined ss f set) t.start) → T b) → Right t (joined ss f set) (cond b (verdict.Hopeless (place ss f)) verdict.Open)
    go true up down = up tt
    go false up down = down
judged_right t ss f set (verdict.Hopeless j) r = held_at_grows t t.start ss (joined ss f set) j (joined_grows ss f set) r
judged_right t ss f set (verdict.Feasible l) r = r

found_right : (t : Task) (ss : List Shelf) (os : List ℕ) → Plan t os → (v : Verdict) → Right t ss v → Right t ss (found v (length os))
found_right t ss os p verdict.Open r = (os, refl, p)
found_right t ss os p (verdict.Hopeless j) r = r
found_right t ss os p (verdict.Feasible l) r = r

pub opened_good : (t : Task) → Good t (opened t)
opened_good t = record { sure = tt; ordered = record { closed = tt; frames = tt; apart = tt; fits = tt }; right = λ h. h; same = (refl, refl) }

pub planned_good : (t : Task) (s : State) (os : List ℕ) → Plan t os → Good t s → Good t (planned s (length os))
planned_good t s os p good = record { sure = good.sure; ordered = good.ordered; right = found_right t s.shelves os p s.verdict good.right; same = good.same }

module _ (t : Task) (law : Lawful t) (s : State) where
  pub filed_good : (f : ℕ) (set : ℕ → Bool) → Good t s → IsFrame t f → Fits t f set → Closed t s.shelves f set → Good t (filed t s f set)
  filed_good f set good frame fits closed =
      let ss : List Shelf = s.shelves in
      let new : List Shelf = joined ss f set in
      let up : Grows ss new = joined_grows ss f set in
      cond_both (some_below (frame_size t f) set) (joins t s f set) s (Good t)
      (λ e. record {
        sure = each_joined (λ g x. Sure t (shelf g x)) (sure_union t) ss f set good.sure (closed_hopeless t f law ss good.sure set closed);
        ordered = record {
          closed = each_joined (Closed t new) (closed_union t new) ss f set
              (each_weaker (λ r. Closed t ss r.frame r.bits) (λ r. Closed t new r.frame r.bits) (λ r. closed_grows t ss new r.frame r.bits up) ss good.ordered.closed)
              (closed_grows t ss new f set up closed);
          frames = each_joined (λ g x. IsFrame t g) (λ g a b h k. h) ss f set good.ordered.frames frame;
          apart = joined_apart ss f set good.ordered.apart;
          fits = each_joined (Fits t) (λ g x y h k c u. ⊎_elim (h c) (k c) (grind arith)) ss f set good.ordered.fits fits;
        };
        right = judged_right t ss f set s.verdict good.right;
        same = good.same;
      })
      (λ e. good)

pub filing_stands : FilingStands
filing_stands = record { opening = opened_good; filing = filed_good; planning = planned_good; filing_keeps = filed_keeps; planning_keeps = planned_keeps }

-- ---- what the verdict says

verdict_held : (t : Task) (ss : List Shelf) (v : Verdict) → Right t ss v → T (is_hopeless v) → T (held t ss t.start)
verdict_held t ss verdict.Open r h = absurd h
verdict_held t ss (verdict.Hopeless i) r h = held_at_held t t.start ss i r
verdict_held t ss (verdict.Feasible l) r h = absurd h

pub keeps_hopeless : (s s' : State) → Keeps s s' → T (is_hopeless s.verdict) → T (is_hopeless s'.verdict)
keeps_hopeless s s' k h = ⊎_elim (λ e. absurd (subst (λ v. T (is_hopeless v)) e h)) (λ e. subst (λ v. T (is_hopeless v)) (sym e) h) k.1

module _ (t : Task) (law : Lawful t) (s : State) (good : Good t s) where
  pub hopeless_held : T (is_hopeless s.verdict) → T (held t s.shelves t.start)
  hopeless_held h = verdict_held t s.shelves s.verdict good.right h

  pub hopeless_start : T (is_hopeless s.verdict) → Hopeless t t.start
  hopeless_start h = held_hopeless t law s.shelves good.sure t.start law.starts (hopeless_held h)

  pub hopeless_start_below : (lower : Task) (image : ℕ → ℕ → ℕ) → Lawful lower → Reduces lower t image → T (is_hopeless s.verdict) → Hopeless lower lower.start
  hopeless_start_below lower image lawful r h = start_down lower t image lawful r (hopeless_start h)

  -- a start on a shelf has made the verdict hopeless
  pub held_start : T (held t s.shelves t.start) → T (is_hopeless s.verdict)
  held_start on = go s.verdict good.right
    where
      go : (v : Verdict) → Right t s.shelves v → T (is_hopeless v)
      go verdict.Open r = r on
      go (verdict.Hopeless i) r = tt
      go (verdict.Feasible l) r = held_hopeless t law s.shelves good.sure t.start law.starts on r.0 r.2.0 r.2.1 r.2.2
