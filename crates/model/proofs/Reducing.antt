-- Reductions carry operator lists up and hopelessness down, and compose.
use Rattle.std.proofs.Common.{ℕ, List, [], ◌∷◌, ap, ◌∙◌, subst, arith, rules}
use Rattle.model.specs.Tasks.{Task, Position, Legal, Lawful, after, Leads, Hopeless}
use Rattle.model.specs.Reductions.{image_of, Reduces, PlansGoUp, HopelessGoesDown, ReductionsCompose}

pub after_legal : (t : Task) → Lawful t → (o : ℕ) (p : Position) → Legal t p → Legal t (after t o p)
after_legal t law o p h v = grind (arith, law.makes o v, h v)

pub leads_legal : (t : Task) → Lawful t → (os : List ℕ) (p q : Position) → Legal t p → Leads t os p q → Legal t q
leads_legal t law [] p q h e = subst (Legal t) e h
leads_legal t law (o ∷ os) p q h l = leads_legal t law os (after t o p) q (after_legal t law o p h) l.2

module _ (lower upper : Task) (image : ℕ → ℕ → ℕ) (law : Lawful lower) (r : Reduces lower upper image) where
  pub leads_up : (os : List ℕ) (p q : Position) → Legal lower p → Leads lower os p q → Leads upper os (image_of image p) (image_of image q)
  leads_up [] p q h e = ap (image_of image) e
  leads_up (o ∷ os) p q h l = grind (arith, r.operators, r.step o p h, leads_up os (after lower o p) q (after_legal lower law o p h))

  pub hopeless_down : HopelessGoesDown lower upper image
  hopeless_down p k h os q l g = h os (image_of image q) (leads_up os p q k l) (r.goal q (leads_legal lower law os p q k l) g)

  pub start_down : Hopeless upper upper.start → Hopeless lower lower.start
  start_down h = hopeless_down lower.start law.starts (rw r.start h)

  pub plans_up : PlansGoUp lower upper
  plans_up os (q, l, g) = (
    image_of image q,
    rw r.start at (leads_up os lower.start q law.starts l),
    r.goal q (leads_legal lower law os lower.start q law.starts l) g,
  )

pub reduces_self : (t : Task) → Reduces t t (λ v x. x)
reduces_self t = search rules

pub compose : ReductionsCompose
compose a b c f g r s = record {
  variables = cc;
  operators = cc;
  legal = λ p h. s.legal (image_of f p) (r.legal p h);
  start = ap (image_of g) r.start ∙ s.start;
  goal = λ p k h. s.goal (image_of f p) (r.legal p k) (r.goal p k h);
  step = λ o p k l h.
      let one = r.step o p k l h in
      let two = s.step o (image_of f p) (r.legal p k) (omega (arith, r.operators)) one.0 in
      (two.0, two.1 ∙ ap (image_of g) one.1);
}
