use Rattle.model.proofs.Reducing.{plans_up, hopeless_down}
use Rattle.reduction.proofs.interface.image_of.Goals as goal

pub returns-clause-plans : goal.returns-clause-plans
returns-clause-plans g c = let s = c.args.pile.now in plans_up _ _ _ (g.met.R.Reduction.grounded s) (g.met.R.Reduction.reduces s)

pub returns-clause-hopeless : goal.returns-clause-hopeless
returns-clause-hopeless g c = let s = c.args.pile.now in hopeless_down _ _ _ (g.met.R.Reduction.grounded s) (g.met.R.Reduction.reduces s)
