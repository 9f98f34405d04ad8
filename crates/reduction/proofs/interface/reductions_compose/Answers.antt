use Rattle.model.proofs.Reducing.{compose}
use Rattle.reduction.proofs.interface.reductions_compose.Goals as goal

pub returns : goal.returns
returns c = compose
