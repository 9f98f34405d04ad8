-- The layers of a pile in memory, and what they stand for.
use Rattle.std.specs.Prelude.{List, map}
use Rattle.model.specs.Tasks.{Task}
use Rattle.model.specs.Stack.{Layering, keeping, joining}
use Rattle.reduction.specs.declared.fault.ReductionFault.{ReductionFault}
use Rattle.reduction.specs.Settings.{MaskWrong, JoinWrong}
use Rattle.stack.specs.declared.layer.Layer.{Layer}
use Rattle.stack.specs.declared.layer.Layer.TheVariants.{Keep, Join}

abbrev pub layering : Layer → Layering
layering (Keep keep) = keeping keep.mask
layering (Join pair) = joining pair.variable pair.low pair.high

abbrev pub layerings : List Layer → List Layering
layerings ls = map layering ls

-- what is wrong with putting the layer on top of a task
abbrev pub LayerWrong : Task → Layer → ReductionFault → Type 0
LayerWrong t (Keep keep) e = MaskWrong t keep.mask e
LayerWrong t (Join pair) e = JoinWrong t pair.variable pair.low pair.high e
