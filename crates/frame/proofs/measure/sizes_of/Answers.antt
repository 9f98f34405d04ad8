use Rattle.std.proofs.Common.{◌∙◌, rules}
use Rattle.frame.proofs.Filling.{filled}
use Rattle.frame.proofs.Measuring.{size_in_below, sizes_all}
use Rattle.frame.proofs.measure.sizes_of.Goals as goal

pub returns : goal.returns
returns g c =
    let t = g.S.TaskSource.task c.args.source.now in
    let xs = c.from_fn.result in
    sizes_all t (g.met.S.TaskSource.lawful c.args.source.now) xs (λ v h. size_in_below xs v h ∙ filled t.size (λ u y q k. search rules) xs 32 c.from_fn.ensures.items v h)
