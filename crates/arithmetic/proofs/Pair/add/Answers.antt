use Rattle.std.proofs.Common.{◌+ℤ◌, ap, ◌∙◌}
use Rattle.host.specs.declared.HostFault.TheVariants.{AddOverflow}
use Rattle.arithmetic.specs.Operations.{settled}
use Rattle.arithmetic.proofs.Exact.{exact, sum_fits}
use Rattle.arithmetic.proofs.Pair.add.Goals as goal

pub returns : goal.returns
returns c =
    let p = c.args.self in
    c.settle.ensures ∙ ap (settled AddOverflow p.of) (exact ◌+ℤ◌ p _ _ c.from.ensures c.from-2.ensures (sum_fits p))
