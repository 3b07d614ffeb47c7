use Rattle.std.proofs.Common.{◌-ℤ◌, ap, ◌∙◌}
use Rattle.host.specs.declared.HostFault.TheVariants.{SubOverflow}
use Rattle.arithmetic.specs.Operations.{settled}
use Rattle.arithmetic.proofs.Exact.{exact, difference_fits}
use Rattle.arithmetic.proofs.Pair.subtract.Goals as goal

pub returns : goal.returns
returns c =
    let p = c.args.self in
    c.settle.ensures ∙ ap (settled SubOverflow p.of) (exact ◌-ℤ◌ p _ _ c.from.ensures c.from-2.ensures (difference_fits p))
