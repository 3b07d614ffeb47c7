use Rattle.std.proofs.Common.{◌*ℤ◌, ap, ◌∙◌}
use Rattle.host.specs.declared.HostFault.TheVariants.{MulOverflow}
use Rattle.arithmetic.specs.Operations.{settled}
use Rattle.arithmetic.proofs.Exact.{exact, product_fits}
use Rattle.arithmetic.proofs.Pair.multiply.Goals as goal

pub returns : goal.returns
returns c =
    let p = c.args.self in
    c.settle.ensures ∙ ap (settled MulOverflow p.of) (exact ◌*ℤ◌ p _ _ c.from.ensures c.from-2.ensures (product_fits p))
