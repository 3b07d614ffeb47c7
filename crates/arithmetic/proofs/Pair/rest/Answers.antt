use Rattle.std.proofs.Common.{Ok, sym, ap, ◌∙◌}
use lib.Signed.{rem_z}
use Rattle.scalar_value.specs.Types.{inside}
use Rattle.scalar_value.specs.Numbers.{scalar}
use Rattle.arithmetic.proofs.Exact.{exact, not_zero, rem_fits, rem_inside, remainder_is}
use Rattle.arithmetic.proofs.Pair.rest.Goals as goal

pub returns : goal.returns
returns c =
    let p = c.args.self in
    let divisor = not_zero p.n _ c.from-n.ensures c.if-n-eq0.false in
    let rest = exact rem_z p _ _ c.from-m.ensures c.from-n.ensures (rem_fits p) in
    let in-type = ap (inside p.of) rest ∙ rem_inside p.of p.m p.n p.m_inside in
    ap Ok (c.wrap_into-2.ensures.keeps in-type ∙ ap (scalar p.of) rest)
    ∙ sym (remainder_is c.args.stage p.of p.m p.n divisor)
