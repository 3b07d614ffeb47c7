use Rattle.std.proofs.Common.{sym, ap, ◌∙◌}
use lib.Signed.{quot_z}
use Rattle.host.specs.declared.HostFault.TheVariants.{NegOverflow}
use Rattle.scalar_value.specs.Types.{inside}
use Rattle.scalar_value.specs.Numbers.{scalar, within}
use Rattle.arithmetic.specs.Operations.{unless}
use Rattle.arithmetic.proofs.Exact.{m_fits, same, exact, not_zero, quot_fits, quotient-inside, quotient-outside}
use Rattle.arithmetic.proofs.Pair.divide.Goals as goal

pub returns-in-Some : goal.returns-in-Some
returns-in-Some c =
    let p = c.args.self in
    let divisor = not_zero p.n _ c.from-n.ensures c.if-n-eq0.false in
    let whole = ap (within p.of) (exact quot_z p _ _ c.from-m.ensures c.from-n.ensures (quot_fits p.m p.n (m_fits p))) in
    sym (quotient-inside c.args.stage p.of p.m p.n c.in-Some.v divisor (sym whole ∙ sym c.in-Some.ensures))

pub returns-in-None : goal.returns-in-None
returns-in-None c =
    let p = c.args.self in
    let divisor = not_zero p.n _ c.from-n.ensures c.if-n-eq0.false in
    let whole = ap (within p.of) (exact quot_z p _ _ c.from-m.ensures c.from-n.ensures (quot_fits p.m p.n (m_fits p))) in
    let stays = same p.m _ (m_fits p) c.from-m.ensures in
    let dividend = c.wrap_into-in-None.ensures.keeps (ap (inside p.of) stays ∙ p.m_inside) ∙ ap (scalar p.of) stays in
    c.lenient_or-in-None.ensures ∙ ap (unless NegOverflow c.args.stage p.of) dividend ∙ sym (quotient-outside c.args.stage p.of p.m p.n divisor (sym whole ∙ sym c.in-None.ensures))
