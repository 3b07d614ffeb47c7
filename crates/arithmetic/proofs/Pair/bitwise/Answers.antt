use Rattle.std.proofs.Common.{◌≡◌, pos, Ok, ap, ◌∙◌, arith, w64, to_z, of_z}
use mir.Syntax.{w128}
use Rattle.std.proofs.lemmas.Int.{ints, to_z-of_z}
use Rattle.scalar_value.specs.Numbers.{wrapped}
use Rattle.arithmetic.specs.Operations.{bits}
use Rattle.arithmetic.proofs.Exact.{m_fits, n_fits}
use Rattle.arithmetic.proofs.Pair.bitwise.Goals as goal

pub returns : goal.returns
returns g c =
    let p = c.args.self in
    let a : c.bits_of-a.result ≡ bits p.of p.m = c.bits_of-a.ensures ∙ ap (bits p.of) (to_z-of_z w64 p.m (m_fits p)) in
    let b : c.bits_of-b.result ≡ bits p.of p.n = c.bits_of-b.ensures ∙ ap (bits p.of) (to_z-of_z w64 p.n (n_fits p)) in
    let e = c.from.ensures in
    let word : to_z w128 (of_z w128 c.from.result) ≡ pos c.f.result = omega (arith, ints) in
    (c.f.result, rw (a, b) at c.f.ensures, ap Ok (c.wrap_into.ensures.value ∙ ap (wrapped p.of) word))
