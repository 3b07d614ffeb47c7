use Rattle.std.proofs.Common.{arith}
use Rattle.std.proofs.lemmas.Grind.{common_steps}
use lib.Seq.{take-set-lt}
use Rattle.names.proofs.lent.LentVec.set.Goals as goal

pub returns-then-place-self : goal.returns-then-place-self
returns-then-place-self g c =
    let e = take-set-lt c.self.inside.len c.self.inside.slots.now c.args.place c.args.item c.if-place-self.true in
    grind (arith, common_steps)
