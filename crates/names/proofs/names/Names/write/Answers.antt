use Rattle.std.proofs.Common.{arith}
use Rattle.std.proofs.lemmas.Grind.{common_steps}
use Rattle.names.proofs.Writing.{write_one}
use Rattle.names.proofs.names.Names.write.Goals as goal

pub returns-clause-one_value : goal.returns-clause-one_value
returns-clause-one_value g c =
    write_one (g.H.Values.means c.args.host.now) c.args.place c.args.self.now _ c.in_ok-binding.binding c.args.value (grind (arith, common_steps))
    (cc (c.variable.ensures.answer, c.in_ok-binding.ensures.ok_part)) (cc (c.type_of.ensures, c.if-type_of.false, c.type_of-2.ensures))
