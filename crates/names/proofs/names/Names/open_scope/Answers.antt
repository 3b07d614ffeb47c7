use Rattle.std.proofs.Common.{arith}
use Rattle.std.proofs.lemmas.Grind.{common_steps}
use Rattle.names.proofs.Scoping.{opened_gives_back}
use Rattle.names.proofs.names.Names.open_scope.Goals as goal

pub returns-then-eq-clause-gives_back : goal.returns-then-eq-clause-gives_back
returns-then-eq-clause-gives_back g c = opened_gives_back c.args.kind c.args.self.now _ (grind (arith, common_steps))

pub returns-else-eq-clause-gives_back : goal.returns-else-eq-clause-gives_back
returns-else-eq-clause-gives_back g c = opened_gives_back c.args.kind c.args.self.now _ (grind (arith, common_steps))
