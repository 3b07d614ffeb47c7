use Rattle.std.proofs.Common.{sym, arith}
use Rattle.names.proofs.Opened.{root_end-reverse}
use Rattle.names.proofs.scope.root_end.Goals as goal

pub returns-in-len1-up : goal.returns-in-len1-up
returns-in-len1-up c = sym (root_end-reverse c.args.scopes.now c.args.n (omega arith))
