use Rattle.std.proofs.Common.{refl, arith}
use Rattle.names.specs.Scopes.{closed}
use Rattle.names.proofs.Scoping.{closed_is, scoped_none}
use Rattle.names.proofs.table.ScopeTable.new.Goals as goal

pub returns-clause-cleared : goal.returns-clause-cleared
returns-clause-cleared c = (scoped_none closed 0 0 (closed_is closed refl refl) (omega arith)).2
