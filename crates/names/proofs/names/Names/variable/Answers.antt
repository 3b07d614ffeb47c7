use Rattle.names.proofs.Keeping.{kept_table}
use Rattle.names.specs.Scopes.{opened}
use Rattle.names.proofs.names.Names.variable.Goals as goal

pub returns-clause-kept : goal.returns-clause-kept
returns-clause-kept g c =
    let i = c.self.inside in
    kept_table i.bindings.items i.bindings.capacity (opened i.scopes.records i.scopes.depth) i.own c.args.self.now c.self.view_is c.self.invariant
