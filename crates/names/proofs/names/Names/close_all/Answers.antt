use Rattle.std.proofs.Common.{subst, arith}
use Rattle.std.proofs.lemmas.Grind.{common_steps}
use Rattle.names.specs.State.{InOrder}
use Rattle.names.proofs.Laws.{one_by_one}
use Rattle.names.proofs.Keeping.{kept_root, kept_table}
use Rattle.names.specs.Scopes.{opened}
use Rattle.names.proofs.names.Names.close_all.Goals as goal

pub returns-clause-one_by_one : goal.returns-clause-one_by_one
returns-clause-one_by_one g c =
    let e = one_by_one c.args.self.now (subst InOrder c.self.view_is c.self.invariant.in_order) in
    grind (arith, common_steps)

pub returns-clause-kept : goal.returns-clause-kept
returns-clause-kept g c =
    let i = c.self.inside in
    kept_root c.args.self.now _ (grind (arith, common_steps)) (kept_table i.bindings.items i.bindings.capacity (opened i.scopes.records i.scopes.depth) i.own c.args.self.now c.self.view_is c.self.invariant)
