use Rattle.std.proofs.Common.{subst, arith}
use Rattle.std.proofs.lemmas.Grind.{common_steps}
use Rattle.names.specs.State.{InOrder}
use Rattle.names.proofs.Laws.{close_root}
use Rattle.names.proofs.Opened.{call_first-find}
use Rattle.names.proofs.Keeping.{kept_closed, kept_table}
use Rattle.names.specs.Scopes.{opened}
use Rattle.names.proofs.names.Names.close_scope.Goals as goal

pub invariant_of-self-then-eq : goal.invariant_of-self-then-eq
invariant_of-self-then-eq g c =
    let table = c.pop.new.self in
    let e = call_first-find (opened table.records table.depth) in
    grind (arith, common_steps)

pub returns-then-eq-clause-root_survives : goal.returns-then-eq-clause-root_survives
returns-then-eq-clause-root_survives g c =
    let e = close_root c.args.self.now (subst InOrder c.self.view_is c.self.invariant.in_order) in
    grind (arith, common_steps)

pub returns-else-eq-clause-root_survives : goal.returns-else-eq-clause-root_survives
returns-else-eq-clause-root_survives g c =
    let e = close_root c.args.self.now (subst InOrder c.self.view_is c.self.invariant.in_order) in
    grind (arith, common_steps)

pub returns-then-eq-clause-kept : goal.returns-then-eq-clause-kept
returns-then-eq-clause-kept g c =
    let i = c.self.inside in
    kept_closed c.args.self.now _ (grind (arith, common_steps)) (kept_table i.bindings.items i.bindings.capacity (opened i.scopes.records i.scopes.depth) i.own c.args.self.now c.self.view_is c.self.invariant)

pub returns-else-eq-clause-kept : goal.returns-else-eq-clause-kept
returns-else-eq-clause-kept g c =
    let i = c.self.inside in
    kept_closed c.args.self.now _ (grind (arith, common_steps)) (kept_table i.bindings.items i.bindings.capacity (opened i.scopes.records i.scopes.depth) i.own c.args.self.now c.self.view_is c.self.invariant)
