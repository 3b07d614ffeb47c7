use Rattle.std.proofs.Common.{length, subst, arith}
use Rattle.std.proofs.lemmas.Grind.{common_steps}
use Rattle.names.specs.State.{InOrder}
use Rattle.names.proofs.Opened.{root_end_le}
use Rattle.names.proofs.names.Names.lookup.Goals as goal

pub slice_bounds-root-end : goal.slice_bounds-root-end
slice_bounds-root-end g c =
    let s = c.args.self.now in
    let e = root_end_le s.scopes (length s.bindings) (subst InOrder c.self.view_is c.self.invariant.in_order) in
    grind (arith, common_steps)
