use Rattle.names.specs.Scopes.{opened}
use Rattle.names.proofs.Writing.{bind_finds, bind_others_stay}
use Rattle.names.proofs.names.Names.bind.Goals as goal

pub returns-clause-finds : goal.returns-clause-finds
returns-clause-finds g c =
    let i = c.self.inside in
    bind_finds (opened i.scopes.records i.scopes.depth) (record { name = c.args.name; kind = c.args.kind; value = c.args.value }) i.bindings c.push.new.self c.args.self.now c.self.view_is c.self.invariant.in_order
    c.push.result c.map_err.result c.push.ensures c.map_err.ensures.variant

pub returns-clause-others_stay : goal.returns-clause-others_stay
returns-clause-others_stay g c =
    let i = c.self.inside in
    bind_others_stay (opened i.scopes.records i.scopes.depth) (record { name = c.args.name; kind = c.args.kind; value = c.args.value }) i.bindings c.push.new.self c.args.self.now c.self.view_is c.self.invariant.in_order
    c.push.result c.push.ensures
