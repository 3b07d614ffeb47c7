use Rattle.std.proofs.Common.{◌≡◌, drop, sym, ap, ◌∙◌, arith}
use Rattle.std.proofs.lemmas.Grind.{common_steps}
use Rattle.names.specs.Rules.{newest}
use Rattle.names.proofs.Newest.{newest-last, newest-nowhere}
use Rattle.names.proofs.lookup.newest_from.Goals as goal

pub returns-in_err-place : goal.returns-in_err-place
returns-in_err-place g c =
    let e : c.in_ok-seen.seen.now ≡ drop c.args.low c.args.bindings.now = grind (arith, common_steps) in
    c.from_residual-in_err-place.ensures
    ∙ sym (newest-nowhere c.args.name c.args.low c.in_ok-seen.seen.now c.in_err-place.ensures)
    ∙ ap (newest c.args.name c.args.low) e

pub returns : goal.returns
returns g c =
    let r = c.index-seen-place in
    let e : c.in_ok-seen.seen.now ≡ drop c.args.low c.args.bindings.now = grind (arith, common_steps) in
    sym (newest-last c.args.name c.args.low c.in_ok-seen.seen.now c.in_ok-place.place r.result c.in_ok-place.ensures r.is) ∙ ap (newest c.args.name c.args.low) e
