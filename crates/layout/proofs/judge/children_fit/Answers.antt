use Rattle.std.proofs.Common.{◌≡◌, Some, None, ap, ◌∙◌}
use Rattle.layout.specs.Verdict.{body_fault, located}
use Rattle.layout.proofs.Refusals.{laid_body}
use Rattle.layout.proofs.judge.children_fit.Goals as goal

pub returns-in-Err : goal.returns-in-Err
returns-in-Err c =
    λ fine.
    let there = laid_body c.args.draft.now.words.now c.args.e fine in
    let wrong : located c.args.e (body_fault c.args.draft.now.words.now c.place.result) ≡ Some c.in-Err.field-0 = c.in-Err.ensures in
    let none : located c.args.e (body_fault c.args.draft.now.words.now c.place.result) ≡ None = ap (located c.args.e) (ap (body_fault c.args.draft.now.words.now) c.place.ensures ∙ there) in
    cc
