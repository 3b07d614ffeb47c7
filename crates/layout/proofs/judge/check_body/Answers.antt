use Rattle.std.proofs.Common.{◌≡◌, rules, get_or, Some, Err, sym, ap, ◌∙◌, inl, inr}
use Rattle.std.proofs.lemmas.Result.{err_from_is_err_and}
use Rattle.layout.specs.Layout.{body_passes, end}
use Rattle.layout.specs.Verdict.{located, misplaced}
use Rattle.layout.proofs.Refusals.{elsewhere, faulty, fine, unfit}
use Rattle.shape.specs.Shapes.{fits}
use Rattle.layout.proofs.judge.check_body.Goals as goal
use Rattle.layout.proofs.judge.check_body.Goals.{then-is_misplaced-via-then-is_misplaced, then-is_misplaced-via-else-is_misplaced+then-not-passes}

pub returns-then-place-at : goal.returns-then-place-at
returns-then-place-at c =
    ap (located c.args.e) (elsewhere c.args.draft.now.words.now c.args.e c.args.at c.requires (λ same. c.if-place-at.true (c.place.ensures ∙ same)))
    ∙ ap Some (sym c.at.ensures)

pub returns-in_err-body : goal.returns-in_err-body
returns-in_err-body c =
    let p = err_from_is_err_and c.from_residual.result c.from_residual.ensures.1 in
    let same = p.1 ∙ ap Err p.2 in
    rw same
    (faulty c.args.draft.now.words.now c.args.e c.args.at c.requires (sym c.place.ensures ∙ c.if-place-at.false) c.in_err-body.field-0.0 c.in_err-body.ensures)

pub returns-then-is_misplaced : goal.returns-then-is_misplaced
returns-then-is_misplaced c =
    let ws = c.args.draft.now.words.now in
    let is = c.in_ok-body.ensures in
    let tag : c.tag.result ≡ get_or ws c.args.at 0 = cc in
    ap (located c.args.e)
    (unfit ws c.args.e c.args.at c.requires (sym c.place.ensures ∙ c.if-place-at.false) is.0
    (elim c.then-is_misplaced.branch [
      | then-is_misplaced-via-then-is_misplaced w ↦ inl (ap (misplaced c.args.e) (sym tag) ∙ sym c.is_misplaced.ensures ∙ w.if-is_misplaced.true)
      | then-is_misplaced-via-else-is_misplaced+then-not-passes w ↦
          inr (sym (w.passes.ensures fits (λ f x b k. search rules) ∙ ap (λ q. body_passes fits c.in_ok-body.body.words.now q) is.2 ∙ ap (λ l. body_passes fits l c.args.at) is.1) ∙ w.if-not-passes.true)
    ]))
    ∙ ap Some (sym c.at-then-is_misplaced.ensures)

pub returns : goal.returns
returns c =
    let ws = c.args.draft.now.words.now in
    let here = sym c.place.ensures ∙ c.if-place-at.false in
    let is = c.in_ok-body.ensures in
    let tag : c.tag.result ≡ get_or ws c.args.at 0 = cc in (
      fine ws c.args.e c.args.at c.requires here is.0
          (ap (misplaced c.args.e) (sym tag) ∙ sym c.is_misplaced.ensures ∙ c.if-is_misplaced.false)
          (sym (c.passes.ensures fits (λ f x b k. search rules) ∙ ap (λ q. body_passes fits c.in_ok-body.body.words.now q) is.2 ∙ ap (λ l. body_passes fits l c.args.at) is.1) ∙ c.if-not-passes.false),
      c.end.ensures ∙ ap (λ q. end c.in_ok-body.body.words.now q) is.2 ∙ ap (λ l. end l c.args.at) is.1 ∙ ap (end ws) (sym here),
    )
