use Rattle.std.proofs.Common.{◌≡◌, Err, sym, ap, ◌∙◌, arith}
use Rattle.std.proofs.lemmas.Result.{err_from_is_err_and}
use Rattle.std.specs.Option.{option_or}
use Rattle.layout.specs.Layout.{entries}
use Rattle.layout.specs.Verdict.{answer, layout_fault, left_over}
use Rattle.layout.proofs.Refusals.{first_hit, first_more, first-none, left_over_lem, none_left, sizes, start-last, start_more}
use Rattle.layout.proofs.judge.lay_out.Goals as goal

pub returns-in_err-at : goal.returns-in_err-at
returns-in_err-at c =
    let ws = c.args.draft.now.words.now in
    let p = err_from_is_err_and c.from_residual.result c.from_residual.ensures.1 in
    p.1 ∙ ap Err p.2
    ∙ sym (ap (λ o. answer (option_or o (left_over ws)))
    (sym c.loop-e.invariant.1 ∙ first_hit (layout_fault ws) c.loop-e.e c.entries-n.result c.in_err-at.field-0.0 (omega arith) c.in_err-at.ensures))

pub loop-e-preserved : goal.loop-e-preserved
loop-e-preserved c =
    let ws = c.args.draft.now.words.now in
    let h = c.in_ok-at.ensures in (
      h.1 ∙ sym (start_more ws c.loop-e.e),
      first_more (layout_fault ws) c.loop-e.e c.entries-n.result (omega arith) h.0 ∙ c.loop-e.invariant.1,
    )

pub returns-then-at-length : goal.returns-then-at-length
returns-then-at-length c =
    let ws = c.args.draft.now.words.now in
    let s = sizes ws c.args.draft.now.has_size in
    let n = c.entries-n.ensures in
    let e : c.loop-e.e ≡ entries ws = omega arith in
    let l : left_over ws ≡ _ = left_over_lem ws c.loop-e.at c.entries-n.result n (c.loop-e.invariant.0 ∙ start-last ws c.loop-e.e e s.some) (omega arith) in
    sym (ap (λ o. answer (option_or o (left_over ws))) (sym c.loop-e.invariant.1 ∙ first-none (layout_fault ws) c.loop-e.e c.entries-n.result (omega arith))
    ∙ ap answer l ∙ ap Err (sym c.at.ensures))

pub returns : goal.returns
returns c =
    let ws = c.args.draft.now.words.now in
    let s = sizes ws c.args.draft.now.has_size in
    let n = c.entries-n.ensures in
    let e : c.loop-e.e ≡ entries ws = omega arith in
    let l = none_left ws c.loop-e.at (c.loop-e.invariant.0 ∙ start-last ws c.loop-e.e e s.some) (omega arith) in
    sym (ap (λ o. answer (option_or o (left_over ws))) (sym c.loop-e.invariant.1 ∙ first-none (layout_fault ws) c.loop-e.e c.entries-n.result (omega arith))
    ∙ ap answer l)
