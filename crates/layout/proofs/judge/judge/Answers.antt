use Rattle.std.proofs.Common.{◌≡◌, Err, sym, ap, ◌∙◌, arith}
use Rattle.std.proofs.lemmas.Result.{err_from_is_err_and}
use Rattle.std.specs.Option.{option_or}
use Rattle.layout.specs.Layout.{entries}
use Rattle.layout.specs.Verdict.{answer, first, layout_fault, left_over, verdict}
use Rattle.layout.proofs.Accepted.{judged}
use Rattle.layout.proofs.Firsts.{neither}
use Rattle.layout.proofs.Refusals.{answer_err, answer_ok, first_each, refused-children, refused_layout, refused-sized}
use Rattle.layout.proofs.judge.judge.Goals as goal

pub returns-in_default : goal.returns-in_default
returns-in_default c =
    let ws = c.args.words.now in
    let v : _ ≡ verdict ws = ap Err c.at.ensures ∙ sym (ap answer (refused-sized ws c.in_default.ensures)) in
    record { verdict = v; accepted = judged ws _ v }

pub returns-in_err-lay_out : goal.returns-in_err-lay_out
returns-in_err-lay_out c =
    let d = c.in-Some.draft in
    let ws = d.words.now in
    let p = err_from_is_err_and c.from_residual.result c.from_residual.ensures.1 in
    let some = answer_err (option_or (first (layout_fault ws) 0 (entries ws)) (left_over ws)) c.in_err-lay_out.field-0.0 c.in_err-lay_out.ensures in
    let v : _ ≡ verdict c.args.words.now = p.1 ∙ ap Err p.2 ∙ sym (ap answer (refused_layout ws c.in_err-lay_out.field-0.0 d.has_size some)) ∙ ap verdict c.in-Some.ensures in
    record { verdict = v; accepted = judged c.args.words.now _ v }

pub check_children-requires : goal.check_children-requires
check_children-requires c =
    let ws = c.in-Some.draft.words.now in
    let none = answer_ok (option_or (first (layout_fault ws) 0 (entries ws)) (left_over ws)) c.in_ok-lay_out.ensures in
    λ e h. first_each (layout_fault ws) (entries ws) 0 e (neither (first (layout_fault ws) 0 (entries ws)) (left_over ws) none).0 (omega arith) (omega arith)

pub returns : goal.returns
returns c =
    let d = c.in-Some.draft in
    let ws = d.words.now in
    let none = answer_ok (option_or (first (layout_fault ws) 0 (entries ws)) (left_over ws)) c.in_ok-lay_out.ensures in
    let v : _ ≡ verdict c.args.words.now = c.check_children.ensures ∙ sym (ap answer (refused-children ws d.has_size none)) ∙ ap verdict c.in-Some.ensures in
    record { verdict = v; accepted = judged c.args.words.now _ v }
