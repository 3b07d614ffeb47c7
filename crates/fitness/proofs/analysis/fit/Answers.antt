use Rattle.std.proofs.Common.{◌≡◌, ◌-◌, is_ok, Some, None, sym, refl, ap, ◌∙◌, arith}
use Rattle.std.proofs.lemmas.Bool.{true≢false}
use Rattle.layout.specs.First.{first_some}
use Rattle.layout.specs.Layout.{entries}
use Rattle.layout.proofs.Accepted.{loaded}
use Rattle.layout.proofs.Firsts.{first_hit, first_more, first-none}
use Rattle.fitness.specs.Fit.{answer, fault_at}
use Rattle.fitness.proofs.Fitted.{book_fit, fit_book}
use Rattle.fitness.proofs.analysis.fit.Goals as goal

pub loop-e-init : goal.loop-e-init
loop-e-init c =
    let ws = c.args.book.now.words.now in
    let n : c.entries-e-end.result - 0 ≡ entries ws = omega (arith, c.entries-e-end.ensures) in
    (c.new-summaries.ensures, ap (first_some (fault_at ws) 0) n)

pub returns-in-Some : goal.returns-in-Some
returns-in-Some c =
    let ws = c.args.book.now.words.now in
    let w = loaded ws c.args.book.now.loaded in
    let hit : first_some (fault_at ws) 0 (entries ws) ≡ Some c.in-Some.unfit = sym c.loop-e.invariant.1 ∙ first_hit (fault_at ws) c.loop-e.e c.entries-e-end.result c.in-Some.unfit (omega arith) (sym (c.in-Some.ensures.value ∙ ap (λ w. fault_at w c.loop-e.e) c.loop-e.invariant.0)) in
    record {
      value = sym (ap answer hit);
      decides = ((λ h. absurd (true≢false (sym h))), (λ f. ap (λ o. is_ok (answer o)) (sym hit ∙ book_fit ws w f)));
    }

pub loop-e-preserved : goal.loop-e-preserved
loop-e-preserved c =
    let ws = c.args.book.now.words.now in
    let w = loaded ws c.args.book.now.loaded in (
      c.fault_at.ensures.same ∙ c.loop-e.invariant.0,
      first_more (fault_at ws) c.loop-e.e c.entries-e-end.result (omega arith) (sym (c.in_default.ensures.value ∙ ap (λ w. fault_at w c.loop-e.e) c.loop-e.invariant.0)) ∙ c.loop-e.invariant.1,
    )

pub returns : goal.returns
returns c =
    let ws = c.args.book.now.words.now in
    let w = loaded ws c.args.book.now.loaded in
    let none : first_some (fault_at ws) 0 (entries ws) ≡ None = sym c.loop-e.invariant.1 ∙ first-none (fault_at ws) c.loop-e.e c.entries-e-end.result (omega arith) in
    record { value = sym (ap answer none); decides = ((λ h. fit_book ws w none), (λ f. refl)) }
