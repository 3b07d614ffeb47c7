use Rattle.std.proofs.Common.{ℕ, ap, arith, rules}
use Rattle.layout.specs.Layout.{entries}
use Rattle.behavior.specs.Summaries.{After}
use Rattle.behavior.proofs.Walked.{first_and_others, kept}
use Rattle.behavior.proofs.summary.Summaries.+summaries.Goals as goal

pub of-invariant_of-self : goal.of-invariant_of-self
of-invariant_of-self t c =
    kept c.self-2.inside.book.words.now c.self-2.inside.known c.args.entry c.summarize-summary.result c.self-2.invariant (search rules)

pub of_list-of-next-requires : goal.of_list-of-next-requires
of_list-of-next-requires t c =
    let f = first_and_others (After c.args.self.now c.args.entry) _ _ _ c.in-Some.ensures.steps c.loop-child.invariant.1 in
    let n = ap entries c.loop-child.invariant.0 in
    (omega (arith, f.0, n), tt)

pub of_list-loop-child-preserved : goal.of_list-loop-child-preserved
of_list-loop-child-preserved t c =
    let f = first_and_others (After c.args.self.now c.args.entry) _ _ _ c.in-Some.ensures.steps c.loop-child.invariant.1 in
    (search rules, f.1, search rules)

pub of_clauses-of-next-requires : goal.of_clauses-of-next-requires
of_clauses-of-next-requires t c =
    let f = first_and_others (λ (p : ℕ × ℕ). After c.args.self.now c.args.entry p.1) _ _ _ c.in-Some.ensures.steps c.loop-body.invariant.1 in
    let n = ap entries c.loop-body.invariant.0 in
    (omega (arith, f.0, n), tt)

pub of_clauses-loop-body-preserved : goal.of_clauses-loop-body-preserved
of_clauses-loop-body-preserved t c =
    let f = first_and_others (λ (p : ℕ × ℕ). After c.args.self.now c.args.entry p.1) _ _ _ c.in-Some.ensures.steps c.loop-body.invariant.1 in
    (search rules, f.1, search rules)
