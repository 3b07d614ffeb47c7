use Rattle.std.proofs.Common.{◌≡◌, ◌-◌}
use Rattle.layout.specs.First.{first_some}
use Rattle.layout.specs.Layout.{entries}
use Rattle.fitness.specs.Fit.{fault_at}
use Rattle.fitness.proofs.analysis.fit.Given as goal

abbrev pub invariant-loop-e : goal.invariant-loop-e
invariant-loop-e l =
    (l.summaries ≡ l.book.words.now)
    × (first_some (fault_at l.book.words.now) l.e (l.e-end - l.e) ≡ first_some (fault_at l.book.words.now) 0 (entries l.book.words.now))
