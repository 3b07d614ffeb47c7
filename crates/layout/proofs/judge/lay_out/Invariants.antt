use Rattle.std.proofs.Common.{◌≡◌, ◌-◌}
use Rattle.layout.specs.Layout.{entries, start}
use Rattle.layout.specs.Verdict.{first, layout_fault}
use Rattle.layout.proofs.judge.lay_out.Given as goal

abbrev pub invariant-loop-e : goal.invariant-loop-e
invariant-loop-e l =
    (l.at ≡ start l.draft.words.now l.e)
    × (first (layout_fault l.draft.words.now) l.e (l.n - l.e) ≡ first (layout_fault l.draft.words.now) 0 (entries l.draft.words.now))
