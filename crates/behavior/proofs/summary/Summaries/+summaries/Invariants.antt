use Rattle.std.proofs.Common.{◌≡◌, ℕ, ◌-◌, ◌*◌, Some}
use Rattle.std.specs.List.{slice_get}
use Rattle.layout.specs.Layout.{entries}
use Rattle.book.specs.Nodes.{listed, paired}
use Rattle.behavior.specs.Rules.{only_next}
use Rattle.behavior.specs.Summaries.{After, BodiesFollow, bare_set, clauses_from, list_from}
use Rattle.behavior.proofs.summary.Summaries.+summaries.Given as goal

-- the distance from the entry to the number of entries, and the rank of the function
abbrev pub decreases-of : goal.decreases-of
decreases-of l = 3 * (entries l.self.now - l.entry)

abbrev pub decreases-summarize : goal.decreases-summarize
decreases-summarize l = 3 * (entries l.self.now - l.entry) - 1

abbrev pub decreases-of_list : goal.decreases-of_list
decreases-of_list l = 3 * (entries l.self.now - l.entry) - 2

abbrev pub decreases-of_clauses : goal.decreases-of_clauses
decreases-of_clauses l = 3 * (entries l.self.now - l.entry) - 2

-- what is left of the list stands after the entry, and is summed on from the summary so far
abbrev pub invariant-of_list-loop-child : goal.invariant-of_list-loop-child
invariant-of_list-loop-child l =
    (l.self ≡ l.fn.self) × ((i c : ℕ) → slice_get l.child-iterator i ≡ Some c → After l.fn.self l.entry c)
    × (list_from l.fn.self l.so_far l.child-iterator ≡ list_from l.fn.self (bare_set only_next) (listed l.fn.self l.fn.items))

abbrev pub invariant-of_clauses-loop-body : goal.invariant-of_clauses-loop-body
invariant-of_clauses-loop-body l =
    (l.self ≡ l.fn.self) × BodiesFollow l.fn.self l.entry l.body-iterator
    × (clauses_from l.fn.self l.so_far l.body-iterator ≡ clauses_from l.fn.self l.fn.start (paired l.fn.self l.fn.clauses))
