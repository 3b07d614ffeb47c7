-- What is kept of each entry: its set, and the least returns and leaving continuings below it.
use Rattle.std.specs.Prelude.{◌≡◌, ℕ, ◌<◌, Bool, true, false, cond, List, [], ◌∷◌, Some, None, Option, slice_index_or}
use Rattle.std.specs.List.{slice_get}
use Rattle.layout.specs.Layout.{entries}
use Rattle.book.specs.Nodes.{listed, paired}
use Rattle.behavior.specs.Below.{children_of, earlier, earliest, is_bare, is_leaving, is_valued, least, leaving, returning}
use Rattle.behavior.specs.Rules.{behavior, beyond_next, control_behavior, followed, set, union}
use Rattle.control.specs.declared.Control.{Control}
use Rattle.control.specs.declared.Control.TheVariants.{Break, Continue, Continuing, Forever, Function, If, Loop, Other, Plain, Return, Sequence, Switch, While}
use Rattle.behavior.specs.declared.set.Behavior.{Behavior}
use Rattle.behavior.specs.declared.summary.Summary.{Summary}

unfoldable pub summary : List ℕ → ℕ → Summary
summary ws e =
    record {
      behavior = behavior ws e;
      bare = least ws (is_bare ws) e;
      valued = least ws (is_valued ws) e;
      leaving = least ws (is_leaving ws) e;
    }

-- That of an entry from its control, and the summaries of its children
abbrev pub control_summary : List ℕ → ℕ → Control → Summary
control_summary ws e t =
    record {
      behavior = control_behavior ws (behavior ws) t;
      bare = cond (returning false t) (Some e) (earliest (least ws (is_bare ws)) None (children_of ws t));
      valued = cond (returning true t) (Some e) (earliest (least ws (is_valued ws)) None (children_of ws t));
      leaving = cond (leaving ws t) (Some e) (earliest (least ws (is_leaving ws)) None (children_of ws t));
    }

-- Of a set with nothing below
abbrev pub bare_set : Behavior → Summary
bare_set s = record { behavior = s; bare = None; valued = None; leaving = None }

-- The set given, and what is below either
abbrev pub with_set : Behavior → Summary → Summary → Summary
with_set s a b =
    record {
      behavior = s;
      bare = earlier a.bare b.bare;
      valued = earlier a.valued b.valued;
      leaving = earlier a.leaving b.leaving;
    }

-- A list from a summary so far on, and clauses likewise
abbrev pub list_from : List ℕ → Summary → List ℕ → Summary
list_from ws so_far [] = so_far
list_from ws so_far (c ∷ cs) =
    list_from ws (with_set (followed so_far.behavior (summary ws c).behavior) so_far (summary ws c)) cs

abbrev pub clauses_from : List ℕ → Summary → List (ℕ × ℕ) → Summary
clauses_from ws so_far [] = so_far
clauses_from ws so_far (p ∷ ps) =
    clauses_from ws (with_set (union so_far.behavior (summary ws p.1).behavior) so_far (summary ws p.1)) ps

-- Every slot that is filled has the summary of its entry
abbrev pub Filled : List ℕ → List (Option Summary) → Type 0
Filled ws known = (k : ℕ) (s : Summary) → slice_index_or known k None ≡ Some s → s ≡ summary ws k

-- A return at an entry, with a value or without
abbrev pub return_summary : ℕ → Bool → Summary
return_summary e v =
    record {
      behavior = set false false false true;
      bare = cond v None (Some e);
      valued = cond v (Some e) None;
      leaving = None;
    }

-- A continuing at an entry, from the summary of its body
abbrev pub continuing_summary : Summary → ℕ → Summary
continuing_summary s e =
    record {
      behavior = s.behavior;
      bare = s.bare;
      valued = s.valued;
      leaving = cond (beyond_next s.behavior) (Some e) s.leaving;
    }

-- The children of a control come after the entry
abbrev pub After : List ℕ → ℕ → ℕ → Type 0
After ws e c = (e < c) × (c < entries ws)

abbrev pub MayFollow : List ℕ → ℕ → Option ℕ → Type 0
MayFollow ws e None = Unit {0}
MayFollow ws e (Some c) = After ws e c

abbrev pub BodiesFollow : List ℕ → ℕ → List (ℕ × ℕ) → Type 0
BodiesFollow ws e ps = (i : ℕ) (p : ℕ × ℕ) → slice_get ps i ≡ Some p → After ws e p.1

abbrev pub Follows : List ℕ → ℕ → Control → Type 0
Follows ws e Other = Unit {0}
Follows ws e Plain = Unit {0}
Follows ws e (Sequence s) = (i c : ℕ) → slice_get (listed ws s) i ≡ Some c → After ws e c
Follows ws e (If s o) = BodiesFollow ws e (paired ws s) × MayFollow ws e o
Follows ws e (Switch s) = BodiesFollow ws e (paired ws s)
Follows ws e (Loop b c) = After ws e b × MayFollow ws e c
Follows ws e (While b) = After ws e b
Follows ws e (Forever b) = After ws e b
Follows ws e Break = Unit {0}
Follows ws e Continue = Unit {0}
Follows ws e (Return v) = Unit {0}
Follows ws e (Continuing b x) = After ws e b
Follows ws e (Function n t b) = After ws e b
