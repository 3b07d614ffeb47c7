-- The rules of behaviors: how each statement may end.
use Rattle.std.specs.Prelude.{ℕ, zero, suc, ◌-◌, Bool, true, false, cond, not, ◌||◌, List, [], ◌∷◌, Some, None, Option, ◌==◌}
use Rattle.std.specs.List.{list_any}
use Rattle.layout.specs.Layout.{entries}
use Rattle.book.specs.Nodes.{listed, paired}
use Rattle.control.specs.Control.{control, exits, is_statement}
use Rattle.control.specs.declared.Control.{Control}
use Rattle.control.specs.declared.Control.TheVariants.{Break, Continue, Continuing, Forever, Function, If, Loop, Other, Plain, Return, Sequence, Switch, While}
use Rattle.behavior.specs.declared.set.Behavior.{Behavior}

abbrev pub set : Bool → Bool → Bool → Bool → Behavior
set n b c r = record { next = n; breaks = b; continues = c; returns = r }

abbrev pub none : Behavior
none = set false false false false

abbrev pub only_next : Behavior
only_next = set true false false false

abbrev pub union : Behavior → Behavior → Behavior
union a b =
    set (a.next || b.next) (a.breaks || b.breaks) (a.continues || b.continues) (a.returns || b.returns)

abbrev pub plus_next : Behavior → Bool → Behavior
plus_next s more = set (s.next || more) s.breaks s.continues s.returns

-- A set with more than Next
abbrev pub beyond_next : Behavior → Bool
beyond_next s = s.breaks || (s.continues || s.returns)

-- While Next is in the set so far, the following statement's set replaces that Next
abbrev pub followed : Behavior → Behavior → Behavior
followed a b =
    cond a.next (set b.next (a.breaks || b.breaks) (a.continues || b.continues) (a.returns || b.returns)) a

-- A list, where f says how each statement may end
abbrev pub in_turn : (ℕ → Behavior) → Behavior → List ℕ → Behavior
in_turn f so_far [] = so_far
in_turn f so_far (s ∷ ss) = in_turn f (followed so_far (f s)) ss

-- The bodies of clauses joined
abbrev pub joined : (ℕ → Behavior) → Behavior → List (ℕ × ℕ) → Behavior
joined f so_far [] = so_far
joined f so_far (c ∷ cs) = joined f (union so_far (f c.1)) cs

-- Whether a clause has no selector
abbrev pub has_default : List (ℕ × ℕ) → Bool
has_default cs = list_any (λ (c : ℕ × ℕ). c.0 == 0) cs

-- An else that is absent goes on
abbrev pub else_of : (ℕ → Behavior) → Option ℕ → Behavior
else_of f None = only_next
else_of f (Some b) = f b

-- Break ends a switch
abbrev pub turned : Behavior → Behavior
turned s = set (s.next || s.breaks) false s.continues s.returns

-- A loop has Return if its body has, and Next if its body has Break or a break-if exists
abbrev pub looped : Behavior → Bool → Behavior
looped s exits = set (s.breaks || exits) false false s.returns

-- A loop under a condition gives Next, and Return if its body has
abbrev pub tested : Behavior → Behavior
tested s = set true false false s.returns

-- A `for` without condition is as a loop without break-if
abbrev pub forever : Behavior → Behavior
forever s = looped s false

-- Whether a loop's continuing has a break-if
abbrev pub exits_by : List ℕ → Option ℕ → Bool
exits_by ws None = false
exits_by ws (Some c) = exits (control ws c)

-- The set of an entry, where f says that of its children
abbrev pub control_behavior : List ℕ → (ℕ → Behavior) → Control → Behavior
control_behavior ws f Other = none
control_behavior ws f Plain = only_next
control_behavior ws f (Sequence s) = in_turn f only_next (listed ws s)
control_behavior ws f (If s o) = joined f (else_of f o) (paired ws s)
control_behavior ws f (Switch s) = plus_next (turned (joined f none (paired ws s))) (not (has_default (paired ws s)))
control_behavior ws f (Loop b c) = looped (f b) (exits_by ws c)
control_behavior ws f (While b) = tested (f b)
control_behavior ws f (Forever b) = forever (f b)
control_behavior ws f Break = set false true false false
control_behavior ws f Continue = set false false true false
control_behavior ws f (Return v) = set false false false true
control_behavior ws f (Continuing b x) = f b
control_behavior ws f (Function n t b) = f b

-- A value for each entry from those of its children: n levels deep
unfoldable pub descend : {X : Type 0} → X → ((ℕ → X) → ℕ → X) → ℕ → ℕ → X
descend blank step zero e = blank
descend blank step (suc n) e = step (descend blank step n) e

-- A child is larger than its parent, so as many levels as there are entries from e on are enough
unfoldable pub behavior : List ℕ → ℕ → Behavior
behavior ws e = descend none (λ f c. control_behavior ws f (control ws c)) (entries ws - e) e

-- The set of a statement; none of another entry
abbrev pub behavior_at : List ℕ → ℕ → Option Behavior
behavior_at ws e = cond (is_statement (control ws e)) (Some (behavior ws e)) None
