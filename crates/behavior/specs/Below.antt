-- The statements below an entry, and the least of them that passes a test.
use Rattle.std.specs.Prelude.{◌≡◌, ℕ, ◌-◌, min, Bool, true, false, cond, not, List, [], ◌∷◌, ◌++◌, Some, None, Option}
use Rattle.std.specs.Option.{option_to_list}
use Rattle.std.specs.List.{slice_get}
use Rattle.layout.specs.Layout.{entries}
use Rattle.book.specs.Nodes.{listed, paired}
use Rattle.control.specs.Control.{control}
use Rattle.behavior.specs.Rules.{behavior, beyond_next, descend}
use Rattle.control.specs.declared.Control.{Control}
use Rattle.control.specs.declared.Control.TheVariants.{Break, Continue, Continuing, Forever, Function, If, Loop, Other, Plain, Return, Sequence, Switch, While}

abbrev pub seconds : List (ℕ × ℕ) → List ℕ
seconds [] = []
seconds (p ∷ ps) = p.1 ∷ seconds ps

-- The statements, bodies and continuings right below
abbrev pub children_of : List ℕ → Control → List ℕ
children_of ws Other = []
children_of ws Plain = []
children_of ws (Sequence s) = listed ws s
children_of ws (If s o) = option_to_list o ++ seconds (paired ws s)
children_of ws (Switch s) = seconds (paired ws s)
children_of ws (Loop b c) = b ∷ option_to_list c
children_of ws (While b) = b ∷ []
children_of ws (Forever b) = b ∷ []
children_of ws Break = []
children_of ws Continue = []
children_of ws (Return v) = []
children_of ws (Continuing b x) = b ∷ []
children_of ws (Function n t b) = b ∷ []

abbrev pub IsBelow : List ℕ → ℕ → ℕ → Type 0
IsBelow ws e c = (i : ℕ) × (slice_get (children_of ws (control ws e)) i ≡ Some c)

-- An entry is below another if it is that entry, or below a child of it
pub data Below (ws : List ℕ) : ℕ → ℕ → Type 0 where
  itself : {e : ℕ} → Below ws e e
  through : {e c k : ℕ} → IsBelow ws e c → Below ws c k → Below ws e k

abbrev pub earlier : Option ℕ → Option ℕ → Option ℕ
earlier None b = b
earlier (Some a) None = Some a
earlier (Some a) (Some b) = Some (min a b)

abbrev pub earliest : (ℕ → Option ℕ) → Option ℕ → List ℕ → Option ℕ
earliest f so_far [] = so_far
earliest f so_far (c ∷ cs) = earliest f (earlier so_far (f c)) cs

-- The least entry below e that passes the test, if any
abbrev pub least_of : List ℕ → (ℕ → Bool) → (ℕ → Option ℕ) → ℕ → Option ℕ
least_of ws p f e = cond (p e) (Some e) (earliest f None (children_of ws (control ws e)))

unfoldable pub least : List ℕ → (ℕ → Bool) → ℕ → Option ℕ
least ws p e = descend None (least_of ws p) (entries ws - e) e

-- A return with a value, or without
abbrev pub returning : Bool → Control → Bool
returning v (Return w) = cond v w (not w)
returning v Other = false
returning v Plain = false
returning v (Sequence s) = false
returning v (If s o) = false
returning v (Switch s) = false
returning v (Loop b c) = false
returning v (While b) = false
returning v (Forever b) = false
returning v Break = false
returning v Continue = false
returning v (Continuing b x) = false
returning v (Function n t b) = false

abbrev pub is_bare : List ℕ → ℕ → Bool
is_bare ws e = returning false (control ws e)

abbrev pub is_valued : List ℕ → ℕ → Bool
is_valued ws e = returning true (control ws e)

-- A continuing that leaves: the set of its body is not within Next
abbrev pub leaving : List ℕ → Control → Bool
leaving ws (Continuing b x) = beyond_next (behavior ws b)
leaving ws Other = false
leaving ws Plain = false
leaving ws (Sequence s) = false
leaving ws (If s o) = false
leaving ws (Switch s) = false
leaving ws (Loop b c) = false
leaving ws (While b) = false
leaving ws (Forever b) = false
leaving ws Break = false
leaving ws Continue = false
leaving ws (Return v) = false
leaving ws (Function n t b) = false

abbrev pub is_leaving : List ℕ → ℕ → Bool
is_leaving ws e = leaving ws (control ws e)
