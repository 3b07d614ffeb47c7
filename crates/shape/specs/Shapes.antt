-- The body of each construct, the tag of each construct, and what a field takes.
use Rattle.std.specs.Prelude.{ℕ, Bool, true, false, ◌&&◌, ◌||◌, List, [], ◌∷◌, ◌++◌, map, replicate, Some, None, Option, ◌==◌, nat_le, slice_index_or}
use Rattle.std.specs.Option.{option_and_then, option_map}
use Rattle.std.specs.List.{slice_get}
use Rattle.shape.specs.declared.Child.{Child}
use Rattle.shape.specs.declared.Child.TheVariants as C
use Rattle.shape.specs.declared.Construct.{Construct}
use Rattle.shape.specs.declared.Construct.TheVariants.{Unit as UnitEntry, Empty, Compound, Assignment, Increment, Decrement, If, Switch, Loop, For, While, Break, Continue, Return, Discard, CallStatement, ConstAssert, Declaration, Continuing, Literal, Parenthesized, Unary, Binary, Name, Call, Function}
use Rattle.shape.specs.declared.Field.{Field}
use Rattle.shape.specs.declared.Field.TheVariants as F
use Rattle.shape.specs.declared.Shape.{Shape}

-- The fields that are numbers, each with its least and its greatest
abbrev pub word : Field
word = F.Number 0 65535

abbrev pub name : Field
name = F.Number 0 65534

-- a type, or 65,535 for none
abbrev pub type' : Field
type' = F.Number 0 65535

abbrev pub parameter_type : Field
parameter_type = F.Number 0 65534

abbrev pub assignment_operator : Field
assignment_operator = F.Number 0 8

abbrev pub unary_operator : Field
unary_operator = F.Number 0 2

abbrev pub binary_operator : Field
binary_operator = F.Number 0 15

abbrev pub declaration_kind : Field
declaration_kind = F.Number 0 2

abbrev pub flags : Field
flags = F.Number 0 3

-- how many groups follow
abbrev pub count : Field
count = F.Number 0 64

abbrev pub if_count : Field
if_count = F.Number 1 64

abbrev pub argument_count : Field
argument_count = F.Number 0 16

-- The fields that are children; 0 stands for an optional one that is absent
abbrev pub expression : Field
expression = F.Child C.Expression

abbrev pub expression? : Field
expression? = F.Optional C.Expression

abbrev pub body : Field
body = F.Child C.Body

-- The fields of a body behind the tag: the head, the group that the head's last field counts, and the tail
pub record Layout : Type 0 where
  pub head : List Field
  pub group : List Field
  pub tail : List Field

abbrev pub fixed : List Field → Layout
fixed fields = record { head = fields; group = []; tail = [] }

abbrev pub counted : List Field → List Field → List Field → Layout
counted h g t = record { head = h; group = g; tail = t }

abbrev pub layout_of : Construct → Layout
layout_of UnitEntry = counted (count ∷ []) (F.Child C.Member ∷ []) []
layout_of Empty = fixed []
layout_of Compound = counted (count ∷ []) (F.Child C.Statement ∷ []) []
layout_of Assignment = fixed (assignment_operator ∷ expression ∷ expression ∷ [])
layout_of Increment = fixed (expression ∷ [])
layout_of Decrement = fixed (expression ∷ [])
layout_of If = counted (if_count ∷ []) (expression ∷ body ∷ []) (F.Optional C.Body ∷ [])
layout_of Switch = counted (expression ∷ count ∷ []) (expression? ∷ body ∷ []) []
layout_of Loop = fixed (body ∷ F.Optional C.Continuing ∷ [])
layout_of For = fixed (F.Optional C.Initializer ∷ expression? ∷ F.Optional C.Update ∷ body ∷ [])
layout_of While = fixed (expression ∷ body ∷ [])
layout_of Break = fixed []
layout_of Continue = fixed []
layout_of Return = fixed (expression? ∷ [])
layout_of Discard = fixed []
layout_of CallStatement = fixed (F.Child C.Call ∷ [])
layout_of ConstAssert = fixed (expression ∷ [])
layout_of Declaration = fixed (declaration_kind ∷ name ∷ type' ∷ expression? ∷ [])
layout_of Continuing = fixed (body ∷ expression? ∷ [])
layout_of Literal = fixed (word ∷ word ∷ word ∷ word ∷ word ∷ [])
layout_of Parenthesized = fixed (expression ∷ [])
layout_of Unary = fixed (unary_operator ∷ expression ∷ [])
layout_of Binary = fixed (binary_operator ∷ expression ∷ expression ∷ [])
layout_of Name = fixed (name ∷ [])
layout_of Call = counted (name ∷ argument_count ∷ []) (expression ∷ []) []
layout_of Function = counted (name ∷ flags ∷ type' ∷ body ∷ argument_count ∷ []) (name ∷ parameter_type ∷ []) []

-- The layout of a body's construct; that of an unknown tag has no field
abbrev pub shape_of : Option Construct → Layout
shape_of None = fixed []
shape_of (Some c) = layout_of c

-- What a shape says: a construct, and the layout of its body
abbrev pub row : Shape → Construct × Layout
row s = (s.construct, record { head = s.head.now; group = s.group.now; tail = s.tail.now })

-- What rows of shapes say of a tag
unfoldable pub row_at : List (Option Shape) → ℕ → Option (Construct × Layout)
row_at rows tag = option_and_then (option_map row) (slice_get rows tag)

-- The constructs by their tags, 0 to 48: 19 to 31 and 38 to 47 are unknown
abbrev pub constructs : List (Option Construct)
constructs =
    map Some
    (UnitEntry ∷ Empty ∷ Compound ∷ Assignment ∷ Increment ∷ Decrement ∷ If ∷ Switch ∷ Loop ∷ For ∷ While ∷ Break
    ∷ Continue ∷ Return ∷ Discard ∷ CallStatement ∷ ConstAssert ∷ Declaration ∷ Continuing ∷ [])
    ++ replicate 13 None ++ map Some (Literal ∷ Parenthesized ∷ Unary ∷ Binary ∷ Name ∷ Call ∷ []) ++ replicate 10 None
    ++ (Some Function ∷ [])

unfoldable pub construct_of : ℕ → Option Construct
construct_of tag = slice_index_or constructs tag None

-- Whether a word may stand in a field; a child is judged by what its field takes
abbrev pub fits : Field → ℕ → Bool
fits (F.Number least most) w = nat_le least w && nat_le w most
fits (F.Child c) w = true
fits (F.Optional c) w = true

abbrev pub one_of : ℕ → List ℕ → Bool
one_of n [] = false
one_of n (m ∷ ms) = n == m || one_of n ms

-- Whether an entry of a tag may be the child
abbrev pub takes : Child → ℕ → Bool
takes C.Expression t = nat_le 32 t && nat_le t 37
takes C.Statement t = nat_le 1 t && nat_le t 17
takes C.Body t = t == 2
takes C.Call t = t == 37
takes C.Continuing t = t == 18
takes C.Initializer t = one_of t (3 ∷ 4 ∷ 5 ∷ 15 ∷ 17 ∷ [])
takes C.Update t = one_of t (3 ∷ 4 ∷ 5 ∷ 15 ∷ [])
takes C.Member t = (nat_le 1 t && nat_le t 17) || t == 48
