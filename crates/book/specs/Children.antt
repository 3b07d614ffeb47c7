-- What is known of the children of each node of a well formed book.
use Rattle.std.specs.Prelude.{◌≡◌, ℕ, ◌<◌, true, List, Some, None, Option, ◌≢◌, slice_index}
use Rattle.std.specs.List.{slice_get}
use Rattle.shape.specs.Shapes.{takes}
use Rattle.shape.specs.declared.Child.{Child}
use Rattle.shape.specs.declared.Child.TheVariants.{Body, Call, Continuing, Expression, Initializer, Member, Statement, Update}
use Rattle.layout.specs.Layout.{entries, place}
use Rattle.book.specs.Nodes.{listed, paired}
use Rattle.book.specs.declared.node.Items.{Items}
use Rattle.book.specs.declared.node.Node.{Node}
use Rattle.book.specs.declared.node.Node.TheVariants as N
use Rattle.book.specs.declared.node.Pairs.{Pairs}

-- c is an entry larger than e, of a tag that a field of the kind takes
abbrev pub IsChild : List ℕ → ℕ → Child → ℕ → Type 0
IsChild ws e kind c = (e < c) × (c < entries ws) × (takes kind (slice_index ws (place ws c)) ≡ true)

abbrev pub MayBeChild : List ℕ → ℕ → Child → Option ℕ → Type 0
MayBeChild ws e kind None = Unit {0}
MayBeChild ws e kind (Some c) = IsChild ws e kind c

-- each of a list
abbrev pub AreChildren : List ℕ → ℕ → Child → Items → Type 0
AreChildren ws e kind s = (i c : ℕ) → slice_get (listed ws s) i ≡ Some c → IsChild ws e kind c

-- the body of each clause
abbrev pub HaveBodies : List ℕ → ℕ → Pairs → Type 0
HaveBodies ws e s = (i : ℕ) (p : ℕ × ℕ) → slice_get (paired ws s) i ≡ Some p → IsChild ws e Body p.1

-- the condition of each clause, and its selector, which is 0 for default
abbrev pub HaveConditions : List ℕ → ℕ → Pairs → Type 0
HaveConditions ws e s = (i : ℕ) (p : ℕ × ℕ) → slice_get (paired ws s) i ≡ Some p → IsChild ws e Expression p.0

abbrev pub HaveSelectors : List ℕ → ℕ → Pairs → Type 0
HaveSelectors ws e s =
    (i : ℕ) (p : ℕ × ℕ) → slice_get (paired ws s) i ≡ Some p → (p.0 ≢ 0) → IsChild ws e Expression p.0

abbrev pub Children : List ℕ → ℕ → Node → Type 0
Children ws e (N.Unit s) = AreChildren ws e Member s
Children ws e N.Empty = Unit {0}
Children ws e (N.Compound s) = AreChildren ws e Statement s
Children ws e (N.Assignment op l r) = IsChild ws e Expression l × IsChild ws e Expression r
Children ws e (N.Increment c) = IsChild ws e Expression c
Children ws e (N.Decrement c) = IsChild ws e Expression c
Children ws e (N.If s o) = HaveConditions ws e s × HaveBodies ws e s × MayBeChild ws e Body o
Children ws e (N.Switch c s) = IsChild ws e Expression c × HaveSelectors ws e s × HaveBodies ws e s
Children ws e (N.Loop b c) = IsChild ws e Body b × MayBeChild ws e Continuing c
Children ws e (N.For i c u b) =
    MayBeChild ws e Initializer i × MayBeChild ws e Expression c × MayBeChild ws e Update u × IsChild ws e Body b
Children ws e (N.While c b) = IsChild ws e Expression c × IsChild ws e Body b
Children ws e N.Break = Unit {0}
Children ws e N.Continue = Unit {0}
Children ws e (N.Return c) = MayBeChild ws e Expression c
Children ws e N.Discard = Unit {0}
Children ws e (N.CallStatement c) = IsChild ws e Call c
Children ws e (N.ConstAssert c) = IsChild ws e Expression c
Children ws e (N.Declaration k n t c) = MayBeChild ws e Expression c
Children ws e (N.Continuing b c) = IsChild ws e Body b × MayBeChild ws e Expression c
Children ws e (N.Literal k w) = Unit {0}
Children ws e (N.Parenthesized c) = IsChild ws e Expression c
Children ws e (N.Unary op c) = IsChild ws e Expression c
Children ws e (N.Binary op l r) = IsChild ws e Expression l × IsChild ws e Expression r
Children ws e (N.ShortCircuit op l r) = IsChild ws e Expression l × IsChild ws e Expression r
Children ws e (N.Name n) = Unit {0}
Children ws e (N.Call n s) = AreChildren ws e Expression s
Children ws e (N.Function n a b t c s) = IsChild ws e Body c
