-- What an entry says, as a reader of the book sees it.
use Rattle.std.specs.Prelude.{ℕ, ◌+◌, ◌-◌, ◌*◌, ◌%◌, cond, List, [], ◌∷◌, take, drop, Some, None, Option, ◌==◌, nat_le, nat_lt, slice_index}
use Rattle.std.specs.Option.{option_map}
use Rattle.std.specs.List.{slice_get}
use Rattle.syntax.specs.Numbers.{binary_operators, declaration_kinds, short_circuits, unary_operators}
use Rattle.layout.specs.Layout.{construct, entries, place}
use Rattle.book.specs.declared.node.Items.{Items}
use Rattle.book.specs.declared.node.Node.{Node}
use Rattle.book.specs.declared.node.Node.TheVariants as N
use Rattle.book.specs.declared.node.Pairs.{Pairs}
use Rattle.shape.specs.declared.Construct.{Construct}
use Rattle.shape.specs.declared.Construct.TheVariants.{Unit as UnitEntry, Empty, Compound, Assignment, Increment, Decrement, If, Switch, Loop, For, While, Break, Continue, Return, Discard, CallStatement, ConstAssert, Declaration, Continuing, Literal, Parenthesized, Unary, Binary, Name, Call, Function}

-- A child that may be absent, and a type that may be
abbrev pub optional : ℕ → Option ℕ
optional w = cond (w == 0) None (Some w)

abbrev pub optional_type : ℕ → Option ℕ
optional_type w = cond (w == 65535) None (Some w)

-- `=` is number 0, and the number of the others is one more than that of the operator which they apply
abbrev pub assignment_node : ℕ → ℕ → ℕ → Option Node
assignment_node n l r =
    cond (n == 0) (Some (N.Assignment None l r)) (option_map (λ op. N.Assignment (Some op) l r) (slice_get binary_operators (n - 1)))

-- the short circuits follow the 14 other operators
abbrev pub binary_node : ℕ → ℕ → ℕ → Option Node
binary_node n l r =
    cond (nat_lt n 14) (option_map (λ op. N.Binary op l r) (slice_get binary_operators n))
    (option_map (λ op. N.ShortCircuit op l r) (slice_get short_circuits (n - 14)))

abbrev pub unary_node : ℕ → ℕ → Option Node
unary_node n e = option_map (λ op. N.Unary op e) (slice_get unary_operators n)

abbrev pub items : ℕ → ℕ → Items
items from k = record { start = from; count = k }

abbrev pub pairs : ℕ → ℕ → Pairs
pairs from k = record { start = from; count = k }

-- behind its clauses an `if` has the body of its else
abbrev pub if_node : List ℕ → ℕ → Node
if_node ws p = N.If (pairs (p + 2) (slice_index ws (p + 1))) (optional (slice_index ws (p + 2 + 2 * slice_index ws (p + 1))))

abbrev pub for_node : List ℕ → ℕ → Node
for_node ws p =
    N.For (optional (slice_index ws (p + 1))) (optional (slice_index ws (p + 2))) (optional (slice_index ws (p + 3))) (slice_index ws (p + 4))

abbrev pub declaration_node : List ℕ → ℕ → Option Node
declaration_node ws p =
    option_map (λ k. N.Declaration k (slice_index ws (p + 2)) (optional_type (slice_index ws (p + 3))) (optional (slice_index ws (p + 4))))
    (slice_get declaration_kinds (slice_index ws (p + 1)))

abbrev pub literal_node : List ℕ → ℕ → Node
literal_node ws p =
    N.Literal (slice_index ws (p + 1))
    (slice_index ws (p + 2) ∷ slice_index ws (p + 3) ∷ slice_index ws (p + 4) ∷ slice_index ws (p + 5) ∷ [])

-- the flags add 1 for const and 2 for must-use
abbrev pub function_node : List ℕ → ℕ → Node
function_node ws p =
    N.Function (slice_index ws (p + 1)) (slice_index ws (p + 2) % 2 == 1) (nat_le 2 (slice_index ws (p + 2)))
    (optional_type (slice_index ws (p + 3))) (slice_index ws (p + 4)) (pairs (p + 6) (slice_index ws (p + 5)))

-- The node of a construct whose body stands at p
abbrev pub node_of : Construct → List ℕ → ℕ → Option Node
node_of UnitEntry ws p = Some (N.Unit (items (p + 2) (slice_index ws (p + 1))))
node_of Empty ws p = Some N.Empty
node_of Compound ws p = Some (N.Compound (items (p + 2) (slice_index ws (p + 1))))
node_of Assignment ws p = assignment_node (slice_index ws (p + 1)) (slice_index ws (p + 2)) (slice_index ws (p + 3))
node_of Increment ws p = Some (N.Increment (slice_index ws (p + 1)))
node_of Decrement ws p = Some (N.Decrement (slice_index ws (p + 1)))
node_of If ws p = Some (if_node ws p)
node_of Switch ws p = Some (N.Switch (slice_index ws (p + 1)) (pairs (p + 3) (slice_index ws (p + 2))))
node_of Loop ws p = Some (N.Loop (slice_index ws (p + 1)) (optional (slice_index ws (p + 2))))
node_of For ws p = Some (for_node ws p)
node_of While ws p = Some (N.While (slice_index ws (p + 1)) (slice_index ws (p + 2)))
node_of Break ws p = Some N.Break
node_of Continue ws p = Some N.Continue
node_of Return ws p = Some (N.Return (optional (slice_index ws (p + 1))))
node_of Discard ws p = Some N.Discard
node_of CallStatement ws p = Some (N.CallStatement (slice_index ws (p + 1)))
node_of ConstAssert ws p = Some (N.ConstAssert (slice_index ws (p + 1)))
node_of Declaration ws p = declaration_node ws p
node_of Continuing ws p = Some (N.Continuing (slice_index ws (p + 1)) (optional (slice_index ws (p + 2))))
node_of Literal ws p = Some (literal_node ws p)
node_of Parenthesized ws p = Some (N.Parenthesized (slice_index ws (p + 1)))
node_of Unary ws p = unary_node (slice_index ws (p + 1)) (slice_index ws (p + 2))
node_of Binary ws p = binary_node (slice_index ws (p + 1)) (slice_index ws (p + 2)) (slice_index ws (p + 3))
node_of Name ws p = Some (N.Name (slice_index ws (p + 1)))
node_of Call ws p = Some (N.Call (slice_index ws (p + 1)) (items (p + 3) (slice_index ws (p + 2))))
node_of Function ws p = Some (function_node ws p)

abbrev pub decode : Option Construct → List ℕ → ℕ → Option Node
decode None ws p = None
decode (Some c) ws p = node_of c ws p

-- What an entry says; none past the last
unfoldable pub node_at : List ℕ → ℕ → Option Node
node_at ws e = cond (nat_lt e (entries ws)) (decode (construct ws (place ws e)) ws (place ws e)) None

-- The words of a list, and its pairs
abbrev pub listed : List ℕ → Items → List ℕ
listed ws s = take s.count (drop s.start ws)

abbrev pub twos : List ℕ → List (ℕ × ℕ)
twos [] = []
twos (a ∷ []) = []
twos (a ∷ b ∷ ws) = (a, b) ∷ twos ws

abbrev pub paired : List ℕ → Pairs → List (ℕ × ℕ)
paired ws s = twos (take (2 * s.count) (drop s.start ws))
