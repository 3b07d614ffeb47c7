-- What of a node matters to the way it may end.
use Rattle.std.specs.Prelude.{ℕ, Bool, true, false, List, is_some, Some, None, Option}
use Rattle.book.specs.Nodes.{node_at}
use Rattle.book.specs.declared.node.Node.{Node}
use Rattle.book.specs.declared.node.Node.TheVariants as N
use Rattle.control.specs.declared.Control.{Control}
use Rattle.control.specs.declared.Control.TheVariants.{Break, Continue, Continuing, Forever, Function, If, Loop, Other, Plain, Return, Sequence, Switch, While}

-- a `for` with a condition is as a `while`
abbrev pub for_of : Option ℕ → ℕ → Control
for_of (Some c) body = While body
for_of None body = Forever body

abbrev pub control_of : Option Node → Control
control_of None = Other
control_of (Some (N.Unit s)) = Other
control_of (Some N.Empty) = Plain
control_of (Some (N.Compound s)) = Sequence s
control_of (Some (N.Assignment op l r)) = Plain
control_of (Some (N.Increment c)) = Plain
control_of (Some (N.Decrement c)) = Plain
control_of (Some (N.If s o)) = If s o
control_of (Some (N.Switch c s)) = Switch s
control_of (Some (N.Loop b c)) = Loop b c
control_of (Some (N.For i c u b)) = for_of c b
control_of (Some (N.While c b)) = While b
control_of (Some N.Break) = Break
control_of (Some N.Continue) = Continue
control_of (Some (N.Return c)) = Return (is_some c)
control_of (Some N.Discard) = Plain
control_of (Some (N.CallStatement c)) = Plain
control_of (Some (N.ConstAssert c)) = Plain
control_of (Some (N.Declaration k n t c)) = Plain
control_of (Some (N.Continuing b c)) = Continuing b (is_some c)
control_of (Some (N.Literal k w)) = Other
control_of (Some (N.Parenthesized c)) = Other
control_of (Some (N.Unary op c)) = Other
control_of (Some (N.Binary op l r)) = Other
control_of (Some (N.ShortCircuit op l r)) = Other
control_of (Some (N.Name n)) = Other
control_of (Some (N.Call n s)) = Other
control_of (Some (N.Function n a b t c s)) = Function n (is_some t) c

-- That of an entry
unfoldable pub control : List ℕ → ℕ → Control
control ws e = control_of (node_at ws e)

-- Whether it is that of a statement
abbrev pub is_statement : Control → Bool
is_statement Other = false
is_statement (Continuing b x) = false
is_statement (Function n t b) = false
is_statement Plain = true
is_statement (Sequence s) = true
is_statement (If s o) = true
is_statement (Switch s) = true
is_statement (Loop b c) = true
is_statement (While b) = true
is_statement (Forever b) = true
is_statement Break = true
is_statement Continue = true
is_statement (Return v) = true

-- Whether it is a continuing with a break-if
abbrev pub exits : Control → Bool
exits (Continuing b x) = x
exits Other = false
exits Plain = false
exits (Sequence s) = false
exits (If s o) = false
exits (Switch s) = false
exits (Loop b c) = false
exits (While b) = false
exits (Forever b) = false
exits Break = false
exits Continue = false
exits (Return v) = false
exits (Function n t b) = false
