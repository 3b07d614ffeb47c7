-- The tree of a rule, entry by entry: statements, expressions and functions, with the lists that a book keeps as spans.
use Rattle.std.specs.Prelude.{ℕ, Bool, true, false, cond, List, [], Some, None, Option, ◌==◌}
use Rattle.syntax.specs.declared.BinaryOperator.{BinaryOperator}
use Rattle.syntax.specs.declared.DeclarationKind.{DeclarationKind}
use Rattle.syntax.specs.declared.ShortCircuit.{ShortCircuit as ShortOperator}
use Rattle.syntax.specs.declared.UnaryOperator.{UnaryOperator}
use Rattle.book.specs.Nodes.{listed, node_at, paired}
use Rattle.book.specs.declared.node.Node.{Node}
use Rattle.book.specs.declared.node.Node.TheVariants as N

-- Children are entries.
pub data Statement : Type 0 where
  Empty : Statement
  Compound : List ℕ → Statement
  -- `=` has no operator
  Assignment : Option BinaryOperator → ℕ → ℕ → Statement
  Increment Decrement : ℕ → Statement
  -- a condition and a body each, and the body of else
  If : List (ℕ × ℕ) → Option ℕ → Statement
  -- the subject, and a selector, 0 for default, and a body each
  Switch : ℕ → List (ℕ × ℕ) → Statement
  -- the body, and continuing
  Loop : ℕ → Option ℕ → Statement
  -- the initializer, the condition, the update and the body
  For : Option ℕ → Option ℕ → Option ℕ → ℕ → Statement
  While : ℕ → ℕ → Statement
  Break Continue : Statement
  Return : Option ℕ → Statement
  Discard : Statement
  CallStatement : ℕ → Statement
  ConstAssert : ℕ → Statement
  -- the kind, the name, the type and the initializer
  Declaration : DeclarationKind → ℕ → Option ℕ → Option ℕ → Statement

pub data Expression : Type 0 where
  Literal : ℕ → List ℕ → Expression
  Parenthesized : ℕ → Expression
  Unary : UnaryOperator → ℕ → Expression
  Binary : BinaryOperator → ℕ → ℕ → Expression
  ShortCircuit : ShortOperator → ℕ → ℕ → Expression
  Name : ℕ → Expression
  -- the function's name, and the arguments
  Call : ℕ → List ℕ → Expression

pub record Function : Type 0 where
  pub name : ℕ
  pub is_const : Bool
  pub must_use : Bool
  pub ty : Option ℕ
  pub body : ℕ
  -- a name and a type each
  pub parameters : List (ℕ × ℕ)

pub data Entry : Type 0 where
  unit : List ℕ → Entry
  statement : Statement → Entry
  -- the body, and break-if
  continuing : ℕ → Option ℕ → Entry
  expression : Expression → Entry
  function : Function → Entry
  -- there is no such entry
  absent : Entry

module _ (ws : List ℕ) where
  abbrev pub entry_of : Option Node → Entry
  entry_of None = absent
  entry_of (Some (N.Unit s)) = unit (listed ws s)
  entry_of (Some N.Empty) = statement Empty
  entry_of (Some (N.Compound s)) = statement (Compound (listed ws s))
  entry_of (Some (N.Assignment op l r)) = statement (Assignment op l r)
  entry_of (Some (N.Increment c)) = statement (Increment c)
  entry_of (Some (N.Decrement c)) = statement (Decrement c)
  entry_of (Some (N.If s o)) = statement (If (paired ws s) o)
  entry_of (Some (N.Switch c s)) = statement (Switch c (paired ws s))
  entry_of (Some (N.Loop b c)) = statement (Loop b c)
  entry_of (Some (N.For i c u b)) = statement (For i c u b)
  entry_of (Some (N.While c b)) = statement (While c b)
  entry_of (Some N.Break) = statement Break
  entry_of (Some N.Continue) = statement Continue
  entry_of (Some (N.Return c)) = statement (Return c)
  entry_of (Some N.Discard) = statement Discard
  entry_of (Some (N.CallStatement c)) = statement (CallStatement c)
  entry_of (Some (N.ConstAssert c)) = statement (ConstAssert c)
  entry_of (Some (N.Declaration k n t c)) = statement (Declaration k n t c)
  entry_of (Some (N.Continuing b c)) = continuing b c
  entry_of (Some (N.Literal k w)) = expression (Literal k w)
  entry_of (Some (N.Parenthesized c)) = expression (Parenthesized c)
  entry_of (Some (N.Unary op c)) = expression (Unary op c)
  entry_of (Some (N.Binary op l r)) = expression (Binary op l r)
  entry_of (Some (N.ShortCircuit op l r)) = expression (ShortCircuit op l r)
  entry_of (Some (N.Name n)) = expression (Name n)
  entry_of (Some (N.Call n s)) = expression (Call n (listed ws s))
  entry_of (Some (N.Function n a b t c s)) =
      function (record { name = n; is_const = a; must_use = b; ty = t; body = c; parameters = paired ws s })

  -- What the entry e is.
  unfoldable pub entry_at : ℕ → Entry
  entry_at e = entry_of (node_at ws e)

abbrev pub function_of : Entry → Option Function
function_of (function f) = Some f
function_of (unit cs) = None
function_of (statement x) = None
function_of (continuing b c) = None
function_of (expression x) = None
function_of absent = None

abbrev pub children_of : Entry → List ℕ
children_of (unit cs) = cs
children_of (function f) = []
children_of (statement x) = []
children_of (continuing b c) = []
children_of (expression x) = []
children_of absent = []

-- The name that a call entry calls.
abbrev pub call_of : Expression → Option ℕ
call_of (Call n cs) = Some n
call_of (Literal k w) = None
call_of (Parenthesized c) = None
call_of (Unary op c) = None
call_of (Binary op l r) = None
call_of (ShortCircuit op l r) = None
call_of (Name n) = None

abbrev pub called_by : Entry → Option ℕ
called_by (expression x) = call_of x
called_by (unit cs) = None
called_by (function f) = None
called_by (statement x) = None
called_by (continuing b c) = None
called_by absent = None

abbrev pub is_statement : Entry → Bool
is_statement (statement x) = true
is_statement (unit cs) = false
is_statement (function f) = false
is_statement (continuing b c) = false
is_statement (expression x) = false
is_statement absent = false

-- A function, if it has the name.
abbrev pub if_named : ℕ → Option Function → Option Function
if_named name None = None
if_named name (Some f) = cond (f.name == name) (Some f) None
