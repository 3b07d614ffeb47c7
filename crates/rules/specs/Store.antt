-- What a rule runs over: a host's meaning and a book, the names and the stage; and what of it can be begun.
use Rattle.std.specs.Prelude.{ℕ, List, Some, None, Option}
use Rattle.host.specs.Meaning.{OperatorMeaning, ValueMeaning}
use Rattle.host.specs.declared.Stage.{Stage}
use Rattle.names.specs.Rules.{close_scope, open_scope}
use Rattle.names.specs.State.{State}
use Rattle.names.specs.declared.scope.ScopeKind.{ScopeKind}
use Rattle.drive.specs.Act.{Act, Shape, begin, stop}
use Rattle.rules.specs.declared.error.Cause.{Cause}
use Rattle.rules.specs.declared.flow.CompoundScope.{CompoundScope}
use Rattle.rules.specs.declared.flow.Flow.{Flow}
use Rattle.rules.specs.declared.flow.Operand.{Operand}
use Rattle.rules.specs.declared.flow.Operand.TheVariants.{Value, Reference}

-- What stays through a run: what the host's functions answer, and the words of the book.
pub record Env (V : Type 0) : Type 0 where
  pub values : ValueMeaning V
  pub operators : OperatorMeaning V
  pub words : List ℕ

abbrev pub over : {V : Type 0} → ValueMeaning V → OperatorMeaning V → List ℕ → Env V
over m o ws = record { values = m; operators = o; words = ws }

-- What a run changes.
pub record Store (V : Type 0) : Type 0 where
  pub names : State V
  pub stage : Stage

-- What can be begun: an entry, as what its parent takes it for.
pub data Begun : Type 0 where
  statement : ℕ → Begun
  -- a compound, how it keeps its names, and the function that it is the body of
  block : CompoundScope → Option ℕ → ℕ → Begun
  continuing : ℕ → Begun
  expression : ℕ → Begun
  -- a call of a call statement, which may yield nothing
  callee : ℕ → Begun

-- Why a run is refused. An entry that is not what its parent takes it for leads astray: no loaded book has one.
pub data Refusal : Type 0 where
  because : Cause → Refusal
  astray : Refusal

module _ (V : Type 0) where
  -- What each ends with: a statement with a flow, an expression with an operand, a call with a value or nothing.
  abbrev pub OutOf : Begun → Type 0
  OutOf (statement e) = Flow V
  OutOf (block scope f e) = Flow V
  OutOf (continuing e) = Flow V
  OutOf (expression e) = Operand V
  OutOf (callee e) = Option V

  abbrev pub shape : Shape
  shape = record { Call = Begun; Out = OutOf; Cause = Refusal; State = Store V }

abbrev pub entry_number : Begun → ℕ
entry_number (statement e) = e
entry_number (block scope f e) = e
entry_number (continuing e) = e
entry_number (expression e) = e
entry_number (callee e) = e

abbrev pub body_of : Begun → Option ℕ
body_of (statement e) = None
body_of (block scope f e) = f
body_of (continuing e) = None
body_of (expression e) = None
body_of (callee e) = None

module _ {V : Type 0} where
  -- ## The store

  abbrev pub named : State V → Store V → Store V
  named n s = record { names = n; stage = s.stage }

  abbrev pub staged : Stage → Store V → Store V
  staged t s = record { names = s.names; stage = t }

  abbrev pub opening : ScopeKind → Store V → Store V
  opening kind s = named (open_scope kind s.names) s

  abbrev pub closing : Store V → Store V
  closing s = named (close_scope s.names) s

  -- ## Refusing, and beginning children

  module _ {A : Type 0} where
    abbrev pub refuse : Cause → Store V → Act (shape V) A
    refuse cause s = stop (because cause) None s

    -- the callee is blamed
    abbrev pub refuse_callee : ℕ → Cause → Store V → Act (shape V) A
    refuse_callee name cause s = stop (because cause) (Some name) s

    abbrev pub lost : Store V → Act (shape V) A
    lost s = stop astray None s

  -- A reference is loaded where a value is needed: it was named just now, so its value is the one that it came with.
  abbrev pub loaded : Operand V → V
  loaded (Value v) = v
  loaded (Reference place v) = v

  module _ {A : Type 0} where
    -- The value of an expression.
    abbrev pub value : ℕ → Store V → (V → Store V → Act (shape V) A) → Act (shape V) A
    value e s k = begin (expression e) s (λ o s'. k (loaded o) s')

    -- A child evaluated in another stage; the stage before it comes back.
    abbrev pub value_in : Stage → ℕ → Store V → (V → Store V → Act (shape V) A) → Act (shape V) A
    value_in stage e s k = begin (expression e) (staged stage s) (λ o s'. k (loaded o) (staged s.stage s'))
