-- What expressions and calls do.
use Rattle.std.specs.Prelude.{ℕ, Bool, true, false, cond, not, ◌&&◌, List, [], ◌∷◌, ◌++◌, length, Some, None, Ok, Err, Option, Result, ◌==◌}
use Rattle.std.specs.Option.{option_or}
use Rattle.syntax.specs.declared.DeclarationKind.{DeclarationKind}
use Rattle.syntax.specs.declared.DeclarationKind.TheVariants as K
use Rattle.syntax.specs.declared.ShortCircuit.{ShortCircuit}
use Rattle.syntax.specs.declared.ShortCircuit.TheVariants.{And, Or}
use Rattle.host.specs.declared.HostFault.{HostFault}
use Rattle.host.specs.declared.HostFault.TheVariants.{Binary}
use Rattle.host.specs.declared.Stage.{Stage}
use Rattle.host.specs.declared.Stage.TheVariants.{Const, Override, Exec}
use Rattle.names.specs.Rules.{bind, lookup}
use Rattle.names.specs.State.{State}
use Rattle.names.specs.declared.binding.Found.{Found}
use Rattle.names.specs.declared.error.NameFault.{NameFault}
use Rattle.names.specs.declared.scope.ScopeKind.TheVariants.{Call as CallScope}
use Rattle.drive.specs.Act.{Act, begin, end}
use Rattle.rules.specs.Store.{Env, Store, block, closing, expression, lost, named, opening, refuse, refuse_callee, shape, value}
use Rattle.rules.specs.Tree.{Entry, Expression, Function, children_of, entry_at, function_of, if_named}
use Rattle.rules.specs.Tree as T
use Rattle.rules.specs.declared.error.Cause.TheVariants as C
use Rattle.rules.specs.declared.flow.CompoundScope.TheVariants.{Transparent}
use Rattle.rules.specs.declared.flow.Flow.{Flow}
use Rattle.rules.specs.declared.flow.Flow.TheVariants as F
use Rattle.rules.specs.declared.flow.Operand.{Operand}
use Rattle.rules.specs.declared.flow.Operand.TheVariants.{Value, Reference}

-- ## Finding a function

-- The first function of a name among some entries.
abbrev pub first_named : List ℕ → ℕ → List ℕ → Option Function
first_named ws name [] = None
first_named ws name (e ∷ es) = option_or (if_named name (function_of (entry_at ws e))) (first_named ws name es)

-- The unit's first function of a name.
abbrev pub function_named : List ℕ → ℕ → Option Function
function_named ws name = first_named ws name (children_of (entry_at ws 0))

-- In Const only a function with the flag is called.
abbrev pub is_const_stage : Stage → Bool
is_const_stage Const = true
is_const_stage Override = false
is_const_stage Exec = false

module _ {V : Type 0} where
  abbrev pub add_first : V → Option (List V) → Option (List V)
  add_first v None = None
  add_first v (Some vs) = Some (v ∷ vs)

  abbrev pub with_first : Option V → Option (List V) → Option (List V)
  with_first None vs = None
  with_first (Some v) vs = add_first v vs

module _ {V : Type 0} (env : Env V) where
  -- All arguments, each converted to the type of its parameter; none if one can't be.
  abbrev pub converted : List (ℕ × ℕ) → List V → Option (List V)
  converted [] vs = Some []
  converted (p ∷ ps) [] = Some []
  converted (p ∷ ps) (v ∷ vs) = with_first (env.values.convert v p.1) (converted ps vs)

  module _ {A : Type 0} where
    -- What a host answers ends an expression, or its fault refuses the run.
    abbrev pub answered : Result V HostFault → Store V → (V → Store V → Act (shape V) A) → Act (shape V) A
    answered (Ok v) s k = k v s
    answered (Err f) s k = refuse (C.Host f) s

    -- ## Calls

    -- Arguments are evaluated from left to right.
    abbrev pub arguments : List ℕ → List V → Store V → (List V → Store V → Act (shape V) A) → Act (shape V) A
    arguments [] vs s k = k vs s
    arguments (e ∷ es) vs s k = value e s (λ v s'. arguments es (vs ++ v ∷ []) s' k)

    -- The flow of a body and the declared type together decide what a function yields.
    abbrev pub returned : Option V → ℕ → Store V → (Option V → Store V → Act (shape V) A) → Act (shape V) A
    returned None name s k = refuse_callee name C.ReturnType s
    returned (Some v) name s k = k (Some v) s

    abbrev pub with_value : V → Option ℕ → ℕ → Store V → (Option V → Store V → Act (shape V) A) → Act (shape V) A
    with_value v None name s k = refuse C.UnexpectedReturn s
    with_value v (Some t) name s k = returned (env.values.convert v t) name s k

    abbrev pub without_value : Option ℕ → Store V → (Option V → Store V → Act (shape V) A) → Act (shape V) A
    without_value None s k = k None s
    without_value (Some t) s k = refuse C.NoReturn s

    abbrev pub yielded : Flow V → Option ℕ → ℕ → Store V → (Option V → Store V → Act (shape V) A) → Act (shape V) A
    yielded F.Break ty name s k = refuse C.FlowInFunction s
    yielded F.Continue ty name s k = refuse C.FlowInFunction s
    yielded F.Next ty name s k = without_value ty s k
    yielded (F.Return None) ty name s k = without_value ty s k
    yielded (F.Return (Some v)) ty name s k = with_value v ty name s k

    -- The body runs in a transparent scope inside that of the parameters; both are closed when it has ended.
    abbrev pub enter_body : Function → Store V → (Option V → Store V → Act (shape V) A) → Act (shape V) A
    enter_body f s k = begin (block Transparent (Some f.name) f.body) s (λ flow s'. yielded flow f.ty f.name (closing s') k)

    -- The parameters are bound as let, one after another.
    abbrev pub bind_next : Result (State V) NameFault → Store V → (Store V → Act (shape V) A) → Act (shape V) A
    bind_next (Err f) s k = refuse (C.Name f) s
    bind_next (Ok n) s k = k (named n s)

    abbrev pub bind_all : List (ℕ × ℕ) → List V → Store V → (Store V → Act (shape V) A) → Act (shape V) A
    bind_all [] vs s k = k s
    bind_all (p ∷ ps) [] s k = k s
    bind_all (p ∷ ps) (v ∷ vs) s k = bind_next (bind p.0 K.Let v s.names) s (λ s'. bind_all ps vs s' k)

    abbrev pub enter_converted : Function → Option (List V) → Store V → (Option V → Store V → Act (shape V) A) → Act (shape V) A
    enter_converted f None s k = refuse_callee f.name C.ParamType s
    enter_converted f (Some vs) s k = bind_all f.parameters vs s (λ s'. enter_body f s' k)

    -- What is checked in which order: the stage, the count, then in a scope of the call all conversions, and then each name.
    abbrev pub enter_function : Function → List V → Store V → (Option V → Store V → Act (shape V) A) → Act (shape V) A
    enter_function f vs s k =
        cond (is_const_stage s.stage && not f.is_const) (refuse C.NotConst s)
        (cond (length vs == length f.parameters)
        (enter_converted f (converted f.parameters vs) (opening CallScope s) k)
        (refuse C.ParamCount s))

    abbrev pub if_found : Option Function → Store V → (Function → Act (shape V) A) → Act (shape V) A
    if_found None s k = refuse C.UnknownFunction s
    if_found (Some f) s k = k f

    -- A call of a name with values.
    abbrev pub call : ℕ → List V → Store V → (Option V → Store V → Act (shape V) A) → Act (shape V) A
    call name vs s k = if_found (function_named env.words name) s (λ f. enter_function f vs s k)

  -- A call that has to yield a value.
  abbrev pub must_yield : Option V → Store V → Act (shape V) (Operand V)
  must_yield None s = refuse C.Void s
  must_yield (Some v) s = end (Value v) s

  -- ## Expressions

  abbrev pub evaluated : V → Store V → Act (shape V) (Operand V)
  evaluated v s = end (Value v) s

  -- `&&` and `||` give the operand taken last; one that is neither true nor false is refused as by an operator.
  abbrev pub last : Option Bool → V → Store V → Act (shape V) (Operand V)
  last None v s = refuse (C.Host Binary) s
  last (Some b) v s = evaluated v s

  abbrev pub right : ℕ → Store V → Act (shape V) (Operand V)
  right e s = value e s (λ v s'. last (env.values.truth v) v s')

  -- The right side is begun only if it is needed.
  abbrev pub short_circuit : ShortCircuit → Option Bool → V → ℕ → Store V → Act (shape V) (Operand V)
  short_circuit op None v r s = refuse (C.Host Binary) s
  short_circuit And (Some true) v r s = right r s
  short_circuit And (Some false) v r s = evaluated v s
  short_circuit Or (Some true) v r s = evaluated v s
  short_circuit Or (Some false) v r s = right r s

  -- A var's name is a reference, any other a value.
  abbrev pub operand_of : DeclarationKind → ℕ → V → Operand V
  operand_of K.Const place v = Value v
  operand_of K.Let place v = Value v
  operand_of K.Var place v = Reference place v

  abbrev pub name_found : Result (Found V) NameFault → Store V → Act (shape V) (Operand V)
  name_found (Err f) s = refuse (C.Name f) s
  name_found (Ok x) s = end (operand_of x.binding.kind x.place x.binding.value) s

  abbrev pub eval : Expression → Store V → Act (shape V) (Operand V)
  eval (T.Literal kind words) s = answered (env.operators.literal kind words) s evaluated
  -- a reference in parentheses is one
  eval (T.Parenthesized e) s = begin (expression e) s end
  eval (T.Unary op e) s = value e s (λ v s'. answered (env.operators.unary s'.stage op v) s' evaluated)
  eval (T.Binary op l r) s =
      value l s (λ a s'. value r s' (λ b s''. answered (env.operators.binary s''.stage op a b) s'' evaluated))
  eval (T.ShortCircuit op l r) s = value l s (λ a s'. short_circuit op (env.values.truth a) a r s')
  eval (T.Name name) s = name_found (lookup name s.names) s
  eval (T.Call name es) s = arguments es [] s (λ vs s'. call name vs s' must_yield)

  -- A call of a call statement.
  abbrev pub eval_callee : Expression → Store V → Act (shape V) (Option V)
  eval_callee (T.Call name es) s = arguments es [] s (λ vs s'. call name vs s' end)
  eval_callee (T.Literal kind words) s = lost s
  eval_callee (T.Parenthesized e) s = lost s
  eval_callee (T.Unary op e) s = lost s
  eval_callee (T.Binary op l r) s = lost s
  eval_callee (T.ShortCircuit op l r) s = lost s
  eval_callee (T.Name name) s = lost s
