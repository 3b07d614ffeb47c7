-- What statements do.
use Rattle.std.specs.Prelude.{ℕ, Bool, true, false, cond, List, [], ◌∷◌, Some, None, Ok, Err, Option, Result, ◌==◌}
use Rattle.std.specs.Option.{option_or}
use Rattle.syntax.specs.declared.BinaryOperator.{BinaryOperator}
use Rattle.syntax.specs.declared.DeclarationKind.{DeclarationKind}
use Rattle.syntax.specs.declared.DeclarationKind.TheVariants as K
use Rattle.host.specs.declared.HostFault.{HostFault}
use Rattle.host.specs.declared.Stage.{Stage}
use Rattle.host.specs.declared.Stage.TheVariants as Stages
use Rattle.host.specs.declared.StepFault.{StepFault}
use Rattle.host.specs.declared.StepFault.TheVariants.{Overflow, WrongType}
use Rattle.names.specs.Rules.{assign, bind, duplicate, write}
use Rattle.names.specs.State.{State}
use Rattle.names.specs.declared.error.NameFault.{NameFault}
use Rattle.names.specs.declared.error.NameFault.TheVariants.{DuplicateDecl, NotRef}
use Rattle.names.specs.declared.scope.ScopeKind.TheVariants as Scopes
use Rattle.drive.specs.Act.{Act, Round, again, begin, end}
use Rattle.rules.specs.Eval.{answered, function_named, if_found}
use Rattle.rules.specs.Store.{Env, Store, block, callee, closing, continuing, expression, loaded, lost, named, opening, refuse, shape, statement, value, value_in}
use Rattle.rules.specs.Tree.{Function, Statement, called_by, entry_at}
use Rattle.rules.specs.Tree as T
use Rattle.rules.specs.declared.error.Cause.{Cause}
use Rattle.rules.specs.declared.error.Cause.TheVariants as C
use Rattle.rules.specs.declared.flow.CompoundScope.{CompoundScope}
use Rattle.rules.specs.declared.flow.CompoundScope.TheVariants.{Regular, Transparent, Leaking}
use Rattle.rules.specs.declared.flow.Flow.{Flow}
use Rattle.rules.specs.declared.flow.Flow.TheVariants as F
use Rattle.rules.specs.declared.flow.Operand.{Operand}
use Rattle.rules.specs.declared.flow.Operand.TheVariants.{Value, Reference}

-- ## Where the standard and the Rust differ: each has its place here

-- A `for` without condition goes on.
abbrev pub absent_condition : Bool
absent_condition = true

-- A default that is reached is kept for the end, if it is the first; the selectors after it are still tried.
abbrev pub kept_default : Option ℕ → ℕ → Option ℕ
kept_default kept body = option_or kept (Some body)

-- A compound assignment reads its variable before the right side is evaluated.
abbrev pub read_first : {V : Type 0} → V → V
read_first v = v

module _ {V : Type 0} where
  -- ## Scopes of compounds

  abbrev pub opened : CompoundScope → Store V → Store V
  opened Regular s = opening Scopes.Regular s
  opened Transparent s = opening Scopes.Transparent s
  opened Leaking s = s

  abbrev pub closed : CompoundScope → Store V → Store V
  closed Regular s = closing s
  closed Transparent s = closing s
  closed Leaking s = s

  -- ## Lists of statements

  -- A list stops at the first flow but Next.
  abbrev pub in_turn : CompoundScope → List ℕ → Store V → Act (shape V) (Flow V)
  in_turn scope [] s = end F.Next (closed scope s)
  in_turn scope (e ∷ es) s =
      begin (statement e) s
      (elim [
        | F.Next ↦ λ s'. in_turn scope es s'
        | F.Break ↦ λ s'. end F.Break (closed scope s')
        | F.Continue ↦ λ s'. end F.Continue (closed scope s')
        | F.Return v ↦ λ s'. end (F.Return v) (closed scope s')
      ])

  abbrev pub compound : CompoundScope → List ℕ → Store V → Act (shape V) (Flow V)
  compound scope es s = in_turn scope es (opened scope s)

  -- A body in a scope of its own.
  abbrev pub body : ℕ → Store V → Act (shape V) (Flow V)
  body b s = begin (block Regular None b) s end

  -- ## What is written

  abbrev pub stored : Result (State V) NameFault → Store V → Act (shape V) (Flow V)
  stored (Err f) s = refuse (C.Name f) s
  stored (Ok n) s = end F.Next (named n s)

  -- A place to write to.
  abbrev pub reference : Operand V → Store V → (ℕ → V → Store V → Act (shape V) (Flow V)) → Act (shape V) (Flow V)
  reference (Value v) s k = refuse (C.Name NotRef) s
  reference (Reference place v) s k = k place v s

  -- ## Return

  abbrev pub return : Option ℕ → Store V → Act (shape V) (Flow V)
  return None s = end (F.Return None) s
  return (Some e) s = value e s (λ v s'. end (F.Return (Some v)) s')

module _ {V : Type 0} (env : Env V) where
  module _ {A : Type 0} where
    -- A condition has to be true or false.
    abbrev pub decided : Option Bool → Store V → (Bool → Store V → Act (shape V) A) → Act (shape V) A
    decided None s k = refuse C.Type s
    decided (Some b) s k = k b s

    abbrev pub condition : ℕ → Store V → (Bool → Store V → Act (shape V) A) → Act (shape V) A
    condition e s k = value e s (λ v s'. decided (env.values.truth v) s' k)

  -- ## Assignments

  abbrev pub assigned : Option BinaryOperator → ℕ → V → V → Store V → Act (shape V) (Flow V)
  assigned None place old v s = stored (assign env.values place v s.names) s
  assigned (Some op) place old v s =
      answered env (env.operators.binary s.stage op (read_first old) v) s (λ w s'. stored (write env.values place w s'.names) s')

  abbrev pub stepped : Cause → Cause → ℕ → Result V StepFault → Store V → Act (shape V) (Flow V)
  stepped overflow wrong place (Ok w) s = stored (write env.values place w s.names) s
  stepped overflow wrong place (Err Overflow) s = refuse overflow s
  stepped overflow wrong place (Err WrongType) s = refuse wrong s

  -- ## Branches

  abbrev pub otherwise : Option ℕ → Store V → Act (shape V) (Flow V)
  otherwise None s = end F.Next s
  otherwise (Some b) s = body b s

  abbrev pub clauses : List (ℕ × ℕ) → Option ℕ → Store V → Act (shape V) (Flow V)
  clauses [] o s = otherwise o s
  clauses (c ∷ cs) o s = condition c.0 s (elim [ true ↦ λ s'. body c.1 s' | false ↦ λ s'. clauses cs o s' ])

  -- Break ends a switch.
  abbrev pub broken : Flow V → Store V → Act (shape V) (Flow V)
  broken F.Next s = end F.Next s
  broken F.Break s = end F.Next s
  broken F.Continue s = end F.Continue s
  broken (F.Return v) s = end (F.Return v) s

  abbrev pub chosen : Option ℕ → Store V → Act (shape V) (Flow V)
  chosen None s = end F.Next s
  chosen (Some b) s = begin (block Regular None b) s broken

  -- A selector is converted to the subject's type, and told from it by the host.
  abbrev pub if_same : Result Bool HostFault → ℕ → Store V → (Store V → Act (shape V) (Flow V)) → Act (shape V) (Flow V)
  if_same (Err f) b s k = refuse (C.Host f) s
  if_same (Ok true) b s k = chosen (Some b) s
  if_same (Ok false) b s k = k s

  abbrev pub selector : Option V → V → ℕ → Store V → (Store V → Act (shape V) (Flow V)) → Act (shape V) (Flow V)
  selector None subject b s k = refuse C.Conversion s
  selector (Some v) subject b s k = if_same (env.operators.same v subject) b s k

  -- Selectors are tried in order, in Const; the default runs if none matches.
  abbrev pub selecting : V → List (ℕ × ℕ) → Option ℕ → Store V → Act (shape V) (Flow V)
  selecting subject [] kept s = chosen kept s
  selecting subject (c ∷ cs) kept s =
      cond (c.0 == 0) (selecting subject cs (kept_default kept c.1) s)
      (value_in Stages.Const c.0 s
      (λ v s'. selector (env.values.convert v (env.values.type_of subject)) subject c.1 s' (λ s''. selecting subject cs kept s'')))

  -- ## Loops

  -- A round of `loop` has a scope for its body and its continuing.
  abbrev pub after_continuing : Flow V → Store V → Act (shape V) (Flow V)
  after_continuing F.Next s = again (closing s)
  after_continuing F.Break s = end F.Next (closing s)
  after_continuing F.Continue s = again (closing s)
  after_continuing (F.Return v) s = end (F.Return v) (closing s)

  abbrev pub to_continuing : Option ℕ → Store V → Act (shape V) (Flow V)
  to_continuing None s = again (closing s)
  to_continuing (Some c) s = begin (continuing c) s after_continuing

  abbrev pub after_loop_body : Option ℕ → Flow V → Store V → Act (shape V) (Flow V)
  after_loop_body c F.Next s = to_continuing c s
  after_loop_body c F.Break s = end F.Next (closing s)
  after_loop_body c F.Continue s = to_continuing c s
  after_loop_body c (F.Return v) s = end (F.Return v) (closing s)

  -- Continuing has a scope for its body and its break-if; a body that leaves is refused.
  abbrev pub break_if : Option ℕ → Store V → Act (shape V) (Flow V)
  break_if None s = end F.Next (closing s)
  break_if (Some e) s = condition e s (elim [ true ↦ λ s'. end F.Break (closing s') | false ↦ λ s'. end F.Next (closing s') ])

  abbrev pub after_continuing_body : Option ℕ → Flow V → Store V → Act (shape V) (Flow V)
  after_continuing_body e F.Next s = break_if e s
  after_continuing_body e F.Break s = refuse C.FlowInContinuing s
  after_continuing_body e F.Continue s = refuse C.FlowInContinuing s
  after_continuing_body e (F.Return v) s = refuse C.FlowInContinuing s

  abbrev pub exec_continuing : ℕ → Option ℕ → Store V → Act (shape V) (Flow V)
  exec_continuing b e s = begin (block Leaking None b) (opening Scopes.Regular s) (after_continuing_body e)

  -- `for` has a scope of its own, in which its body is transparent.
  abbrev pub after_update : Flow V → Store V → Act (shape V) (Flow V)
  after_update flow s = again s

  abbrev pub update : Option ℕ → Store V → Act (shape V) (Flow V)
  update None s = again s
  update (Some u) s = begin (statement u) s after_update

  abbrev pub after_for_body : Option ℕ → Flow V → Store V → Act (shape V) (Flow V)
  after_for_body u F.Next s = update u s
  after_for_body u F.Break s = end F.Next (closing s)
  after_for_body u F.Continue s = update u s
  after_for_body u (F.Return v) s = end (F.Return v) (closing s)

  abbrev pub for_body : Option ℕ → ℕ → Store V → Act (shape V) (Flow V)
  for_body u b s = begin (block Transparent None b) s (after_for_body u)

  abbrev pub for_round : Option ℕ → Option ℕ → ℕ → Store V → Round (shape V) (Flow V)
  for_round (Some c) u b s =
      record {
        child = expression c;
        state = s;
        next = λ o s'. decided (env.values.truth (loaded o)) s' (elim [ true ↦ λ s''. for_body u b s'' | false ↦ λ s''. end F.Next (closing s'') ]);
      }
  for_round None u b s = record { child = block Transparent None b; state = s; next = after_for_body u }

  abbrev pub first_round : Option ℕ → Store V → Act (shape V) (Flow V)
  first_round (Some c) s = again s
  first_round None s = cond absent_condition (again s) (end F.Next (closing s))

  abbrev pub initialize : Option ℕ → Option ℕ → Store V → Act (shape V) (Flow V)
  initialize None c s = first_round c s
  initialize (Some i) c s = begin (statement i) s (λ flow s'. first_round c s')

  abbrev pub after_while_body : Flow V → Store V → Act (shape V) (Flow V)
  after_while_body F.Next s = again s
  after_while_body F.Break s = end F.Next s
  after_while_body F.Continue s = again s
  after_while_body (F.Return v) s = end (F.Return v) s

  abbrev pub while_round : ℕ → ℕ → Store V → Round (shape V) (Flow V)
  while_round c b s =
      record {
        child = expression c;
        state = s;
        next = λ o s'. decided (env.values.truth (loaded o)) s' (elim [ true ↦ λ s''. begin (block Regular None b) s'' after_while_body | false ↦ λ s''. end F.Next s'' ]);
      }

  abbrev pub loop_round : ℕ → Option ℕ → Store V → Round (shape V) (Flow V)
  loop_round b c s = record { child = block Leaking None b; state = opening Scopes.Regular s; next = after_loop_body c }

  -- ## Declarations

  -- The type of an initialized name: the written one, or that of the value, which only a const may have abstract.
  abbrev pub untyped : DeclarationKind → ℕ → ℕ
  untyped K.Const t = t
  untyped K.Let t = env.values.concretise t
  untyped K.Var t = env.values.concretise t

  abbrev pub declared_type : DeclarationKind → Option ℕ → V → ℕ
  declared_type kind (Some t) v = t
  declared_type kind None v = untyped kind (env.values.type_of v)

  abbrev pub declared : DeclarationKind → ℕ → Cause → Option V → Store V → Act (shape V) (Flow V)
  declared kind name otherwise None s = refuse otherwise s
  declared kind name otherwise (Some v) s = stored (bind name kind v s.names) s

  -- A const's initializer is evaluated in Const.
  abbrev pub initializer_stage : DeclarationKind → Stage → Stage
  initializer_stage K.Const stage = Stages.Const
  initializer_stage K.Let stage = stage
  initializer_stage K.Var stage = stage

  abbrev pub uninitialized : DeclarationKind → ℕ → ℕ → Store V → Act (shape V) (Flow V)
  uninitialized K.Const name t s = refuse C.UninitConst s
  uninitialized K.Let name t s = refuse C.UninitLet s
  uninitialized K.Var name t s = declared K.Var name C.NotConstructible (env.values.zero t) s

  abbrev pub initialized : DeclarationKind → ℕ → Option ℕ → Option ℕ → Store V → Act (shape V) (Flow V)
  initialized kind name ty (Some e) s =
      value_in (initializer_stage kind s.stage) e s
      (λ v s'. declared kind name C.Conversion (env.values.convert v (declared_type kind ty v)) s')
  initialized kind name None None s = refuse C.UntypedDecl s
  initialized kind name (Some t) None s = uninitialized kind name t s

  abbrev pub declaration : DeclarationKind → ℕ → Option ℕ → Option ℕ → Store V → Act (shape V) (Flow V)
  declaration kind name ty e s =
      cond (duplicate name s.names) (refuse (C.Name DuplicateDecl) s) (initialized kind name ty e s)

  -- ## Call statements

  abbrev pub call_statement : ℕ → Function → Store V → Act (shape V) (Flow V)
  call_statement e f s = cond f.must_use (refuse C.MustUse s) (begin (callee e) s (λ v s'. end F.Next s'))

  abbrev pub calling : ℕ → Option ℕ → Store V → Act (shape V) (Flow V)
  calling e None s = lost s
  calling e (Some name) s = if_found env (function_named env.words name) s (λ f. call_statement e f s)

  -- ## Statements

  abbrev pub exec : Statement → Store V → Act (shape V) (Flow V)
  exec T.Empty s = end F.Next s
  exec (T.Compound es) s = compound Regular es s
  exec (T.Assignment op l r) s =
      begin (expression l) s (λ o s'. reference o s' (λ place old s''. value r s'' (λ v t. assigned op place old v t)))
  exec (T.Increment e) s =
      begin (expression e) s (λ o s'. reference o s' (λ place v s''. stepped C.IncrOverflow C.IncrType place (env.operators.up v) s''))
  exec (T.Decrement e) s =
      begin (expression e) s (λ o s'. reference o s' (λ place v s''. stepped C.DecrOverflow C.DecrType place (env.operators.down v) s''))
  exec (T.If cs o) s = clauses cs o s
  exec (T.Switch e cs) s = value e s (λ v s'. selecting v cs None s')
  exec (T.Loop b c) s = again s
  exec (T.For i c u b) s = initialize i c (opening Scopes.Regular s)
  exec (T.While c b) s = again s
  exec T.Break s = end F.Break s
  exec T.Continue s = end F.Continue s
  exec (T.Return e) s = return e s
  exec T.Discard s = refuse C.DiscardInConst s
  exec (T.CallStatement e) s = calling e (called_by (entry_at env.words e)) s
  exec (T.ConstAssert e) s =
      value_in Stages.Const e s
      (λ v s'. decided (env.values.truth v) s' (elim [ true ↦ λ s''. end F.Next s'' | false ↦ λ s''. refuse C.ConstAssertFailure s'' ]))
  exec (T.Declaration kind name ty e) s = declaration kind name ty e s

  -- A round of a loop; no other statement asks for one.
  abbrev pub no_round : ℕ → Store V → Round (shape V) (Flow V)
  no_round e s = record { child = statement e; state = s; next = end }

  abbrev pub exec_round : ℕ → Statement → Store V → Round (shape V) (Flow V)
  exec_round e (T.Loop b c) s = loop_round b c s
  exec_round e (T.For i c u b) s = for_round c u b s
  exec_round e (T.While c b) s = while_round c b s
  exec_round e T.Empty s = no_round e s
  exec_round e (T.Compound es) s = no_round e s
  exec_round e (T.Assignment op l r) s = no_round e s
  exec_round e (T.Increment c) s = no_round e s
  exec_round e (T.Decrement c) s = no_round e s
  exec_round e (T.If cs o) s = no_round e s
  exec_round e (T.Switch c cs) s = no_round e s
  exec_round e T.Break s = no_round e s
  exec_round e T.Continue s = no_round e s
  exec_round e (T.Return c) s = no_round e s
  exec_round e T.Discard s = no_round e s
  exec_round e (T.CallStatement c) s = no_round e s
  exec_round e (T.ConstAssert c) s = no_round e s
  exec_round e (T.Declaration kind name ty c) s = no_round e s
