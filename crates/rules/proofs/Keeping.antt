-- Every run keeps the names: what is begun leaves the scopes, the stage and the names as they last, but for a declaration, which
-- adds its name; and at a fault the names from before are there, inside the scopes that are then open.
use Rattle.std.proofs.Common.{◌≡◌, ℕ, Bool, true, false, cond, not, ◌&&◌, eqb, List, [], ◌∷◌, ◌++◌, length, Some, None, Ok, Err, Option, Result, sym, refl, ◌∙◌, subst}
use Rattle.syntax.specs.declared.BinaryOperator.{BinaryOperator}
use Rattle.syntax.specs.declared.DeclarationKind.{DeclarationKind}
use Rattle.syntax.specs.declared.DeclarationKind.TheVariants as K
use Rattle.syntax.specs.declared.ShortCircuit.{ShortCircuit}
use Rattle.syntax.specs.declared.ShortCircuit.TheVariants.{And, Or}
use Rattle.host.specs.declared.HostFault.{HostFault}
use Rattle.host.specs.declared.Stage.{Stage}
use Rattle.host.specs.declared.Stage.TheVariants as Stages
use Rattle.host.specs.declared.StepFault.{StepFault}
use Rattle.host.specs.declared.StepFault.TheVariants.{Overflow, WrongType}
use Rattle.names.proofs.Laws.{gives_back}
use Rattle.names.specs.Laws.{Grown, Same}
use Rattle.names.specs.Rules.{assign, bind, bound, duplicate, lookup, write}
use Rattle.names.specs.State.{State}
use Rattle.names.specs.declared.binding.Found.{Found}
use Rattle.names.specs.declared.error.NameFault.{NameFault}
use Rattle.names.specs.declared.error.NameFault.TheVariants.{DuplicateDecl}
use Rattle.names.specs.declared.scope.ScopeKind.{ScopeKind}
use Rattle.names.specs.declared.scope.ScopeKind.TheVariants as Scopes
use Rattle.drive.specs.Act.{Act, Round, begin, end}
use Rattle.drive.proofs.Hoare.{outside_meets, run_meets}
use Rattle.drive.specs.Drive as D
use Rattle.drive.specs.Hoare.{Came, Claim, Goal, Keeps, Sound}
use Rattle.rules.specs.Eval.{answered, arguments, bind_all, bind_next, call, converted, enter_body, enter_converted, enter_function, eval, eval_callee, evaluated, function_named, if_found, is_const_stage, last, must_yield, name_found, returned, right, short_circuit, without_value, yielded}
use Rattle.rules.specs.Exec.{after_continuing, after_for_body, after_loop_body, after_while_body, assigned, break_if, broken, call_statement, calling, chosen, clauses, closed, compound, decided, declaration, declared, declared_type, exec, exec_continuing, exec_round, first_round, for_body, for_round, if_same, in_turn, initialize, initialized, initializer_stage, kept_default, otherwise, reference, return, selecting, selector, stepped, stored, to_continuing, uninitialized, update, while_round}
use Rattle.rules.specs.Calls.{deepest, ran_call, ran_entry}
use Rattle.rules.specs.Ledger.{declares}
use Rattle.rules.specs.Language.{act_of, as_block, as_callee, as_continuing, as_expression, as_statement, block_of, round_of, rules, statement_round}
use Rattle.rules.specs.Store.{Begun, Env, OutOf, Refusal, Store, astray, block, callee, closing, continuing, expression, loaded, named, opening, refuse, shape, staged, statement, value_in}
use Rattle.rules.specs.Tree.{Entry, Expression, Function, Statement, called_by, entry_at}
use Rattle.rules.specs.Tree as T
use Rattle.rules.specs.declared.error.Cause.{Cause}
use Rattle.rules.specs.declared.error.Cause.TheVariants as C
use Rattle.rules.specs.declared.flow.CompoundScope.{CompoundScope}
use Rattle.rules.specs.declared.flow.CompoundScope.TheVariants.{Regular, Transparent, Leaking}
use Rattle.rules.specs.declared.flow.Flow.{Flow}
use Rattle.rules.specs.declared.flow.Flow.TheVariants as F
use Rattle.rules.specs.declared.flow.Operand.{Operand}
use Rattle.rules.specs.declared.flow.Operand.TheVariants.{Value, Reference}
use Rattle.rules.proofs.Reaching.{Reaches, Tidy, grown_bound, grown_reaches, grown_refl, grown_trans, own, reaches_trans, same_grown, same_refl, same_tidy, same_trans, tidy_trans}
use Rattle.rules.proofs.Storing.{IfOk, assign-same, bind_adds, write_same}

module _ {V : Type 0} (env : Env V) where
  -- ## How the store stands to that at the beginning

  -- the same names as they last, and the same stage
  pub record At (s t : Store V) : Type 0 where
    pub names : Same env.values s.names t.names
    pub stage : t.stage ≡ s.stage

  -- perhaps more names
  pub record More (s t : Store V) : Type 0 where
    pub names : Grown env.values s.names t.names
    pub stage : t.stage ≡ s.stage

  -- one name more
  pub record Added (kind : DeclarationKind) (name : ℕ) (s t : Store V) : Type 0 where
    pub value : V
    pub before : State V
    pub same : Same env.values s.names before
    pub names : t.names ≡ bound (record { name = name; kind = kind; value = value }) before
    pub stage : t.stage ≡ s.stage

  abbrev pub Stated : Option (DeclarationKind × ℕ) → Store V → Store V → Type 0
  Stated None s t = At s t
  Stated (Some d) s t = Added d.0 d.1 s t

  abbrev Untidy : Store V → Store V → Type 0
  Untidy s t = Reaches env.values s.names t.names

  abbrev Kept : Store V → Store V → Type 0
  Kept s t = Tidy env.values s.names t.names

  at-refl : (s : Store V) → At s s
  at-refl s = record { names = same_refl s.names; stage = refl }

  at_trans : {s t u : Store V} → At s t → At t u → At s u
  at_trans a b = record { names = same_trans a.names b.names; stage = b.stage ∙ a.stage }

  at_more : {s t : Store V} → At s t → More s t
  at_more a = record { names = same_grown a.names; stage = a.stage }

  more_trans : {s t u : Store V} → More s t → More t u → More s u
  more_trans a b = record { names = grown_trans a.names b.names; stage = b.stage ∙ a.stage }

  added_more : {kind : DeclarationKind} {name : ℕ} {s t : Store V} → Added kind name s t → More s t
  added_more {kind} {name} {s} {t} a =
      record {
        names = subst (Grown env.values s.names) (sym a.names) (grown_trans (same_grown a.same) (grown_bound a.before _));
        stage = a.stage;
      }

  stated_more : (d : Option (DeclarationKind × ℕ)) {s t : Store V} → Stated d s t → More s t
  stated_more None a = at_more a
  stated_more (Some d) a = added_more a

  -- ## The claim

  -- before another round: `for` has its scope open
  abbrev goes_in : Statement → Store V → Store V → Type 0
  goes_in (T.Loop b c) s t = At s t
  goes_in (T.While c b) s t = At s t
  goes_in (T.For i c u b) s t = More (opening Scopes.Regular s) t
  goes_in T.Empty s t = ⊥
  goes_in (T.Compound es) s t = ⊥
  goes_in (T.Assignment op l r) s t = ⊥
  goes_in (T.Increment c) s t = ⊥
  goes_in (T.Decrement c) s t = ⊥
  goes_in (T.If cs o) s t = ⊥
  goes_in (T.Switch c cs) s t = ⊥
  goes_in T.Break s t = ⊥
  goes_in T.Continue s t = ⊥
  goes_in (T.Return c) s t = ⊥
  goes_in T.Discard s t = ⊥
  goes_in (T.CallStatement c) s t = ⊥
  goes_in (T.ConstAssert c) s t = ⊥
  goes_in (T.Declaration kind name ty e) s t = ⊥

  abbrev goes_at : Entry → Store V → Store V → Type 0
  goes_at (T.statement x) s t = goes_in x s t
  goes_at (T.unit cs) s t = ⊥
  goes_at (T.continuing b c) s t = ⊥
  goes_at (T.expression x) s t = ⊥
  goes_at (T.function f) s t = ⊥
  goes_at T.absent s t = ⊥

  abbrev pub statement_goal : Entry → Store V → Goal (Flow V) Refusal (Store V)
  statement_goal x s = record { Ends = λ o t. Stated (declares x) s t; Fails = λ n t. Kept s t; Goes = λ t. goes_at x s t }

  abbrev pub tidy_goal : (A : Type 0) → Store V → Goal A Refusal (Store V)
  tidy_goal A s = record { Ends = λ o t. At s t; Fails = λ n t. Kept s t; Goes = λ t. ⊥ }

  abbrev leaking_goal : Store V → Goal (Flow V) Refusal (Store V)
  leaking_goal s = record { Ends = λ o t. More s t; Fails = λ n t. Untidy s t; Goes = λ t. ⊥ }

  abbrev block_goal : CompoundScope → Store V → Goal (Flow V) Refusal (Store V)
  block_goal Regular s = tidy_goal (Flow V) s
  block_goal Transparent s = tidy_goal (Flow V) s
  block_goal Leaking s = leaking_goal s

  abbrev goal_of : (c : Begun) → Store V → Goal (OutOf V c) Refusal (Store V)
  goal_of (statement e) s = statement_goal (entry_at env.words e) s
  goal_of (block scope f e) s = block_goal scope s
  goal_of (continuing e) s = tidy_goal (Flow V) s
  goal_of (expression e) s = tidy_goal (Operand V) s
  goal_of (callee e) s = tidy_goal (Option V) s

  abbrev pub keeping : Claim (shape V)
  keeping = record { Pre = λ c s. Unit {0}; goal = goal_of }

  -- ## Where an act stands

  -- What is known of the store, how a fault from there fails, and that a child that keeps the names leaves it known.
  record Position {A : Type 0} (g : Goal A Refusal (Store V)) : Type 1 where
    pub Known : Store V → Type 0
    pub fails : (n : Refusal) (s t : Store V) → Known s → Kept s t → g.Fails n t
    pub moves : (s t : Store V) → Known s → At s t → Known t

  module _ {A : Type 0} {g : Goal A Refusal (Store V)} (p : Position g) where
    stops : (n : Refusal) (s : Store V) → p.Known s → g.Fails n s
    stops n s k = p.fails n s s k (same_tidy (same_refl s.names))

    -- a child's value is taken; X is what is to be shown then
    value_keeps : (s : Store V) → p.Known s → {X : Operand V → Store V → Type 0} → ((o : Operand V) (t : Store V) → p.Known t → X o t)
        → Unit {0} × ((n : Refusal) (t : Store V) → Kept s t → g.Fails n t) × ((o : Operand V) (t : Store V) → At s t → X o t)
    value_keeps s r on = (tt, (λ n t h. p.fails n s t r h), λ o t h. on o t (p.moves s t r h))

    -- in another stage
    value_in_keeps : (stage : Stage) (s : Store V) → p.Known s → {X : Operand V → Store V → Type 0} → ((o : Operand V) (t : Store V) → p.Known (staged s.stage t) → X o t)
        → Unit {0} × ((n : Refusal) (t : Store V) → Kept s t → g.Fails n t) × ((o : Operand V) (t : Store V) → At (staged stage s) t → X o t)
    value_in_keeps stage s r on =
        (tt, (λ n t h. p.fails n s t r h), λ o t h. on o t (p.moves s (staged s.stage t) r (record { names = h.names; stage = refl })))

    answered_keeps : (x : Result V HostFault) (s : Store V) (k : V → Store V → Act (shape V) A) → p.Known s
        → ((v : V) → Keeps keeping g (k v s)) → Keeps keeping g (answered env x s k)
    answered_keeps (Ok v) s k r on = on v
    answered_keeps (Err f) s k r on = stops _ s r

    decided_keeps : (x : Option Bool) (s : Store V) (k : Bool → Store V → Act (shape V) A) → p.Known s
        → ((b : Bool) → Keeps keeping g (k b s)) → Keeps keeping g (decided env x s k)
    decided_keeps None s k r on = stops _ s r
    decided_keeps (Some b) s k r on = on b

    arguments_keeps : (es : List ℕ) (vs : List V) (s : Store V) (k : List V → Store V → Act (shape V) A) → p.Known s
        → ((ws : List V) (t : Store V) → p.Known t → Keeps keeping g (k ws t)) → Keeps keeping g (arguments env es vs s k)
    arguments_keeps [] vs s k r on = on vs s r
    arguments_keeps (e ∷ es) vs s k r on = value_keeps s r (λ o t q. arguments_keeps es (vs ++ loaded o ∷ []) t k q on)

    -- a scope opened here
    abbrev nest : (kind : ScopeKind) (s : Store V) → p.Known s → Position g
    nest kind s r =
        record {
          Known = λ t. More (opening kind s) t;
          fails = λ n t u h k. p.fails n s u r (own kind s.names u.names (reaches_trans (grown_reaches h.names) k.reaches));
          moves = λ t u h k. more_trans h (at_more k);
        }

    nest_loose : (kind : ScopeKind) (s : Store V) (r : p.Known s) (n : Refusal) (t u : Store V) → More (opening kind s) t → Untidy t u → g.Fails n u
    nest_loose kind s r n t u h k = p.fails n s u r (own kind s.names u.names (reaches_trans (grown_reaches h.names) k))

    -- and closed again
    back : (kind : ScopeKind) (s t : Store V) → p.Known s → More (opening kind s) t → p.Known (closing t)
    back kind s t r h = p.moves s (closing t) r (record { names = gives_back kind s.names env.values t.names h.names; stage = h.stage })

    -- ## Calls

    module _ (k : Option V → Store V → Act (shape V) A) (on : (o : Option V) (t : Store V) → p.Known t → Keeps keeping g (k o t)) where
      returned_keeps : (o : Option V) (name : ℕ) (t : Store V) → p.Known t → Keeps keeping g (returned env o name t k)
      returned_keeps None name t r = stops _ t r
      returned_keeps (Some v) name t r = on (Some v) t r

      without_value_keeps : (ty : Option ℕ) (t : Store V) → p.Known t → Keeps keeping g (without_value env ty t k)
      without_value_keeps None t r = on None t r
      without_value_keeps (Some ty) t r = stops _ t r

      yielded_keeps : (flow : Flow V) (ty : Option ℕ) (name : ℕ) (t : Store V) → p.Known t → Keeps keeping g (yielded env flow ty name t k)
      yielded_keeps F.Next ty name t r = without_value_keeps ty t r
      yielded_keeps F.Break ty name t r = stops _ t r
      yielded_keeps F.Continue ty name t r = stops _ t r
      yielded_keeps (F.Return None) ty name t r = without_value_keeps ty t r
      yielded_keeps (F.Return (Some v)) None name t r = stops _ t r
      yielded_keeps (F.Return (Some v)) (Some ty) name t r = returned_keeps (env.values.convert v ty) name t r

      module _ (f : Function) (s : Store V) (r : p.Known s) where
        body_keeps : (t : Store V) → More (opening Scopes.Call s) t → Keeps keeping g (enter_body env f t k)
        body_keeps t h =
            (tt, (λ n u q. (nest Scopes.Call s r).fails n t u h q), λ flow u q. yielded_keeps flow f.ty f.name (closing u) (back Scopes.Call s u r (more_trans h (at_more q))))

        bind_all_keeps : (ps : List (ℕ × ℕ)) (vs : List V) (t : Store V) → More (opening Scopes.Call s) t → Keeps keeping g (bind_all env ps vs t (λ t'. enter_body env f t' k))
        bind_all_keeps [] vs t h = body_keeps t h
        bind_all_keeps (q ∷ ps) [] t h = body_keeps t h
        bind_all_keeps (q ∷ ps) (v ∷ vs) t h =
            next (bind q.0 K.Let v t.names) (bind_adds q.0 K.Let v t.names) (λ t' h'. bind_all_keeps ps vs t' h')
          where
            next : (x : Result (State V) NameFault) → IfOk (λ n. n ≡ bound (record { name = q.0; kind = K.Let; value = v }) t.names) x
                → ((t' : Store V) → More (opening Scopes.Call s) t' → Keeps keeping g (bind_all env ps vs t' (λ t''. enter_body env f t'' k)))
                → Keeps keeping g (bind_next env x t (λ t'. bind_all env ps vs t' (λ t''. enter_body env f t'' k)))
            next (Err e) ok rest = (nest Scopes.Call s r).fails _ t t h (same_tidy (same_refl t.names))
            next (Ok n) ok rest =
                rest (named n t)
                (more_trans h (record { names = subst (Grown env.values t.names) (sym ok) (grown_bound t.names _); stage = refl }))

        enter_converted_keeps : (o : Option (List V)) → Keeps keeping g (enter_converted env f o (opening Scopes.Call s) k)
        enter_converted_keeps None = (nest Scopes.Call s r).fails _ (opening Scopes.Call s) (opening Scopes.Call s) (record { names = grown_refl _; stage = refl }) (same_tidy (same_refl _))
        enter_converted_keeps (Some vs) = bind_all_keeps f.parameters vs (opening Scopes.Call s) (record { names = grown_refl _; stage = refl })

        counted : (vs : List V) (b : Bool) → Keeps keeping g (cond b (enter_converted env f (converted env f.parameters vs) (opening Scopes.Call s) k) (refuse C.ParamCount s))
        counted vs true = enter_converted_keeps (converted env f.parameters vs)
        counted vs false = stops _ s r

        enter_function_keeps : (vs : List V) → Keeps keeping g (enter_function env f vs s k)
        enter_function_keeps vs = staged_in (is_const_stage s.stage && not f.is_const)
          where
            staged_in : (b : Bool) → Keeps keeping g (cond b (refuse C.NotConst s) (cond (eqb (length vs) (length f.parameters)) (enter_converted env f (converted env f.parameters vs) (opening Scopes.Call s) k) (refuse C.ParamCount s)))
            staged_in true = stops _ s r
            staged_in false = counted vs (eqb (length vs) (length f.parameters))

      call_keeps : (name : ℕ) (vs : List V) (s : Store V) → p.Known s → Keeps keeping g (call env name vs s k)
      call_keeps name vs s r = found (function_named env.words name)
        where
          found : (o : Option Function) → Keeps keeping g (if_found env o s (λ f. enter_function env f vs s k))
          found None = stops _ s r
          found (Some f) = enter_function_keeps f s r vs

  -- ## Expressions

  abbrev here : (A : Type 0) (s₀ : Store V) → Position (tidy_goal A s₀)
  here A s₀ = record { Known = λ s. At s₀ s; fails = λ n s t h k. tidy_trans (same_tidy h.names) k; moves = λ s t h k. at_trans h k }

  module _ (s₀ : Store V) where
    stopped : {s : Store V} → At s₀ s → Kept s₀ s
    stopped h = same_tidy h.names

    stopped_in : (kind : ScopeKind) {s : Store V} → More (opening kind s₀) s → Kept s₀ s
    stopped_in kind {s} h = own kind s₀.names s.names (grown_reaches h.names)

    abbrev operand : Goal (Operand V) Refusal (Store V)
    operand = tidy_goal (Operand V) s₀

    last_keeps : (o : Option Bool) (v : V) (s : Store V) → At s₀ s → Keeps keeping operand (last env o v s)
    last_keeps None v s h = stopped h
    last_keeps (Some b) v s h = h

    right_keeps : (e : ℕ) (s : Store V) → At s₀ s → Keeps keeping operand (right env e s)
    right_keeps e s h = value_keeps (here (Operand V) s₀) s h (λ o t q. last_keeps (env.values.truth (loaded o)) (loaded o) t q)

    short_circuit_keeps : (op : ShortCircuit) (o : Option Bool) (v : V) (r : ℕ) (s : Store V) → At s₀ s → Keeps keeping operand (short_circuit env op o v r s)
    short_circuit_keeps And None v r s h = stopped h
    short_circuit_keeps Or None v r s h = stopped h
    short_circuit_keeps And (Some true) v r s h = right_keeps r s h
    short_circuit_keeps And (Some false) v r s h = h
    short_circuit_keeps Or (Some true) v r s h = h
    short_circuit_keeps Or (Some false) v r s h = right_keeps r s h

    name_found_keeps : (x : Result (Found V) NameFault) → Keeps keeping operand (name_found env x s₀)
    name_found_keeps (Ok x) = at-refl s₀
    name_found_keeps (Err f) = stopped (at-refl s₀)

    must_yield_keeps : (o : Option V) (t : Store V) → At s₀ t → Keeps keeping operand (must_yield env o t)
    must_yield_keeps None t h = stopped h
    must_yield_keeps (Some v) t h = h

    eval_keeps : (x : Expression) → Keeps keeping operand (eval env x s₀)
    eval_keeps (T.Literal kind words) =
        answered_keeps (here (Operand V) s₀) (env.operators.literal kind words) s₀ (evaluated env) (at-refl s₀) (λ v. at-refl s₀)
    eval_keeps (T.Parenthesized e) = (tt, (λ n t h. h), λ o t h. h)
    eval_keeps (T.Unary op e) =
        value_keeps (here (Operand V) s₀) s₀ (at-refl s₀)
        (λ o t h. answered_keeps (here (Operand V) s₀) (env.operators.unary t.stage op (loaded o)) t (evaluated env) h (λ w. h))
    eval_keeps (T.Binary op l r) =
        value_keeps (here (Operand V) s₀) s₀ (at-refl s₀)
        (λ a s h. value_keeps (here (Operand V) s₀) s h
        (λ b t k. answered_keeps (here (Operand V) s₀) (env.operators.binary t.stage op (loaded a) (loaded b)) t (evaluated env) k (λ w. k)))
    eval_keeps (T.ShortCircuit op l r) =
        value_keeps (here (Operand V) s₀) s₀ (at-refl s₀) (λ a s h. short_circuit_keeps op (env.values.truth (loaded a)) (loaded a) r s h)
    eval_keeps (T.Name name) = name_found_keeps (lookup name s₀.names)
    eval_keeps (T.Call name es) =
        arguments_keeps (here (Operand V) s₀) es [] s₀ (λ vs t. call env name vs t (must_yield env)) (at-refl s₀)
        (λ vs t h. call_keeps (here (Operand V) s₀) (must_yield env) must_yield_keeps name vs t h)

    eval_callee_keeps : (x : Expression) → Keeps keeping (tidy_goal (Option V) s₀) (eval_callee env x s₀)
    eval_callee_keeps (T.Call name es) =
        arguments_keeps (here (Option V) s₀) es [] s₀ (λ vs t. call env name vs t end) (at-refl s₀) (λ vs t h. call_keeps (here (Option V) s₀) end (λ o u k. k) name vs t h)
    eval_callee_keeps (T.Literal kind words) = stopped (at-refl s₀)
    eval_callee_keeps (T.Parenthesized e) = stopped (at-refl s₀)
    eval_callee_keeps (T.Unary op e) = stopped (at-refl s₀)
    eval_callee_keeps (T.Binary op l r) = stopped (at-refl s₀)
    eval_callee_keeps (T.ShortCircuit op l r) = stopped (at-refl s₀)
    eval_callee_keeps (T.Name name) = stopped (at-refl s₀)

    -- ## Lists and bodies

    in_turn_keeps : (kind : ScopeKind) (scope : CompoundScope) → ((t : Store V) → closed scope t ≡ closing t) → (es : List ℕ) (s : Store V)
        → More (opening kind s₀) s → Keeps keeping (tidy_goal (Flow V) s₀) (in_turn scope es s)
    in_turn_keeps kind scope closes [] s h = subst (At s₀) (sym (closes s)) (back (here (Flow V) s₀) kind s₀ s (at-refl s₀) h)
    in_turn_keeps kind scope closes (e ∷ es) s h = (
      tt,
      (λ n t k. (nest (here (Flow V) s₀) kind s₀ (at-refl s₀)).fails n s t h k),
      elim [
        | F.Next ↦ λ t k. in_turn_keeps kind scope closes es t (more_trans h (stated_more (declares (entry_at env.words e)) k))
        | F.Break ↦ λ t k. ended t k
        | F.Continue ↦ λ t k. ended t k
        | F.Return v ↦ λ t k. ended t k
      ],
    )
      where
        ended : (t : Store V) → Stated (declares (entry_at env.words e)) s t → At s₀ (closed scope t)
        ended t k = subst (At s₀) (sym (closes t)) (back (here (Flow V) s₀) kind s₀ t (at-refl s₀) (more_trans h (stated_more (declares (entry_at env.words e)) k)))

    leaking_keeps : (es : List ℕ) (s : Store V) → More s₀ s → Keeps keeping (leaking_goal s₀) (in_turn Leaking es s)
    leaking_keeps [] s h = h
    leaking_keeps (e ∷ es) s h = (
      tt,
      (λ n t k. reaches_trans (grown_reaches h.names) k.reaches),
      elim [
        | F.Next ↦ λ t k. leaking_keeps es t (more_trans h (stated_more (declares (entry_at env.words e)) k))
        | F.Break ↦ λ t k. more_trans h (stated_more (declares (entry_at env.words e)) k)
        | F.Continue ↦ λ t k. more_trans h (stated_more (declares (entry_at env.words e)) k)
        | F.Return v ↦ λ t k. more_trans h (stated_more (declares (entry_at env.words e)) k)
      ],
    )

    opened_here : (kind : ScopeKind) → More (opening kind s₀) (opening kind s₀)
    opened_here kind = record { names = grown_refl _; stage = refl }

    compound_keeps : (scope : CompoundScope) (es : List ℕ) → Keeps keeping (block_goal scope s₀) (compound scope es s₀)
    compound_keeps Regular es = in_turn_keeps Scopes.Regular Regular (λ t. refl) es (opening Scopes.Regular s₀) (opened_here Scopes.Regular)
    compound_keeps Transparent es = in_turn_keeps Scopes.Transparent Transparent (λ t. refl) es (opening Scopes.Transparent s₀) (opened_here Scopes.Transparent)
    compound_keeps Leaking es = leaking_keeps es s₀ (at_more (at-refl s₀))

    -- ## Continuing

    break_if_keeps : (o : Option ℕ) (s : Store V) → More (opening Scopes.Regular s₀) s → Keeps keeping (tidy_goal (Flow V) s₀) (break_if env o s)
    break_if_keeps None s h = back (here (Flow V) s₀) Scopes.Regular s₀ s (at-refl s₀) h
    break_if_keeps (Some e) s h =
        let p = nest (here (Flow V) s₀) Scopes.Regular s₀ (at-refl s₀) in
        value_keeps p s h
        (λ o t k. decided_keeps p (env.values.truth (loaded o)) t _ k
        (elim [ true ↦ back (here (Flow V) s₀) Scopes.Regular s₀ t (at-refl s₀) k | false ↦ back (here (Flow V) s₀) Scopes.Regular s₀ t (at-refl s₀) k ]))

    exec_continuing_keeps : (b : ℕ) (o : Option ℕ) → Keeps keeping (tidy_goal (Flow V) s₀) (exec_continuing env b o s₀)
    exec_continuing_keeps b o = (
      tt,
      (λ n t k. nest_loose (here (Flow V) s₀) Scopes.Regular s₀ (at-refl s₀) n (opening Scopes.Regular s₀) t (opened_here Scopes.Regular) k),
      elim [
        | F.Next ↦ λ t k. break_if_keeps o t k
        | F.Break ↦ λ t k. stopped_in Scopes.Regular k
        | F.Continue ↦ λ t k. stopped_in Scopes.Regular k
        | F.Return v ↦ λ t k. stopped_in Scopes.Regular k
      ],
    )

  -- ## Statements

  -- A goal of a statement that declares nothing.
  module _ (s₀ : Store V) (g : Goal (Flow V) Refusal (Store V)) (fails : (n : Refusal) (t : Store V) → Kept s₀ t → g.Fails n t) (ends : (o : Flow V) (t : Store V) → At s₀ t → g.Ends o t) where
    abbrev plain : Position g
    plain =
        record {
          Known = λ s. At s₀ s;
          fails = λ n s t h k. fails n t (tidy_trans (same_tidy h.names) k);
          moves = λ s t h k. at_trans h k;
        }

    stored_keeps : (x : Result (State V) NameFault) (s : Store V) → At s₀ s → IfOk (Same env.values s.names) x → Keeps keeping g (stored x s)
    stored_keeps (Err f) s h ok = stops plain _ s h
    stored_keeps (Ok n) s h ok = ends F.Next (named n s) (at_trans h (record { names = ok; stage = refl }))

    reference_keeps : (o : Operand V) (s : Store V) (k : ℕ → V → Store V → Act (shape V) (Flow V)) → At s₀ s → ((place : ℕ) (v : V) → Keeps keeping g (k place v s)) → Keeps keeping g (reference o s k)
    reference_keeps (Value v) s k h on = stops plain _ s h
    reference_keeps (Reference place v) s k h on = on place v

    assigned_keeps : (op : Option BinaryOperator) (place : ℕ) (old v : V) (s : Store V) → At s₀ s → Keeps keeping g (assigned env op place old v s)
    assigned_keeps None place old v s h = stored_keeps (assign env.values place v s.names) s h (assign-same env.values place s.names v)
    assigned_keeps (Some op) place old v s h =
        answered_keeps plain (env.operators.binary s.stage op old v) s _ h
        (λ w. stored_keeps (write env.values place w s.names) s h (write_same env.values place s.names w))

    stepped_keeps : (overflow wrong : Cause) (place : ℕ) (x : Result V StepFault) (s : Store V) → At s₀ s → Keeps keeping g (stepped env overflow wrong place x s)
    stepped_keeps overflow wrong place (Ok w) s h = stored_keeps (write env.values place w s.names) s h (write_same env.values place s.names w)
    stepped_keeps overflow wrong place (Err Overflow) s h = stops plain _ s h
    stepped_keeps overflow wrong place (Err WrongType) s h = stops plain _ s h

    abbrev Tried : Store V → (Flow V → Store V → Type 0) → Type 0
    Tried s X = Unit {0} × ((n : Refusal) (t : Store V) → Kept s t → g.Fails n t) × ((o : Flow V) (t : Store V) → At s t → X o t)

    -- a body in a scope of its own
    block_keeps : (s : Store V) → At s₀ s → {X : Flow V → Store V → Type 0} → ((o : Flow V) (t : Store V) → At s₀ t → X o t) → Tried s X
    block_keeps s h on = (tt, (λ n t k. plain.fails n s t h k), λ o t k. on o t (at_trans h k))

    otherwise_keeps : (o : Option ℕ) (s : Store V) → At s₀ s → Keeps keeping g (otherwise env o s)
    otherwise_keeps None s h = ends F.Next s h
    otherwise_keeps (Some b) s h = block_keeps s h (λ o t k. ends o t k)

    clauses_keeps : (cs : List (ℕ × ℕ)) (o : Option ℕ) (s : Store V) → At s₀ s → Keeps keeping g (clauses env cs o s)
    clauses_keeps [] o s h = otherwise_keeps o s h
    clauses_keeps (c ∷ cs) o s h =
        value_keeps plain s h
        (λ v t k. decided_keeps plain (env.values.truth (loaded v)) t _ k
        (elim [ true ↦ block_keeps t k (λ f u q. ends f u q) | false ↦ clauses_keeps cs o t k ]))

    broken_keeps : (f : Flow V) (s : Store V) → At s₀ s → Keeps keeping g (broken env f s)
    broken_keeps F.Next s h = ends F.Next s h
    broken_keeps F.Break s h = ends F.Next s h
    broken_keeps F.Continue s h = ends F.Continue s h
    broken_keeps (F.Return v) s h = ends (F.Return v) s h

    chosen_keeps : (o : Option ℕ) (s : Store V) → At s₀ s → Keeps keeping g (chosen env o s)
    chosen_keeps None s h = ends F.Next s h
    chosen_keeps (Some b) s h = block_keeps s h (λ f t k. broken_keeps f t k)

    if_same_keeps : (x : Result Bool HostFault) (b : ℕ) (s : Store V) (k : Store V → Act (shape V) (Flow V)) → At s₀ s → Keeps keeping g (k s) → Keeps keeping g (if_same env x b s k)
    if_same_keeps (Err f) b s k h on = stops plain _ s h
    if_same_keeps (Ok true) b s k h on = chosen_keeps (Some b) s h
    if_same_keeps (Ok false) b s k h on = on

    selector_keeps : (o : Option V) (subject : V) (b : ℕ) (s : Store V) (k : Store V → Act (shape V) (Flow V)) → At s₀ s → Keeps keeping g (k s) → Keeps keeping g (selector env o subject b s k)
    selector_keeps None subject b s k h on = stops plain _ s h
    selector_keeps (Some v) subject b s k h on = if_same_keeps (env.operators.same v subject) b s k h on

    selecting_keeps : (v : V) (cs : List (ℕ × ℕ)) (kept : Option ℕ) (s : Store V) → At s₀ s → Keeps keeping g (selecting env v cs kept s)
    selecting_keeps v [] kept s h = chosen_keeps kept s h
    selecting_keeps v (c ∷ cs) kept s h =
        clause (eqb c.0 0) (selecting_keeps v cs (kept_default kept c.1) s h) (λ t k. selecting_keeps v cs kept t k)
      where
        clause : (b : Bool) → Keeps keeping g (selecting env v cs (kept_default kept c.1) s) → ((t : Store V) → At s₀ t → Keeps keeping g (selecting env v cs kept t))
            → Keeps keeping g (cond b (selecting env v cs (kept_default kept c.1) s)
            (value_in Stages.Const c.0 s (λ w s'. selector env (env.values.convert w (env.values.type_of v)) v c.1 s' (λ s''. selecting env v cs kept s''))))
        clause true a b = a
        clause false a b =
            value_in_keeps plain Stages.Const s h
            (λ o t k. selector_keeps (env.values.convert (loaded o) (env.values.type_of v)) v c.1 (staged s.stage t) (λ s''. selecting env v cs kept s'') k (b (staged s.stage t) k))

    return_keeps : (o : Option ℕ) (s : Store V) → At s₀ s → Keeps keeping g (return o s)
    return_keeps None s h = ends (F.Return None) s h
    return_keeps (Some e) s h = value_keeps plain s h (λ v t k. ends (F.Return (Some (loaded v))) t k)

    calling_keeps : (e : ℕ) (o : Option ℕ) (s : Store V) → At s₀ s → Keeps keeping g (calling env e o s)
    calling_keeps e None s h = stops plain _ s h
    calling_keeps e (Some name) s h = found (function_named env.words name)
      where
        used : (f : Function) (b : Bool) → Keeps keeping g (cond b (refuse C.MustUse s) (begin (callee e) s (λ v s'. end F.Next s')))
        used f true = stops plain _ s h
        used f false = (tt, (λ n t k. plain.fails n s t h k), λ o t k. ends F.Next t (at_trans h k))

        found : (o : Option Function) → Keeps keeping g (if_found env o s (λ f. call_statement env e f s))
        found None = stops plain _ s h
        found (Some f) = used f f.must_use

    assert_keeps : (e : ℕ) → Keeps keeping g (exec env (T.ConstAssert e) s₀)
    assert_keeps e =
        value_in_keeps plain Stages.Const s₀ (at-refl s₀)
        (λ v t k. decided_keeps plain (env.values.truth (loaded v)) (staged s₀.stage t) _ k
        (elim [ true ↦ ends F.Next (staged s₀.stage t) k | false ↦ stops plain _ (staged s₀.stage t) k ]))

    -- ## Rounds of loops, from a store with the names that were there
    module _ (goes : (t : Store V) → At s₀ t → g.Goes t) (s : Store V) (h : At s₀ s) where
      abbrev inside : Store V → Type 0
      inside t = More (opening Scopes.Regular s) t

      out : (t : Store V) → inside t → At s₀ (closing t)
      out t k = back plain Scopes.Regular s t h k

      after_continuing_keeps : (f : Flow V) (t : Store V) → inside t → Keeps keeping g (after_continuing env f t)
      after_continuing_keeps F.Next t k = goes (closing t) (out t k)
      after_continuing_keeps F.Break t k = ends F.Next (closing t) (out t k)
      after_continuing_keeps F.Continue t k = goes (closing t) (out t k)
      after_continuing_keeps (F.Return v) t k = ends (F.Return v) (closing t) (out t k)

      to_continuing_keeps : (c : Option ℕ) (t : Store V) → inside t → Keeps keeping g (to_continuing env c t)
      to_continuing_keeps None t k = goes (closing t) (out t k)
      to_continuing_keeps (Some c) t k =
          (tt, (λ n u q. (nest plain Scopes.Regular s h).fails n t u k q), λ f u q. after_continuing_keeps f u (more_trans k (at_more q)))

      loop_round_keeps : (b : ℕ) (c : Option ℕ) → Keeps keeping g (begin (block Leaking None b) (opening Scopes.Regular s) (after_loop_body env c))
      loop_round_keeps b c = (
        tt,
        (λ n t k. nest_loose plain Scopes.Regular s h n (opening Scopes.Regular s) t (opened_here s Scopes.Regular) k),
        elim [
          | F.Next ↦ λ t k. to_continuing_keeps c t k
          | F.Break ↦ λ t k. ends F.Next (closing t) (out t k)
          | F.Continue ↦ λ t k. to_continuing_keeps c t k
          | F.Return v ↦ λ t k. ends (F.Return v) (closing t) (out t k)
        ],
      )

      while_body_keeps : (f : Flow V) (t : Store V) → At s₀ t → Keeps keeping g (after_while_body env f t)
      while_body_keeps F.Next t k = goes t k
      while_body_keeps F.Break t k = ends F.Next t k
      while_body_keeps F.Continue t k = goes t k
      while_body_keeps (F.Return v) t k = ends (F.Return v) t k

      while_round_keeps : (c b : ℕ) → Keeps keeping g (begin (expression c) s (while_round env c b s).next)
      while_round_keeps c b =
          value_keeps plain s h
          (λ v t k. decided_keeps plain (env.values.truth (loaded v)) t _ k
          (elim [ true ↦ block_keeps t k (λ f u q. while_body_keeps f u q) | false ↦ ends F.Next t k ]))

    -- ## `for`, inside its own scope
    module _ (goes : (t : Store V) → More (opening Scopes.Regular s₀) t → g.Goes t) where
      abbrev within : Position g
      within = nest plain Scopes.Regular s₀ (at-refl s₀)

      left : (t : Store V) → More (opening Scopes.Regular s₀) t → At s₀ (closing t)
      left t k = back plain Scopes.Regular s₀ t (at-refl s₀) k

      update_keeps : (u : Option ℕ) (s : Store V) → More (opening Scopes.Regular s₀) s → Keeps keeping g (update env u s)
      update_keeps None s h = goes s h
      update_keeps (Some u) s h =
          (tt, (λ n t k. within.fails n s t h k), λ f t k. goes t (more_trans h (stated_more (declares (entry_at env.words u)) k)))

      after_for_body_keeps : (u : Option ℕ) (f : Flow V) (s : Store V) → More (opening Scopes.Regular s₀) s → Keeps keeping g (after_for_body env u f s)
      after_for_body_keeps u F.Next s h = update_keeps u s h
      after_for_body_keeps u F.Break s h = ends F.Next (closing s) (left s h)
      after_for_body_keeps u F.Continue s h = update_keeps u s h
      after_for_body_keeps u (F.Return v) s h = ends (F.Return v) (closing s) (left s h)

      for_body_keeps : (u : Option ℕ) (b : ℕ) (s : Store V) → More (opening Scopes.Regular s₀) s → Keeps keeping g (for_body env u b s)
      for_body_keeps u b s h =
          (tt, (λ n t k. within.fails n s t h k), λ f t k. after_for_body_keeps u f t (more_trans h (at_more k)))

      for_round_keeps : (c u : Option ℕ) (b : ℕ) (s : Store V) → More (opening Scopes.Regular s₀) s
          → Keeps keeping g (begin (for_round env c u b s).child (for_round env c u b s).state (for_round env c u b s).next)
      for_round_keeps None u b s h = for_body_keeps u b s h
      for_round_keeps (Some c) u b s h =
          value_keeps within s h
          (λ v t k. decided_keeps within (env.values.truth (loaded v)) t _ k
          (elim [ true ↦ for_body_keeps u b t k | false ↦ ends F.Next (closing t) (left t k) ]))

      first_round_keeps : (c : Option ℕ) (s : Store V) → More (opening Scopes.Regular s₀) s → Keeps keeping g (first_round env c s)
      first_round_keeps None s h = goes s h
      first_round_keeps (Some c) s h = goes s h

      initialize_keeps : (i c : Option ℕ) → Keeps keeping g (initialize env i c (opening Scopes.Regular s₀))
      initialize_keeps None c = first_round_keeps c (opening Scopes.Regular s₀) (opened_here s₀ Scopes.Regular)
      initialize_keeps (Some i) c = (
        tt,
        (λ n t k. within.fails n (opening Scopes.Regular s₀) t (opened_here s₀ Scopes.Regular) k),
        λ f t k. first_round_keeps c t (stated_more (declares (entry_at env.words i)) k),
      )

  -- ## Declarations

  module _ (s₀ : Store V) (kind : DeclarationKind) (name : ℕ) (ty : Option ℕ) (e : Option ℕ) where
    abbrev declaring : Goal (Flow V) Refusal (Store V)
    declaring = statement_goal (T.statement (T.Declaration kind name ty e)) s₀

    abbrev declaring_here : Position declaring
    declaring_here =
        record {
          Known = λ s. At s₀ s;
          fails = λ n s t h k. tidy_trans (same_tidy h.names) k;
          moves = λ s t h k. at_trans h k;
        }

    bound_keeps : (v : V) (s : Store V) → At s₀ s → (x : Result (State V) NameFault) → IfOk (λ n. n ≡ bound (record { name = name; kind = kind; value = v }) s.names) x → Keeps keeping declaring (stored x s)
    bound_keeps v s h (Err f) ok = stopped s₀ h
    bound_keeps v s h (Ok n) ok = record { value = v; before = s.names; same = h.names; names = ok; stage = h.stage }

    declared_keeps : (cause : Cause) (o : Option V) (s : Store V) → At s₀ s → Keeps keeping declaring (declared env kind name cause o s)
    declared_keeps cause None s h = stopped s₀ h
    declared_keeps cause (Some v) s h = bound_keeps v s h (bind name kind v s.names) (bind_adds name kind v s.names)

  uninitialized_keeps : (s₀ : Store V) (kind : DeclarationKind) (name : ℕ) (ty e : Option ℕ) (t : ℕ) → Keeps keeping (declaring s₀ kind name ty e) (uninitialized env kind name t s₀)
  uninitialized_keeps s₀ K.Const name ty e t = stopped s₀ (at-refl s₀)
  uninitialized_keeps s₀ K.Let name ty e t = stopped s₀ (at-refl s₀)
  uninitialized_keeps s₀ K.Var name ty e t = declared_keeps s₀ K.Var name ty e C.NotConstructible (env.values.zero t) s₀ (at-refl s₀)

  initialized_keeps : (s₀ : Store V) (kind : DeclarationKind) (name : ℕ) (ty e : Option ℕ) → Keeps keeping (declaring s₀ kind name ty e) (initialized env kind name ty e s₀)
  initialized_keeps s₀ kind name None None = stopped s₀ (at-refl s₀)
  initialized_keeps s₀ kind name (Some t) None = uninitialized_keeps s₀ kind name (Some t) None t
  initialized_keeps s₀ kind name ty (Some e) =
      value_in_keeps (declaring_here s₀ kind name ty (Some e)) (initializer_stage env kind s₀.stage) s₀ (at-refl s₀)
      (λ v t h. declared_keeps s₀ kind name ty (Some e) C.Conversion (env.values.convert (loaded v) (declared_type env kind ty (loaded v))) (staged s₀.stage t) h)

  declaration_keeps : (s₀ : Store V) (kind : DeclarationKind) (name : ℕ) (ty e : Option ℕ) → Keeps keeping (declaring s₀ kind name ty e) (declaration env kind name ty e s₀)
  declaration_keeps s₀ kind name ty e = unless_duplicate (duplicate name s₀.names)
    where
      unless_duplicate : (b : Bool) → Keeps keeping (declaring s₀ kind name ty e) (cond b (refuse (C.Name DuplicateDecl) s₀) (initialized env kind name ty e s₀))
      unless_duplicate true = stopped s₀ (at-refl s₀)
      unless_duplicate false = initialized_keeps s₀ kind name ty e

  -- ## All of it

  module _ (s₀ : Store V) where
    exec_keeps : (x : Statement) → Keeps keeping (statement_goal (T.statement x) s₀) (exec env x s₀)
    exec_keeps T.Empty = at-refl s₀
    exec_keeps (T.Compound es) = compound_keeps s₀ Regular es
    exec_keeps (T.Assignment op l r) =
        let g = statement_goal (T.statement (T.Assignment op l r)) s₀ in
        let p = plain s₀ g (λ n t k. k) (λ o t h. h) in
        value_keeps p s₀ (at-refl s₀)
        (λ o s h. reference_keeps s₀ g (λ n t k. k) (λ o' t h'. h') o s _ h
        (λ place old. value_keeps p s h (λ v t k. assigned_keeps s₀ g (λ n t k. k) (λ o' t h'. h') op place old (loaded v) t k)))
    exec_keeps (T.Increment e) =
        let g = statement_goal (T.statement (T.Increment e)) s₀ in
        value_keeps (plain s₀ g (λ n t k. k) (λ o t h. h)) s₀ (at-refl s₀)
        (λ o s h. reference_keeps s₀ g (λ n t k. k) (λ o' t h'. h') o s _ h
        (λ place v. stepped_keeps s₀ g (λ n t k. k) (λ o' t h'. h') C.IncrOverflow C.IncrType place (env.operators.up v) s h))
    exec_keeps (T.Decrement e) =
        let g = statement_goal (T.statement (T.Decrement e)) s₀ in
        value_keeps (plain s₀ g (λ n t k. k) (λ o t h. h)) s₀ (at-refl s₀)
        (λ o s h. reference_keeps s₀ g (λ n t k. k) (λ o' t h'. h') o s _ h
        (λ place v. stepped_keeps s₀ g (λ n t k. k) (λ o' t h'. h') C.DecrOverflow C.DecrType place (env.operators.down v) s h))
    exec_keeps (T.If cs o) = clauses_keeps s₀ (statement_goal (T.statement (T.If cs o)) s₀) (λ n t k. k) (λ f t h. h) cs o s₀ (at-refl s₀)
    exec_keeps (T.Switch e cs) =
        let g = statement_goal (T.statement (T.Switch e cs)) s₀ in
        value_keeps (plain s₀ g (λ n t k. k) (λ o t h. h)) s₀ (at-refl s₀)
        (λ v s h. selecting_keeps s₀ g (λ n t k. k) (λ f t k. k) (loaded v) cs None s h)
    exec_keeps (T.Loop b c) = at-refl s₀
    exec_keeps (T.For i c u b) = initialize_keeps s₀ (statement_goal (T.statement (T.For i c u b)) s₀) (λ n t k. k) (λ f t h. h) (λ t h. h) i c
    exec_keeps (T.While c b) = at-refl s₀
    exec_keeps T.Break = at-refl s₀
    exec_keeps T.Continue = at-refl s₀
    exec_keeps (T.Return e) = return_keeps s₀ (statement_goal (T.statement (T.Return e)) s₀) (λ n t k. k) (λ f t h. h) e s₀ (at-refl s₀)
    exec_keeps T.Discard = stopped s₀ (at-refl s₀)
    exec_keeps (T.CallStatement e) =
        calling_keeps s₀ (statement_goal (T.statement (T.CallStatement e)) s₀) (λ n t k. k) (λ f t h. h) e (called_by (entry_at env.words e)) s₀ (at-refl s₀)
    exec_keeps (T.ConstAssert e) = assert_keeps s₀ (statement_goal (T.statement (T.ConstAssert e)) s₀) (λ n t k. k) (λ f t h. h) e
    exec_keeps (T.Declaration kind name ty e) = declaration_keeps s₀ kind name ty e

    statement_keeps : (x : Entry) → Keeps keeping (statement_goal x s₀) (as_statement env x s₀)
    statement_keeps (T.statement x) = exec_keeps x
    statement_keeps (T.unit cs) = stopped s₀ (at-refl s₀)
    statement_keeps (T.continuing b c) = stopped s₀ (at-refl s₀)
    statement_keeps (T.expression x) = stopped s₀ (at-refl s₀)
    statement_keeps (T.function f) = stopped s₀ (at-refl s₀)
    statement_keeps T.absent = stopped s₀ (at-refl s₀)

    lost-block : (scope : CompoundScope) → (block_goal scope s₀).Fails astray s₀
    lost-block Regular = stopped s₀ (at-refl s₀)
    lost-block Transparent = stopped s₀ (at-refl s₀)
    lost-block Leaking = grown_reaches (grown_refl s₀.names)

    as_block_keeps : (scope : CompoundScope) (o : Option (List ℕ)) → Keeps keeping (block_goal scope s₀) (as_block env scope o s₀)
    as_block_keeps scope None = lost-block scope
    as_block_keeps scope (Some es) = compound_keeps s₀ scope es

    continuing_keeps : (x : Entry) → Keeps keeping (tidy_goal (Flow V) s₀) (as_continuing env x s₀)
    continuing_keeps (T.continuing b c) = exec_continuing_keeps s₀ b c
    continuing_keeps (T.statement x) = stopped s₀ (at-refl s₀)
    continuing_keeps (T.unit cs) = stopped s₀ (at-refl s₀)
    continuing_keeps (T.expression x) = stopped s₀ (at-refl s₀)
    continuing_keeps (T.function f) = stopped s₀ (at-refl s₀)
    continuing_keeps T.absent = stopped s₀ (at-refl s₀)

    expression_keeps : (x : Entry) → Keeps keeping (tidy_goal (Operand V) s₀) (as_expression env x s₀)
    expression_keeps (T.expression x) = eval_keeps s₀ x
    expression_keeps (T.statement x) = stopped s₀ (at-refl s₀)
    expression_keeps (T.unit cs) = stopped s₀ (at-refl s₀)
    expression_keeps (T.continuing b c) = stopped s₀ (at-refl s₀)
    expression_keeps (T.function f) = stopped s₀ (at-refl s₀)
    expression_keeps T.absent = stopped s₀ (at-refl s₀)

    callee_keeps : (x : Entry) → Keeps keeping (tidy_goal (Option V) s₀) (as_callee env x s₀)
    callee_keeps (T.expression x) = eval_callee_keeps s₀ x
    callee_keeps (T.statement x) = stopped s₀ (at-refl s₀)
    callee_keeps (T.unit cs) = stopped s₀ (at-refl s₀)
    callee_keeps (T.continuing b c) = stopped s₀ (at-refl s₀)
    callee_keeps (T.function f) = stopped s₀ (at-refl s₀)
    callee_keeps T.absent = stopped s₀ (at-refl s₀)

    act_keeps : (c : Begun) → Keeps keeping (goal_of c s₀) (act_of env c s₀)
    act_keeps (statement e) = statement_keeps (entry_at env.words e)
    act_keeps (block scope f e) = as_block_keeps scope (block_of env (entry_at env.words e))
    act_keeps (continuing e) = continuing_keeps (entry_at env.words e)
    act_keeps (expression e) = expression_keeps (entry_at env.words e)
    act_keeps (callee e) = callee_keeps (entry_at env.words e)

    abbrev Opened : {A : Type 0} → Round (shape V) A → Act (shape V) A
    Opened r = begin r.child r.state r.next

    exec_round_keeps : (e : ℕ) (x : Statement) (s : Store V) → goes_in x s₀ s → Keeps keeping (statement_goal (T.statement x) s₀) (Opened (exec_round env e x s))
    exec_round_keeps e (T.Loop b c) s h = loop_round_keeps s₀ (statement_goal (T.statement (T.Loop b c)) s₀) (λ n t k. k) (λ f t k. k) (λ t k. k) s h b c
    exec_round_keeps e (T.For i c u b) s h = for_round_keeps s₀ (statement_goal (T.statement (T.For i c u b)) s₀) (λ n t k. k) (λ f t k. k) (λ t k. k) c u b s h
    exec_round_keeps e (T.While c b) s h = while_round_keeps s₀ (statement_goal (T.statement (T.While c b)) s₀) (λ n t k. k) (λ f t k. k) (λ t k. k) s h c b
    exec_round_keeps e T.Empty s h = absurd h
    exec_round_keeps e (T.Compound es) s h = absurd h
    exec_round_keeps e (T.Assignment op l r) s h = absurd h
    exec_round_keeps e (T.Increment c) s h = absurd h
    exec_round_keeps e (T.Decrement c) s h = absurd h
    exec_round_keeps e (T.If cs o) s h = absurd h
    exec_round_keeps e (T.Switch c cs) s h = absurd h
    exec_round_keeps e T.Break s h = absurd h
    exec_round_keeps e T.Continue s h = absurd h
    exec_round_keeps e (T.Return c) s h = absurd h
    exec_round_keeps e T.Discard s h = absurd h
    exec_round_keeps e (T.CallStatement c) s h = absurd h
    exec_round_keeps e (T.ConstAssert c) s h = absurd h
    exec_round_keeps e (T.Declaration kind name ty c) s h = absurd h

    statement_round_keeps : (e : ℕ) (x : Entry) (s : Store V) → goes_at x s₀ s → Keeps keeping (statement_goal x s₀) (Opened (statement_round env e x s))
    statement_round_keeps e (T.statement x) s h = exec_round_keeps e x s h
    statement_round_keeps e (T.unit cs) s h = absurd h
    statement_round_keeps e (T.continuing b c) s h = absurd h
    statement_round_keeps e (T.expression x) s h = absurd h
    statement_round_keeps e (T.function f) s h = absurd h
    statement_round_keeps e T.absent s h = absurd h

    no_round_lem : (scope : CompoundScope) (s : Store V) → (block_goal scope s₀).Goes s → ⊥
    no_round_lem Regular s h = h
    no_round_lem Transparent s h = h
    no_round_lem Leaking s h = h

    round_keeps : (c : Begun) (s : Store V) → (goal_of c s₀).Goes s → Keeps keeping (goal_of c s₀) (Opened (round_of env c s))
    round_keeps (statement e) s h = statement_round_keeps e (entry_at env.words e) s h
    round_keeps (block scope f e) s h = absurd (no_round_lem scope s h)
    round_keeps (continuing e) s h = absurd h
    round_keeps (expression e) s h = absurd h
    round_keeps (callee e) s h = absurd h

    unbegun : (c : Begun) (n : Refusal) → (goal_of c s₀).Fails n s₀
    unbegun (statement e) n = stopped s₀ (at-refl s₀)
    unbegun (block Regular f e) n = stopped s₀ (at-refl s₀)
    unbegun (block Transparent f e) n = stopped s₀ (at-refl s₀)
    unbegun (block Leaking f e) n = grown_reaches (grown_refl s₀.names)
    unbegun (continuing e) n = stopped s₀ (at-refl s₀)
    unbegun (expression e) n = stopped s₀ (at-refl s₀)
    unbegun (callee e) n = stopped s₀ (at-refl s₀)

  pub keeps : Sound (rules env) keeping
  unfolding rules D.opened
  keeps =
      record {
        spent = λ c s p. unbegun s c _;
        full = λ c s p. unbegun s c _;
        acts = λ c s p. act_keeps s c;
        rounds = λ c s₀ s p h. round_keeps s₀ c s h;
      }

  -- ## What a run and a call leave

  pub ran_keeps : (e : ℕ) (s : Store V) (g : ℕ) → Came (statement_goal (entry_at env.words e) s) (ran_entry env e s g).outcome (ran_entry env e s g).state
  unfolding ran_entry
  ran_keeps e s g = run_meets (rules env) keeping keeps deepest (statement e) s g tt

  pub call_keeps_names : (name : ℕ) (vs : List V) (s : Store V) (g : ℕ) → Came (tidy_goal (Option V) s) (ran_call env name vs s g).outcome (ran_call env name vs s g).state
  unfolding ran_call
  call_keeps_names name vs s g =
      outside_meets (rules env) keeping keeps (tidy_goal (Option V) s) (λ t h. h) deepest (call env name vs s end) g
      (call_keeps (here (Option V) s) end (λ o t k. k) name vs s (at-refl s))
