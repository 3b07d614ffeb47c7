-- Statements keep the claim.
use Rattle.std.proofs.Common.{◌≡◌, ℕ, suc, Bool, true, false, eqb, List, [], ◌∷◌, is_some, IfSome, Some, None, Ok, Err, Option, Result, refl}
use Rattle.std.specs.List.{slice_get}
use Rattle.std.proofs.lemmas.Bool.{cond_both, eqb-false, false≢true, or_from}
use Rattle.syntax.specs.declared.BinaryOperator.{BinaryOperator}
use Rattle.syntax.specs.declared.DeclarationKind.{DeclarationKind}
use Rattle.syntax.specs.declared.DeclarationKind.TheVariants as K
use Rattle.host.specs.declared.HostFault.{HostFault}
use Rattle.host.specs.declared.StepFault.{StepFault}
use Rattle.host.specs.declared.StepFault.TheVariants.{Overflow, WrongType}
use Rattle.shape.specs.declared.Child.TheVariants as Kind
use Rattle.names.specs.Rules.{assign, duplicate, write}
use Rattle.names.specs.State.{State}
use Rattle.names.specs.declared.error.NameFault.{NameFault}
use Rattle.layout.specs.WellFormed.{WellFormed}
use Rattle.behavior.specs.Rules.{behavior, followed, has_default}
use Rattle.behavior.specs.Rules as R
use Rattle.behavior.specs.declared.set.Behavior.{Behavior}
use Rattle.drive.specs.Act.{Act}
use Rattle.rules.specs.Eval.{function_named}
use Rattle.rules.specs.Exec.{assigned, body, broken, calling, call_statement, chosen, clauses, decided, declaration, declared, declared_type, for_body, if_same, in_turn, initialize, initialized, kept_default, otherwise, reference, selecting, selector, stepped, stored, update}
use Rattle.rules.specs.Flows.{has}
use Rattle.rules.specs.Store.{Env, Store, because, loaded, shape, staged}
use Rattle.rules.specs.declared.error.Cause.{Cause}
use Rattle.rules.specs.declared.error.Cause.TheVariants as C
use Rattle.rules.specs.declared.flow.CompoundScope.{CompoundScope}
use Rattle.rules.specs.declared.flow.Flow.{Flow}
use Rattle.rules.specs.declared.flow.Flow.TheVariants as F
use Rattle.rules.specs.declared.flow.Operand.{Operand}
use Rattle.rules.specs.declared.flow.Operand.TheVariants.{Value, Reference}
use Rattle.rules.proofs.Claims.{Allowed, Lands, Returns, Takes}
use Rattle.rules.proofs.Evals.{Keep, answered_keeps, cond_keeps, found_keeps}
use Rattle.rules.proofs.Functions.{function-written}
use Rattle.rules.proofs.Sets.{Leaves, followed-right, turn_left}

-- Break ends a switch
abbrev pub past : {V : Type 0} → Flow V → Flow V
past F.Next = F.Next
past F.Break = F.Next
past F.Continue = F.Continue
past (F.Return v) = F.Return v

module _ {V : Type 0} (env : Env V) where
  -- both ways of a condition
  pub branch_keeps :
      (Q : Flow V → Type 0) (G : Type 0) (o : Option Bool) (s : Store V) (x y : Store V → Act (shape V) (Flow V)) → Keep env Q G (x s)
      → Keep env Q G (y s) → Keep env Q G (decided env o s (elim [ true ↦ x | false ↦ y ]))
  branch_keeps Q G None s x y h k = λ fit. tt
  branch_keeps Q G (Some true) s x y h k = h
  branch_keeps Q G (Some false) s x y h k = k

  module _ (Q : Flow V → Type 0) (G : Type 0) where
    pub reference_keeps : (o : Operand V) (s : Store V) (k : ℕ → V → Store V → Act (shape V) (Flow V)) → ((place : ℕ) (v : V) → Keep env Q G (k place v s)) → Keep env Q G (reference o s k)
    reference_keeps (Value v) s k h = λ fit. tt
    reference_keeps (Reference place v) s k h = h place v

    -- statements that end with Next
    module _ (q : Q F.Next) where
      stored_keeps : (r : Result (State V) NameFault) (s : Store V) → Keep env Q G (stored r s)
      stored_keeps (Err f) s = λ fit. tt
      stored_keeps (Ok n) s = q

      pub assigned_keeps : (op : Option BinaryOperator) (place : ℕ) (old v : V) (s : Store V) → Keep env Q G (assigned env op place old v s)
      assigned_keeps None place old v s = stored_keeps (assign env.values place v s.names) s
      assigned_keeps (Some op) place old v s =
          answered_keeps env Q G (env.operators.binary s.stage op old v) s (λ x t. stored (write env.values place x t.names) t)
          (λ x. stored_keeps (write env.values place x s.names) s)

      pub stepped_keeps : (overflow wrong : Cause) → Allowed env.words (because overflow) → Allowed env.words (because wrong) → (place : ℕ) (r : Result V StepFault) (s : Store V) → Keep env Q G (stepped env overflow wrong place r s)
      stepped_keeps overflow wrong a b place (Ok x) s = stored_keeps (write env.values place x s.names) s
      stepped_keeps overflow wrong a b place (Err Overflow) s = a
      stepped_keeps overflow wrong a b place (Err WrongType) s = b

      declared_keeps : (kind : DeclarationKind) (name : ℕ) (cause : Cause) → Allowed env.words (because cause) → (o : Option V) (s : Store V) → Keep env Q G (declared env kind name cause o s)
      declared_keeps kind name cause a None s = a
      declared_keeps kind name cause a (Some v) s = stored_keeps _ s

      initialized_keeps : (kind : DeclarationKind) (name : ℕ) (ty c : Option ℕ) → IfSome c (Takes env.words Kind.Expression) → (s : Store V) → Keep env Q G (initialized env kind name ty c s)
      initialized_keeps kind name ty (Some c) h s =
          (h, (λ r t a. a), λ o s' z. declared_keeps kind name C.Conversion (λ fit. tt) (env.values.convert (loaded o) (declared_type env kind ty (loaded o))) (staged s.stage s'))
      initialized_keeps kind name None None h s = λ fit. tt
      initialized_keeps K.Const name (Some t) None h s = λ fit. tt
      initialized_keeps K.Let name (Some t) None h s = λ fit. tt
      initialized_keeps K.Var name (Some t) None h s = declared_keeps K.Var name C.NotConstructible (λ fit. tt) (env.values.zero t) s

      pub declaration_keeps : (kind : DeclarationKind) (name : ℕ) (ty c : Option ℕ) → IfSome c (Takes env.words Kind.Expression) → (s : Store V) → Keep env Q G (declaration env kind name ty c s)
      declaration_keeps kind name ty c h s =
          cond_keeps env Q G (duplicate name s.names) _ _ (λ fit. tt) (initialized_keeps kind name ty c h s)

      pub calling_keeps : WellFormed env.words → (c : ℕ) → Takes env.words Kind.Call c → (o : Option ℕ) → is_some o ≡ true → (s : Store V) → Keep env Q G (calling env c o s)
      calling_keeps w c h None some s = absurd (false≢true some)
      calling_keeps w c h (Some name) some s =
          found_keeps env Q G (function_named env.words name) s (λ f. call_statement env c f s) (function-written env.words w name)
          (λ f k. cond_keeps env Q G f.must_use _ _ (λ fit. tt) (h, (λ r t a. a), λ v s' z. q))

    -- lists
    pub turn_keeps :
        (e : ℕ) (scope : CompoundScope) (so_far : Behavior) → so_far.next ≡ true → (es : List ℕ)
        → ((i c : ℕ) → slice_get es i ≡ Some c → Takes env.words Kind.Statement c × ((f : Flow V) → Returns env.words c f → Returns env.words e f))
        → ((f : Flow V) → has (R.in_turn (behavior env.words) so_far es) f ≡ true → Returns env.words e f → Q f)
        → (s : Store V) → Keep env Q G (in_turn scope es s)
    turn_keeps e scope so_far is [] each up s = up F.Next is tt
    turn_keeps e scope so_far is (c ∷ es) each up s =
        let b = behavior env.words c in
        let left : (f : Flow V) → Leaves f → Lands env.words c f → Q f = λ f l h. up f (turn_left (behavior env.words) (followed so_far b) es f l (followed-right so_far b is f h.0)) ((each 0 c refl).1 f h.1) in (
          (each 0 c refl).0,
          (λ r t a. a),
          elim [
            | F.Next ↦ λ s' h. turn_keeps e scope (followed so_far b) (followed-right {V = V} so_far b is F.Next h.0) es (λ i. each (suc i)) up s'
            | F.Break ↦ λ s' h. left F.Break tt h
            | F.Continue ↦ λ s' h. left F.Continue tt h
            | F.Return v ↦ λ s' h. left (F.Return v) tt h
          ],
        )

    -- bodies of an if, each of which ends it
    abbrev pub Serves : ℕ → Type 0
    Serves b = Takes env.words Kind.Body b × ((f : Flow V) → Lands env.words b f → Q f)

    abbrev pub Else : Option ℕ → Type 0
    Else None = Q F.Next
    Else (Some b) = Serves b

    otherwise_keeps : (o : Option ℕ) → Else o → (s : Store V) → Keep env Q G (otherwise env o s)
    otherwise_keeps None h s = h
    otherwise_keeps (Some b) h s = (h.0, (λ r t a. a), λ f s' k. h.1 f k)

    pub clauses_keeps :
        (cs : List (ℕ × ℕ)) (o : Option ℕ) → ((i : ℕ) (p : ℕ × ℕ) → slice_get cs i ≡ Some p → Takes env.words Kind.Expression p.0 × Serves p.1)
        → Else o → (s : Store V) → Keep env Q G (clauses env cs o s)
    clauses_keeps [] o each h s = otherwise_keeps o h s
    clauses_keeps (c ∷ cs) o each h s =
        let x = each 0 c refl in (
          x.0,
          (λ r t a. a),
          λ v s' z.
              branch_keeps Q G (env.values.truth (loaded v)) s' (body c.1) (clauses env cs o)
              (x.1.0, (λ r t a. a), λ f s'' k. x.1.1 f k) (clauses_keeps cs o (λ i. each (suc i)) h s'),
        )

    -- bodies of a switch
    abbrev pub Selects : ℕ → Type 0
    Selects b = Takes env.words Kind.Body b × ((f : Flow V) → Lands env.words b f → Q (past f))

    -- the default kept so far, if any, or what a switch without one ends with
    abbrev pub Kept : List (ℕ × ℕ) → Option ℕ → Type 0
    Kept cs None = has_default cs ≡ false → Q F.Next
    Kept cs (Some b) = Selects b

    broken_keeps : (f : Flow V) (s : Store V) → Q (past f) → Keep env Q G (broken env f s)
    broken_keeps F.Next s h = h
    broken_keeps F.Break s h = h
    broken_keeps F.Continue s h = h
    broken_keeps (F.Return v) s h = h

    chosen_keeps : (o : Option ℕ) → Kept [] o → (s : Store V) → Keep env Q G (chosen env o s)
    chosen_keeps None h s = h refl
    chosen_keeps (Some b) h s = (h.0, (λ r t a. a), λ f s' k. broken_keeps f s' (h.1 f k))

    same_keeps : (r : Result Bool HostFault) (b : ℕ) → Selects b → (s : Store V) (k : Store V → Act (shape V) (Flow V)) → Keep env Q G (k s) → Keep env Q G (if_same env r b s k)
    same_keeps (Err f) b h s k on = λ fit. tt
    same_keeps (Ok true) b h s k on = chosen_keeps (Some b) h s
    same_keeps (Ok false) b h s k on = on

    selector_keeps : (o : Option V) (subject : V) (b : ℕ) → Selects b → (s : Store V) (k : Store V → Act (shape V) (Flow V)) → Keep env Q G (k s) → Keep env Q G (selector env o subject b s k)
    selector_keeps None subject b h s k on = λ fit. tt
    selector_keeps (Some v) subject b h s k on = same_keeps (env.operators.same v subject) b h s k on

    keep_default : (c : ℕ × ℕ) (cs : List (ℕ × ℕ)) (kept : Option ℕ) → Kept (c ∷ cs) kept → Selects c.1 → Kept cs (kept_default kept c.1)
    keep_default c cs None h x = x
    keep_default c cs (Some b) h x = h

    keep_on : (c : ℕ × ℕ) (cs : List (ℕ × ℕ)) (kept : Option ℕ) → Kept (c ∷ cs) kept → eqb c.0 0 ≡ false → Kept cs kept
    keep_on c cs None h is = λ d. h (or_from (eqb c.0 0) (has_default cs) is d)
    keep_on c cs (Some b) h is = h

    pub selecting_keeps :
        (subject : V) (cs : List (ℕ × ℕ)) (kept : Option ℕ)
        → ((i : ℕ) (p : ℕ × ℕ) → slice_get cs i ≡ Some p → ((p.0 ≡ 0 → ⊥) → Takes env.words Kind.Expression p.0) × Selects p.1)
        → Kept cs kept → (s : Store V) → Keep env Q G (selecting env subject cs kept s)
    selecting_keeps subject [] kept each h s = chosen_keeps kept h s
    selecting_keeps subject (c ∷ cs) kept each h s =
        let x = each 0 c refl in
        cond_both {A = Act (shape V) (Flow V)} (eqb c.0 0) _ _ (Keep env Q G)
        (λ is. selecting_keeps subject cs (kept_default kept c.1) (λ i. each (suc i)) (keep_default c cs kept h x.1) s)
        (λ is. (
          x.0 (eqb-false c.0 0 is),
          (λ r t a. a),
          λ o s' z.
              selector_keeps (env.values.convert (loaded o) (env.values.type_of subject)) subject c.1 x.1 (staged s.stage s')
              (selecting env subject cs kept) (selecting_keeps subject cs kept (λ i. each (suc i)) (keep_on c cs kept h is) (staged s.stage s')),
        ))

    -- the rounds of a for
    module _ (g : G) where
      update_keeps : (u : Option ℕ) → IfSome u (Takes env.words Kind.Statement) → (s : Store V) → Keep env Q G (update env u s)
      update_keeps None h s = g
      update_keeps (Some c) h s = (h, (λ r t a. a), λ f s' k. g)

      pub initialize_keeps : (i c : Option ℕ) → IfSome i (Takes env.words Kind.Statement) → (s : Store V) → Keep env Q G (initialize env i c s)
      initialize_keeps None None h s = g
      initialize_keeps None (Some c) h s = g
      initialize_keeps (Some i) None h s = (h, (λ r t a. a), λ f s' k. g)
      initialize_keeps (Some i) (Some c) h s = (h, (λ r t a. a), λ f s' k. g)

      -- a loop ends with Next at a break of its body, and with its returns
      abbrev pub Repeats : ℕ → Type 0
      Repeats b =
          Takes env.words Kind.Body b × (Lands env.words {V = V} b F.Break → Q F.Next)
          × ((v : Option V) → Lands env.words b (F.Return v) → Q (F.Return v))

      pub for_keeps : (u : Option ℕ) → IfSome u (Takes env.words Kind.Statement) → (b : ℕ) → Repeats b → (s : Store V) → Keep env Q G (for_body env u b s)
      for_keeps u h b x s = (
        x.0,
        (λ r t a. a),
        elim [
          | F.Next ↦ λ s' k. update_keeps u h s'
          | F.Break ↦ λ s' k. x.1 k
          | F.Continue ↦ λ s' k. update_keeps u h s'
          | F.Return v ↦ λ s' k. x.2 v k
        ],
      )
