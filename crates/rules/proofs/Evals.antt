-- Expressions and calls keep the claim.
use Rattle.std.proofs.Common.{◌≡◌, ℕ, suc, Bool, true, false, cond, not, ◌&&◌, eqb, List, [], ◌∷◌, ◌++◌, length, is_some, IfSome, Some, None, Ok, Err, Option, Result, refl, ap}
use Rattle.std.specs.List.{slice_get}
use Rattle.std.proofs.lemmas.Bool.{both_ways, false≢true}
use Rattle.syntax.specs.declared.DeclarationKind.TheVariants as K
use Rattle.syntax.specs.declared.ShortCircuit.{ShortCircuit}
use Rattle.syntax.specs.declared.ShortCircuit.TheVariants.{And, Or}
use Rattle.host.specs.declared.HostFault.{HostFault}
use Rattle.shape.specs.Shapes.{takes}
use Rattle.shape.specs.declared.Child.TheVariants as Kind
use Rattle.names.specs.Rules.{bind, lookup}
use Rattle.names.specs.State.{State}
use Rattle.names.specs.declared.binding.Found.{Found}
use Rattle.names.specs.declared.error.NameFault.{NameFault}
use Rattle.names.specs.declared.scope.ScopeKind.TheVariants.{Call as CallScope}
use Rattle.book.specs.Children.{Children}
use Rattle.layout.specs.WellFormed.{WellFormed}
use Rattle.book.specs.declared.node.Node.{Node}
use Rattle.book.specs.declared.node.Node.TheVariants as N
use Rattle.drive.specs.Act.{Act, end}
use Rattle.drive.specs.Hoare.{Keeps}
use Rattle.rules.specs.Eval.{answered, arguments, bind_all, bind_next, call, converted, enter_body, enter_converted, enter_function, evaluated, function_named, if_found, is_const_stage, last, must_yield, name_found, returned, right, short_circuit, yielded}
use Rattle.rules.specs.Language.{as_callee, as_expression}
use Rattle.rules.specs.Store.{Env, Store, closing, named, opening, shape}
use Rattle.rules.specs.Tree.{Function, entry_of}
use Rattle.rules.specs.declared.flow.Flow.{Flow}
use Rattle.rules.specs.declared.flow.Flow.TheVariants as F
use Rattle.rules.proofs.Claims.{Lands, Takes, aim, claim}
use Rattle.rules.proofs.Functions.{Written, function-written}
use Rattle.rules.proofs.Tags.{Told, a_block, a_call, a_continuing, another, node_tag}

module _ {V : Type 0} (env : Env V) where
  -- an act that ends with a Q and goes round where G
  abbrev pub Keep : {A : Type 0} → (A → Type 0) → Type 0 → Act (shape V) A → Type 0
  Keep Q G a = Keeps (claim env.words V) (aim env.words V Q G) a

  module _ {A : Type 0} (Q : A → Type 0) (G : Type 0) where
    pub cond_keeps : (b : Bool) (x y : Act (shape V) A) → Keep Q G x → Keep Q G y → Keep Q G (cond b x y)
    cond_keeps true x y h k = h
    cond_keeps false x y h k = k

    pub answered_keeps : (r : Result V HostFault) (s : Store V) (k : V → Store V → Act (shape V) A) → ((v : V) → Keep Q G (k v s)) → Keep Q G (answered env r s k)
    answered_keeps (Ok v) s k h = h v
    answered_keeps (Err f) s k h = λ fit. tt

    pub found_keeps : (o : Option Function) (s : Store V) (k : Function → Act (shape V) A) → IfSome o (Written env.words) → ((f : Function) → Written env.words f → Keep Q G (k f)) → Keep Q G (if_found env o s k)
    found_keeps None s k h on = λ fit. tt
    found_keeps (Some f) s k h on = on f h

    arguments_keeps :
        (es : List ℕ) → ((i c : ℕ) → slice_get es i ≡ Some c → Takes env.words Kind.Expression c) → (vs : List V) (s : Store V)
        (k : List V → Store V → Act (shape V) A) → ((us : List V) (t : Store V) → Keep Q G (k us t)) → Keep Q G (arguments env es vs s k)
    arguments_keeps [] each vs s k on = on vs s
    arguments_keeps (e ∷ es) each vs s k on =
        (each 0 e refl, (λ r t a. a), λ o s' z. arguments_keeps es (λ i. each (suc i)) (vs ++ _ ∷ []) s' k on)

    module _ (k : Option V → Store V → Act (shape V) A) (on : (o : Option V) (s : Store V) → Keep Q G (k o s)) where
      returned_keeps : (o : Option V) (name : ℕ) (s : Store V) → Keep Q G (returned env o name s k)
      returned_keeps None name s = λ fit. tt
      returned_keeps (Some v) name s = on (Some v) s

      -- what the flow of a body and the type may be together, in a fit book
      yielded_keeps : (f : Function) → Written env.words f → (flow : Flow V) → Lands env.words f.body flow → (ty : Option ℕ) → f.ty ≡ ty → (s : Store V) → Keep Q G (yielded env flow ty f.name s k)
      yielded_keeps f w F.Break h ty is s = λ fit. both_ways _ (w.1 fit).no_break h.0
      yielded_keeps f w F.Continue h ty is s = λ fit. both_ways _ (w.1 fit).no_continue h.0
      yielded_keeps f w F.Next h None is s = on None s
      yielded_keeps f w F.Next h (Some t) is s = λ fit. both_ways _ ((w.1 fit).returns (ap is_some is)) h.0
      yielded_keeps f w (F.Return None) h None is s = on None s
      yielded_keeps f w (F.Return None) h (Some t) is s =
          λ fit. both_ways _ (rw (ap is_some is) at ((w.1 fit).values h.1.0 h.1.1)) h.1.2
      yielded_keeps f w (F.Return (Some v)) h None is s =
          λ fit. both_ways _ (rw (ap is_some is) at ((w.1 fit).values h.1.0 h.1.1)) h.1.2
      yielded_keeps f w (F.Return (Some v)) h (Some t) is s = returned_keeps (env.values.convert v t) f.name s

      body_keeps : (f : Function) → Written env.words f → (s : Store V) → Keep Q G (enter_body env f s k)
      body_keeps f w s = (w.0, (λ r t a. a), λ flow s' h. yielded_keeps f w flow h f.ty refl (closing s'))

      next_keeps : (r : Result (State V) NameFault) (s : Store V) (j : Store V → Act (shape V) A) → ((t : Store V) → Keep Q G (j t)) → Keep Q G (bind_next env r s j)
      next_keeps (Err f) s j h = λ fit. tt
      next_keeps (Ok n) s j h = h (named n s)

      bind_keeps : (ps : List (ℕ × ℕ)) (vs : List V) (s : Store V) (j : Store V → Act (shape V) A) → ((t : Store V) → Keep Q G (j t)) → Keep Q G (bind_all env ps vs s j)
      bind_keeps [] vs s j h = h s
      bind_keeps (p ∷ ps) [] s j h = h s
      bind_keeps (p ∷ ps) (v ∷ vs) s j h =
          next_keeps (bind p.0 K.Let v s.names) s (λ t. bind_all env ps vs t j) (λ t. bind_keeps ps vs t j h)

      converted_keeps : (f : Function) → Written env.words f → (o : Option (List V)) (s : Store V) → Keep Q G (enter_converted env f o s k)
      converted_keeps f w None s = λ fit. tt
      converted_keeps f w (Some vs) s = bind_keeps f.parameters vs s (λ t. enter_body env f t k) (λ t. body_keeps f w t)

      function_keeps : (f : Function) → Written env.words f → (vs : List V) (s : Store V) → Keep Q G (enter_function env f vs s k)
      function_keeps f w vs s =
          cond_keeps (is_const_stage s.stage && not f.is_const) _ _ (λ fit. tt)
          (cond_keeps (eqb (length vs) (length f.parameters)) _ _
          (converted_keeps f w (converted env f.parameters vs) (opening CallScope s))
          (λ fit. tt))

      pub call_keeps : WellFormed env.words → (name : ℕ) (vs : List V) (s : Store V) → Keep Q G (call env name vs s k)
      call_keeps w name vs s =
          found_keeps (function_named env.words name) s (λ f. enter_function env f vs s k) (function-written env.words w name)
          (λ f h. function_keeps f h vs s)

  -- of an expression nothing is claimed but its refusals
  abbrev pub Fine : {A : Type 0} → Act (shape V) A → Type 0
  Fine a = Keep (λ o. Unit {0}) ⊥ a

  yield_fine : (o : Option V) (s : Store V) → Fine (must_yield env o s)
  yield_fine None s = λ fit. tt
  yield_fine (Some v) s = tt

  last_fine : (o : Option Bool) (v : V) (s : Store V) → Fine (last env o v s)
  last_fine None v s = λ fit. tt
  last_fine (Some b) v s = tt

  right_fine : (r : ℕ) → Takes env.words Kind.Expression r → (s : Store V) → Fine (right env r s)
  right_fine r h s = (h, (λ r t a. a), λ o s' z. last_fine _ _ s')

  short_fine : (op : ShortCircuit) (o : Option Bool) (v : V) (r : ℕ) → Takes env.words Kind.Expression r → (s : Store V) → Fine (short_circuit env op o v r s)
  short_fine op None v r h s = λ fit. tt
  short_fine And (Some true) v r h s = right_fine r h s
  short_fine And (Some false) v r h s = tt
  short_fine Or (Some true) v r h s = tt
  short_fine Or (Some false) v r h s = right_fine r h s

  name_fine : (r : Result (Found V) NameFault) (s : Store V) → Fine (name_found env r s)
  name_fine (Err f) s = λ fit. tt
  name_fine (Ok x) s = tt

  answer_fine : (r : Result V HostFault) (s : Store V) → Fine (answered env r s (evaluated env))
  answer_fine r s = answered_keeps (λ o. Unit {0}) ⊥ r s (evaluated env) (λ v. tt)

  module _ (w : WellFormed env.words) (e : ℕ) where
    pub expression_keeps : (n : Option Node) → takes Kind.Expression (node_tag n) ≡ true → IfSome n (Children env.words e) → (s : Store V) → Fine (as_expression env (entry_of env.words n) s)
    expression_keeps (Some (N.Literal kind words)) k h s = answer_fine (env.operators.literal kind words) s
    expression_keeps (Some (N.Parenthesized c)) k h s = ((h.1, h.2), (λ r t a. a), λ o s' z. tt)
    expression_keeps (Some (N.Unary op c)) k h s = ((h.1, h.2), (λ r t a. a), λ o s' z. answer_fine _ s')
    expression_keeps (Some (N.Binary op l r)) k h s = (
      (h.0.1, h.0.2),
      (λ r t a. a),
      λ o s' z. ((h.1.1, h.1.2), (λ r t a. a), λ p s'' y. answer_fine _ s''),
    )
    expression_keeps (Some (N.ShortCircuit op l r)) k h s =
        ((h.0.1, h.0.2), (λ r t a. a), λ o s' z. short_fine op _ _ r (h.1.1, h.1.2) s')
    expression_keeps (Some (N.Name name)) k h s = name_fine (lookup name s.names) s
    expression_keeps (Some (N.Call name es)) k h s =
        arguments_keeps (λ o. Unit {0}) ⊥ _ (λ i c at. ((h i c at).1, (h i c at).2)) [] s _
        (λ vs t. call_keeps (λ o. Unit {0}) ⊥ (must_yield env) yield_fine w name vs t)
    expression_keeps None k h s = absurd (false≢true k)
    expression_keeps (Some (N.Unit es)) k h s = absurd (false≢true k)
    expression_keeps (Some N.Empty) k h s = absurd (false≢true k)
    expression_keeps (Some (N.Compound es)) k h s = absurd (false≢true k)
    expression_keeps (Some (N.Assignment op l r)) k h s = absurd (false≢true k)
    expression_keeps (Some (N.Increment c)) k h s = absurd (false≢true k)
    expression_keeps (Some (N.Decrement c)) k h s = absurd (false≢true k)
    expression_keeps (Some (N.If cs o)) k h s = absurd (false≢true k)
    expression_keeps (Some (N.Switch c cs)) k h s = absurd (false≢true k)
    expression_keeps (Some (N.Loop b c)) k h s = absurd (false≢true k)
    expression_keeps (Some (N.For i c u b)) k h s = absurd (false≢true k)
    expression_keeps (Some (N.While c b)) k h s = absurd (false≢true k)
    expression_keeps (Some N.Break) k h s = absurd (false≢true k)
    expression_keeps (Some N.Continue) k h s = absurd (false≢true k)
    expression_keeps (Some (N.Return c)) k h s = absurd (false≢true k)
    expression_keeps (Some N.Discard) k h s = absurd (false≢true k)
    expression_keeps (Some (N.CallStatement c)) k h s = absurd (false≢true k)
    expression_keeps (Some (N.ConstAssert c)) k h s = absurd (false≢true k)
    expression_keeps (Some (N.Declaration kind name ty c)) k h s = absurd (false≢true k)
    expression_keeps (Some (N.Continuing b c)) k h s = absurd (false≢true k)
    expression_keeps (Some (N.Function name a m ty b ps)) k h s = absurd (false≢true k)

    pub callee_keeps : {n : Option Node} → Told n → takes Kind.Call (node_tag n) ≡ true → IfSome n (Children env.words e) → (s : Store V) → Fine (as_callee env (entry_of env.words n) s)
    callee_keeps (a_call {n = name}) k h s =
        arguments_keeps (λ o. Unit {0}) ⊥ _ (λ i c at. ((h i c at).1, (h i c at).2)) [] s _
        (λ vs t. call_keeps (λ o. Unit {0}) ⊥ end (λ o u. tt) w name vs t)
    callee_keeps a_block k h s = absurd (false≢true k)
    callee_keeps a_continuing k h s = absurd (false≢true k)
    callee_keeps (another b c d) k h s = absurd (both_ways _ c k)
