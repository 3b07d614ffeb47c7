-- An accepted call yields a value exactly when its function declares a type, and of that type.
use Rattle.std.proofs.Common.{ℕ, Bool, true, false, cond, not, ◌&&◌, eqb, List, [], ◌∷◌, length, Some, None, Ok, Err, Option, Result}
use Rattle.syntax.specs.declared.DeclarationKind.TheVariants as K
use Rattle.host.specs.Meaning.{Typed, ValueLaws}
use Rattle.names.specs.Rules.{bind}
use Rattle.names.specs.State.{State}
use Rattle.names.specs.declared.error.NameFault.{NameFault}
use Rattle.names.specs.declared.scope.ScopeKind.TheVariants as Scopes
use Rattle.drive.proofs.Hoare.{outside_meets}
use Rattle.drive.specs.Act.{Act, again, begin, end, stop}
use Rattle.drive.specs.Drive.{Fault}
use Rattle.drive.specs.Hoare.{Came, Claim, Goal, Keeps, Sound}
use Rattle.rules.specs.Calls.{deepest, ran_call}
use Rattle.rules.specs.Eval.{bind_all, bind_next, call, converted, enter_body, enter_converted, enter_function, function_named, if_found, is_const_stage, returned, yielded}
use Rattle.rules.specs.Language.{rules}
use Rattle.rules.specs.Promises.{CallsYield, IfAccepted, Yields, YieldsBy}
use Rattle.rules.specs.Store.{Env, OutOf, Refusal, Store, closing, named, opening, refuse, shape}
use Rattle.rules.specs.Tree.{Function}
use Rattle.rules.specs.declared.error.Cause.TheVariants as C
use Rattle.rules.specs.declared.flow.Flow.{Flow}
use Rattle.rules.specs.declared.flow.Flow.TheVariants as F

module _ {V : Type 0} (env : Env V) where
  -- A claim that says nothing is kept by every act.
  abbrev nothing : (A : Type 0) → Goal A Refusal (Store V)
  nothing A = record { Ends = λ o s. Unit {0}; Fails = λ n s. Unit {0}; Goes = λ s. Unit {0} }

  abbrev any : Claim (shape V)
  any = record { Pre = λ c s. Unit {0}; goal = λ c s. nothing (OutOf V c) }

  anything : {A : Type 0} (a : Act (shape V) A) → Keeps any (nothing A) a
  anything (end o s) = tt
  anything (stop n b s) = tt
  anything (begin c s k) = (tt, (λ n t h. tt), λ o t h. anything (k o t))
  anything (again s) = tt

  sound : Sound (rules env) any
  sound = record { spent = λ c s p. tt; full = λ c s p. tt; acts = λ c s p. anything _; rounds = λ c s₀ s p h. anything _ }

  module _ (laws : ValueLaws env.values) (ty : Option ℕ) where
    abbrev yielding : Goal (Option V) Refusal (Store V)
    yielding = record { Ends = λ o s. Yields env.values ty o; Fails = λ n s. Unit {0}; Goes = λ s. ⊥ }

  module _ (laws : ValueLaws env.values) where
    converted-yields : (t : ℕ) (o : Option V) → Typed env.values t o → (name : ℕ) (s : Store V) → Keeps any (yielding laws (Some t)) (returned env o name s end)
    converted-yields t None h name s = tt
    converted-yields t (Some v) h name s = h

    flow-yields : (flow : Flow V) (ty : Option ℕ) (name : ℕ) (s : Store V) → Keeps any (yielding laws ty) (yielded env flow ty name s end)
    flow-yields F.Break ty name s = tt
    flow-yields F.Continue ty name s = tt
    flow-yields F.Next None name s = tt
    flow-yields F.Next (Some t) name s = tt
    flow-yields (F.Return None) None name s = tt
    flow-yields (F.Return None) (Some t) name s = tt
    flow-yields (F.Return (Some v)) None name s = tt
    flow-yields (F.Return (Some v)) (Some t) name s = converted-yields t (env.values.convert v t) (laws.converts v t) name s

    module _ (f : Function) where
      body-yields : (s : Store V) → Keeps any (yielding laws f.ty) (enter_body env f s end)
      body-yields s = (tt, (λ n t h. tt), λ flow t h. flow-yields flow f.ty f.name (closing t))

      bound-yields : (ps : List (ℕ × ℕ)) (vs : List V) (s : Store V) → Keeps any (yielding laws f.ty) (bind_all env ps vs s (λ t. enter_body env f t end))
      bound-yields [] vs s = body-yields s
      bound-yields (p ∷ ps) [] s = body-yields s
      bound-yields (p ∷ ps) (v ∷ vs) s = next (bind p.0 K.Let v s.names) (λ t. bound-yields ps vs t)
        where
          next : (x : Result (State V) NameFault) → ((t : Store V) → Keeps any (yielding laws f.ty) (bind_all env ps vs t (λ u. enter_body env f u end)))
              → Keeps any (yielding laws f.ty) (bind_next env x s (λ t. bind_all env ps vs t (λ u. enter_body env f u end)))
          next (Err e) on = tt
          next (Ok n) on = on (named n s)

      entered-yields : (o : Option (List V)) (s : Store V) → Keeps any (yielding laws f.ty) (enter_converted env f o s end)
      entered-yields None s = tt
      entered-yields (Some vs) s = bound-yields f.parameters vs s

      checked_yields : (vs : List V) (s : Store V) (b c : Bool)
          → Keeps any (yielding laws f.ty) (cond b (refuse C.NotConst s) (cond c (enter_converted env f (converted env f.parameters vs) (opening Scopes.Call s) end) (refuse C.ParamCount s)))
      checked_yields vs s true c = tt
      checked_yields vs s false true = entered-yields (converted env f.parameters vs) (opening Scopes.Call s)
      checked_yields vs s false false = tt

    -- by the function that is found
    abbrev yielding_by : Option Function → Goal (Option V) Refusal (Store V)
    yielding_by o = record { Ends = λ v s. YieldsBy env.values o v; Fails = λ n s. Unit {0}; Goes = λ s. ⊥ }

    found_yields : (o : Option Function) (vs : List V) (s : Store V) → Keeps any (yielding_by o) (if_found env o s (λ f. enter_function env f vs s end))
    found_yields None vs s = tt
    found_yields (Some f) vs s = checked_yields f vs s (is_const_stage s.stage && not f.is_const) (eqb (length vs) (length f.parameters))

    answer-yields : (o : Option Function) (x : Result (Option V) (Fault Refusal)) (t : Store V) → Came (yielding_by o) x t → IfAccepted (YieldsBy env.values o) x
    answer-yields o (Ok v) t h = h
    answer-yields o (Err e) t h = tt

    pub calls_yield : CallsYield env
    unfolding ran_call
    calls_yield name vs s g =
        let f = function_named env.words name in
        answer-yields f (ran_call env name vs s g).outcome (ran_call env name vs s g).state
        (outside_meets (rules env) any sound (yielding_by f) (λ t h. h) deepest (call env name vs s end) g (found_yields f vs s))
