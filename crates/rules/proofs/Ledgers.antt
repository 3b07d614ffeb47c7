-- The store agrees with the ledger after every list of calls.
use Rattle.std.proofs.Common.{◌≡◌, ℕ, Bool, true, false, cond, ltb, List, [], ◌∷◌, ◌++◌, map, length, Some, None, Ok, Err, Option, Result, sym, refl, ap, ◌∙◌}
use Rattle.std.proofs.lemmas.List.{map-append}
use Rattle.std.specs.List.{slice_get}
use Rattle.syntax.specs.declared.DeclarationKind.{DeclarationKind}
use Rattle.host.specs.Numbers.{stages}
use Rattle.host.specs.declared.Stage.{Stage}
use Rattle.names.specs.Laws.{Same, lasting}
use Rattle.names.specs.Rules.{lookup}
use Rattle.names.specs.declared.binding.Binding.{Binding}
use Rattle.names.specs.declared.binding.Found.{Found}
use Rattle.names.specs.declared.error.NameFault.{NameFault}
use Rattle.drive.specs.Drive.{Fault}
use Rattle.drive.specs.Hoare.{Came}
use Rattle.rules.specs.Calls.{Answered, Call, Lent, call, finished, flow, look, perform, ran_call, ran_entry, refused, restored, run, seen, set_stage, staging, start, too_short, yields}
use Rattle.rules.specs.Ledger.{Agrees, Ledger, LedgerHolds, accepting, blank, declares, entered, ledger_after, newest, noted, noting, store_after}
use Rattle.rules.specs.Ledger as L
use Rattle.rules.specs.Store.{Env, Refusal, Store}
use Rattle.rules.specs.Tree.{entry_at, is_statement}
use Rattle.rules.specs.declared.error.Cause.TheVariants as C
use Rattle.rules.specs.declared.flow.Flow.{Flow}
use Rattle.rules.proofs.Keeping.{Added, Stated, call_keeps_names, ran_keeps, statement_goal, tidy_goal}
use Rattle.rules.proofs.Reaching.{Tidy, tidy_root}

newest-push : {A : Type 0} (xs : List A) (x : A) → newest (xs ++ x ∷ []) ≡ Some x
newest-push [] x = refl
newest-push (y ∷ []) x = refl
newest-push (y ∷ z ∷ ys) x = newest-push (z ∷ ys) x

module _ {V : Type 0} (env : Env V) where
  -- The same names as they last agree with the same ledger.
  same_agrees : (l : Ledger V) (s t : Store V) → Agrees env l s → Same env.values s.names t.names → t.stage ≡ s.stage → Agrees env l t
  same_agrees l s t a h e =
      record { one_scope = h.scopes ∙ a.one_scope; stage = e ∙ a.stage; names = h.names ∙ a.names }

  -- A fault leaves the names and the stage from before.
  fault_agrees : (l : Ledger V) (s t : Store V) → Agrees env l s → Tidy env.values s.names t.names → Agrees env l (restored s t)
  fault_agrees l s t a h = same_agrees l s (restored s t) a (tidy_root s.names t.names a.one_scope h) refl

  -- A declaration adds its name to both.
  added_agrees : (l : Ledger V) (s t : Store V) (d : DeclarationKind × ℕ) → Agrees env l s → Added env d.0 d.1 s t → Agrees env (noting env.values (Some d) t l) t
  added_agrees l s t d a h =
      let m = env.values in
      let b : Binding V = record { name = d.1; kind = d.0; value = h.value } in
      let last : newest t.names.bindings ≡ Some b = ap (λ n. newest n.bindings) h.names ∙ newest-push h.before.bindings b in
      record {
        one_scope = ap (λ n. n.scopes) h.names ∙ h.same.scopes ∙ a.one_scope;
        stage = h.stage ∙ a.stage;
        names =
            ap (λ n. map (lasting m) n.bindings) h.names
            ∙ map-append (lasting m) h.before.bindings (b ∷ [])
            ∙ ap (λ xs. xs ++ lasting m b ∷ []) (h.same.names ∙ a.names)
            ∙ ap (λ o. l.names ++ noted m d o) (sym last);
      }

  stated_agrees : (l : Ledger V) (s t : Store V) (d : Option (DeclarationKind × ℕ)) → Agrees env l s → Stated env d s t → Agrees env (noting env.values d t l) t
  stated_agrees l s t None a h = same_agrees l s t a h.names h.stage
  stated_agrees l s t (Some d) a h = added_agrees l s t d a h

  module _ (l : Ledger V) (s : Store V) (a : Agrees env l s) where
    ran_agrees : (e : ℕ) (o : Result (Flow V) (Fault Refusal)) (t : Store V) (n : ℕ) → Came (statement_goal env (entry_at env.words e) s) o t
        → Agrees env (accepting env.values (finished flow s o t n).outcome (declares (entry_at env.words e)) (finished flow s o t n).store l) (finished flow s o t n).store
    ran_agrees e (Ok f) t n h = stated_agrees l s t (declares (entry_at env.words e)) a h
    ran_agrees e (Err f) t n h = fault_agrees l s t a h

    called_agrees : (o : Result (Option V) (Fault Refusal)) (t : Store V) (n : ℕ) → Came (tidy_goal env (Option V) s) o t → Agrees env l (finished yields s o t n).store
    called_agrees (Ok v) t n h = same_agrees l s t a h.names h.stage
    called_agrees (Err f) t n h = fault_agrees l s t a h

    abbrev run_answer : ℕ → ℕ → Bool → Bool → Answered V
    run_answer e g b c =
        cond b (refused C.ShortTables s)
        (cond c (finished flow s (ran_entry env e s g).outcome (ran_entry env e s g).state (ran_entry env e s g).steps) (refused C.NoStatement s))

    answer_agrees : (e g : ℕ) (b c : Bool) → Agrees env (accepting env.values (run_answer e g b c).outcome (declares (entry_at env.words e)) (run_answer e g b c).store l) (run_answer e g b c).store
    answer_agrees e g true c = a
    answer_agrees e g false true = ran_agrees e (ran_entry env e s g).outcome (ran_entry env e s g).state (ran_entry env e s g).steps (ran_keeps env e s g)
    answer_agrees e g false false = a

    run_agrees : (t : Lent) (e g : ℕ) → Agrees env (entered env (run t e g) (perform env (run t e g) s) l) (perform env (run t e g) s).store
    run_agrees t e g = answer_agrees e g (too_short t) (is_statement (entry_at env.words e))

    call_agrees : (t : Lent) (name : ℕ) (vs : List V) (g : ℕ) → Agrees env l (perform env (call t name vs g) s).store
    call_agrees t name vs g = go (too_short t) (ltb 16 (length vs))
      where
        go : (b c : Bool)
            → Agrees env l (cond b (refused C.ShortTables s) (cond c (refused C.TooManyArguments s) (finished yields s (ran_call env name vs s g).outcome (ran_call env name vs s g).state (ran_call env name vs s g).steps))).store
        go true c = a
        go false true = a
        go false false = called_agrees (ran_call env name vs s g).outcome (ran_call env name vs s g).state (ran_call env name vs s g).steps (call_keeps_names env name vs s g)

    seen_agrees : (x : Result (Found V) NameFault) → Agrees env l (seen x s).store
    seen_agrees (Ok x) = a
    seen_agrees (Err f) = a

    staged_agrees : (o : Option Stage) → Agrees env (L.staging o l) (staging o s).store
    staged_agrees None = a
    staged_agrees (Some t) = record { one_scope = a.one_scope; stage = refl; names = a.names }

    step_agrees : (c : Call V) → Agrees env (entered env c (perform env c s) l) (perform env c s).store
    step_agrees (run t e g) = run_agrees t e g
    step_agrees (call t name vs g) = call_agrees t name vs g
    step_agrees (look name) = seen_agrees (lookup name s.names)
    step_agrees (set_stage k) = staged_agrees (slice_get stages k)

  list_agrees : (cs : List (Call V)) (l : Ledger V) (s : Store V) → Agrees env l s → Agrees env (ledger_after env cs s l) (store_after env cs s)
  list_agrees [] l s a = a
  list_agrees (c ∷ cs) l s a = list_agrees cs (entered env c (perform env c s) l) (perform env c s).store (step_agrees l s a c)

  pub ledger_holds : LedgerHolds env
  ledger_holds usable cs = list_agrees cs blank (start usable) (record { one_scope = refl; stage = refl; names = refl })
