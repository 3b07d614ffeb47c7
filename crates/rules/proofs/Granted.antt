-- The steps of every answer are the smallest grant that gives it.
use Rattle.std.proofs.Common.{◌≡◌, ℕ, ◌<◌, ◌≤◌, Bool, true, false, cond, ltb, List, length, Ok, Err, Result, sym, refl, ap, subst, arith}
use Rattle.drive.proofs.Law.{outside-smallest, run-smallest}
use Rattle.drive.specs.Act.{end}
use Rattle.drive.specs.Drive.{Answer, FailsBy, Fault}
use Rattle.drive.specs.Drive as D
use Rattle.rules.specs.Calls.{Answered, Reply, deepest, finished, flow, ran_call, ran_entry, refused, too_short, yields}
use Rattle.rules.specs.Eval as E
use Rattle.rules.specs.Language.{rules}
use Rattle.rules.specs.Promises.{SmallestGrant, SmallestGrants}
use Rattle.rules.specs.Store.{Env, Refusal, Store, because, statement}
use Rattle.rules.specs.Tree.{entry_at, is_statement}
use Rattle.rules.specs.declared.error.Cause.TheVariants as C

module _ {V : Type 0} where
  -- Answers that do not look at the grant, with no step.
  constant : (a : Answered V) → a.steps ≡ 0 → (g : ℕ) → SmallestGrant (λ h. a) g
  constant a none g = record { within = omega arith; enough = λ h k. refl; short = λ h k. absurd (omega arith) }

  module _ {A : Type 0} (reply : A → Reply V) (s : Store V) (f : ℕ → Answer A Refusal (Store V)) where
    abbrev told : Answer A Refusal (Store V) → Answered V
    told a = finished reply s a.outcome a.state a.steps

    told_steps : (o : Result A (Fault Refusal)) (t : Store V) (n : ℕ) → (finished reply s o t n).steps ≡ n
    told_steps (Ok a) t n = refl
    told_steps (Err e) t n = refl

    told_fails : (o : Result A (Fault Refusal)) (t : Store V) (n : ℕ) → FailsBy (because C.OutOfFuel) o → FailsBy (because C.OutOfFuel) (finished reply s o t n).outcome
    told_fails (Ok a) t n h = h
    told_fails (Err e) t n h = h

    -- What is told of a run keeps the law of the run.
    told_smallest : (g : ℕ) → D.SmallestGrant (because C.OutOfFuel) f g → SmallestGrant (λ h. told (f h)) g
    told_smallest g law =
        let e = told_steps (f g).outcome (f g).state (f g).steps in
        record {
          within = subst (λ n. n ≤ g) (sym e) law.within;
          enough = λ h k. ap told (law.enough h (subst (λ n. n ≤ h) e k));
          short = λ h k. told_fails (f h).outcome (f h).state (f h).steps (law.short h (subst (λ n. h < n) e k));
        }

module _ {V : Type 0} (env : Env V) (s : Store V) where
  ran_smallest : (e g : ℕ) → (FailsBy (because C.OutOfFuel) (ran_entry env e s g).outcome → ⊥) → D.SmallestGrant (because C.OutOfFuel) (ran_entry env e s) g
  unfolding ran_entry rules
  ran_smallest e g ok = run-smallest (rules env) deepest (statement e) s g ok

  called_smallest : (name : ℕ) (vs : List V) (g : ℕ) → (FailsBy (because C.OutOfFuel) (ran_call env name vs s g).outcome → ⊥) → D.SmallestGrant (because C.OutOfFuel) (ran_call env name vs s) g
  unfolding ran_call rules
  called_smallest name vs g ok = outside-smallest (rules env) deepest (E.call env name vs s end) g ok

  abbrev ran_answer : ℕ → Bool → Bool → ℕ → Answered V
  ran_answer e b c g =
      cond b (refused C.ShortTables s)
      (cond c (told flow s (ran_entry env e s) (ran_entry env e s g)) (refused C.NoStatement s))

  run_granted : (e : ℕ) (b c : Bool) (g : ℕ) → (FailsBy (because C.OutOfFuel) (ran_answer e b c g).outcome → ⊥) → SmallestGrant (ran_answer e b c) g
  run_granted e true c g ok = constant _ refl g
  run_granted e false false g ok = constant _ refl g
  run_granted e false true g ok =
      told_smallest flow s (ran_entry env e s) g
      (ran_smallest e g (λ h. ok (told_fails flow s (ran_entry env e s) (ran_entry env e s g).outcome (ran_entry env e s g).state (ran_entry env e s g).steps h)))

  abbrev called_answer : ℕ → List V → Bool → Bool → ℕ → Answered V
  called_answer name vs b c g =
      cond b (refused C.ShortTables s)
      (cond c (refused C.TooManyArguments s) (told yields s (ran_call env name vs s) (ran_call env name vs s g)))

  call_granted : (name : ℕ) (vs : List V) (b c : Bool) (g : ℕ) → (FailsBy (because C.OutOfFuel) (called_answer name vs b c g).outcome → ⊥) → SmallestGrant (called_answer name vs b c) g
  call_granted name vs true c g ok = constant _ refl g
  call_granted name vs false true g ok = constant _ refl g
  call_granted name vs false false g ok =
      told_smallest yields s (ran_call env name vs s) g
      (called_smallest name vs g (λ h. ok (told_fails yields s (ran_call env name vs s) (ran_call env name vs s g).outcome (ran_call env name vs s g).state (ran_call env name vs s g).steps h)))

pub smallest_grants : {V : Type 0} (env : Env V) → SmallestGrants env
smallest_grants env = (
  (λ t e s g ok. run_granted env s e (too_short t) (is_statement (entry_at env.words e)) g ok),
  λ t name vs s g ok. call_granted env s name vs (too_short t) (ltb 16 (length vs)) g ok,
)
