-- What is promised of every run and every call from outside.
use Rattle.std.specs.Prelude.{◌≡◌, ℕ, ◌<◌, ◌≤◌, List, Some, None, Ok, Err, Option, Result}
use Rattle.host.specs.Meaning.{ValueMeaning}
use Rattle.drive.specs.Drive.{FailsBy}
use Rattle.rules.specs.Calls.{Answered, Lent, call, perform, ran_call, run}
use Rattle.rules.specs.Eval.{function_named}
use Rattle.rules.specs.Store.{Env, Store, because}
use Rattle.rules.specs.Tree.{Function}
use Rattle.rules.specs.declared.error.Cause.TheVariants.{OutOfFuel}

-- Something holds of what is answered, if it is no refusal.
abbrev pub IfAccepted : {A E : Type 0} → (A → Type 0) → Result A E → Type 0
IfAccepted P (Ok a) = P a
IfAccepted P (Err e) = Unit {0}

module _ {V : Type 0} where
  -- The steps of an answer are the smallest grant that gives it: every smaller grant is OutOfFuel, and every larger one gives
  -- the same outcome, steps, names and values.
  pub record SmallestGrant (answers : ℕ → Answered V) (g : ℕ) : Type 0 where
    pub within : (answers g).steps ≤ g
    pub enough : (h : ℕ) → (answers g).steps ≤ h → answers h ≡ answers g
    pub short : (h : ℕ) → h < (answers g).steps → FailsBy (because OutOfFuel) (answers h).outcome

  -- Where a run, or a call, answers other than OutOfFuel.
  abbrev pub SmallestGrants : Env V → Type 0
  SmallestGrants env =
      ((t : Lent) (e : ℕ) (s : Store V) (g : ℕ) → (FailsBy (because OutOfFuel) (perform env (run t e g) s).outcome → ⊥)
      → SmallestGrant (λ h. perform env (run t e h) s) g)
      × ((t : Lent) (name : ℕ) (vs : List V) (s : Store V) (g : ℕ) → (FailsBy (because OutOfFuel) (perform env (call t name vs g) s).outcome → ⊥)
      → SmallestGrant (λ h. perform env (call t name vs h) s) g)

  -- A value exactly when a type is declared, and of that type.
  abbrev pub Yields : ValueMeaning V → Option ℕ → Option V → Type 0
  Yields m None None = Unit {0}
  Yields m None (Some v) = ⊥
  Yields m (Some t) None = ⊥
  Yields m (Some t) (Some v) = m.type_of v ≡ t

  -- What an accepted call yields, by the function that was found.
  abbrev pub YieldsBy : ValueMeaning V → Option Function → Option V → Type 0
  YieldsBy m None o = ⊥
  YieldsBy m (Some f) o = Yields m f.ty o

  abbrev pub CallsYield : Env V → Type 0
  CallsYield env =
      (name : ℕ) (vs : List V) (s : Store V) (g : ℕ)
      → IfAccepted (YieldsBy env.values (function_named env.words name)) (ran_call env name vs s g).outcome
