-- The laws of flows: a statement ends as its set says, a loaded book leads no run astray, and a fit one spares four refusals.
use Rattle.std.specs.Prelude.{◌≡◌, ℕ, Bool, true, List, Ok, Err, Result}
use Rattle.fitness.specs.Fit.{Fit}
use Rattle.behavior.specs.Rules.{behavior}
use Rattle.behavior.specs.declared.set.Behavior.{Behavior}
use Rattle.drive.specs.Drive.{FailsBy, Fault}
use Rattle.rules.specs.Calls.{ran_call, ran_entry}
use Rattle.rules.specs.Store.{Env, Refusal, Store, astray, because}
use Rattle.rules.specs.Tree.{entry_at, is_statement}
use Rattle.rules.specs.declared.error.Cause.TheVariants.{FlowInContinuing, FlowInFunction, NoReturn, UnexpectedReturn}
use Rattle.rules.specs.declared.flow.Flow.{Flow}
use Rattle.rules.specs.declared.flow.Flow.TheVariants as F

module _ {V : Type 0} where
  -- Whether a flow is in a set.
  abbrev pub has : Behavior → Flow V → Bool
  has b F.Next = b.next
  has b F.Break = b.breaks
  has b F.Continue = b.continues
  has b (F.Return v) = b.returns

  -- A run that isn't refused ends with a flow of the set.
  abbrev pub EndsIn : Behavior → Result (Flow V) (Fault Refusal) → Type 0
  EndsIn b (Ok flow) = has b flow ≡ true
  EndsIn b (Err f) = Unit {0}

module _ {V : Type 0} (env : Env V) where
  -- Every statement that is run, and isn't refused, ends with a flow of its behavior set: whatever the names, the stage, the
  -- grant and the host.
  abbrev pub FlowsInSets : Type 0
  FlowsInSets =
      (e : ℕ) (s : Store V) (g : ℕ) → is_statement (entry_at env.words e) ≡ true
      → EndsIn (behavior env.words e) (ran_entry env e s g).outcome

  -- No run of a statement and no call is refused so.
  pub record NeverRefused (r : Refusal) : Type 0 where
    pub runs :
        (e : ℕ) (s : Store V) (g : ℕ) → is_statement (entry_at env.words e) ≡ true → FailsBy r (ran_entry env e s g).outcome
        → ⊥
    pub calls : (name : ℕ) (vs : List V) (s : Store V) (g : ℕ) → FailsBy r (ran_call env name vs s g).outcome → ⊥

  -- Every entry that is begun is what its parent takes it for.
  abbrev pub NeverAstray : Type 0
  NeverAstray = NeverRefused astray

  -- In a fit book every function yields what its type says, and no flow leaves a continuing or a function.
  abbrev pub FitNever : Type 0
  FitNever =
      Fit env.words
      → NeverRefused (because NoReturn) × NeverRefused (because UnexpectedReturn) × NeverRefused (because FlowInContinuing)
      × NeverRefused (because FlowInFunction)
