-- What a program may ask of an engine, what it answers, and what is left then; and a list of such calls.
use Rattle.std.specs.Prelude.{ℕ, Bool, cond, ◌||◌, List, [], ◌∷◌, length, Some, None, Ok, Err, Option, Result, nat_lt}
use Rattle.std.specs.List.{slice_get}
use Rattle.host.specs.Numbers.{stages}
use Rattle.host.specs.declared.Stage.{Stage}
use Rattle.host.specs.declared.Stage.TheVariants.{Const}
use Rattle.names.specs.Rules.{close_all, empty, lookup}
use Rattle.names.specs.declared.binding.Found.{Found}
use Rattle.names.specs.declared.error.NameFault.{NameFault}
use Rattle.drive.specs.Act.{end}
use Rattle.drive.specs.Drive.{Answer, Fault, run_outside}
use Rattle.drive.specs.Drive as D
use Rattle.rules.specs.Eval as E
use Rattle.rules.specs.Language.{rules}
use Rattle.rules.specs.Store.{Env, Refusal, Store, because, statement}
use Rattle.rules.specs.Tree.{entry_at, is_statement}
use Rattle.rules.specs.declared.error.Cause.{Cause}
use Rattle.rules.specs.declared.error.Cause.TheVariants as C
use Rattle.rules.specs.declared.flow.Flow.{Flow}

-- How many entries may be pending.
abbrev pub deepest : ℕ
deepest = 256

-- The lengths of the tables that a caller lends for a run.
pub record Lent : Type 0 where
  pub pending : ℕ
  pub values : ℕ

abbrev pub too_short : Lent → Bool
too_short t = nat_lt t.pending 256 || nat_lt t.values 4096

pub data Call (V : Type 0) : Type 0 where
  -- an entry and a grant
  run : Lent → ℕ → ℕ → Call V
  -- a function's name, values and a grant
  call : Lent → ℕ → List V → ℕ → Call V
  look : ℕ → Call V
  set_stage : ℕ → Call V

-- What an accepted call answers.
pub data Reply (V : Type 0) : Type 0 where
  flow : Flow V → Reply V
  yields : Option V → Reply V
  holds : V → Reply V
  done : Reply V

pub record Answered (V : Type 0) : Type 0 where
  pub outcome : Result (Reply V) (Fault Refusal)
  pub steps : ℕ
  pub store : Store V

module _ {V : Type 0} where
  -- A refusal in which nothing is begun and nothing changes.
  abbrev pub refused : Cause → Store V → Answered V
  refused cause s =
      record { outcome = Err (record { cause = because cause; entry = 0; blamed = None }); steps = 0; store = s }

  -- After a fault the names are the root's, as they then are, and the stage is the one before.
  abbrev pub restored : Store V → Store V → Store V
  restored before s = record { names = close_all s.names; stage = before.stage }

  abbrev pub finished : {A : Type 0} → (A → Reply V) → Store V → Result A (Fault Refusal) → Store V → ℕ → Answered V
  finished reply before (Ok o) s n = record { outcome = Ok (reply o); steps = n; store = s }
  finished reply before (Err f) s n = record { outcome = Err f; steps = n; store = restored before s }

  abbrev pub seen : Result (Found V) NameFault → Store V → Answered V
  seen (Err f) s = refused (C.Name f) s
  seen (Ok x) s = record { outcome = Ok (holds x.binding.value); steps = 0; store = s }

  abbrev pub staging : Option Stage → Store V → Answered V
  staging None s = refused C.BadStage s
  staging (Some t) s = record { outcome = Ok done; steps = 0; store = record { names = s.names; stage = t } }

  -- An engine at its making, with so many usable records.
  abbrev pub start : ℕ → Store V
  start usable = record { names = empty usable; stage = Const }

module _ {V : Type 0} (env : Env V) where
  -- An entry run as a statement at the root, and a function called from outside.
  unfoldable pub ran_entry : ℕ → Store V → ℕ → Answer (Flow V) Refusal (Store V)
  ran_entry e s g = D.run (rules env) deepest (statement e) s g

  unfoldable pub ran_call : ℕ → List V → Store V → ℕ → Answer (Option V) Refusal (Store V)
  ran_call name vs s g = run_outside (rules env) deepest (E.call env name vs s end) g

  abbrev pub perform : Call V → Store V → Answered V
  perform (run t e g) s =
      cond (too_short t) (refused C.ShortTables s)
      (cond (is_statement (entry_at env.words e))
      (finished flow s (ran_entry e s g).outcome (ran_entry e s g).state (ran_entry e s g).steps)
      (refused C.NoStatement s))
  perform (call t name vs g) s =
      cond (too_short t) (refused C.ShortTables s)
      (cond (nat_lt 16 (length vs)) (refused C.TooManyArguments s)
      (finished yields s (ran_call name vs s g).outcome (ran_call name vs s g).state (ran_call name vs s g).steps))
  perform (look name) s = seen (lookup name s.names) s
  perform (set_stage k) s = staging (slice_get stages k) s

  -- The answers along a list of calls, and the store after each.
  abbrev pub follow : List (Call V) → Store V → List (Answered V)
  follow [] s = []
  follow (c ∷ cs) s = perform c s ∷ follow cs (perform c s).store
