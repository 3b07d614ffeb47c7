-- The ledger: what a caller who writes down its own calls, and which were accepted, knows of the names and the stage.
use Rattle.std.specs.Prelude.{◌≡◌, ℕ, cond, List, [], ◌∷◌, ◌++◌, map, Some, None, Ok, Err, Option, Result, ◌==◌}
use Rattle.std.specs.Option.{option_or}
use Rattle.std.specs.List.{slice_get}
use Rattle.host.specs.Meaning.{ValueMeaning}
use Rattle.host.specs.Numbers.{stages}
use Rattle.host.specs.declared.Stage.{Stage}
use Rattle.host.specs.declared.Stage.TheVariants.{Const}
use Rattle.syntax.specs.declared.DeclarationKind.{DeclarationKind}
use Rattle.names.specs.Laws.{Lasting, fixed, lasting}
use Rattle.names.specs.declared.binding.Binding.{Binding}
use Rattle.drive.specs.Drive.{Fault}
use Rattle.names.specs.declared.error.NameFault.TheVariants.{UnknownDecl}
use Rattle.rules.specs.Calls.{Answered, Call, Reply, call, done, flow, holds, look, perform, run, set_stage, start, yields}
use Rattle.rules.specs.Store.{Env, Refusal, Store, because}
use Rattle.rules.specs.declared.error.Cause.TheVariants as C
use Rattle.rules.specs.Tree.{Entry, Statement, entry_at}
use Rattle.rules.specs.Tree as T

-- The kind and the name that a declaration adds; no other statement adds any.
abbrev pub declares_in : Statement → Option (DeclarationKind × ℕ)
declares_in (T.Declaration kind name ty e) = Some (kind, name)
declares_in T.Empty = None
declares_in (T.Compound es) = None
declares_in (T.Assignment op l r) = None
declares_in (T.Increment c) = None
declares_in (T.Decrement c) = None
declares_in (T.If cs o) = None
declares_in (T.Switch c cs) = None
declares_in (T.Loop b c) = None
declares_in (T.For i c u b) = None
declares_in (T.While c b) = None
declares_in T.Break = None
declares_in T.Continue = None
declares_in (T.Return c) = None
declares_in T.Discard = None
declares_in (T.CallStatement c) = None
declares_in (T.ConstAssert c) = None

abbrev pub declares : Entry → Option (DeclarationKind × ℕ)
declares (T.statement x) = declares_in x
declares (T.unit cs) = None
declares (T.continuing b c) = None
declares (T.expression x) = None
declares (T.function f) = None
declares T.absent = None

pub record Ledger (V : Type 0) : Type 0 where
  pub stage : Stage
  -- the oldest first: name, kind and type, and the value of a const or let
  pub names : List (Lasting V)

abbrev pub newest : {A : Type 0} → List A → Option A
newest [] = None
newest (x ∷ []) = Some x
newest (x ∷ y ∷ ys) = newest (y ∷ ys)

module _ {V : Type 0} where
  -- At an engine's making.
  abbrev pub blank : Ledger V
  blank = record { stage = Const; names = [] }

  module _ (m : ValueMeaning V) where
    -- A name as it was declared, with the type and value that were bound.
    abbrev pub noted : DeclarationKind × ℕ → Option (Binding V) → List (Lasting V)
    noted d None = []
    noted d (Some b) =
        record { name = d.1; kind = d.0; type = m.type_of b.value; value = fixed d.0 b.value } ∷ []

    abbrev pub noting : Option (DeclarationKind × ℕ) → Store V → Ledger V → Ledger V
    noting None s l = l
    noting (Some d) s l = record { stage = l.stage; names = l.names ++ noted d (newest s.names.bindings) }

    -- Only what was accepted is entered.
    abbrev pub accepting : Result (Reply V) (Fault Refusal) → Option (DeclarationKind × ℕ) → Store V → Ledger V → Ledger V
    accepting (Ok r) d s l = noting d s l
    accepting (Err f) d s l = l

  abbrev pub staging : Option Stage → Ledger V → Ledger V
  staging None l = l
  staging (Some t) l = record { stage = t; names = l.names }

module _ {V : Type 0} (env : Env V) where
  -- A declaration that was run adds its name, and a stage that was set replaces the old one. Nothing else changes the ledger.
  abbrev pub entered : Call V → Answered V → Ledger V → Ledger V
  entered (run t e g) a l = accepting env.values a.outcome (declares (entry_at env.words e)) a.store l
  entered (call t name vs g) a l = l
  entered (look name) a l = l
  entered (set_stage k) a l = staging (slice_get stages k) l

  -- Along a list of calls: the store, and the ledger.
  abbrev pub store_after : List (Call V) → Store V → Store V
  store_after [] s = s
  store_after (c ∷ cs) s = store_after cs (perform env c s).store

  abbrev pub ledger_after : List (Call V) → Store V → Ledger V → Ledger V
  ledger_after [] s l = l
  ledger_after (c ∷ cs) s l = ledger_after cs (perform env c s).store (entered c (perform env c s) l)

  -- The store is what the ledger says: the root's scope alone is open, the stage is the ledger's, and so are the names bound,
  -- their kinds, the types of their values, and the values of const and let.
  pub record Agrees (l : Ledger V) (s : Store V) : Type 0 where
    pub one_scope : s.names.scopes ≡ []
    pub stage : s.stage ≡ l.stage
    pub names : map (lasting env.values) s.names.bindings ≡ l.names

  -- After every list of calls, however many records are usable.
  abbrev pub LedgerHolds : Type 0
  LedgerHolds = (usable : ℕ) (cs : List (Call V)) → Agrees (ledger_after cs (start usable) blank) (store_after cs (start usable))

-- ## What a look at a name tells

module _ {V : Type 0} where
  abbrev pub if_noted : ℕ → Lasting V → Option (Lasting V)
  if_noted name x = cond (x.name == name) (Some x) None

  -- The newest note of a name.
  abbrev pub note_of : ℕ → List (Lasting V) → Option (Lasting V)
  note_of name [] = None
  note_of name (x ∷ xs) = option_or (note_of name xs) (if_noted name x)

  -- The value that was noted, if one was.
  abbrev pub Valued : Option V → V → Type 0
  Valued None v = Unit {0}
  Valued (Some w) v = v ≡ w

  -- A name that is not noted is unknown; of another a value is answered, of the type that was noted, and of a const or let the
  -- value that was noted.
  abbrev pub Tells : ValueMeaning V → Option (Lasting V) → Result (Reply V) (Fault Refusal) → Type 0
  Tells m None (Err f) = f.cause ≡ because (C.Name UnknownDecl)
  Tells m None (Ok r) = ⊥
  Tells m (Some x) (Err f) = ⊥
  Tells m (Some x) (Ok (holds v)) = (m.type_of v ≡ x.type) × Valued x.value v
  Tells m (Some x) (Ok (flow f)) = ⊥
  Tells m (Some x) (Ok (yields o)) = ⊥
  Tells m (Some x) (Ok done) = ⊥

  abbrev pub LooksTell : Env V → Type 0
  LooksTell env =
      (usable : ℕ) (cs : List (Call V)) (name : ℕ)
      → Tells env.values (note_of name (ledger_after env cs (start usable) blank).names) (perform env (look name) (store_after env cs (start usable))).outcome
