-- The rules of names: scopes opened and closed, names bound, found and written.
use Rattle.std.specs.Prelude.{◌≡◌, ◌≢◌, ◌<◌, ℕ, ◌+◌, Bool, MatchOption, slice_index_or, cond, List, [], ◌∷◌, ◌++◌, length, take, drop, is_some, Some, None, Ok, Err, Option, Result, ◌==◌, nat_lt, slice_set}
use Rattle.std.specs.Option.{ok_or, option_or}
use Rattle.std.specs.List.{slice_get}
use Rattle.host.specs.Meaning.{ValueMeaning}
use Rattle.syntax.specs.declared.DeclarationKind.{DeclarationKind}
use Rattle.syntax.specs.declared.DeclarationKind.TheVariants.{Const, Let, Var}
use Rattle.names.specs.Scopes.{call_first, local_first, root_end}
use Rattle.names.specs.State.{State}
use Rattle.names.specs.declared.binding.Binding.{Binding}
use Rattle.names.specs.declared.binding.Found.{Found}
use Rattle.names.specs.declared.error.NameFault.{NameFault}
use Rattle.names.specs.declared.error.NameFault.TheVariants.{AssignType, WriteRefType, NotRef, DuplicateDecl, UnknownDecl, NoNames}
use Rattle.names.specs.declared.scope.Scope.{Scope}
use Rattle.names.specs.declared.scope.ScopeKind.{ScopeKind}

-- At the making: no name, and the root's scope alone.
abbrev pub empty : {V : Type 0} → ℕ → State V
empty usable = record { bindings = []; scopes = []; usable = usable }

-- What an operation answers that leaves a new state, or refuses and leaves the old one.
abbrev pub answered : {S E : Type 0} → Result S E → Result (Unit {0}) E
answered (Ok s) = Ok tt
answered (Err e) = Err e

module _ {V : Type 0} where
  -- ## Scopes

  -- How many scopes are open, the root's among them.
  abbrev pub open_scopes : State V → ℕ
  open_scopes s = length s.scopes + 1

  -- Whether one more can be opened: 258 are the most.
  abbrev pub may_open : State V → Bool
  may_open s = nat_lt (open_scopes s) 258

  abbrev pub open_scope : ScopeKind → State V → State V
  open_scope kind s =
      record { bindings = s.bindings; scopes = record { first = length s.bindings; kind = kind } ∷ s.scopes; usable = s.usable }

  -- Closing a scope frees its names. The root's stays open.
  abbrev pub closing : List Scope → State V → State V
  closing [] s = s
  closing (scope ∷ outer) s = record { bindings = take scope.first s.bindings; scopes = outer; usable = s.usable }

  abbrev pub close_scope : State V → State V
  close_scope s = closing s.scopes s

  abbrev pub root_names : State V → List (Binding V)
  root_names s = take (root_end s.scopes (length s.bindings)) s.bindings

  -- Closing to the root leaves its names alone.
  abbrev pub close_all : State V → State V
  close_all s = record { bindings = root_names s; scopes = []; usable = s.usable }

  -- ## Finding

  abbrev pub if_named : ℕ → ℕ → Binding V → Option (Found V)
  if_named name place b = cond (b.name == name) (Some (record { place = place; binding = b })) None

  -- A place of a name behind which the name does not stand again, or that it stands nowhere.
  abbrev pub IsLastNamed : ℕ → List (Binding V) → Option ℕ → Type 0
  IsLastNamed name bs o =
      MatchOption o ((k : ℕ) (d : Binding V) → k < length bs → (slice_index_or bs k d).name ≢ name)
      (λ i. (i < length bs) × ((d : Binding V) → (slice_index_or bs i d).name ≡ name)
      × ((k : ℕ) (d : Binding V) → i < k → k < length bs → (slice_index_or bs k d).name ≢ name))

  -- The newest binding of a name in a list whose first stands at the place.
  abbrev pub newest : ℕ → ℕ → List (Binding V) → Option (Found V)
  newest name place [] = None
  newest name place (b ∷ bs) = option_or (newest name (place + 1) bs) (if_named name place b)

  -- The newest binding of a name at the places from `low` on.
  abbrev pub newest_from : ℕ → ℕ → List (Binding V) → Option (Found V)
  newest_from name low bs = newest name low (drop low bs)

  -- A callee sees its own names, and then the root's; outside any call all names are seen.
  abbrev pub lookup : ℕ → State V → Result (Found V) NameFault
  lookup name s = ok_or (option_or (newest_from name (call_first s.scopes) s.bindings) (newest_from name 0 (root_names s))) UnknownDecl

  -- Whether the innermost scope, or the parent of a transparent one, has the name already.
  abbrev pub duplicate : ℕ → State V → Bool
  duplicate name s = is_some (newest_from name (local_first s.scopes) s.bindings)

  -- ## Binding

  abbrev pub bound : Binding V → State V → State V
  bound b s = record { bindings = s.bindings ++ b ∷ []; scopes = s.scopes; usable = s.usable }

  -- A name is bound unless its scope has it, or every usable record is bound.
  abbrev pub bind : ℕ → DeclarationKind → V → State V → Result (State V) NameFault
  bind name kind value s =
      cond (duplicate name s) (Err DuplicateDecl)
      (cond (nat_lt (length s.bindings) s.usable) (Ok (bound (record { name = name; kind = kind; value = value }) s)) (Err NoNames))

  -- ## Writing

  abbrev pub written : ℕ → Binding V → State V → State V
  written place b s = record { bindings = slice_set s.bindings place b; scopes = s.scopes; usable = s.usable }

  -- A binding with another value.
  abbrev pub revalued : Binding V → V → Binding V
  revalued b v = record { name = b.name; kind = b.kind; value = v }

  -- A variable, if a binding is one.
  abbrev pub if_var : DeclarationKind → Binding V → Option (Binding V)
  if_var Const b = None
  if_var Let b = None
  if_var Var b = Some b

  abbrev pub the_var : Option (Binding V) → Option (Binding V)
  the_var None = None
  the_var (Some b) = if_var b.kind b

  -- The variable at a place, if one is bound there.
  abbrev pub variable : ℕ → State V → Option (Binding V)
  variable place s = the_var (slice_get s.bindings place)

  module _ (m : ValueMeaning V) (place : ℕ) where
    -- A variable's value has the variable's type, always.
    abbrev pub writing : Option (Binding V) → V → State V → Result (State V) NameFault
    writing None value s = Err NotRef
    writing (Some b) value s =
        cond (m.type_of value == m.type_of b.value) (Ok (written place (revalued b value) s)) (Err WriteRefType)

    abbrev pub write : V → State V → Result (State V) NameFault
    write value s = writing (variable place s) value s

    -- `=` converts to the variable's type.
    abbrev pub storing : Option V → State V → Result (State V) NameFault
    storing None s = Err AssignType
    storing (Some value) s = write value s

    abbrev pub assigning : Option (Binding V) → V → State V → Result (State V) NameFault
    assigning None value s = Err NotRef
    assigning (Some b) value s = storing (m.convert value (m.type_of b.value)) s

    abbrev pub assign : V → State V → Result (State V) NameFault
    assign value s = assigning (variable place s) value s
