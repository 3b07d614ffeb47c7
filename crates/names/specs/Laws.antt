-- What lasts of the names: the laws that every program over a table of names may lean on.
use Rattle.std.specs.Prelude.{◌≡◌, ℕ, zero, suc, ◌≢◌, List, ◌++◌, map, length, Some, None, Ok, Option}
use Rattle.std.specs.List.{slice_get}
use Rattle.host.specs.Meaning.{ValueMeaning}
use Rattle.syntax.specs.declared.DeclarationKind.{DeclarationKind}
use Rattle.syntax.specs.declared.DeclarationKind.TheVariants.{Const, Let, Var}
use Rattle.names.specs.Rules.{close_scope, lookup}
use Rattle.names.specs.State.{State}
use Rattle.names.specs.declared.binding.Binding.{Binding}

-- What of a binding no write changes: its name, its kind, the type of its value, and of a const or let the value.
pub record Lasting (V : Type 0) : Type 0 where
  pub name : ℕ
  pub kind : DeclarationKind
  pub type : ℕ
  pub value : Option V

module _ {V : Type 0} where
  abbrev pub fixed : DeclarationKind → V → Option V
  fixed Const v = Some v
  fixed Let v = Some v
  fixed Var v = None

  module _ (m : ValueMeaning V) where
    abbrev pub lasting : Binding V → Lasting V
    lasting b = record { name = b.name; kind = b.kind; type = m.type_of b.value; value = fixed b.kind b.value }

    -- The same scopes, and the same names as they last.
    pub record Same (s t : State V) : Type 0 where
      pub names : map lasting t.bindings ≡ map lasting s.bindings
      pub scopes : t.scopes ≡ s.scopes
      pub usable : t.usable ≡ s.usable

    -- The same scopes, the same names as they last, and perhaps more names behind them.
    pub record Grown (s t : State V) : Type 0 where
      pub names : (more : List (Lasting V)) × (map lasting t.bindings ≡ map lasting s.bindings ++ more)
      pub scopes : t.scopes ≡ s.scopes
      pub usable : t.usable ≡ s.usable

    -- Only the value at one place differs, if any.
    pub record OneValue (place : ℕ) (s t : State V) : Type 0 where
      pub same : Same s t
      pub elsewhere : (k : ℕ) → k ≢ place → slice_get t.bindings k ≡ slice_get s.bindings k

  -- A scope gives back the names that it was opened over, whatever is bound and written in it.
  abbrev pub GivesBack : State V → State V → Type 0
  GivesBack outside inside = (m : ValueMeaning V) (t : State V) → Grown m inside t → Same m outside (close_scope t)

  -- A name that was bound is found: at the next place, as it was bound.
  abbrev pub Finds : Binding V → State V → State V → Type 0
  Finds b s t = lookup b.name t ≡ Ok (record { place = length s.bindings; binding = b })

  -- Every other name is found as before.
  abbrev pub OthersStay : ℕ → State V → State V → Type 0
  OthersStay name s t = (other : ℕ) → other ≢ name → lookup other t ≡ lookup other s

  -- One scope after another closed.
  abbrev pub close_times : ℕ → State V → State V
  close_times zero s = s
  close_times (suc n) s = close_times n (close_scope s)
