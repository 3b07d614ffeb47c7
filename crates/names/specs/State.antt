-- What a table of names says: what is bound, and which scopes are open.
use Rattle.std.specs.Prelude.{◌≡◌, ◌≤◌, ℕ, true, List, length}
use Rattle.names.specs.Scopes.{nested}
use Rattle.names.specs.declared.binding.Binding.{Binding}
use Rattle.names.specs.declared.scope.Scope.{Scope}

pub record State (V : Type 0) : Type 0 where
  -- the oldest first; a binding's place is its index
  pub bindings : List (Binding V)
  -- open inside the root's, the innermost first
  pub scopes : List Scope
  -- how many names there may be
  pub usable : ℕ

-- The open scopes are in order: none begins behind the last name, or behind a scope inside it.
abbrev pub InOrder : {V : Type 0} → State V → Type 0
InOrder s = nested s.scopes (length s.bindings) ≡ true

-- What holds of the state of every table: the scopes are in order and at most 257, and no name is more than may be.
pub record Kept (V : Type 0) (s : State V) : Type 0 where
  pub in_order : InOrder s
  pub counted : length s.bindings ≤ s.usable
  pub shallow : length s.scopes ≤ 257
