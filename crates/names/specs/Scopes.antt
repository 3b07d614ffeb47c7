-- Scopes that are open inside the root's, the innermost first, by the places of their first names.
use Rattle.std.specs.Prelude.{◌≡◌, ◌≢◌, ◌≤◌, ℕ, Bool, true, false, ◌&&◌, List, [], ◌∷◌, codes, length, slice_index_or, reverse, take, nat_le}
use Rattle.names.specs.declared.scope.Scope.{Scope}
use Rattle.names.specs.declared.scope.ScopeKind.{ScopeKind}
use Rattle.names.specs.declared.scope.ScopeKind.TheVariants.{Regular, Transparent, Call}

-- How the kinds of scopes are written, as bytes.
abbrev pub scope_word : ScopeKind → List ℕ
scope_word Regular = codes "regular"
scope_word Transparent = codes "transparent"
scope_word Call = codes "call"

-- The record of a scope that is not open.
abbrev pub closed : Scope
closed = record { first = 0; kind = Regular }

-- The first records of a table, up to its depth, are of open scopes.
abbrev pub opened : List Scope → ℕ → List Scope
opened table depth = reverse (take depth table)

-- The records of a table from a depth on are blank.
abbrev pub Cleared : List Scope → ℕ → Type 0
Cleared table depth = (k : ℕ) → depth ≤ k → slice_index_or table k closed ≡ closed

-- Two tables have the same records, but for one place.
abbrev pub SameBut : ℕ → List Scope → List Scope → Type 0
SameBut place table other =
    (k : ℕ) → k ≢ place → slice_index_or table k closed ≡ slice_index_or other k closed

-- One thing for a call's scope, another for others.
abbrev pub if_call : {A : Type 0} → ScopeKind → A → A → A
if_call Call a b = a
if_call Regular a b = b
if_call Transparent a b = b

-- Whether a scope is a call's.
abbrev pub is_call : Scope → Bool
is_call scope = if_call scope.kind true false

-- Where the names begin that a callee has of its own: the first of the innermost call's scope, 0 where none runs.
abbrev pub call_first : List Scope → ℕ
call_first [] = 0
call_first (scope ∷ outer) = if_call scope.kind scope.first (call_first outer)

-- Where the innermost scope begins; the root's begins at 0.
abbrev pub top_first : List Scope → ℕ
top_first [] = 0
top_first (scope ∷ outer) = scope.first

-- Where the names begin that a new one must differ from: those of the innermost scope, with its parent's if it is transparent.
abbrev pub local_of : ScopeKind → ℕ → List Scope → ℕ
local_of Regular first outer = first
local_of Transparent first outer = top_first outer
local_of Call first outer = first

abbrev pub local_first : List Scope → ℕ
local_first [] = 0
local_first (scope ∷ outer) = local_of scope.kind scope.first outer

-- Where the root's names end, of n names in all: where the outermost scope inside it begins.
abbrev pub root_end : List Scope → ℕ → ℕ
root_end [] n = n
root_end (scope ∷ outer) n = root_end outer scope.first

-- No scope begins behind n names, or behind one inside it.
abbrev pub nested : List Scope → ℕ → Bool
nested [] n = true
nested (scope ∷ outer) n = nat_le scope.first n && nested outer scope.first

-- Open scopes over n names of as many as may be: they are in order, and the innermost call's names begin at `own`.
pub record Scoped (scopes : List Scope) (own n usable : ℕ) : Type 0 where
  pub counted : n ≤ usable
  pub shallow : length scopes ≤ 257
  pub in_order : nested scopes n ≡ true
  pub called : own ≡ call_first scopes
