-- A table of no scope, and a scope more with what it gives back.
use Rattle.std.proofs.Common.{◌≡◌, ℕ, ◌≤◌, true, cond, replicate, get_or, length, sym, refl, ap, ◌∙◌, subst, ⊎_elim, arith}
use Rattle.std.proofs.lemmas.List.{get_or-replicate, get_or_past, length-replicate}
use Rattle.std.proofs.lemmas.Bool.{cases_lt}
use Rattle.names.specs.Laws.{GivesBack}
use Rattle.names.specs.Rules.{may_open, open_scope}
use Rattle.names.specs.Scopes.{Cleared, Scoped, closed, opened}
use Rattle.names.specs.State.{State}
use Rattle.names.specs.declared.scope.Scope.{Scope}
use Rattle.names.specs.declared.scope.ScopeKind.{ScopeKind}
use Rattle.names.specs.declared.scope.ScopeKind.TheVariants.{Regular}
use Rattle.names.proofs.Laws.{gives_back}

-- A record of these fields is the blank one.
pub closed_is : (s : Scope) → s.first ≡ 0 → s.kind ≡ Regular → s ≡ closed
closed_is s first kind = ap (λ k. record { first = k; kind = s.kind }) first ∙ ap (λ k. record { first = 0; kind = k }) kind

blank : (n : ℕ) (k : ℕ) → get_or (replicate n closed) k closed ≡ closed
blank n k =
    ⊎_elim (get_or-replicate n k closed closed)
    (λ h. get_or_past (replicate n closed) k closed (omega (arith, length-replicate n closed)))
    (cases_lt k n)

-- No scope is open in a table of blank records.
pub scoped_none : (s : Scope) (n usable : ℕ) → s ≡ closed → n ≤ usable → (length (replicate 257 s) ≡ 257) × Scoped (opened (replicate 257 s) 0) 0 n usable × Cleared (replicate 257 s) 0
scoped_none s n usable is few = (
  length-replicate 257 s,
  record { counted = few; shallow = omega arith; in_order = refl; called = refl },
  λ k _. ap (λ x. get_or (replicate 257 x) k closed) is ∙ blank 257 k,
)

-- What an open scope gives back once it is closed.
pub opened_gives_back : {V : Type 0} (kind : ScopeKind) (s t : State V) → t ≡ cond (may_open s) (open_scope kind s) s → may_open s ≡ true → GivesBack s t
opened_gives_back kind s t is may = subst (GivesBack s) (sym (is ∙ ap (λ b. cond b (open_scope kind s) s) may)) (gives_back kind s)
