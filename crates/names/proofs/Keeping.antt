-- What holds of every table's state holds after one scope more, one less, and with none but the root's.
use Rattle.std.proofs.Common.{◌≡◌, ℕ, ◌≤◌, true, cond, List, [], ◌∷◌, length, reverse, take, sym, refl, ap, ◌∙◌, subst, ⊎_elim, arith}
use Rattle.std.proofs.lemmas.Grind.{common_steps}
use Rattle.std.proofs.lemmas.Bool.{cases_Bool, ltb-true}
use Rattle.names.specs.Rules.{close_all, close_scope, closing, may_open, open_scope, open_scopes, root_names}
use Rattle.names.specs.Scopes.{Scoped, nested}
use Rattle.names.specs.State.{Kept, State}
use Rattle.names.specs.declared.binding.Binding.{Binding}
use Rattle.names.specs.declared.scope.Scope.{Scope}
use Rattle.names.specs.declared.scope.ScopeKind.{ScopeKind}
use Rattle.names.proofs.Laws.{first_count, nested_parts, root_count, still_nested}
use Rattle.names.proofs.Opened.{root_end_le}

module _ {V : Type 0} where
  -- The invariant of a table says it of the table's state.
  pub kept_table : (bs : List (Binding V)) (usable : ℕ) (scopes : List Scope) (own : ℕ) (s : State V) → record { bindings = bs; scopes = scopes; usable = usable } ≡ s → Scoped scopes own (length bs) usable → Kept V s
  kept_table bs usable scopes own s is i =
      subst (Kept V) is (record { in_order = i.in_order; counted = i.counted; shallow = i.shallow })

  kept_open : (kind : ScopeKind) (s : State V) → may_open s ≡ true → Kept V s → Kept V (open_scope kind s)
  kept_open kind s may k =
      record {
        in_order = grind (arith, common_steps, k.in_order);
        counted = k.counted;
        shallow = omega (arith, ltb-true (open_scopes s) 258 may);
      }

  pub kept_opened : (kind : ScopeKind) (s t : State V) → t ≡ cond (may_open s) (open_scope kind s) s → Kept V s → Kept V t
  kept_opened kind s t is k =
      subst (Kept V) (sym is)
      (⊎_elim (λ may. subst (λ b. Kept V (cond b (open_scope kind s) s)) (sym may) (kept_open kind s may k))
      (λ full. subst (λ b. Kept V (cond b (open_scope kind s) s)) (sym full) k)
      (cases_Bool (may_open s)))

  kept_closing : (scopes : List Scope) (s : State V) → s.scopes ≡ scopes → Kept V s → Kept V (closing scopes s)
  kept_closing [] s is k = k
  kept_closing (scope ∷ outer) s is k =
      let h : nested (scope ∷ outer) (length s.bindings) ≡ true = subst (λ ss. nested ss (length s.bindings) ≡ true) is k.in_order in
      let few : length (scope ∷ outer) ≤ 257 = subst (λ ss. length ss ≤ 257) is k.shallow in
      let counted : length (take scope.first s.bindings) ≤ s.usable =
      omega (arith, k.counted, first_count scope outer s.bindings h, (nested_parts scope outer (length s.bindings) h).0) in
      record {
        in_order = still_nested scope outer s.bindings h;
        counted = counted;
        shallow = omega (arith, few);
      }

  pub kept_closed : (s t : State V) → t ≡ close_scope s → Kept V s → Kept V t
  kept_closed s t is k = subst (Kept V) (sym is) (kept_closing s.scopes s refl k)

  pub kept_root : (s t : State V) → t ≡ close_all s → Kept V s → Kept V t
  kept_root s t is k =
      let counted : length (root_names s) ≤ s.usable =
      omega (arith, k.counted, root_count s k.in_order, root_end_le s.scopes (length s.bindings) k.in_order) in
      subst (Kept V) (sym is) (record { in_order = refl; counted = counted; shallow = omega arith })
