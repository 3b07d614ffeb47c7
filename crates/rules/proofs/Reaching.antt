-- How the names at one time of a run stand to those at an earlier one.
use Rattle.std.proofs.Common.{◌≡◌, ℕ, List, [], ◌∷◌, ◌++◌, map, length, take, sym, refl, ap, ◌∙◌}
use Rattle.std.proofs.lemmas.List.{append_assoc, append-nil, length-map, map-append, take_at, take-map}
use Rattle.host.specs.Meaning.{ValueMeaning}
use Rattle.names.specs.Laws.{Grown, Lasting, Same, lasting}
use Rattle.names.specs.Rules.{bound, close_all, open_scope}
use Rattle.names.specs.Scopes.{root_end}
use Rattle.names.specs.State.{State}
use Rattle.names.specs.declared.binding.Binding.{Binding}
use Rattle.names.specs.declared.scope.Scope.{Scope}
use Rattle.names.specs.declared.scope.ScopeKind.{ScopeKind}

module _ {V : Type 0} (m : ValueMeaning V) where
  -- Later, perhaps inside more scopes: the names are still there, as they last, and perhaps more behind them.
  pub record Reaches (s t : State V) : Type 0 where
    pub inner : List Scope
    pub scopes : t.scopes ≡ inner ++ s.scopes
    pub more : List (Lasting V)
    pub names : map (lasting m) t.bindings ≡ map (lasting m) s.bindings ++ more
    pub usable : t.usable ≡ s.usable

  -- And closing the scopes inside leaves just the names that were there.
  pub record Tidy (s t : State V) : Type 0 where
    pub reaches : Reaches s t
    pub exact : root_end reaches.inner (length t.bindings) ≡ length s.bindings

root_end_append : (xs ys : List Scope) (n : ℕ) → root_end (xs ++ ys) n ≡ root_end ys (root_end xs n)
root_end_append [] ys n = refl
root_end_append (x ∷ xs) ys n = root_end_append xs ys x.first

module _ {V : Type 0} {m : ValueMeaning V} where
  pub same_refl : (s : State V) → Same m s s
  same_refl s = record { names = refl; scopes = refl; usable = refl }

  pub same_trans : {s t u : State V} → Same m s t → Same m t u → Same m s u
  same_trans a b = record { names = b.names ∙ a.names; scopes = b.scopes ∙ a.scopes; usable = b.usable ∙ a.usable }

  pub same_grown : {s t : State V} → Same m s t → Grown m s t
  same_grown a = record { names = ([], a.names ∙ sym (append-nil _)); scopes = a.scopes; usable = a.usable }

  pub grown_refl : (s : State V) → Grown m s s
  grown_refl s = same_grown (same_refl s)

  pub grown_trans : {s t u : State V} → Grown m s t → Grown m t u → Grown m s u
  grown_trans a b =
      record {
        names = (a.names.0 ++ b.names.0, b.names.1 ∙ ap (λ xs. xs ++ b.names.0) a.names.1 ∙ append_assoc _ a.names.0 b.names.0);
        scopes = b.scopes ∙ a.scopes;
        usable = b.usable ∙ a.usable;
      }

  pub grown_bound : (s : State V) (b : Binding V) → Grown m s (bound b s)
  grown_bound s b =
      record { names = (lasting m b ∷ [], map-append (lasting m) s.bindings (b ∷ [])); scopes = refl; usable = refl }

  pub grown_reaches : {s t : State V} → Grown m s t → Reaches m s t
  grown_reaches a =
      record { inner = []; scopes = a.scopes; more = a.names.0; names = a.names.1; usable = a.usable }

  pub reaches_trans : {s t u : State V} → Reaches m s t → Reaches m t u → Reaches m s u
  reaches_trans {s} a b =
      record {
        inner = b.inner ++ a.inner;
        scopes = b.scopes ∙ ap (λ xs. b.inner ++ xs) a.scopes ∙ sym (append_assoc b.inner a.inner s.scopes);
        more = a.more ++ b.more;
        names = b.names ∙ ap (λ xs. xs ++ b.more) a.names ∙ append_assoc (map (lasting m) s.bindings) a.more b.more;
        usable = b.usable ∙ a.usable;
      }

  same_count : {s t : State V} → Same m s t → length t.bindings ≡ length s.bindings
  same_count {s} {t} a = sym (length-map t.bindings (lasting m)) ∙ ap length a.names ∙ length-map s.bindings (lasting m)

  pub same_tidy : {s t : State V} → Same m s t → Tidy m s t
  unfolding grown_reaches
  same_tidy {s} {t} a = record { reaches = grown_reaches (same_grown a); exact = same_count a }

  pub tidy_trans : {s t u : State V} → Tidy m s t → Tidy m t u → Tidy m s u
  unfolding reaches_trans
  tidy_trans {s} {t} {u} a b =
      record {
        reaches = reaches_trans a.reaches b.reaches;
        exact = root_end_append b.reaches.inner a.reaches.inner (length u.bindings) ∙ ap (root_end a.reaches.inner) b.exact ∙ a.exact;
      }

  -- In a scope of its own all is tidy.
  pub own : (kind : ScopeKind) (s t : State V) → Reaches m (open_scope kind s) t → Tidy m s t
  own kind s t a =
      let scope : Scope = record { first = length s.bindings; kind = kind } in
      record {
        reaches = record {
          inner = a.inner ++ scope ∷ [];
          scopes = a.scopes ∙ sym (append_assoc a.inner (scope ∷ []) s.scopes);
          more = a.more;
          names = a.names;
          usable = a.usable;
        };
        exact = root_end_append a.inner (scope ∷ []) (length t.bindings);
      }

  -- Closing all scopes from the root gives back the names, as they last.
  pub tidy_root : (s t : State V) → s.scopes ≡ [] → Tidy m s t → Same m s (close_all t)
  tidy_root s t root a =
      let inner : t.scopes ≡ a.reaches.inner = a.reaches.scopes ∙ ap (λ xs. a.reaches.inner ++ xs) root ∙ append-nil a.reaches.inner in
      let count : root_end t.scopes (length t.bindings) ≡ length s.bindings = ap (λ xs. root_end xs (length t.bindings)) inner ∙ a.exact in
      record {
        names =
            ap (λ k. map (lasting m) (take k t.bindings)) count
            ∙ sym (take-map (lasting m) (length s.bindings) t.bindings)
            ∙ ap (take (length s.bindings)) a.reaches.names
            ∙ take_at (map (lasting m) s.bindings) a.reaches.more (length s.bindings) (length-map s.bindings (lasting m));
        scopes = sym root;
        usable = a.reaches.usable;
      }
