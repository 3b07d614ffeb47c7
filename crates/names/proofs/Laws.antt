-- The laws of names, over any state whose scopes are in order.
use Rattle.std.proofs.Common.{◌≡◌, ℕ, zero, suc, ◌≤◌, true, cond, leb, ◌≢◌, List, [], ◌∷◌, ◌++◌, map, length, take, set, Some, None, Ok, Option, sym, refl, ap, ◌∙◌, subst, arith}
use Rattle.std.proofs.lemmas.List.{length-map, length-take-le, take_all, take-append-le, take_at, take-map, take-take}
use Rattle.std.proofs.lemmas.Bool.{and_parts, eq-eqb, leb-true, ne_eqb}
use Rattle.std.specs.Option.{ok_or, option_or}
use Rattle.std.specs.List.{slice_get}
use Rattle.host.specs.Meaning.{ValueMeaning}
use Rattle.syntax.specs.declared.DeclarationKind.{DeclarationKind}
use Rattle.syntax.specs.declared.DeclarationKind.TheVariants.{Const, Let, Var}
use Rattle.names.specs.Laws.{GivesBack, OneValue, Same, close_times, fixed, lasting}
use Rattle.names.specs.Rules.{bound, close_all, close_scope, closing, if_var, lookup, newest_from, open_scope, revalued, root_names, the_var, variable, written}
use Rattle.names.specs.Scopes.{call_first, if_call, nested, root_end}
use Rattle.names.specs.State.{State}
use Rattle.names.specs.declared.binding.Binding.{Binding}
use Rattle.names.specs.declared.error.NameFault.TheVariants.{UnknownDecl}
use Rattle.names.specs.declared.scope.Scope.{Scope}
use Rattle.names.specs.declared.scope.ScopeKind.{ScopeKind}
use Rattle.names.specs.declared.scope.ScopeKind.TheVariants.{Regular, Transparent, Call}
use Rattle.names.proofs.Newest.{newest_from_push}
use Rattle.names.proofs.Opened.{root_end_le}

-- ## Scopes in order

pub nested_parts : (scope : Scope) (outer : List Scope) (n : ℕ) → nested (scope ∷ outer) n ≡ true → (scope.first ≤ n) × (nested outer scope.first ≡ true)
nested_parts scope outer n h = let p = and_parts (leb scope.first n) (nested outer scope.first) h in (leb-true _ _ p.0, p.1)

if_call_le : (kind : ScopeKind) (a b n : ℕ) → a ≤ n → b ≤ n → if_call kind a b ≤ n
if_call_le Regular a b n h k = k
if_call_le Transparent a b n h k = k
if_call_le Call a b n h k = h

call_first_le : (scopes : List Scope) (n : ℕ) → nested scopes n ≡ true → call_first scopes ≤ n
call_first_le [] n h = omega arith
call_first_le (scope ∷ outer) n h =
    let p = nested_parts scope outer n h in
    let k : call_first outer ≤ scope.first = call_first_le outer scope.first p.1 in
    if_call_le scope.kind scope.first (call_first outer) n p.0 (omega (arith, p.0))

module _ {V : Type 0} where
  -- ## Opening and closing

  pub gives_back : (kind : ScopeKind) (s : State V) → GivesBack s (open_scope kind s)
  gives_back kind s m t grown =
      let k : length (map (lasting m) s.bindings) ≡ length s.bindings = length-map s.bindings (lasting m) in
      let closed : close_scope t ≡ record { bindings = take (length s.bindings) t.bindings; scopes = s.scopes; usable = t.usable } =
      ap (λ ss. closing ss t) grown.scopes in
      let names : map (lasting m) (take (length s.bindings) t.bindings) ≡ map (lasting m) s.bindings =
      sym (take-map (lasting m) (length s.bindings) t.bindings)
      ∙ ap (take (length s.bindings)) grown.names.1
      ∙ take_at (map (lasting m) s.bindings) grown.names.0 (length s.bindings) k in
      subst (Same m s) (sym closed) (record { names = names; scopes = refl; usable = grown.usable })

  -- ## The root's names

  module _ (s : State V) (h : nested s.scopes (length s.bindings) ≡ true) where
    pub root_count : length (root_names s) ≡ root_end s.scopes (length s.bindings)
    root_count = length-take-le _ s.bindings (root_end_le s.scopes (length s.bindings) h)

    pub root_survives : root_names (close_all s) ≡ root_names s
    root_survives = take_all (length (root_names s)) (root_names s) (omega arith)

  module _ (scope : Scope) (outer : List Scope) (bs : List (Binding V)) (h : nested (scope ∷ outer) (length bs) ≡ true) where
    pub first_count : length (take scope.first bs) ≡ scope.first
    first_count = length-take-le scope.first bs (nested_parts scope outer (length bs) h).0

    pub still_nested : nested outer (length (take scope.first bs)) ≡ true
    still_nested = subst (λ k. nested outer k ≡ true) (sym first_count) (nested_parts scope outer (length bs) h).1

    root_same : take (root_end outer (length (take scope.first bs))) (take scope.first bs) ≡ take (root_end outer scope.first) bs
    root_same =
        ap (λ k. take (root_end outer k) (take scope.first bs)) first_count
        ∙ take-take (root_end outer scope.first) scope.first bs (root_end_le outer scope.first (nested_parts scope outer (length bs) h).1)

  closing_root : (scopes : List Scope) (s : State V) → s.scopes ≡ scopes → nested scopes (length s.bindings) ≡ true → root_names (closing scopes s) ≡ take (root_end scopes (length s.bindings)) s.bindings
  closing_root [] s is h = ap (λ ss. take (root_end ss (length s.bindings)) s.bindings) is
  closing_root (scope ∷ outer) s is h = root_same scope outer s.bindings h

  pub close_root : (s : State V) → nested s.scopes (length s.bindings) ≡ true → root_names (close_scope s) ≡ root_names s
  close_root s h = closing_root s.scopes s refl h

  -- Closing scope after scope comes to closing all.
  close_times_lem : (scopes : List Scope) (bs : List (Binding V)) (usable : ℕ) → nested scopes (length bs) ≡ true → close_times (length scopes) (record { bindings = bs; scopes = scopes; usable = usable }) ≡ record { bindings = take (root_end scopes (length bs)) bs; scopes = []; usable = usable }
  close_times_lem [] bs usable h = ap (λ xs. record { bindings = xs; scopes = []; usable = usable }) (sym (take_all (length bs) bs (omega arith)))
  close_times_lem (scope ∷ outer) bs usable h =
      close_times_lem outer (take scope.first bs) usable (still_nested scope outer bs h)
      ∙ ap (λ xs. record { bindings = xs; scopes = []; usable = usable }) (root_same scope outer bs h)

  pub one_by_one : (s : State V) → nested s.scopes (length s.bindings) ≡ true → close_times (length s.scopes) s ≡ close_all s
  one_by_one s h = close_times_lem s.scopes s.bindings s.usable h

  -- ## A look-up after a binding

  module _ (s : State V) (b : Binding V) (h : nested s.scopes (length s.bindings) ≡ true) where
    low : call_first s.scopes ≤ length s.bindings
    low = call_first_le s.scopes (length s.bindings) h

    pub bound_found : lookup b.name (bound b s) ≡ Ok (record { place = length s.bindings; binding = b })
    bound_found =
        let e : newest_from b.name (call_first s.scopes) (s.bindings ++ b ∷ []) ≡ Some (record { place = length s.bindings; binding = b }) =
        newest_from_push b.name (call_first s.scopes) s.bindings b low
        ∙ ap (λ t. option_or (cond t (Some (record { place = length s.bindings; binding = b })) None) (newest_from b.name (call_first s.scopes) s.bindings)) (eq-eqb b.name b.name refl) in
        ap (λ o. ok_or (option_or o (newest_from b.name 0 (root_names (bound b s)))) UnknownDecl) e

  other_from : (name lo : ℕ) (bs : List (Binding V)) (b : Binding V) → lo ≤ length bs → (b.name ≡ name → ⊥) → newest_from name lo (bs ++ b ∷ []) ≡ newest_from name lo bs
  other_from name lo bs b h ne =
      newest_from_push name lo bs b h
      ∙ ap (λ t. option_or (cond t (Some (record { place = length bs; binding = b })) None) (newest_from name lo bs)) (ne_eqb b.name name ne)

  other_root : (name : ℕ) (scopes : List Scope) (bs : List (Binding V)) (b : Binding V) → nested scopes (length bs) ≡ true → (b.name ≡ name → ⊥) → newest_from name 0 (take (root_end scopes (length (bs ++ b ∷ []))) (bs ++ b ∷ [])) ≡ newest_from name 0 (take (root_end scopes (length bs)) bs)
  other_root name [] bs b h ne =
      ap (newest_from name 0) (take_all (length (bs ++ b ∷ [])) (bs ++ b ∷ []) (omega arith))
      ∙ other_from name 0 bs b (omega arith) ne
      ∙ ap (newest_from name 0) (sym (take_all (length bs) bs (omega arith)))
  other_root name (scope ∷ outer) bs b h ne =
      let p = nested_parts scope outer (length bs) h in
      let e : root_end outer scope.first ≤ length bs = omega (arith, p.0, root_end_le outer scope.first p.1) in
      ap (newest_from name 0) (take-append-le (root_end outer scope.first) bs (b ∷ []) e)

  pub others_stay : (s : State V) (b : Binding V) → nested s.scopes (length s.bindings) ≡ true → (name : ℕ) → name ≢ b.name → lookup name (bound b s) ≡ lookup name s
  others_stay s b h name ne =
      let apart : b.name ≡ name → ⊥ = λ e. ne (sym e) in
      ap (λ o. ok_or (option_or o (newest_from name 0 (root_names (bound b s)))) UnknownDecl) (other_from name (call_first s.scopes) s.bindings b (low s b h) apart)
      ∙ ap (λ o. ok_or (option_or (newest_from name (call_first s.scopes) s.bindings) o) UnknownDecl) (other_root name s.scopes s.bindings b h apart)

  -- ## A write

  if_var_lem : (kind : DeclarationKind) (x b : Binding V) → if_var kind x ≡ Some b → (x ≡ b) × (kind ≡ Var)
  if_var_lem Const x b e = absurd (let z : ◌≡◌ {A = ℕ} 0 1 = cc in omega arith)
  if_var_lem Let x b e = absurd (let z : ◌≡◌ {A = ℕ} 0 1 = cc in omega arith)
  if_var_lem Var x b e = (cc, refl)

  the_var_lem : (o : Option (Binding V)) (b : Binding V) → the_var o ≡ Some b → (o ≡ Some b) × (b.kind ≡ Var)
  the_var_lem None b e = absurd (let z : ◌≡◌ {A = ℕ} 0 1 = cc in omega arith)
  the_var_lem (Some x) b e = let p = if_var_lem x.kind x b e in (ap Some p.0, ap (λ y. y.kind) (sym p.0) ∙ p.1)

  module _ (m : ValueMeaning V) where
    lasting-revalued : (b : Binding V) (v : V) → b.kind ≡ Var → m.type_of v ≡ m.type_of b.value → lasting m (revalued b v) ≡ lasting m b
    lasting-revalued b v var typed =
        ap (λ t. record { name = b.name; kind = b.kind; type = t; value = fixed b.kind v }) typed
        ∙ ap (λ o. record { name = b.name; kind = b.kind; type = m.type_of b.value; value = o }) (ap (λ k. fixed k v) var ∙ sym (ap (λ k. fixed k b.value) var))

    set-lasting : (bs : List (Binding V)) (place : ℕ) (b c : Binding V) → slice_get bs place ≡ Some b → lasting m c ≡ lasting m b → map (lasting m) (set bs place c) ≡ map (lasting m) bs
    set-lasting [] place b c is e = refl
    set-lasting (x ∷ bs) zero b c is e = ap (λ y. y ∷ map (lasting m) bs) (e ∙ ap (lasting m) (sym (let q : x ≡ b = cc in q)))
    set-lasting (x ∷ bs) (suc place) b c is e = ap (λ ys. lasting m x ∷ ys) (set-lasting bs place b c is e)

  nth_set_other : (bs : List (Binding V)) (place : ℕ) (c : Binding V) (k : ℕ) → k ≢ place → slice_get (set bs place c) k ≡ slice_get bs k
  nth_set_other [] place c k ne = refl
  nth_set_other (x ∷ bs) zero c zero ne = absurd (ne refl)
  nth_set_other (x ∷ bs) zero c (suc k) ne = refl
  nth_set_other (x ∷ bs) (suc place) c zero ne = refl
  nth_set_other (x ∷ bs) (suc place) c (suc k) ne = nth_set_other bs place c k (λ e. ne (ap suc e))

  module _ (m : ValueMeaning V) (place : ℕ) (s : State V) where
    pub same-value : OneValue m place s s
    same-value = record { same = record { names = refl; scopes = refl; usable = refl }; elsewhere = λ k ne. refl }

    pub written_one : (b : Binding V) (v : V) → variable place s ≡ Some b → m.type_of v ≡ m.type_of b.value → OneValue m place s (written place (revalued b v) s)
    written_one b v is typed =
        let p = the_var_lem (slice_get s.bindings place) b is in
        record {
          same = record { names = set-lasting m s.bindings place b (revalued b v) p.0 (lasting-revalued m b v p.1 typed); scopes = refl; usable = refl };
          elsewhere = nth_set_other s.bindings place (revalued b v);
        }
