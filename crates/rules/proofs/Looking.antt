-- A look at a name tells what the ledger has of it.
use Rattle.std.proofs.Common.{◌≡◌, ℕ, ◌+◌, Bool, true, false, cond, eqb, List, [], ◌∷◌, map, length, take, Some, None, Option, sym, refl, ap, ◌∙◌, subst, arith}
use Rattle.std.proofs.lemmas.List.{take_all}
use Rattle.std.specs.Option.{option_map, ok_or, option_or}
use Rattle.host.specs.Meaning.{ValueMeaning}
use Rattle.syntax.specs.declared.DeclarationKind.{DeclarationKind}
use Rattle.syntax.specs.declared.DeclarationKind.TheVariants as K
use Rattle.names.specs.Laws.{Lasting, fixed, lasting}
use Rattle.names.specs.Rules.{if_named, lookup, newest, newest_from}
use Rattle.names.specs.Scopes.{call_first, root_end}
use Rattle.names.specs.declared.binding.Binding.{Binding}
use Rattle.names.specs.declared.binding.Found.{Found}
use Rattle.names.specs.declared.error.NameFault.TheVariants.{UnknownDecl}
use Rattle.names.specs.State.{State}
use Rattle.rules.specs.Calls.{look, perform, seen, start}
use Rattle.rules.specs.Ledger.{LooksTell, Tells, Valued, if_noted, note_of, store_after}
use Rattle.rules.specs.Store.{Env, Store}
use Rattle.rules.proofs.Ledgers.{ledger_holds}

module _ {V : Type 0} (m : ValueMeaning V) where
  abbrev lasting_of : Found V → Lasting V
  lasting_of f = lasting m f.binding

  both_or : (x y : Option (Found V)) → option_map lasting_of (option_or x y) ≡ option_or (option_map lasting_of x) (option_map lasting_of y)
  both_or None y = refl
  both_or (Some x) y = refl

  one : (name place : ℕ) (b : Binding V) → option_map lasting_of (if_named name place b) ≡ if_noted name (lasting m b)
  one name place b = by (eqb b.name name)
    where
      by : (t : Bool) → option_map lasting_of (cond t (Some (record { place = place; binding = b })) None) ≡ cond t (Some (lasting m b)) None
      by true = refl
      by false = refl

  noted-newest : (name place : ℕ) (bs : List (Binding V)) → option_map lasting_of (newest name place bs) ≡ note_of name (map (lasting m) bs)
  noted-newest name place [] = refl
  noted-newest name place (b ∷ bs) =
      both_or (newest name (place + 1) bs) (if_named name place b)
      ∙ ap (λ o. option_or o (option_map lasting_of (if_named name place b))) (noted-newest name (place + 1) bs)
      ∙ ap (λ o. option_or (note_of name (map (lasting m) bs)) o) (one name place b)

  or_same : (x : Option (Found V)) → option_or x x ≡ x
  or_same None = refl
  or_same (Some f) = refl

  -- at the root every name is seen
  root_lookup : (name : ℕ) (s : State V) → s.scopes ≡ [] → lookup name s ≡ ok_or (newest name 0 s.bindings) UnknownDecl
  root_lookup name s root =
      ap (λ ss. ok_or (option_or (newest_from name (call_first ss) s.bindings) (newest_from name 0 (take (root_end ss (length s.bindings)) s.bindings))) UnknownDecl) root
      ∙ ap (λ bs. ok_or (option_or (newest name 0 s.bindings) (newest name 0 bs)) UnknownDecl) (take_all (length s.bindings) s.bindings (omega arith))
      ∙ ap (λ o. ok_or o UnknownDecl) (or_same (newest name 0 s.bindings))

  fixed_valued : (kind : DeclarationKind) (v : V) → Valued (fixed kind v) v
  fixed_valued K.Const v = refl
  fixed_valued K.Let v = refl
  fixed_valued K.Var v = tt

  seen_tells : (o : Option (Found V)) (s : Store V) → Tells m (option_map lasting_of o) (seen (ok_or o UnknownDecl) s).outcome
  seen_tells None s = refl
  seen_tells (Some f) s = (refl, fixed_valued f.binding.kind f.binding.value)

pub looks_tell : {V : Type 0} (env : Env V) → LooksTell env
looks_tell env usable cs name =
    let m = env.values in
    let s = store_after env cs (start usable) in
    let a = ledger_holds env usable cs in
    let note = noted-newest m name 0 s.names.bindings ∙ ap (note_of name) a.names in
    subst (λ o. Tells m o (perform env (look name) s).outcome) note
    (subst (λ r. Tells m (option_map (lasting_of m) (newest name 0 s.names.bindings)) (seen r s).outcome) (sym (root_lookup m name s.names a.one_scope))
    (seen_tells m (newest name 0 s.names.bindings) s))
