-- What an accepted write or binding leaves.
use Rattle.std.proofs.Common.{◌≡◌, ℕ, Bool, true, false, cond, eqb, ltb, length, Some, None, Ok, Err, Option, Result, refl}
use Rattle.std.proofs.lemmas.Bool.{eqb-true}
use Rattle.host.specs.Meaning.{ValueMeaning}
use Rattle.syntax.specs.declared.DeclarationKind.{DeclarationKind}
use Rattle.names.proofs.Laws.{written_one}
use Rattle.names.specs.Laws.{Same}
use Rattle.names.specs.Rules.{assign, assigning, bind, bound, duplicate, revalued, storing, variable, write, writing, written}
use Rattle.names.specs.State.{State}
use Rattle.names.specs.declared.binding.Binding.{Binding}
use Rattle.names.specs.declared.error.NameFault.{NameFault}
use Rattle.names.specs.declared.error.NameFault.TheVariants.{DuplicateDecl, NoNames, WriteRefType}

-- Something holds of the state that is left, if it was accepted.
abbrev pub IfOk : {S E : Type 0} → (S → Type 0) → Result S E → Type 0
IfOk P (Ok s) = P s
IfOk P (Err e) = Unit {0}

module _ {V : Type 0} (m : ValueMeaning V) (place : ℕ) (s : State V) where
  writing-same : (o : Option (Binding V)) → variable place s ≡ o → (v : V) → IfOk (Same m s) (writing m place o v s)
  writing-same None is v = tt
  writing-same (Some b) is v = typed (eqb (m.type_of v) (m.type_of b.value)) refl
    where
      typed : (t : Bool) → eqb (m.type_of v) (m.type_of b.value) ≡ t → IfOk (Same m s) (cond t (Ok (written place (revalued b v) s)) (Err WriteRefType))
      typed false e = tt
      typed true e = (written_one m place s b v is (eqb-true _ _ e)).same

  pub write_same : (v : V) → IfOk (Same m s) (write m place v s)
  write_same v = writing-same (variable place s) refl v

  storing-same : (o : Option V) → IfOk (Same m s) (storing m place o s)
  storing-same None = tt
  storing-same (Some v) = write_same v

  assigning-same : (o : Option (Binding V)) (v : V) → IfOk (Same m s) (assigning m place o v s)
  assigning-same None v = tt
  assigning-same (Some b) v = storing-same (m.convert v (m.type_of b.value))

  pub assign-same : (v : V) → IfOk (Same m s) (assign m place v s)
  assign-same v = assigning-same (variable place s) v

module _ {V : Type 0} (name : ℕ) (kind : DeclarationKind) (v : V) (s : State V) where
  abbrev Adds : State V → Type 0
  Adds n = n ≡ bound (record { name = name; kind = kind; value = v }) s

  abbrev bind_when : Bool → Bool → Result (State V) NameFault
  bind_when d t = cond d (Err DuplicateDecl) (cond t (Ok (bound (record { name = name; kind = kind; value = v }) s)) (Err NoNames))

  unless : (d t : Bool) → IfOk Adds (bind_when d t)
  unless true t = tt
  unless false true = refl
  unless false false = tt

  pub bind_adds : IfOk (λ n. n ≡ bound (record { name = name; kind = kind; value = v }) s) (bind name kind v s)
  bind_adds = unless (duplicate name s) (ltb (length s.bindings) s.usable)
