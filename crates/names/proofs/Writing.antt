-- A variable at a place, and a table with another value there, or with one binding more.
use Rattle.std.proofs.Common.{◌≡◌, ℕ, ◌<◌, ◌≤◌, true, false, List, [], ◌∷◌, ◌++◌, length, Some, Ok, Err, Result, sym, ap, ◌∙◌, subst, arith}
use Rattle.std.specs.Result.{MatchResult, is_ok}
use Rattle.host.specs.Meaning.{ValueMeaning}
use Rattle.names.specs.Laws.{Finds, OneValue, OthersStay}
use Rattle.names.specs.Room.{Room}
use Rattle.names.specs.Rules.{lookup, revalued, variable, written}
use Rattle.names.specs.State.{InOrder, State}
use Rattle.names.specs.declared.binding.Binding.{Binding}
use Rattle.names.specs.declared.scope.Scope.{Scope}
use Rattle.names.proofs.Laws.{bound_found, others_stay, written_one}

module _ {V : Type 0} (ss : List Scope) where
  -- what a table says whose names have room
  abbrev pub in_room : Room (Binding V) → State V
  in_room r = record { bindings = r.items; scopes = ss; usable = r.capacity }

  module _ (b : Binding V) (v w : Room (Binding V)) (s : State V) (is : in_room v ≡ s) (h : InOrder (in_room v)) where
    -- what a push answers and leaves
    abbrev pub Pushed : {F : Type 0} → Result (Unit {0}) F → Type 0
    Pushed o =
        MatchResult o (λ _. (length v.items < v.capacity) × (w ≡ record { items = v.items ++ b ∷ []; capacity = v.capacity }))
        (λ _. (v.capacity ≤ length v.items) × (w ≡ v))

    pub bind_finds : {F E : Type 0} (o : Result (Unit {0}) F) (r : Result (Unit {0}) E) → Pushed o → is_ok r ≡ is_ok o → r ≡ Ok tt → Finds b s (in_room w)
    bind_finds (Ok x) r pushed same ok =
        subst (λ z. Finds b z (in_room w)) is (subst (λ room. Finds b (in_room v) (in_room room)) (sym pushed.1) (bound_found (in_room v) b h))
    bind_finds (Err e) r pushed same ok = absurd (let z : true ≡ false = sym (ap is_ok ok) ∙ same in let q : ◌≡◌ {A = ℕ} 0 1 = cc in omega arith)

    pub bind_others_stay : {F : Type 0} (o : Result (Unit {0}) F) → Pushed o → OthersStay b.name s (in_room w)
    bind_others_stay (Ok x) pushed other ne =
        ap (λ room. lookup other (in_room room)) pushed.1 ∙ others_stay (in_room v) b h other ne ∙ ap (lookup other) is
    bind_others_stay (Err e) pushed other ne = ap (λ room. lookup other (in_room room)) pushed.1 ∙ ap (lookup other) is

pub write_one : {V : Type 0} (m : ValueMeaning V) (place : ℕ) (s t : State V) (b : Binding V) (v : V) → t ≡ written place (revalued b v) s → variable place s ≡ Some b → m.type_of v ≡ m.type_of b.value → OneValue m place s t
write_one m place s t b v is var typed = subst (OneValue m place s) (sym is) (written_one m place s b v var typed)
