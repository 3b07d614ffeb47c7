-- The newest binding of a name, with one binding more at the end.
use Rattle.std.proofs.Common.{◌≡◌, ℕ, zero, suc, ◌+◌, ◌<◌, ◌≤◌, ◌≢◌, cond, List, [], ◌∷◌, ◌++◌, length, get_or, drop, Some, None, Option, sym, refl, ap, ◌∙◌, add-zero, arith, eq-eqb, ne_eqb}
use Rattle.std.specs.Option.{option_or}
use Rattle.std.proofs.lemmas.List.{drop-append-le, length-drop}
use Rattle.names.specs.Rules.{IsLastNamed, if_named, newest, newest_from}
use Rattle.names.specs.declared.binding.Binding.{Binding}

or_none : {A : Type 0} (x : Option A) → option_or x None ≡ x
or_none None = refl
or_none (Some a) = refl

or_assoc : {A : Type 0} (x y z : Option A) → option_or (option_or x y) z ≡ option_or x (option_or y z)
or_assoc None y z = refl
or_assoc (Some a) y z = refl

module _ {V : Type 0} (name : ℕ) where
  pub newest-push : (place : ℕ) (bs : List (Binding V)) (b : Binding V) → newest name place (bs ++ b ∷ []) ≡ option_or (if_named name (place + length bs) b) (newest name place bs)
  newest-push place [] b = ap (λ k. if_named name k b) (sym (add-zero place)) ∙ sym (or_none (if_named name (place + 0) b))
  newest-push place (x ∷ bs) b =
      let e : place + 1 + length bs ≡ place + length (x ∷ bs) = omega arith in
      ap (λ o. option_or o (if_named name place x)) (newest-push (place + 1) bs b)
      ∙ or_assoc (if_named name (place + 1 + length bs) b) (newest name (place + 1) bs) (if_named name place x)
      ∙ ap (λ k. option_or (if_named name k b) (option_or (newest name (place + 1) bs) (if_named name place x))) e

  pub newest_from_push : (low : ℕ) (bs : List (Binding V)) (b : Binding V) → low ≤ length bs → newest_from name low (bs ++ b ∷ []) ≡ option_or (if_named name (length bs) b) (newest_from name low bs)
  newest_from_push low bs b h =
      let e : low + length (drop low bs) ≡ length bs = simp length-drop (omega arith) in
      ap (newest name low) (drop-append-le low bs (b ∷ []) h) ∙ newest-push low (drop low bs) b
      ∙ ap (λ k. option_or (if_named name k b) (newest_from name low bs)) e

  named : (place : ℕ) (b : Binding V) → b.name ≡ name → if_named name place b ≡ Some (record { place = place; binding = b })
  named place b e = ap (λ t. cond t (Some (record { place = place; binding = b })) None) (eq-eqb b.name name e)

  unnamed : (place : ℕ) (b : Binding V) → (b.name ≡ name → ⊥) → if_named name place b ≡ None
  unnamed place b e = ap (λ t. cond t (Some (record { place = place; binding = b })) None) (ne_eqb b.name name e)

  -- where the name stands nowhere
  pub newest-nowhere : (place : ℕ) (bs : List (Binding V)) → ((k : ℕ) (d : Binding V) → k < length bs → (get_or bs k d).name ≢ name) → newest name place bs ≡ None
  newest-nowhere place [] never = refl
  newest-nowhere place (b ∷ bs) never =
      ap (λ o. option_or o (if_named name place b)) (newest-nowhere (place + 1) bs (λ k d h. never (suc k) d (omega arith)))
      ∙ unnamed place b (never 0 b (omega arith))

  -- where it stands at a place, and behind that nowhere
  pub newest-last : (place : ℕ) (bs : List (Binding V)) (i : ℕ) (b : Binding V) → IsLastNamed name bs (Some i) → b ≡ get_or bs i b → newest name place bs ≡ Some (record { place = place + i; binding = b })
  newest-last place [] i b last read = absurd (omega (arith, last.0))
  newest-last place (x ∷ bs) zero b last read =
      ap (λ o. option_or o (if_named name place x)) (newest-nowhere (place + 1) bs (λ k d h. last.2 (suc k) d (omega arith) (omega arith)))
      ∙ ap (if_named name place) (sym read)
      ∙ named place b (ap (λ y. y.name) read ∙ last.1 b)
      ∙ ap (λ k. Some (record { place = k; binding = b })) (sym (add-zero place))
  newest-last place (x ∷ bs) (suc i) b last read =
      ap (λ o. option_or o (if_named name place x))
      (newest-last (place + 1) bs i b (omega (arith, last.0), last.1, λ k d h l. last.2 (suc k) d (omega arith) (omega arith)) read)
      ∙ ap (λ k. Some (record { place = k; binding = b })) (let p : place + 1 + i ≡ place + suc i = omega arith in p)
