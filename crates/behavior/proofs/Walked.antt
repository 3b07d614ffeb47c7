-- A list's first, and the table of what is known.
use Rattle.std.proofs.Common.{◌≡◌, ℕ, zero, suc, ◌-◌, ◌≤◌, true, cond, ◌⊎◌, List, [], ◌∷◌, get_or, set, replicate, Some, None, Option, sym, refl, ap, ◌∙◌, inl, inr, ⊎_elim, arith}
use Rattle.std.specs.List.{slice_get}
use Rattle.layout.specs.Layout.{entries}
use Rattle.layout.specs.Verdict.{accepted}
use Rattle.layout.proofs.Accepted.{loaded}
use Rattle.book.proofs.Reading.{node_past}
use Rattle.control.specs.Control.{control, control_of, is_statement}
use Rattle.behavior.specs.Below.{least}
use Rattle.behavior.specs.Rules.{behavior, behavior_at, descend, none}
use Rattle.behavior.specs.Summaries.{Filled, bare_set, summary}
use Rattle.behavior.specs.declared.summary.Summary.{Summary}

-- what holds of each of a list holds of the first, and of each of the others
pub first_and_others : {X : Type 0} (P : X → Type 0) (xs ys : List X) (x : X) → xs ≡ x ∷ ys → ((i : ℕ) (y : X) → slice_get xs i ≡ Some y → P y)
    → P x × ((i : ℕ) (y : X) → slice_get ys i ≡ Some y → P y)
first_and_others P xs ys x is h =
    (h 0 x (ap (λ l. slice_get l 0) is), λ i y k. h (suc i) y (ap (λ l. slice_get l (suc i)) is ∙ k))

-- a slot filled with the summary of its entry
slot : (known : List (Option Summary)) (e : ℕ) (s : Summary) (k : ℕ) (r : Summary) → get_or (set known e (Some s)) k None ≡ Some r → ((k ≡ e) × (r ≡ s)) ⊎ (get_or known k None ≡ Some r)
slot [] e s k r h = inr h
slot (y ∷ ys) zero s zero r h = inl (refl, cc)
slot (y ∷ ys) zero s (suc k) r h = inr h
slot (y ∷ ys) (suc e) s zero r h = inr h
slot (y ∷ ys) (suc e) s (suc k) r h = ⊎_elim (λ a. inl (ap (λ n. suc n) a.0, a.1)) inr (slot ys e s k r h)

pub kept : (ws : List ℕ) (known : List (Option Summary)) (e : ℕ) (s : Summary) → Filled ws known → s ≡ summary ws e → Filled ws (set known e (Some s))
kept ws known e s f is k r h = ⊎_elim (λ a. a.1 ∙ is ∙ ap (summary ws) (sym a.0)) (f k r) (slot known e s k r h)

-- a table that knows nothing
pub blank : (ws : List ℕ) (n : ℕ) → Filled ws (replicate n None)
blank ws n k s h = let z : ◌≡◌ {A = ℕ} 0 1 = (let e = empty n k in cc) in absurd (omega arith)
  where
    empty : (n k : ℕ) → get_or {A = Option Summary} (replicate n None) k None ≡ None
    empty zero k = refl
    empty (suc n) zero = refl
    empty (suc n) (suc k) = empty n k

-- past the last entry there is nothing
pub past_summary : (ws : List ℕ) (e : ℕ) → entries ws ≤ e → bare_set none ≡ summary ws e
unfolding summary behavior least descend
past_summary ws e h = let z : entries ws - e ≡ 0 = omega arith in cc

-- nor is there a statement
pub none_past : (ws : List ℕ) (e : ℕ) → entries ws ≤ e → None ≡ behavior_at ws e
unfolding control
none_past ws e h = sym (ap (λ o. cond (is_statement (control_of o)) (Some (behavior ws e)) None) (node_past ws e h))

pub few_entries : (ws : List ℕ) → accepted ws ≡ true → entries ws ≤ 4096
few_entries ws ok = (loaded ws ok).few
