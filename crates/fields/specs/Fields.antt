-- A value as a field: a letter for its type, and its number in shortest decimals.
use Rattle.std.specs.Prelude.{◌≡◌, ℕ, List, ◌∷◌, ℤ, Some, Option, FitsSigned}
use Rattle.std.specs.Int.{w64}
use Rattle.std.specs.Fmt.{signed_decimal}

abbrev pub field : {V K : Type 0} → (K → ℕ) → (V → K) → (V → ℤ) → V → List ℕ
field letter kind number v = letter (kind v) ∷ signed_decimal (number v)

-- Types differ by their letters, and a valid value is determined by its type and its number, which fits 64 bits.
pub record FieldLaws {V K : Type 0} (letter : K → ℕ) (kind : V → K) (number : V → ℤ) (made : K → ℤ → Option V) (valid : V → Type 0) : Type 0 where
  pub letters : (s t : K) → letter s ≡ letter t → s ≡ t
  pub fits : (v : V) → valid v → FitsSigned w64 (number v)
  pub back : (v : V) → valid v → made (kind v) (number v) ≡ Some v
  pub makes : (t : K) (z : ℤ) (v : V) → made t z ≡ Some v → valid v × (kind v ≡ t) × (number v ≡ z)
