-- The types of scalars, each a range of integers.
use Rattle.std.specs.Prelude.{ℕ, ◌-◌, ◌^◌, Bool, cond, ◌&&◌, List, [], ◌∷◌, ℤ, pos, negsuc, ◌+ℤ◌, ◌-ℤ◌, int_le}
use Rattle.std.specs.Int.{int_rem_euclid}
use Rattle.scalar_value.specs.declared.ScalarType.{ScalarType}
use Rattle.scalar_value.specs.declared.ScalarType.TheVariants.{Bool as BoolType, AbstractInt as AbstractIntType, I32 as I32Type, U32 as U32Type}

-- each type stands at its number
abbrev pub scalar_types : List ScalarType
scalar_types = BoolType ∷ AbstractIntType ∷ I32Type ∷ U32Type ∷ []

abbrev pub type_number : ScalarType → ℕ
type_number BoolType = 0
type_number AbstractIntType = 1
type_number I32Type = 2
type_number U32Type = 3

-- how many numbers a type has
abbrev pub size : ScalarType → ℕ
size BoolType = 2
size AbstractIntType = 2 ^ 64
size I32Type = 2 ^ 32
size U32Type = 2 ^ 32

-- 0, -2^63, -2^31 and 0
abbrev pub lowest : ScalarType → ℤ
lowest BoolType = pos 0
lowest AbstractIntType = negsuc 9223372036854775807
lowest I32Type = negsuc 2147483647
lowest U32Type = pos 0

abbrev pub highest : ScalarType → ℤ
highest t = lowest t +ℤ pos (size t - 1)

abbrev pub inside : ScalarType → ℤ → Bool
inside t z = int_le (lowest t) z && int_le z (highest t)

-- The number of the type that differs from z by a multiple of the type's size.
abbrev pub wrap : ScalarType → ℤ → ℤ
wrap t z =
    let r = int_rem_euclid z (pos (size t)) in
    cond (int_le r (highest t)) r (r -ℤ pos (size t))
