-- How a scalar is written as a field: a letter for its type, and its number in shortest decimals.
use Rattle.std.specs.Prelude.{◌≡◌, ℕ, true, List, ◌∷◌}
use Rattle.std.specs.Fmt.{signed_decimal}
use Rattle.scalar_value.specs.declared.ScalarType.{ScalarType}
use Rattle.scalar_value.specs.declared.ScalarType.TheVariants.{Bool as BoolType, AbstractInt as AbstractIntType, I32 as I32Type, U32 as U32Type}
use Rattle.scalar_value.specs.declared.Scalar.{Scalar}
use Rattle.scalar_value.specs.Types.{inside}
use Rattle.scalar_value.specs.Numbers.{type_of, number_of}

-- the letters b, a, i and u
abbrev pub letter : ScalarType → ℕ
letter BoolType = 98
letter AbstractIntType = 97
letter I32Type = 105
letter U32Type = 117

abbrev pub scalar_field : Scalar → List ℕ
scalar_field v = letter (type_of v) ∷ signed_decimal (number_of v)

-- Every scalar of a program is valid: its number is one of its type.
abbrev pub Valid : Scalar → Type 0
Valid v = inside (type_of v) (number_of v) ≡ true
