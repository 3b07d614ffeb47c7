-- Every scalar is a type with a number of it.
use Rattle.std.specs.Prelude.{cond, not, ℤ, pos, Some, None, Option, ◌==◌, unsigned_abs}
use Rattle.scalar_value.specs.declared.ScalarType.{ScalarType}
use Rattle.scalar_value.specs.declared.ScalarType.TheVariants.{Bool as BoolType, AbstractInt as AbstractIntType, I32 as I32Type, U32 as U32Type}
use Rattle.scalar_value.specs.declared.Scalar.{Scalar}
use Rattle.scalar_value.specs.declared.Scalar.TheVariants.{Bool as BoolOf, AbstractInt, I32, U32}
use Rattle.scalar_value.specs.Types.{inside, wrap}

abbrev pub type_of : Scalar → ScalarType
type_of (BoolOf b) = BoolType
type_of (AbstractInt z) = AbstractIntType
type_of (I32 z) = I32Type
type_of (U32 n) = U32Type

-- false is 0 and true is 1
abbrev pub number_of : Scalar → ℤ
number_of (BoolOf b) = pos (cond b 1 0)
number_of (AbstractInt z) = z
number_of (I32 z) = z
number_of (U32 n) = pos n

-- the scalar of a type and a number inside it
abbrev pub scalar : ScalarType → ℤ → Scalar
scalar BoolType z = BoolOf (not (unsigned_abs z == 0))
scalar AbstractIntType z = AbstractInt z
scalar I32Type z = I32 z
scalar U32Type z = U32 (unsigned_abs z)

-- the number where the type has it, and none elsewhere
abbrev pub within : ScalarType → ℤ → Option Scalar
within t z = cond (inside t z) (Some (scalar t z)) None

abbrev pub wrapped : ScalarType → ℤ → Scalar
wrapped t z = scalar t (wrap t z)
