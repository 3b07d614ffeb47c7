-- A scalar is determined by its type and its number, also one that no program makes.
use Rattle.std.proofs.Common.{◌≡◌, true, false, ℤ, refl}
use Rattle.scalar_value.specs.declared.ScalarType.{ScalarType}
use Rattle.scalar_value.specs.declared.ScalarType.TheVariants.{Bool as BoolType, AbstractInt as AbstractIntType, I32 as I32Type, U32 as U32Type}
use Rattle.scalar_value.specs.declared.Scalar.{Scalar}
use Rattle.scalar_value.specs.declared.Scalar.TheVariants.{Bool as BoolOf, AbstractInt, I32, U32}
use Rattle.scalar_value.specs.Numbers.{type_of, number_of, scalar}

pub type_of_scalar : (t : ScalarType) (z : ℤ) → type_of (scalar t z) ≡ t
type_of_scalar BoolType z = refl
type_of_scalar AbstractIntType z = refl
type_of_scalar I32Type z = refl
type_of_scalar U32Type z = refl

pub scalar_of_number : (v : Scalar) → scalar (type_of v) (number_of v) ≡ v
scalar_of_number (BoolOf true) = refl
scalar_of_number (BoolOf false) = refl
scalar_of_number (AbstractInt z) = refl
scalar_of_number (I32 z) = refl
scalar_of_number (U32 n) = refl
