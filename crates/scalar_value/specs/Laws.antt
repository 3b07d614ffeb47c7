-- A scalar and its field determine each other.
use Rattle.std.proofs.Common.{◌≡◌, true, ℤ, arith, w64, SFits}
use Rattle.std.proofs.lemmas.Int.{ints}
use Rattle.std.proofs.lemmas.Bool.Decides.{nat_tests}
use Rattle.fields.specs.Fields.{FieldLaws}
use Rattle.scalar_value.specs.declared.ScalarType.{ScalarType}
use Rattle.scalar_value.specs.Types.{inside}
use Rattle.scalar_value.specs.Numbers.{type_of, number_of, within}
use Rattle.scalar_value.specs.Fields.{letter, Valid}

pub inside-fits : (t : ScalarType) (z : ℤ) → inside t z ≡ true → SFits w64 z
inside-fits t z h = grind (arith, ints, nat_tests)

pub scalars_lawful : FieldLaws letter type_of number_of within Valid
scalars_lawful = record {
  letters = λ s t e. grind arith;
  fits = λ v h. inside-fits (type_of v) (number_of v) h;
  back = λ v h. grind (arith, ints, nat_tests);
  makes = λ t z v e. grind (arith, ints, nat_tests);
}
