-- A value and its field determine each other.
use Rattle.std.proofs.Common.{pos, arith}
use Rattle.std.proofs.lemmas.Int.{ints}
use Rattle.std.proofs.lemmas.Bool.Decides.{nat_tests}
use Rattle.fields.specs.Fields.{FieldLaws}
use Rattle.tariff_value.specs.Types.{type_of, number_of, within_integer}
use Rattle.tariff_value.specs.Fields.{letter, Valid}

pub values_lawful : FieldLaws letter type_of (λ v. pos (number_of v)) within_integer Valid
values_lawful = record {
  letters = λ s t e. grind arith;
  fits = λ v h. grind (arith, ints, nat_tests);
  back = λ v h. grind (arith, ints, nat_tests);
  makes = λ t z v e. grind (arith, ints, nat_tests);
}
