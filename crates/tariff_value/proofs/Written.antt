-- A value is determined by its type and its number, also one that no program makes.
use Rattle.std.proofs.Common.{◌≡◌, ℕ, true, false, refl}
use Rattle.tariff_value.specs.declared.TariffType.{TariffType}
use Rattle.tariff_value.specs.declared.TariffType.TheVariants.{Flag as FlagType, Count as CountType, Gram as GramType, Cent as CentType}
use Rattle.tariff_value.specs.declared.TariffValue.{TariffValue}
use Rattle.tariff_value.specs.declared.TariffValue.TheVariants.{Flag, Count, Gram, Cent}
use Rattle.tariff_value.specs.Types.{type_of, number_of, value}

pub type_of_value : (t : TariffType) (n : ℕ) → type_of (value t n) ≡ t
type_of_value FlagType n = refl
type_of_value CountType n = refl
type_of_value GramType n = refl
type_of_value CentType n = refl

pub value_of_number : (v : TariffValue) → value (type_of v) (number_of v) ≡ v
value_of_number (Flag true) = refl
value_of_number (Flag false) = refl
value_of_number (Count n) = refl
value_of_number (Gram n) = refl
value_of_number (Cent n) = refl
