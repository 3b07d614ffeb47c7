-- How a value is written as a field: a letter for its type, and its number in shortest decimals.
use Rattle.std.specs.Prelude.{ℕ, ◌≤◌, List, ◌∷◌, decimal}
use Rattle.tariff_value.specs.declared.TariffType.{TariffType}
use Rattle.tariff_value.specs.declared.TariffType.TheVariants.{Flag as FlagType, Count as CountType, Gram as GramType, Cent as CentType}
use Rattle.tariff_value.specs.declared.TariffValue.{TariffValue}
use Rattle.tariff_value.specs.Types.{highest, type_of, number_of}

-- the letters f, c, g and p
abbrev pub letter : TariffType → ℕ
letter FlagType = 102
letter CountType = 99
letter GramType = 103
letter CentType = 112

abbrev pub tariff_field : TariffValue → List ℕ
tariff_field v = letter (type_of v) ∷ decimal (number_of v)

-- Every value of a program is valid: its number is one of its type.
abbrev pub Valid : TariffValue → Type 0
Valid v = number_of v ≤ highest (type_of v)
