-- The types of the tariff host, and every value as a type with a natural number.
use Rattle.std.specs.Prelude.{ℕ, ℤ, pos, negsuc, cond, not, Some, None, Option, ◌==◌, nat_le}
use Rattle.tariff_value.specs.declared.TariffType.{TariffType}
use Rattle.tariff_value.specs.declared.TariffType.TheVariants.{Flag as FlagType, Count as CountType, Gram as GramType, Cent as CentType}
use Rattle.tariff_value.specs.declared.TariffValue.{TariffValue}
use Rattle.tariff_value.specs.declared.TariffValue.TheVariants.{Flag, Count, Gram, Cent}

abbrev pub type_number : TariffType → ℕ
type_number FlagType = 0
type_number CountType = 4
type_number GramType = 5
type_number CentType = 6

-- the type with that number
abbrev pub numbered_type : ℕ → Option TariffType
numbered_type n =
    cond (n == 0) (Some FlagType)
    (cond (n == 4) (Some CountType) (cond (n == 5) (Some GramType) (cond (n == 6) (Some CentType) None)))

abbrev pub highest : TariffType → ℕ
highest FlagType = 1
highest CountType = 4294967295
highest GramType = 4294967295
highest CentType = 4294967295

abbrev pub type_of : TariffValue → TariffType
type_of (Flag b) = FlagType
type_of (Count n) = CountType
type_of (Gram n) = GramType
type_of (Cent n) = CentType

-- false is 0 and true is 1
abbrev pub number_of : TariffValue → ℕ
number_of (Flag b) = cond b 1 0
number_of (Count n) = n
number_of (Gram n) = n
number_of (Cent n) = n

-- the value of a type and a number
abbrev pub value : TariffType → ℕ → TariffValue
value FlagType n = Flag (not (n == 0))
value CountType n = Count n
value GramType n = Gram n
value CentType n = Cent n

-- the number where the type has it, and none elsewhere
abbrev pub within : TariffType → ℕ → Option TariffValue
within t n = cond (nat_le n (highest t)) (Some (value t n)) None

-- the same of an integer: no type has a negative number
abbrev pub within_integer : TariffType → ℤ → Option TariffValue
within_integer t (pos n) = within t n
within_integer t (negsuc n) = None
