-- The value part of the tariff host.
use Rattle.std.specs.Prelude.{ℕ, Bool, cond, Some, None, Option, ◌==◌}
use Rattle.std.specs.Option.{option_map}
use Rattle.host.specs.Meaning.{ValueMeaning}
use Rattle.tariff_value.specs.declared.TariffValue.{TariffValue}
use Rattle.tariff_value.specs.declared.TariffValue.TheVariants.{Flag, Count, Gram, Cent}
use Rattle.tariff_value.specs.Types.{type_number, numbered_type, type_of, value}

abbrev pub truth : TariffValue → Option Bool
truth (Flag b) = Some b
truth (Count n) = None
truth (Gram n) = None
truth (Cent n) = None

-- To its own type alone.
abbrev pub convert : TariffValue → ℕ → Option TariffValue
convert v t = cond (t == type_number (type_of v)) (Some v) None

abbrev pub zero : ℕ → Option TariffValue
zero t = option_map (λ ty. value ty 0) (numbered_type t)

abbrev pub values : ValueMeaning TariffValue
values = record {
  type_of = λ v. type_number (type_of v);
  truth = truth;
  convert = convert;
  zero = zero;
  concretise = λ t. t;
}
