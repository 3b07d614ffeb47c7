-- The value part of the scalar host.
use Rattle.std.specs.Prelude.{ℕ, Bool, false, cond, pos, Some, None, Option, ◌==◌}
use Rattle.host.specs.Meaning.{ValueMeaning}
use Rattle.scalar_value.specs.declared.ScalarType.TheVariants.{I32 as I32Type, U32 as U32Type}
use Rattle.scalar_value.specs.declared.Scalar.{Scalar}
use Rattle.scalar_value.specs.declared.Scalar.TheVariants.{Bool as BoolOf, AbstractInt, I32, U32}
use Rattle.scalar_value.specs.Types.{type_number}
use Rattle.scalar_value.specs.Numbers.{type_of, within}

abbrev pub truth : Scalar → Option Bool
truth (BoolOf b) = Some b
truth (AbstractInt z) = None
truth (I32 z) = None
truth (U32 n) = None

-- An AbstractInt as an I32 (2) or a U32 (3), where it fits.
abbrev pub fitted : Scalar → ℕ → Option Scalar
fitted (AbstractInt z) t = cond (t == 2) (within I32Type z) (cond (t == 3) (within U32Type z) None)
fitted (BoolOf b) t = None
fitted (I32 z) t = None
fitted (U32 n) t = None

abbrev pub convert : Scalar → ℕ → Option Scalar
convert v t = cond (t == type_number (type_of v)) (Some v) (fitted v t)

-- An AbstractInt has none: no variable is of that type.
abbrev pub zero : ℕ → Option Scalar
zero t =
    cond (t == 0) (Some (BoolOf false)) (cond (t == 2) (Some (I32 (pos 0))) (cond (t == 3) (Some (U32 0)) None))

-- An AbstractInt is stored as an I32.
abbrev pub concretise : ℕ → ℕ
concretise t = cond (t == 1) 2 t

abbrev pub values : ValueMeaning Scalar
values = record {
  type_of = λ v. type_number (type_of v);
  truth = truth;
  convert = convert;
  zero = zero;
  concretise = concretise;
}
