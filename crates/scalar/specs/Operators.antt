-- The operators of the scalar host, over the integers: one definition each.
use Rattle.std.specs.Prelude.{ℕ, Bool, not, ◌&&◌, List, ℤ, pos, negsuc, ◌+ℤ◌, ◌-ℤ◌, neg_ℤ, Some, None, Ok, Err, Option, Result}
use Rattle.std.specs.Option.{ok_or}
use Rattle.std.specs.List.{slice_get}
use Rattle.syntax.specs.declared.UnaryOperator.{UnaryOperator}
use Rattle.syntax.specs.declared.UnaryOperator.TheVariants.{Negation, LogicalNegation, BitwiseComplement}
use Rattle.syntax.specs.declared.BinaryOperator.{BinaryOperator}
use Rattle.host.specs.declared.Stage.{Stage}
use Rattle.host.specs.declared.HostFault.{HostFault}
use Rattle.host.specs.declared.HostFault.TheVariants.{Unary, Binary, Literal}
use Rattle.host.specs.declared.StepFault.{StepFault}
use Rattle.host.specs.declared.StepFault.TheVariants.{WrongType}
use Rattle.host.specs.Literals.{literal_number}
use Rattle.host.specs.Meaning.{OperatorMeaning}
use Rattle.scalar_value.specs.declared.ScalarType.{ScalarType}
use Rattle.scalar_value.specs.declared.ScalarType.TheVariants.{AbstractInt as AbstractIntType, I32 as I32Type, U32 as U32Type}
use Rattle.scalar_value.specs.declared.Scalar.{Scalar}
use Rattle.scalar_value.specs.declared.Scalar.TheVariants.{Bool as BoolOf, AbstractInt, I32, U32}
use Rattle.scalar_value.specs.Types.{scalar_types, type_number}
use Rattle.scalar_value.specs.Numbers.{type_of, number_of, within, wrapped}
use Rattle.arithmetic.specs.Operations.{equals, same_type, alike}
use Rattle.scalar.specs.Values.{convert}

-- ---- one operand

-- The lowest number stays.
abbrev pub negation : Scalar → Result Scalar HostFault
negation (BoolOf b) = Err Unary
negation (AbstractInt z) = Ok (wrapped AbstractIntType (neg_ℤ z))
negation (I32 z) = Ok (wrapped I32Type (neg_ℤ z))
negation (U32 n) = Err Unary

abbrev pub logical_negation : Scalar → Result Scalar HostFault
logical_negation (BoolOf b) = Ok (BoolOf (not b))
logical_negation (AbstractInt z) = Err Unary
logical_negation (I32 z) = Err Unary
logical_negation (U32 n) = Err Unary

-- Every bit turned: -1 - z.
abbrev pub complement : Scalar → Result Scalar HostFault
complement (BoolOf b) = Err Unary
complement (AbstractInt z) = Ok (wrapped AbstractIntType (negsuc 0 -ℤ z))
complement (I32 z) = Ok (wrapped I32Type (negsuc 0 -ℤ z))
complement (U32 n) = Ok (wrapped U32Type (negsuc 0 -ℤ pos n))

abbrev pub unary : Stage → UnaryOperator → Scalar → Result Scalar HostFault
unary stage Negation v = negation v
unary stage LogicalNegation v = logical_negation v
unary stage BitwiseComplement v = complement v

-- ---- two operands

-- What a value becomes beside another: an AbstractInt takes the other's type, where it fits.
abbrev pub beside : Scalar → Scalar → Option Scalar
beside (BoolOf b) other = Some (BoolOf b)
beside (AbstractInt z) other = convert (AbstractInt z) (type_number (type_of other))
beside (I32 z) other = Some (I32 z)
beside (U32 n) other = Some (U32 n)

abbrev pub both : Stage → BinaryOperator → Option Scalar → Option Scalar → Result Scalar HostFault
both stage op None w = Err Binary
both stage op (Some v) None = Err Binary
both stage op (Some v) (Some w) = alike stage op v w

abbrev pub binary : Stage → BinaryOperator → Scalar → Scalar → Result Scalar HostFault
binary stage op v w = both stage op (beside v w) (beside w v)

-- ---- the others

-- A literal's kind is its type, and its words write a number of that type.
abbrev literal_of : Option ScalarType → ℤ → Result Scalar HostFault
literal_of None z = Err Literal
literal_of (Some t) z = ok_or (within t z) Literal

abbrev pub literal : ℕ → List ℕ → Result Scalar HostFault
literal kind words = literal_of (slice_get scalar_types kind) (literal_number words)

abbrev pub same : Scalar → Scalar → Result Bool HostFault
same v w = Ok (same_type v w && equals (number_of v) (number_of w))

-- A step of an I32 or a U32, which wraps.
abbrev pub stepped : ℤ → Scalar → Result Scalar StepFault
stepped by (BoolOf b) = Err WrongType
stepped by (AbstractInt z) = Err WrongType
stepped by (I32 z) = Ok (wrapped I32Type (z +ℤ by))
stepped by (U32 n) = Ok (wrapped U32Type (pos n +ℤ by))

abbrev pub operators : OperatorMeaning Scalar
operators = record {
  literal = literal;
  unary = unary;
  binary = binary;
  same = same;
  up = stepped (pos 1);
  down = stepped (negsuc 0);
}
