-- The operators of the tariff host, over the natural numbers: one definition each. The stage makes no difference.
use Rattle.std.specs.Prelude.{ℕ, ◌+◌, ◌-◌, ◌*◌, ◌/◌, ◌%◌, Bool, cond, not, ◌&&◌, ◌||◌, ltb, leb, List, ℤ, pos, negsuc, Some, None, Ok, Err, Option, Result, ◌==◌, nat_le, nat_lt}
use Rattle.std.specs.Option.{ok_or}
use Rattle.syntax.specs.declared.UnaryOperator.{UnaryOperator}
use Rattle.syntax.specs.declared.UnaryOperator.TheVariants.{Negation, LogicalNegation, BitwiseComplement}
use Rattle.syntax.specs.declared.BinaryOperator.{BinaryOperator}
use Rattle.syntax.specs.declared.BinaryOperator.TheVariants.{Addition, Subtraction, Multiplication, Division, Remainder, BinaryAnd, BinaryOr, BinaryXor, Equality, Inequality, LessThan, LessThanEqual, GreaterThan, GreaterThanEqual}
use Rattle.host.specs.declared.Stage.{Stage}
use Rattle.host.specs.declared.HostFault.{HostFault}
use Rattle.host.specs.declared.HostFault.TheVariants.{Unary, Binary, AddOverflow, SubOverflow, MulOverflow, DivByZero, RemZeroDiv, Literal}
use Rattle.host.specs.declared.StepFault.{StepFault}
use Rattle.host.specs.declared.StepFault.TheVariants.{Overflow, WrongType}
use Rattle.host.specs.Literals.{literal_number}
use Rattle.host.specs.Meaning.{OperatorMeaning}
use Rattle.tariff_value.specs.declared.TariffType.{TariffType}
use Rattle.tariff_value.specs.declared.TariffType.TheVariants.{Count as CountType}
use Rattle.tariff_value.specs.declared.TariffValue.{TariffValue}
use Rattle.tariff_value.specs.declared.TariffValue.TheVariants.{Flag, Count, Gram, Cent}
use Rattle.tariff_value.specs.Types.{type_number, numbered_type, highest, type_of, number_of, value, within}

-- ---- one operand

-- Only a Flag is negated.
abbrev pub logical_negation : TariffValue → Result TariffValue HostFault
logical_negation (Flag b) = Ok (Flag (not b))
logical_negation (Count n) = Err Unary
logical_negation (Gram n) = Err Unary
logical_negation (Cent n) = Err Unary

abbrev pub unary : Stage → UnaryOperator → TariffValue → Result TariffValue HostFault
unary stage Negation v = Err Unary
unary stage LogicalNegation v = logical_negation v
unary stage BitwiseComplement v = Err Unary

-- ---- the type of an answer, none where the operator does not exist

abbrev pub is_count : TariffType → Bool
is_count t = type_number t == 4

abbrev pub is_amount : TariffType → Bool
is_amount t = not (type_number t == 0)

abbrev pub same_type : TariffType → TariffType → Bool
same_type s t = type_number s == type_number t

-- two amounts of one type
abbrev pub of_amounts : TariffType → TariffType → TariffType → Option TariffType
of_amounts answer s t = cond (is_amount s && same_type s t) (Some answer) None

abbrev pub sum_type : TariffType → TariffType → Option TariffType
sum_type s t = of_amounts s s t

-- a Count and an amount, in either order
abbrev pub product_type : TariffType → TariffType → Option TariffType
product_type s t = cond (is_count t && is_amount s) (Some s) (cond (is_count s && is_amount t) (Some t) None)

-- an amount by a Count, or by an amount of its type
abbrev pub quotient_type : TariffType → TariffType → Option TariffType
quotient_type s t = cond (is_count t && is_amount s) (Some s) (of_amounts CountType s t)

-- ---- two numbers, and the type of the answer

abbrev pub sum : TariffType → ℕ → ℕ → Result TariffValue HostFault
sum t m n = ok_or (within t (m + n)) AddOverflow

abbrev pub difference : TariffType → ℕ → ℕ → Result TariffValue HostFault
difference t m n = cond (nat_le n m) (Ok (value t (m - n))) (Err SubOverflow)

abbrev pub product : TariffType → ℕ → ℕ → Result TariffValue HostFault
product t m n = ok_or (within t (m * n)) MulOverflow

abbrev pub quotient : TariffType → ℕ → ℕ → Result TariffValue HostFault
quotient t m n = cond (n == 0) (Err DivByZero) (Ok (value t (m / n)))

abbrev pub remainder : TariffType → ℕ → ℕ → Result TariffValue HostFault
remainder t m n = cond (n == 0) (Err RemZeroDiv) (Ok (value t (m % n)))

-- ---- two operands

abbrev typed : (TariffType → ℕ → ℕ → Result TariffValue HostFault) → Option TariffType → ℕ → ℕ → Result TariffValue HostFault
typed f None m n = Err Binary
typed f (Some t) m n = f t m n

abbrev pub flags : (Bool → Bool → Bool) → TariffValue → TariffValue → Result TariffValue HostFault
flags f (Flag a) (Flag b) = Ok (Flag (f a b))
flags f (Flag a) (Count n) = Err Binary
flags f (Flag a) (Gram n) = Err Binary
flags f (Flag a) (Cent n) = Err Binary
flags f (Count m) w = Err Binary
flags f (Gram m) w = Err Binary
flags f (Cent m) w = Err Binary

-- an answer where the test holds of the types
abbrev pub answer : Bool → Bool → Result TariffValue HostFault
answer exists b = cond exists (Ok (Flag b)) (Err Binary)

-- of one type, a Flag or an amount
abbrev pub equal : (Bool → Bool) → TariffValue → TariffValue → Result TariffValue HostFault
equal f v w = answer (same_type (type_of v) (type_of w)) (f (number_of v == number_of w))

-- of one type, an amount
abbrev pub compared : (ℕ → ℕ → Bool) → TariffValue → TariffValue → Result TariffValue HostFault
compared f v w = answer (is_amount (type_of v) && same_type (type_of v) (type_of w)) (f (number_of v) (number_of w))

abbrev pub operation : BinaryOperator → TariffValue → TariffValue → Result TariffValue HostFault
operation Addition v w = typed sum (sum_type (type_of v) (type_of w)) (number_of v) (number_of w)
operation Subtraction v w = typed difference (sum_type (type_of v) (type_of w)) (number_of v) (number_of w)
operation Multiplication v w = typed product (product_type (type_of v) (type_of w)) (number_of v) (number_of w)
operation Division v w = typed quotient (quotient_type (type_of v) (type_of w)) (number_of v) (number_of w)
operation Remainder v w = typed remainder (sum_type (type_of v) (type_of w)) (number_of v) (number_of w)
operation BinaryAnd v w = flags ◌&&◌ v w
operation BinaryOr v w = flags ◌||◌ v w
operation BinaryXor v w = Err Binary
operation Equality v w = equal (λ b. b) v w
operation Inequality v w = equal not v w
operation LessThan v w = compared ltb v w
operation LessThanEqual v w = compared leb v w
operation GreaterThan v w = compared (λ m n. ltb n m) v w
operation GreaterThanEqual v w = compared (λ m n. leb n m) v w

abbrev pub binary : Stage → BinaryOperator → TariffValue → TariffValue → Result TariffValue HostFault
binary stage op v w = operation op v w

-- ---- the others

-- A literal's kind is its type, and its words write a number of that type.
abbrev literal_of : Option TariffType → ℤ → Result TariffValue HostFault
literal_of None z = Err Literal
literal_of (Some t) (pos n) = ok_or (within t n) Literal
literal_of (Some t) (negsuc n) = Err Literal

abbrev pub literal : ℕ → List ℕ → Result TariffValue HostFault
literal kind words = literal_of (numbered_type kind) (literal_number words)

abbrev pub same : TariffValue → TariffValue → Result Bool HostFault
same v w = Ok (same_type (type_of v) (type_of w) && number_of v == number_of w)

-- Only a Count is stepped.
abbrev pub counted : TariffValue → Result ℕ StepFault
counted (Flag b) = Err WrongType
counted (Count n) = Ok n
counted (Gram n) = Err WrongType
counted (Cent n) = Err WrongType

abbrev pub up : TariffValue → Result TariffValue StepFault
up (Flag b) = Err WrongType
up (Count n) = cond (nat_lt n (highest CountType)) (Ok (Count (n + 1))) (Err Overflow)
up (Gram n) = Err WrongType
up (Cent n) = Err WrongType

abbrev pub down : TariffValue → Result TariffValue StepFault
down (Flag b) = Err WrongType
down (Count n) = cond (n == 0) (Err Overflow) (Ok (Count (n - 1)))
down (Gram n) = Err WrongType
down (Cent n) = Err WrongType

abbrev pub operators : OperatorMeaning TariffValue
operators = record {
  literal = literal;
  unary = unary;
  binary = binary;
  same = same;
  up = up;
  down = down;
}
