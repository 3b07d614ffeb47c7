-- The operators on two numbers of one type, over the integers: one definition each.
use Rattle.std.specs.Prelude.{ℕ, Bool, true, false, cond, not, ◌&&◌, ℤ, pos, ◌+ℤ◌, ◌-ℤ◌, ◌*ℤ◌, Ok, Err, Result, ◌==◌, bit_and, bit_or, bit_xor, int_div, int_le, int_lt, int_rem, unsigned_abs}
use Rattle.std.specs.Int.{int_rem_euclid}
use Rattle.std.specs.Option.{ok_or}
use Rattle.syntax.specs.declared.BinaryOperator.{BinaryOperator}
use Rattle.syntax.specs.declared.BinaryOperator.TheVariants.{Addition, Subtraction, Multiplication, Division, Remainder, BinaryAnd, BinaryOr, BinaryXor, Equality, Inequality, LessThan, LessThanEqual, GreaterThan, GreaterThanEqual}
use Rattle.host.specs.declared.Stage.{Stage}
use Rattle.host.specs.declared.Stage.TheVariants.{Const, Override, Exec}
use Rattle.host.specs.declared.HostFault.{HostFault}
use Rattle.host.specs.declared.HostFault.TheVariants.{Binary, NegOverflow, AddOverflow, SubOverflow, MulOverflow, DivByZero, RemZeroDiv}
use Rattle.scalar_value.specs.declared.ScalarType.{ScalarType}
use Rattle.scalar_value.specs.declared.ScalarType.TheVariants.{Bool as BoolType, AbstractInt as AbstractIntType, I32 as I32Type, U32 as U32Type}
use Rattle.scalar_value.specs.declared.Scalar.{Scalar}
use Rattle.scalar_value.specs.declared.Scalar.TheVariants.{Bool as BoolOf}
use Rattle.scalar_value.specs.Types.{type_number, size, inside}
use Rattle.scalar_value.specs.Numbers.{type_of, number_of, scalar, within, wrapped}

-- I32 and U32
abbrev pub concrete : ScalarType → Bool
concrete BoolType = false
concrete AbstractIntType = false
concrete I32Type = true
concrete U32Type = true

-- An exact result: I32 and U32 wrap, and an AbstractInt outside its range is a fault.
abbrev pub settled : HostFault → ScalarType → ℤ → Result Scalar HostFault
settled fault t z = cond (concrete t) (Ok (wrapped t z)) (ok_or (within t z) fault)

abbrev pub sum : ScalarType → ℤ → ℤ → Result Scalar HostFault
sum t m n = settled AddOverflow t (m +ℤ n)

abbrev pub difference : ScalarType → ℤ → ℤ → Result Scalar HostFault
difference t m n = settled SubOverflow t (m -ℤ n)

abbrev pub product : ScalarType → ℤ → ℤ → Result Scalar HostFault
product t m n = settled MulOverflow t (m *ℤ n)

-- In Exec a division of I32 or U32 never faults.
abbrev pub lenient : Stage → ScalarType → Bool
lenient Const t = false
lenient Override t = false
lenient Exec t = concrete t

-- What a lenient division gives in place of a fault.
abbrev pub unless : HostFault → Stage → ScalarType → Scalar → Result Scalar HostFault
unless fault stage t v = cond (lenient stage t) (Ok v) (Err fault)

abbrev pub equals : ℤ → ℤ → Bool
equals m n = int_le m n && int_le n m

-- Toward zero. Only the lowest by -1 lies outside the type.
abbrev pub quotient : Stage → ScalarType → ℤ → ℤ → Result Scalar HostFault
quotient stage t m n =
    cond (equals n (pos 0)) (unless DivByZero stage t (scalar t m))
    (cond (inside t (int_div m n)) (Ok (scalar t (int_div m n))) (unless NegOverflow stage t (scalar t m)))

-- With the dividend's sign.
abbrev pub remainder : Stage → ScalarType → ℤ → ℤ → Result Scalar HostFault
remainder stage t m n =
    cond (equals n (pos 0)) (unless RemZeroDiv stage t (scalar t (pos 0))) (Ok (scalar t (int_rem m n)))

-- The bits of a number in its type, as a natural number.
abbrev pub bits : ScalarType → ℤ → ℕ
bits t z = unsigned_abs (int_rem_euclid z (pos (size t)))

abbrev pub bitwise : (ℕ → ℕ → ℕ) → ScalarType → ℤ → ℤ → Result Scalar HostFault
bitwise f t m n = Ok (wrapped t (pos (f (bits t m) (bits t n))))

abbrev pub answer : Bool → Result Scalar HostFault
answer b = Ok (BoolOf b)

-- What only integers have.
abbrev pub of_integers : ScalarType → Result Scalar HostFault → Result Scalar HostFault
of_integers BoolType r = Err Binary
of_integers AbstractIntType r = r
of_integers I32Type r = r
of_integers U32Type r = r

abbrev pub operation : Stage → BinaryOperator → ScalarType → ℤ → ℤ → Result Scalar HostFault
operation stage Addition t m n = of_integers t (sum t m n)
operation stage Subtraction t m n = of_integers t (difference t m n)
operation stage Multiplication t m n = of_integers t (product t m n)
operation stage Division t m n = of_integers t (quotient stage t m n)
operation stage Remainder t m n = of_integers t (remainder stage t m n)
operation stage BinaryAnd t m n = bitwise bit_and t m n
operation stage BinaryOr t m n = bitwise bit_or t m n
operation stage BinaryXor t m n = of_integers t (bitwise bit_xor t m n)
operation stage Equality t m n = answer (equals m n)
operation stage Inequality t m n = answer (not (equals m n))
operation stage LessThan t m n = of_integers t (answer (int_lt m n))
operation stage LessThanEqual t m n = of_integers t (answer (int_le m n))
operation stage GreaterThan t m n = of_integers t (answer (int_lt n m))
operation stage GreaterThanEqual t m n = of_integers t (answer (int_le n m))

abbrev pub same_type : Scalar → Scalar → Bool
same_type v w = type_number (type_of v) == type_number (type_of w)

-- An operator exists for two scalars of one type.
abbrev pub alike : Stage → BinaryOperator → Scalar → Scalar → Result Scalar HostFault
alike stage op v w = cond (same_type v w) (operation stage op (type_of v) (number_of v) (number_of w)) (Err Binary)
