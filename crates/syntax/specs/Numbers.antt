-- The numbers of the operators and of the kinds of declaration: each stands at its number.
use Rattle.std.specs.Prelude.{ℕ, List, [], ◌∷◌, Result, ok_or}
use Rattle.std.specs.List.{slice_get}
use Rattle.syntax.specs.declared.UnaryOperator.{UnaryOperator}
use Rattle.syntax.specs.declared.UnaryOperator.TheVariants.{Negation, LogicalNegation, BitwiseComplement}
use Rattle.syntax.specs.declared.BinaryOperator.{BinaryOperator}
use Rattle.syntax.specs.declared.BinaryOperator.TheVariants.{Addition, Subtraction, Multiplication, Division, Remainder, BinaryAnd, BinaryOr, BinaryXor, Equality, Inequality, LessThan, LessThanEqual, GreaterThan, GreaterThanEqual}
use Rattle.syntax.specs.declared.ShortCircuit.{ShortCircuit}
use Rattle.syntax.specs.declared.ShortCircuit.TheVariants.{And, Or}
use Rattle.syntax.specs.declared.DeclarationKind.{DeclarationKind}
use Rattle.syntax.specs.declared.DeclarationKind.TheVariants.{Const, Let, Var}
use Rattle.syntax.specs.declared.UnknownNumber.{UnknownNumber}

abbrev pub unary_operators : List UnaryOperator
unary_operators = Negation ∷ LogicalNegation ∷ BitwiseComplement ∷ []

abbrev pub binary_operators : List BinaryOperator
binary_operators =
    Addition ∷ Subtraction ∷ Multiplication ∷ Division ∷ Remainder ∷ BinaryAnd ∷ BinaryOr ∷ BinaryXor ∷ Equality
    ∷ Inequality ∷ LessThan ∷ LessThanEqual ∷ GreaterThan ∷ GreaterThanEqual ∷ []

-- the two that follow the binary operators
abbrev pub short_circuits : List ShortCircuit
short_circuits = And ∷ Or ∷ []

abbrev pub declaration_kinds : List DeclarationKind
declaration_kinds = Const ∷ Let ∷ Var ∷ []

-- What stands at a number of a list, or that nothing does
abbrev pub numbered : {T : Type 0} → List T → ℕ → Result T UnknownNumber
numbered all n = ok_or (slice_get all n) (record { 0 = n })
