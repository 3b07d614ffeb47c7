-- How WGSL writes the operators and the kinds of declaration, as bytes.
use Rattle.std.specs.Prelude.{◌≡◌, ◌≢◌, ℕ, List, Result, MatchResult, codes}
use Rattle.syntax.specs.declared.UnknownWord.{UnknownWord}
use Rattle.syntax.specs.declared.UnaryOperator.{UnaryOperator}
use Rattle.syntax.specs.declared.UnaryOperator.TheVariants.{Negation, LogicalNegation, BitwiseComplement}
use Rattle.syntax.specs.declared.BinaryOperator.{BinaryOperator}
use Rattle.syntax.specs.declared.BinaryOperator.TheVariants.{Addition, Subtraction, Multiplication, Division, Remainder, BinaryAnd, BinaryOr, BinaryXor, Equality, Inequality, LessThan, LessThanEqual, GreaterThan, GreaterThanEqual}
use Rattle.syntax.specs.declared.ShortCircuit.{ShortCircuit}
use Rattle.syntax.specs.declared.ShortCircuit.TheVariants.{And, Or}
use Rattle.syntax.specs.declared.DeclarationKind.{DeclarationKind}
use Rattle.syntax.specs.declared.DeclarationKind.TheVariants.{Const, Let, Var}

abbrev pub unary_symbol : UnaryOperator → List ℕ
unary_symbol Negation = codes "-"
unary_symbol LogicalNegation = codes "!"
unary_symbol BitwiseComplement = codes "~"

abbrev pub binary_symbol : BinaryOperator → List ℕ
binary_symbol Addition = codes "+"
binary_symbol Subtraction = codes "-"
binary_symbol Multiplication = codes "*"
binary_symbol Division = codes "/"
binary_symbol Remainder = codes "%"
binary_symbol BinaryAnd = codes "&"
binary_symbol BinaryOr = codes "|"
binary_symbol BinaryXor = codes "^"
binary_symbol Equality = codes "=="
binary_symbol Inequality = codes "!="
binary_symbol LessThan = codes "<"
binary_symbol LessThanEqual = codes "<="
binary_symbol GreaterThan = codes ">"
binary_symbol GreaterThanEqual = codes ">="

abbrev pub short_circuit_symbol : ShortCircuit → List ℕ
short_circuit_symbol And = codes "&&"
short_circuit_symbol Or = codes "||"

abbrev pub kind_word : DeclarationKind → List ℕ
kind_word Const = codes "const"
kind_word Let = codes "let"
kind_word Var = codes "var"

-- What a text is read as: what is written so, and an error if nothing is
abbrev pub Reads : {T : Type 0} → (T → List ℕ) → List ℕ → Result T UnknownWord → Type 0
Reads {T} written text r = MatchResult r (λ v. written v ≡ text) (λ _. (v : T) → written v ≢ text)
