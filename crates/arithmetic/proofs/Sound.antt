-- Every answer of a binary operator is a value, or a fault that a host may give.
use Rattle.std.proofs.Common.{ℤ, rules}
use Rattle.syntax.specs.declared.BinaryOperator.{BinaryOperator}
use Rattle.host.specs.declared.Stage.{Stage}
use Rattle.host.specs.Meaning.{Answers}
use Rattle.scalar_value.specs.declared.Scalar.{Scalar}
use Rattle.scalar_value.specs.declared.ScalarType.{ScalarType}
use Rattle.arithmetic.specs.Operations.{alike, operation}

pub operation_sound : (s : Stage) (op : BinaryOperator) (t : ScalarType) (m n : ℤ) → Answers (operation s op t m n)
operation_sound s op t m n = search rules

pub alike_sound : (s : Stage) (op : BinaryOperator) (v w : Scalar) → Answers (alike s op v w)
alike_sound s op v w = search rules
