-- Every answer of a binary operator is a value, or a fault that a host may give.
use Rattle.std.proofs.Common.{rules}
use Rattle.std.specs.Prelude.{Some, None, Option}
use Rattle.syntax.specs.declared.BinaryOperator.{BinaryOperator}
use Rattle.host.specs.declared.Stage.{Stage}
use Rattle.host.specs.Meaning.{Answers}
use Rattle.scalar_value.specs.declared.Scalar.{Scalar}
use Rattle.arithmetic.proofs.Sound.{alike_sound}
use Rattle.scalar.specs.Operators.{both}

pub both_sound : (s : Stage) (op : BinaryOperator) (v w : Option Scalar) → Answers (both s op v w)
both_sound s op None w = search rules
both_sound s op (Some v) None = search rules
both_sound s op (Some v) (Some w) = alike_sound s op v w
