-- How a reason is written, as bytes.
use Rattle.std.specs.Prelude.{ℕ, List, codes}
use Rattle.fitness.specs.declared.fault.Reason.{Reason}
use Rattle.fitness.specs.declared.fault.Reason.TheVariants.{BreakOrContinue, LeavingContinuing, MissingValue, NoReturn, UnexpectedValue}

abbrev pub reason_name : Reason → List ℕ
reason_name BreakOrContinue = codes "BreakOrContinue"
reason_name NoReturn = codes "NoReturn"
reason_name MissingValue = codes "MissingValue"
reason_name UnexpectedValue = codes "UnexpectedValue"
reason_name LeavingContinuing = codes "LeavingContinuing"
