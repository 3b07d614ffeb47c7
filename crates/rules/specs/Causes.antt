-- The number of each cause of a refusal.
use Rattle.std.specs.Prelude.{ℕ}
use Rattle.host.specs.Numbers.{fault_number}
use Rattle.names.specs.Faults.{name_fault_number}
use Rattle.rules.specs.declared.error.Cause.{Cause}
use Rattle.rules.specs.declared.error.Cause.TheVariants as C

abbrev pub cause_number : Cause → ℕ
cause_number C.ShortTables = 5
cause_number C.NoStatement = 6
cause_number C.TooManyArguments = 7
cause_number C.BadStage = 8
cause_number C.Type = 10
cause_number C.Conversion = 14
cause_number C.UntypedDecl = 16
cause_number C.UninitConst = 17
cause_number C.UninitLet = 18
cause_number C.UnknownFunction = 22
cause_number C.MustUse = 24
cause_number C.NotConst = 25
cause_number C.ParamCount = 26
cause_number C.ParamType = 27
cause_number C.ReturnType = 28
cause_number C.NoReturn = 29
cause_number C.UnexpectedReturn = 30
cause_number C.Void = 31
cause_number C.FlowInContinuing = 32
cause_number C.FlowInFunction = 33
cause_number C.DiscardInConst = 34
cause_number C.ConstAssertFailure = 35
cause_number C.IncrType = 36
cause_number C.IncrOverflow = 37
cause_number C.DecrType = 38
cause_number C.DecrOverflow = 39
cause_number C.OutOfFuel = 50
cause_number C.TooDeep = 51
cause_number C.NotConstructible = 53
cause_number (C.Name f) = name_fault_number f
cause_number (C.Host f) = fault_number f
