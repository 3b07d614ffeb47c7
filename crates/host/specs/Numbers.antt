-- The numbers and words of stages and of the faults of a host.
use Rattle.std.specs.Prelude.{ℕ, ◌<◌, ◌≤◌, ◌≢◌, List, [], ◌∷◌, codes}
use Rattle.host.specs.declared.Stage.{Stage}
use Rattle.host.specs.declared.Stage.TheVariants.{Const, Override, Exec}
use Rattle.host.specs.declared.StepFault.{StepFault}
use Rattle.host.specs.declared.StepFault.TheVariants.{Overflow, WrongType}
use Rattle.host.specs.declared.HostFault.{HostFault}
use Rattle.host.specs.declared.HostFault.TheVariants.{Unary, Binary, NegOverflow, AddOverflow, SubOverflow, MulOverflow, DivByZero, RemZeroDiv, Literal, Other}

-- each stage stands at its number
abbrev pub stages : List Stage
stages = Const ∷ Override ∷ Exec ∷ []

abbrev pub stage_number : Stage → ℕ
stage_number Const = 0
stage_number Override = 1
stage_number Exec = 2

abbrev pub stage_word : Stage → List ℕ
stage_word Const = codes "const"
stage_word Override = codes "override"
stage_word Exec = codes "exec"

abbrev pub fault_number : HostFault → ℕ
fault_number Unary = 40
fault_number Binary = 41
fault_number NegOverflow = 42
fault_number AddOverflow = 43
fault_number SubOverflow = 44
fault_number MulOverflow = 45
fault_number DivByZero = 46
fault_number RemZeroDiv = 47
fault_number Literal = 55
fault_number (Other n) = n

-- The numbers that a fault of a host may have: 50 to 52 and all below 40 are others' faults.
abbrev pub OfHost : ℕ → Type 0
OfHost n = (40 ≤ n) × (n ≢ 50) × (n ≢ 51) × (n ≢ 52) × (n < 65536)

abbrev pub step_fault_text : StepFault → List ℕ
step_fault_text Overflow = codes "overflow"
step_fault_text WrongType = codes "wrong type"
