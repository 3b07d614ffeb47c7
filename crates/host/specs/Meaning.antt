-- What the functions of a host answer, as values over any type of values, and the laws that such a meaning keeps.
use Rattle.std.specs.Prelude.{◌≡◌, ℕ, ◌<◌, Bool, ◌≢◌, List, Some, None, Ok, Err, Option, Result}
use Rattle.syntax.specs.declared.UnaryOperator.{UnaryOperator}
use Rattle.syntax.specs.declared.BinaryOperator.{BinaryOperator}
use Rattle.host.specs.declared.Stage.{Stage}
use Rattle.host.specs.declared.HostFault.{HostFault}
use Rattle.host.specs.declared.StepFault.{StepFault}
use Rattle.host.specs.Numbers.{fault_number, OfHost}

pub record ValueMeaning (V : Type 0) : Type 0 where
  pub type_of : V → ℕ
  pub truth : V → Option Bool
  pub convert : V → ℕ → Option V
  pub zero : ℕ → Option V
  pub concretise : ℕ → ℕ

-- A value of the type t, if any.
abbrev pub Typed : {V : Type 0} → ValueMeaning V → ℕ → Option V → Type 0
Typed m t (Some w) = m.type_of w ≡ t
Typed m t None = Unit {0}

-- The truth of a value of the type t: none exactly when t is not 0.
abbrev pub TrueOf : ℕ → Option Bool → Type 0
TrueOf t (Some b) = t ≡ 0
TrueOf t None = t ≢ 0

pub record ValueLaws {V : Type 0} (m : ValueMeaning V) : Type 0 where
  pub types : (v : V) → m.type_of v < 65535
  pub truths : (v : V) → TrueOf (m.type_of v) (m.truth v)
  pub converts : (v : V) (t : ℕ) → Typed m t (m.convert v t)
  pub zeros : (t : ℕ) → Typed m t (m.zero t)

pub record OperatorMeaning (V : Type 0) : Type 0 where
  pub literal : ℕ → List ℕ → Result V HostFault
  pub unary : Stage → UnaryOperator → V → Result V HostFault
  pub binary : Stage → BinaryOperator → V → V → Result V HostFault
  pub same : V → V → Result Bool HostFault
  pub up : V → Result V StepFault
  pub down : V → Result V StepFault

-- An answer, or a fault with a number that a host may give.
abbrev pub Answers : {A : Type 0} → Result A HostFault → Type 0
Answers (Ok a) = Unit {0}
Answers (Err f) = OfHost (fault_number f)

-- A step to a value of the type t, if to any.
abbrev pub Steps : {V : Type 0} → ValueMeaning V → ℕ → Result V StepFault → Type 0
Steps m t (Ok w) = m.type_of w ≡ t
Steps m t (Err f) = Unit {0}

pub record OperatorLaws {V : Type 0} (m : ValueMeaning V) (o : OperatorMeaning V) : Type 0 where
  pub literals : (kind : ℕ) (words : List ℕ) → Answers (o.literal kind words)
  pub unaries : (s : Stage) (op : UnaryOperator) (v : V) → Answers (o.unary s op v)
  pub binaries : (s : Stage) (op : BinaryOperator) (v w : V) → Answers (o.binary s op v w)
  pub sames : (v w : V) → Answers (o.same v w)
  pub ups : (v : V) → Steps m (m.type_of v) (o.up v)
  pub downs : (v : V) → Steps m (m.type_of v) (o.down v)
