-- Which books are fit, and the first entry that is not.
use Rattle.std.specs.Prelude.{◌≡◌, ℕ, ◌<◌, Bool, true, false, cond, not, ◌&&◌, ◌||◌, List, Some, None, Ok, Err, Option, Result}
use Rattle.std.specs.Option.{option_map, option_or}
use Rattle.layout.specs.First.{first_some}
use Rattle.layout.specs.Layout.{entries}
use Rattle.behavior.specs.Below.{Below, returning}
use Rattle.control.specs.Control.{control}
use Rattle.behavior.specs.Rules.{behavior, beyond_next}
use Rattle.behavior.specs.Summaries.{summary}
use Rattle.control.specs.declared.Control.{Control}
use Rattle.control.specs.declared.Control.TheVariants.{Break, Continue, Continuing, Forever, Function, If, Loop, Other, Plain, Return, Sequence, Switch, While}
use Rattle.fitness.specs.declared.fault.Reason.{Reason}
use Rattle.fitness.specs.declared.fault.Reason.TheVariants.{BreakOrContinue, LeavingContinuing, MissingValue, NoReturn, UnexpectedValue}
use Rattle.fitness.specs.declared.fault.Unfit.{Unfit}
use Rattle.behavior.specs.declared.set.Behavior.{Behavior}
use Rattle.behavior.specs.declared.summary.Summary.{Summary}

-- A function with the body b is fit: no Break or Continue leaves it; with a type every way ends in a return, and every
-- return below has a value; without a type none has
pub record FitFunction (ws : List ℕ) (typed : Bool) (b : ℕ) : Type 0 where
  pub no_break : (behavior ws b).breaks ≡ false
  pub no_continue : (behavior ws b).continues ≡ false
  pub returns : typed ≡ true → (behavior ws b).next ≡ false
  pub values : (k : ℕ) → Below ws b k → returning (not typed) (control ws k) ≡ false

pub record Fit (ws : List ℕ) : Type 0 where
  -- the set of every continuing's body is within Next
  pub continuings :
      (e b : ℕ) (x : Bool) → e < entries ws → control ws e ≡ Continuing b x → beyond_next (behavior ws b) ≡ false
  pub functions :
      (e n : ℕ) (typed : Bool) (b : ℕ) → e < entries ws → control ws e ≡ Function n typed b → FitFunction ws typed b

-- What is wrong with the function or continuing at e, and where
abbrev pub unfit : ℕ → Reason → ℕ → Unfit
unfit e r k = record { holder = e; reason = r; entry = k }

-- A function at e, from the summary of its body b
abbrev pub function_fault : ℕ → Bool → ℕ → Summary → Option Unfit
function_fault e typed b s =
    cond (s.behavior.breaks || s.behavior.continues) (Some (unfit e BreakOrContinue b))
    (cond (typed && s.behavior.next) (Some (unfit e NoReturn b))
    (option_or (option_map (unfit e (cond typed MissingValue UnexpectedValue)) (cond typed s.bare s.valued))
    (option_map (unfit e LeavingContinuing) s.leaving)))

-- A continuing at e, from the set of its body
abbrev pub continuing_fault : ℕ → Behavior → Option Unfit
continuing_fault e s = cond (beyond_next s) (Some (unfit e LeavingContinuing e)) None

abbrev pub fault_of : List ℕ → ℕ → Control → Option Unfit
fault_of ws e (Function n typed b) = function_fault e typed b (summary ws b)
fault_of ws e (Continuing b x) = continuing_fault e (summary ws b).behavior
fault_of ws e Other = None
fault_of ws e Plain = None
fault_of ws e (Sequence s) = None
fault_of ws e (If s o) = None
fault_of ws e (Switch s) = None
fault_of ws e (Loop b c) = None
fault_of ws e (While b) = None
fault_of ws e (Forever b) = None
fault_of ws e Break = None
fault_of ws e Continue = None
fault_of ws e (Return v) = None

abbrev pub fault_at : List ℕ → ℕ → Option Unfit
fault_at ws e = fault_of ws e (control ws e)

abbrev pub answer : Option Unfit → Result (Unit {0}) Unfit
answer None = Ok tt
answer (Some u) = Err u

-- The first fault, if any
abbrev pub fitness : List ℕ → Result (Unit {0}) Unfit
fitness ws = answer (first_some (fault_at ws) 0 (entries ws))
