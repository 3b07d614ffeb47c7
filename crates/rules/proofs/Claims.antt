-- What is claimed of everything that a run begins: where it is what its parent takes it for, it ends as its set says, and no
-- refusal is one that the book rules out.
use Rattle.std.proofs.Common.{◌≡◌, ℕ, ◌<◌, true, List, get_or, is_some, Some, Option, sym, ap, ◌∙◌, subst}
use Rattle.std.specs.List.{slice_get}
use Rattle.shape.specs.Shapes.{takes}
use Rattle.shape.specs.declared.Child.{Child}
use Rattle.shape.specs.declared.Child.TheVariants as Kind
use Rattle.layout.specs.Layout.{entries, place}
use Rattle.book.specs.Nodes.{node_at}
use Rattle.layout.specs.WellFormed.{WellFormed}
use Rattle.book.specs.declared.node.Node.{Node}
use Rattle.book.specs.declared.node.Node.TheVariants as N
use Rattle.behavior.specs.Below.{Below, children_of, returning, through}
use Rattle.control.specs.Control.{control}
use Rattle.fitness.specs.Fit.{Fit}
use Rattle.behavior.specs.Rules.{behavior, control_behavior}
use Rattle.control.specs.Control.{exits}
use Rattle.control.specs.declared.Control.{Control}
use Rattle.behavior.proofs.Openings.{opened-behavior}
use Rattle.drive.specs.Hoare.{Claim, Goal}
use Rattle.rules.specs.Flows.{has}
use Rattle.rules.specs.Store.{Begun, OutOf, Refusal, Store, astray, because, block, callee, continuing, expression, shape, statement}
use Rattle.rules.specs.declared.error.Cause.{Cause}
use Rattle.rules.specs.declared.error.Cause.TheVariants as C
use Rattle.rules.specs.declared.flow.Flow.{Flow}
use Rattle.rules.specs.declared.flow.Flow.TheVariants as F

-- What a run of a fit book may be refused for: anything but four causes
abbrev pub Possible : Cause → Type 0
Possible C.NoReturn = ⊥
Possible C.UnexpectedReturn = ⊥
Possible C.FlowInContinuing = ⊥
Possible C.FlowInFunction = ⊥
Possible C.ShortTables = Unit {0}
Possible C.NoStatement = Unit {0}
Possible C.TooManyArguments = Unit {0}
Possible C.BadStage = Unit {0}
Possible C.Type = Unit {0}
Possible C.Conversion = Unit {0}
Possible C.UntypedDecl = Unit {0}
Possible C.UninitConst = Unit {0}
Possible C.UninitLet = Unit {0}
Possible C.UnknownFunction = Unit {0}
Possible C.MustUse = Unit {0}
Possible C.NotConst = Unit {0}
Possible C.ParamCount = Unit {0}
Possible C.ParamType = Unit {0}
Possible C.ReturnType = Unit {0}
Possible C.Void = Unit {0}
Possible C.DiscardInConst = Unit {0}
Possible C.ConstAssertFailure = Unit {0}
Possible C.IncrType = Unit {0}
Possible C.IncrOverflow = Unit {0}
Possible C.DecrType = Unit {0}
Possible C.DecrOverflow = Unit {0}
Possible C.OutOfFuel = Unit {0}
Possible C.TooDeep = Unit {0}
Possible C.NotConstructible = Unit {0}
Possible (C.Name f) = Unit {0}
Possible (C.Host f) = Unit {0}

-- The loops, which alone go round
pub data IsLoop : Option Node → Type 0 where
  is_loop : {b : ℕ} {c : Option ℕ} → IsLoop (Some (N.Loop b c))
  is_for : {i c u : Option ℕ} {b : ℕ} → IsLoop (Some (N.For i c u b))
  is_while : {c b : ℕ} → IsLoop (Some (N.While c b))

-- A continuing goes on, or breaks by its break-if
abbrev pub Quits : {V : Type 0} → Control → Flow V → Type 0
Quits t F.Next = Unit {0}
Quits t F.Break = exits t ≡ true
Quits t F.Continue = ⊥
Quits t (F.Return v) = ⊥

module _ (ws : List ℕ) where
  -- an entry of a tag that a field of the kind takes
  abbrev pub Takes : Child → ℕ → Type 0
  Takes kind e = (e < entries ws) × (takes kind (get_or ws (place ws e) 0) ≡ true)

  abbrev pub Allowed : Refusal → Type 0
  Allowed (because c) = Fit ws → Possible c
  Allowed astray = ⊥

  module _ {V : Type 0} where
    -- a return stems from a return below, with a value as it has one
    abbrev pub Returns : ℕ → Flow V → Type 0
    Returns e F.Next = Unit {0}
    Returns e F.Break = Unit {0}
    Returns e F.Continue = Unit {0}
    Returns e (F.Return v) = (k : ℕ) × Below ws e k × (returning (is_some v) (control ws k) ≡ true)

    abbrev pub Lands : ℕ → Flow V → Type 0
    Lands e f = (has (behavior ws e) f ≡ true) × Returns e f

  module _ (V : Type 0) where
    abbrev pub aim : {A : Type 0} → (A → Type 0) → Type 0 → Goal A Refusal (Store V)
    aim Q G = record { Ends = λ o s. Q o; Fails = λ r s. Allowed r; Goes = λ s. G }

    abbrev pub EndsOf : (c : Begun) → OutOf V c → Type 0
    EndsOf (statement e) f = Lands e f
    EndsOf (block scope f e) flow = Lands e flow
    EndsOf (continuing e) f = Quits (control ws e) f
    EndsOf (expression e) o = Unit {0}
    EndsOf (callee e) o = Unit {0}

    abbrev pub GoesOf : Begun → Type 0
    GoesOf (statement e) = IsLoop (node_at ws e)
    GoesOf (block scope f e) = ⊥
    GoesOf (continuing e) = ⊥
    GoesOf (expression e) = ⊥
    GoesOf (callee e) = ⊥

    abbrev pub Fitting : Begun → Type 0
    Fitting (statement e) = Takes Kind.Statement e
    Fitting (block scope f e) = Takes Kind.Body e
    Fitting (continuing e) = Takes Kind.Continuing e
    Fitting (expression e) = Takes Kind.Expression e
    Fitting (callee e) = Takes Kind.Call e

    abbrev pub claim : Claim (shape V)
    claim = record { Pre = λ c s. Fitting c; goal = λ c s. aim (EndsOf c) (GoesOf c) }

  module _ {V : Type 0} (w : WellFormed ws) (e : ℕ) (t : Control) (is : control ws e ≡ t) where
    -- an entry has the flows that its control and the sets of its children give
    pub settles : e < entries ws → (f : Flow V) → has (control_behavior ws (behavior ws) t) f ≡ true → has (behavior ws e) f ≡ true
    settles lt f h = ap (λ b. has b f) (opened-behavior ws w e lt ∙ ap (control_behavior ws (behavior ws)) is) ∙ h

    -- a return below a child is below its parent
    pub rises : (i c : ℕ) → slice_get (children_of ws t) i ≡ Some c → (f : Flow V) → Returns c f → Returns e f
    rises i c at F.Next r = tt
    rises i c at F.Break r = tt
    rises i c at F.Continue r = tt
    rises i c at (F.Return v) r =
        (r.0, through (i, subst (λ (x : Control). slice_get (children_of ws x) i ≡ Some c) (sym is) at) r.1, r.2)
