-- What it is to run an entry: the driver, which counts depth and grant, hands results up and stops at faults.
use Rattle.std.specs.Prelude.{◌≡◌, ℕ, zero, suc, ◌-◌, ◌<◌, ◌≤◌, None, Ok, Err, Option, Result}
use Rattle.std.specs.Option.{option_or}
use Rattle.drive.specs.Act.{Act, Lang, Round, Shape, again, begin, end, stop}

-- A fault: its cause, the entry begun last and not ended (0 if none), and the function to blame.
pub record Fault (E : Type 0) : Type 0 where
  pub cause : E
  pub entry : ℕ
  pub blamed : Option ℕ

-- How a run came out, the state then, and the steps that are left of its grant.
pub data Res (A E S : Type 0) : Type 0 where
  done : A → S → ℕ → Res A E S
  fault : Fault E → S → ℕ → Res A E S

abbrev pub faulty : {A E S : Type 0} → E → ℕ → Option ℕ → S → ℕ → Res A E S
faulty cause entry blamed s l = fault (record { cause = cause; entry = entry; blamed = blamed }) s l

-- A fault is blamed on a function unless one is blamed already.
unfoldable pub charge : {E : Type 0} → Option ℕ → Fault E → Fault E
charge g f = record { cause = f.cause; entry = f.entry; blamed = option_or f.blamed g }

unfoldable pub blame : {A E S : Type 0} → Option ℕ → Res A E S → Res A E S
blame g (done o s l) = done o s l
blame g (fault f s l) = fault (charge g f) s l

unfoldable pub and_then : {A B E S : Type 0} → Res A E S → (A → S → ℕ → Res B E S) → Res B E S
and_then (done o s l) k = k o s l
and_then (fault f s l) k = fault f s l

unfoldable pub opened : {σ : Shape} {A : Type 0} → Round σ A → Act σ A
opened r = begin r.child r.state r.next

-- What can be begun, run; and another round.
abbrev pub Sub : Shape → Type 0
Sub σ = (c : σ.Call) → σ.State → ℕ → Res (σ.Out c) σ.Cause σ.State

abbrev pub Rounds : Shape → Type 0 → Type 0
Rounds σ A = σ.State → ℕ → Res A σ.Cause σ.State

module _ {σ : Shape} where
  -- An act of the entry e, given how a child is run and how another round is.
  unfoldable pub perform : {A : Type 0} → Sub σ → Rounds σ A → ℕ → Act σ A → ℕ → Res A σ.Cause σ.State
  perform sub again' e (end o s) l = done o s l
  perform sub again' e (stop n g s) l = faulty n e g s l
  perform sub again' e (begin c s k) l = and_then (sub c s l) (λ o s' l'. perform sub again' e (k o s') l')
  perform sub again' e (again s) l = again' s l

module _ {σ : Shape} (L : Lang σ) where
  -- The rounds of a loop, b of them at most. Each begins a child and so spends a step: with more rounds than steps b never tells.
  unfoldable pub rounds : Sub σ → (c : σ.Call) → ℕ → Rounds σ (σ.Out c)
  rounds sub c zero s l = faulty L.spent (L.entry c) None s l
  rounds sub c (suc b) s l =
      and_then (sub (L.round c s).child (L.round c s).state l)
      (λ o s' l'. perform sub (rounds sub c b) (L.entry c) ((L.round c s).next o s') l')

  -- An act of c.
  unfoldable pub go_on : Sub σ → (c : σ.Call) → Act σ (σ.Out c) → ℕ → Res (σ.Out c) σ.Cause σ.State
  go_on sub c a l = perform sub (rounds sub c (suc l)) (L.entry c) a l

  -- c must begin, under the entry p, where d more entries may be pending: it is refused if none may, and then if the grant
  -- is spent; else it takes a step and acts. A fault from here on is blamed on the function that c is the body of.
  unfoldable pub enter : ℕ → ℕ → Sub σ
  enter zero p c s l = faulty L.full p (L.blames c) s l
  enter (suc d) p c s zero = faulty L.spent p (L.blames c) s zero
  enter (suc d) p c s (suc l) = blame (L.blames c) (go_on (enter d (L.entry c)) c (L.act c s) l)

  -- An act that is no entry's: it takes no step and is not pending itself. It has no rounds.
  unfoldable pub outside : {A : Type 0} → ℕ → Act σ A → ℕ → Res A σ.Cause σ.State
  outside depth a l = perform (enter depth 0) (λ s l'. faulty L.spent 0 None s l') 0 a l

-- What a run answers, with the state then and the steps that it took.
pub record Answer (A E S : Type 0) : Type 0 where
  pub outcome : Result A (Fault E)
  pub state : S
  pub steps : ℕ

unfoldable pub answer : {A E S : Type 0} → ℕ → Res A E S → Answer A E S
answer g (done o s l) = record { outcome = Ok o; state = s; steps = g - l }
answer g (fault f s l) = record { outcome = Err f; state = s; steps = g - l }

module _ {σ : Shape} (L : Lang σ) (depth : ℕ) where
  -- A run of c: at most so many entries are pending, and g steps are granted.
  unfoldable pub run : (c : σ.Call) → σ.State → ℕ → Answer (σ.Out c) σ.Cause σ.State
  run c s g = answer g (enter L depth 0 c s g)

  unfoldable pub run_outside : {A : Type 0} → Act σ A → ℕ → Answer A σ.Cause σ.State
  run_outside a g = answer g (outside L depth a g)

-- A fault of the cause.
abbrev pub FailsBy : {A E : Type 0} → E → Result A (Fault E) → Type 0
FailsBy cause (Ok o) = ⊥
FailsBy cause (Err f) = f.cause ≡ cause

-- The steps of a run are the smallest grant that gives its answer: every smaller one is spent, and every larger one gives the
-- same outcome, state and steps.
pub record SmallestGrant {A E S : Type 0} (spent : E) (run : ℕ → Answer A E S) (g : ℕ) : Type 0 where
  pub within : (run g).steps ≤ g
  pub enough : (h : ℕ) → (run g).steps ≤ h → run h ≡ run g
  pub short : (h : ℕ) → h < (run g).steps → FailsBy spent (run h).outcome
