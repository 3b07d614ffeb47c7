-- Claims about every run of a language, and what each act of it has to keep for them to hold.
use Rattle.std.specs.Prelude.{Ok, Err, Result}
use Rattle.drive.specs.Act.{Act, Lang, Shape, again, begin, end, stop}
use Rattle.drive.specs.Drive.{Fault, Res, done, fault, opened}

-- What something that was begun has to come to.
pub record Goal (A E S : Type 0) : Type 1 where
  -- once it has ended: of what it ended with, and of the state then
  pub Ends : A → S → Type 0
  -- at a fault in it or in what it began: of the cause, and of the state then
  pub Fails : E → S → Type 0
  -- before another round of it: of the state then
  pub Goes : S → Type 0

-- What each thing may count on where it is begun, and what it has to come to then.
pub record Claim (σ : Shape) : Type 1 where
  pub Pre : σ.Call → σ.State → Type 0
  pub goal : (c : σ.Call) → σ.State → Goal (σ.Out c) σ.Cause σ.State

module _ {σ : Shape} (P : Claim σ) {A : Type 0} (g : Goal A σ.Cause σ.State) where
  -- An act that comes to g if each child that it begins comes to its own goal.
  abbrev pub Keeps : Act σ A → Type 0
  Keeps (end o s) = g.Ends o s
  Keeps (stop n b s) = g.Fails n s
  Keeps (begin c s k) =
      P.Pre c s
      × ((n : σ.Cause) (s' : σ.State) → (P.goal c s).Fails n s' → g.Fails n s')
      × ((o : σ.Out c) (s' : σ.State) → (P.goal c s).Ends o s' → Keeps (k o s'))
  Keeps (again s) = g.Goes s

module _ {A E S : Type 0} (g : Goal A E S) where
  abbrev pub Meets : Res A E S → Type 0
  Meets (done o s l) = g.Ends o s
  Meets (fault f s l) = g.Fails f.cause s

  abbrev pub Came : Result A (Fault E) → S → Type 0
  Came (Ok o) s = g.Ends o s
  Came (Err f) s = g.Fails f.cause s

-- A language keeps a claim: its acts and rounds do, and what can't begin fails as it may.
pub record Sound {σ : Shape} (L : Lang σ) (P : Claim σ) : Type 0 where
  pub spent : (c : σ.Call) (s : σ.State) → P.Pre c s → (P.goal c s).Fails L.spent s
  pub full : (c : σ.Call) (s : σ.State) → P.Pre c s → (P.goal c s).Fails L.full s
  pub acts : (c : σ.Call) (s : σ.State) → P.Pre c s → Keeps P (P.goal c s) (L.act c s)
  pub rounds : (c : σ.Call) (s₀ s : σ.State) → P.Pre c s₀ → (P.goal c s₀).Goes s → Keeps P (P.goal c s₀) (opened (L.round c s))
