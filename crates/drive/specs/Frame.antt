-- Claims about the state at every time of a run, also at a fault: a relation to the state at the beginning.
use Rattle.drive.specs.Act.{Act, Lang, Shape, again, begin, end, stop}
use Rattle.drive.specs.Drive.{opened}
use Rattle.drive.specs.Hoare.{Claim, Goal}

-- What something that was begun has to come to, besides the relation.
pub record Aim (A S : Type 0) : Type 1 where
  pub Ends : A → S → Type 0
  pub Goes : S → Type 0

pub record Frame (σ : Shape) : Type 1 where
  -- of the state where something is begun, and the state at any time from then on
  pub Since : σ.State → σ.State → Type 0
  -- the causes that a fault may have
  pub Fails : σ.Cause → Type 0
  pub Pre : σ.Call → σ.State → Type 0
  pub aim : (c : σ.Call) → σ.State → Aim (σ.Out c) σ.State

module _ {σ : Shape} (F : Frame σ) where
  abbrev pub within : {A : Type 0} → σ.State → Aim A σ.State → Goal A σ.Cause σ.State
  within s₀ g =
      record {
        Ends = λ o s. F.Since s₀ s × g.Ends o s;
        Fails = λ n s. F.Since s₀ s × F.Fails n;
        Goes = λ s. F.Since s₀ s × g.Goes s;
      }

  abbrev pub claim_of : Claim σ
  claim_of = record { Pre = F.Pre; goal = λ c s₀. within s₀ (F.aim c s₀) }

  -- An act of something begun in s₀. A child's faults need no proof: it keeps the relation to its own beginning.
  module _ {A : Type 0} (s₀ : σ.State) (g : Aim A σ.State) where
    abbrev pub Holds : Act σ A → Type 0
    Holds (end o s) = F.Since s₀ s × g.Ends o s
    Holds (stop n b s) = F.Since s₀ s × F.Fails n
    Holds (begin c s k) =
        F.Since s₀ s × F.Pre c s
        × ((o : σ.Out c) (s' : σ.State) → F.Since s₀ s' → F.Since s s' → (F.aim c s).Ends o s' → Holds (k o s'))
    Holds (again s) = F.Since s₀ s × g.Goes s

-- A language holds a frame.
pub record Framed {σ : Shape} (L : Lang σ) (F : Frame σ) : Type 0 where
  pub same : (s : σ.State) → F.Since s s
  pub then : (s t u : σ.State) → F.Since s t → F.Since t u → F.Since s u
  pub spent : F.Fails L.spent
  pub full : F.Fails L.full
  pub acts : (c : σ.Call) (s : σ.State) → F.Pre c s → Holds F s (F.aim c s) (L.act c s)
  pub rounds : (c : σ.Call) (s₀ s : σ.State) → F.Pre c s₀ → F.Since s₀ s → (F.aim c s₀).Goes s → Holds F s₀ (F.aim c s₀) (opened (L.round c s))
