-- Which entry a fault names, and which function it blames.
use Rattle.std.specs.Prelude.{ℕ, Some, None, Ok, Err, Option, Result}
use Rattle.drive.specs.Act.{Act, Lang, Shape, again, begin, end, stop}
use Rattle.drive.specs.Drive.{Fault, Res, done, fault, opened}
use Rattle.drive.specs.Hoare.{Claim}

abbrev pub IfAny : (ℕ → Type 0) → Option ℕ → Type 0
IfAny Q None = Unit {0}
IfAny Q (Some f) = Q f

-- A fault names an entry of P, and blames no function outside Q.
abbrev pub Lies : {E : Type 0} → (ℕ → Type 0) → (ℕ → Type 0) → Fault E → Type 0
Lies P Q f = P f.entry × IfAny Q f.blamed

abbrev pub Stems : {A E S : Type 0} → (ℕ → Type 0) → (ℕ → Type 0) → Res A E S → Type 0
Stems P Q (done o s l) = Unit {0}
Stems P Q (fault f s l) = Lies P Q f

abbrev pub Stemmed : {A E : Type 0} → (ℕ → Type 0) → (ℕ → Type 0) → Result A (Fault E) → Type 0
Stemmed P Q (Ok o) = Unit {0}
Stemmed P Q (Err f) = Lies P Q f

module _ {σ : Shape} (A : Claim σ) (Q : ℕ → Type 0) where
  -- An act that blames no function outside Q where it stops.
  abbrev pub Owns : {B : Type 0} → Act σ B → Type 0
  Owns (end o s) = Unit {0}
  Owns (stop n b s) = IfAny Q b
  Owns (begin c s k) = (o : σ.Out c) (s' : σ.State) → (A.goal c s).Ends o s' → Owns (k o s')
  Owns (again s) = Unit {0}

-- What is begun under the claim is in P, and the functions that it is the body of are in Q.
pub record Knows {σ : Shape} (L : Lang σ) (A : Claim σ) (P Q : ℕ → Type 0) : Type 0 where
  pub entries : (c : σ.Call) (s : σ.State) → A.Pre c s → P (L.entry c)
  pub functions : (c : σ.Call) (s : σ.State) → A.Pre c s → IfAny Q (L.blames c)
  pub acts : (c : σ.Call) (s : σ.State) → A.Pre c s → Owns A Q (L.act c s)
  pub rounds : (c : σ.Call) (s₀ s : σ.State) → A.Pre c s₀ → (A.goal c s₀).Goes s → Owns A Q (opened (L.round c s))
