-- A language that holds a frame keeps its claim.
use Rattle.drive.specs.Act.{Act, Lang, Shape, again, begin, end, stop}
use Rattle.drive.specs.Drive.{opened}
use Rattle.drive.specs.Frame.{Aim, Frame, Framed, Holds, claim_of, within}
use Rattle.drive.specs.Hoare.{Keeps, Sound}

module _ {σ : Shape} (L : Lang σ) (F : Frame σ) (framed : Framed L F) where
  holds_keeps : {A : Type 0} (s₀ : σ.State) (g : Aim A σ.State) (a : Act σ A) → Holds F s₀ g a → Keeps (claim_of F) (within F s₀ g) a
  holds_keeps s₀ g (end o s) h = h
  holds_keeps s₀ g (stop n b s) h = h
  holds_keeps s₀ g (begin c s k) h =
      (h.1, (λ n t b. (framed.then s₀ s t h.0 b.0, b.1)), λ o t p. holds_keeps s₀ g (k o t) (h.2 o t (framed.then s₀ s t h.0 p.0) p.0 p.1))
  holds_keeps s₀ g (again s) h = h

  pub frame_sound : Sound L (claim_of F)
  frame_sound =
      record {
        spent = λ c s p. (framed.same s, framed.spent);
        full = λ c s p. (framed.same s, framed.full);
        acts = λ c s p. holds_keeps s (F.aim c s) (L.act c s) (framed.acts c s p);
        rounds = λ c s₀ s p i. holds_keeps s₀ (F.aim c s₀) (opened (L.round c s)) (framed.rounds c s₀ s p i.0 i.1);
      }
