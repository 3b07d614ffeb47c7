-- Every run of a language meets each claim that the language keeps.
use Rattle.std.proofs.Common.{◌≡◌, ℕ, zero, suc, ◌<◌, ◌≤◌, Option, refl, subst, arith}
use Rattle.drive.specs.Act.{Act, Lang, Shape, again, begin, end, stop}
use Rattle.drive.specs.Drive.{Res, Rounds, Sub, and_then, answer, blame, charge, done, enter, fault, go_on, opened, outside, perform, rounds, run, run_outside}
use Rattle.drive.specs.Hoare.{Came, Claim, Goal, Keeps, Meets, Sound}
use Rattle.drive.proofs.Law.{Down, Falls, enter_falls}

module _ {A B E S : Type 0} (g : Goal B E S) where
  -- a child that ends is gone on from, and the fault of one is a fault here
  and_then_meets : (g' : Goal A E S) (r : Res A E S) (k : A → S → ℕ → Res B E S) → Meets g' r
      → ((n : E) (s : S) → g'.Fails n s → g.Fails n s)
      → ((o : A) (s : S) (l : ℕ) → r ≡ done o s l → g'.Ends o s → Meets g (k o s l))
      → Meets g (and_then r k)
  unfolding and_then
  and_then_meets g' (done o s l) k h up on = on o s l refl h
  and_then_meets g' (fault f s l) k h up on = up f.cause s h

blame_meets : {A E S : Type 0} (g : Goal A E S) (b : Option ℕ) (r : Res A E S) → Meets g r → Meets g (blame b r)
unfolding blame charge
blame_meets g b (done o s l) h = h
blame_meets g b (fault f s l) h = h

module _ {σ : Shape} (P : Claim σ) where
  abbrev Good : Sub σ → Type 0
  Good sub = (c : σ.Call) (s : σ.State) (l : ℕ) → P.Pre c s → Meets (P.goal c s) (sub c s l)

  module _ (sub : Sub σ) (down : Down sub) (good : Good sub) {A : Type 0} (g : Goal A σ.Cause σ.State) where
    perform_meets : (rnd : Rounds σ A) (e m : ℕ) → ((s : σ.State) (l : ℕ) → l ≤ m → g.Goes s → Meets g (rnd s l))
        → (a : Act σ A) (l : ℕ) → l ≤ m → Keeps P g a → Meets g (perform sub rnd e a l)
    unfolding perform
    perform_meets rnd e m go (end o s) l h k = k
    perform_meets rnd e m go (stop n b s) l h k = k
    perform_meets rnd e m go (begin c s f) l h k =
        and_then_meets g (P.goal c s) (sub c s l) _ (good c s l k.0) k.1 (λ o s' l' q p.
        let w : l' < l = subst (λ x. Falls l x) q (down c s l) in
        perform_meets rnd e m go (f o s') l' (omega arith) (k.2 o s' p))
    perform_meets rnd e m go (again s) l h k = go s l h k

  module _ (L : Lang σ) (sub : Sub σ) (down : Down sub) (good : Good sub) (c : σ.Call) (g : Goal (σ.Out c) σ.Cause σ.State) where
    rounds_meets : ((s : σ.State) → g.Goes s → Keeps P g (opened (L.round c s)))
        → (b : ℕ) (s : σ.State) (l : ℕ) → l < b → g.Goes s → Meets g (rounds L sub c b s l)
    unfolding rounds opened
    rounds_meets next zero s l h i = absurd (omega arith)
    rounds_meets next (suc b) s l h i =
        let r = L.round c s in
        let k = next s i in
        and_then_meets g (P.goal r.child r.state) (sub r.child r.state l) _ (good r.child r.state l k.0) k.1 (λ o s' l' q p.
        let w : l' < l = subst (λ x. Falls l x) q (down r.child r.state l) in
        perform_meets sub down good g (rounds L sub c b) (L.entry c) l' (λ s'' l'' m. rounds_meets next b s'' l'' (omega arith)) (r.next o s') l' (omega arith) (k.2 o s' p))

    go_on_meets : ((s : σ.State) → g.Goes s → Keeps P g (opened (L.round c s))) → (a : Act σ (σ.Out c)) (l : ℕ) → Keeps P g a → Meets g (go_on L sub c a l)
    unfolding go_on
    go_on_meets next a l k =
        perform_meets sub down good g (rounds L sub c (suc l)) (L.entry c) l (λ s l' m. rounds_meets next (suc l) s l' (omega arith)) a l (omega arith) k

module _ {σ : Shape} (L : Lang σ) (P : Claim σ) (sound : Sound L P) where
  pub enter_meets : (d p : ℕ) (c : σ.Call) (s : σ.State) (l : ℕ) → P.Pre c s → Meets (P.goal c s) (enter L d p c s l)
  unfolding enter
  enter_meets zero p c s l pre = sound.full c s pre
  enter_meets (suc d) p c s zero pre = sound.spent c s pre
  enter_meets (suc d) p c s (suc l) pre =
      blame_meets (P.goal c s) (L.blames c) _
      (go_on_meets P L (enter L d (L.entry c)) (enter_falls L d (L.entry c)) (enter_meets d (L.entry c)) c (P.goal c s) (λ s' i. sound.rounds c s s' pre i) (L.act c s) l (sound.acts c s pre))

  -- what a run answers
  answer_meets : {A : Type 0} (goal : Goal A σ.Cause σ.State) (g : ℕ) (r : Res A σ.Cause σ.State) → Meets goal r → Came goal (answer g r).outcome (answer g r).state
  unfolding answer
  answer_meets goal g (done o s l) h = h
  answer_meets goal g (fault f s l) h = h

  pub run_meets : (depth : ℕ) (c : σ.Call) (s : σ.State) (g : ℕ) → P.Pre c s → Came (P.goal c s) (run L depth c s g).outcome (run L depth c s g).state
  unfolding run
  run_meets depth c s g pre = answer_meets (P.goal c s) g (enter L depth 0 c s g) (enter_meets depth 0 c s g pre)

  -- an act that is no entry's, and has no rounds
  pub outside_meets : {A : Type 0} (goal : Goal A σ.Cause σ.State) → ((s : σ.State) → goal.Goes s → ⊥)
      → (depth : ℕ) (a : Act σ A) (g : ℕ) → Keeps P goal a → Came goal (run_outside L depth a g).outcome (run_outside L depth a g).state
  unfolding run_outside outside
  outside_meets goal none depth a g k =
      answer_meets goal g _ (perform_meets P (enter L depth 0) (enter_falls L depth 0) (enter_meets depth 0) goal _ 0 g (λ s l m i. absurd (none s i)) a g (omega arith) k)
