-- A fault names an entry that was begun, and blames a function whose body was.
use Rattle.std.proofs.Common.{ℕ, zero, suc, Some, None, Option}
use Rattle.std.specs.Option.{option_or}
use Rattle.drive.specs.Act.{Act, Lang, Shape, again, begin, end, stop}
use Rattle.drive.specs.Blame.{IfAny, Knows, Owns, Stemmed, Stems}
use Rattle.drive.specs.Drive.{Res, Rounds, Sub, and_then, answer, blame, charge, done, enter, fault, go_on, opened, perform, rounds, run}
use Rattle.drive.specs.Hoare.{Claim, Goal, Keeps, Meets, Sound}
use Rattle.drive.proofs.Hoare.{enter_meets}

either : (Q : ℕ → Type 0) (a b : Option ℕ) → IfAny Q a → IfAny Q b → IfAny Q (option_or a b)
either Q None b h k = k
either Q (Some f) b h k = h

module _ (P Q : ℕ → Type 0) where
  and_then_stems : {A B E S : Type 0} (g : Goal A E S) (r : Res A E S) (k : A → S → ℕ → Res B E S) → Meets g r → Stems P Q r
      → ((o : A) (s : S) (l : ℕ) → g.Ends o s → Stems P Q (k o s l)) → Stems P Q (and_then r k)
  unfolding and_then
  and_then_stems g (done o s l) k m h on = on o s l m
  and_then_stems g (fault f s l) k m h on = h

  blame_stems : {A E S : Type 0} (b : Option ℕ) (r : Res A E S) → IfAny Q b → Stems P Q r → Stems P Q (blame b r)
  unfolding blame charge
  blame_stems b (done o s l) q h = tt
  blame_stems b (fault f s l) q h = (h.0, either Q f.blamed b h.1 q)

  answer_stems : {A E S : Type 0} (g : ℕ) (r : Res A E S) → Stems P Q r → Stemmed P Q (answer g r).outcome
  unfolding answer
  answer_stems g (done o s l) h = tt
  answer_stems g (fault f s l) h = h

module _ {σ : Shape} (L : Lang σ) (A : Claim σ) (sound : Sound L A) (P Q : ℕ → Type 0) (knows : Knows L A P Q) where
  module _ (sub : Sub σ) (good : (c : σ.Call) (s : σ.State) (l : ℕ) → A.Pre c s → Meets (A.goal c s) (sub c s l)) (stem : (c : σ.Call) (s : σ.State) (l : ℕ) → A.Pre c s → Stems P Q (sub c s l)) where
    perform_stems : {B : Type 0} (g : Goal B σ.Cause σ.State) (rnd : Rounds σ B) (e : ℕ) → P e → ((s : σ.State) (l : ℕ) → g.Goes s → Stems P Q (rnd s l))
        → (a : Act σ B) (l : ℕ) → Keeps A g a → Owns A Q a → Stems P Q (perform sub rnd e a l)
    unfolding perform
    perform_stems g rnd e p go (end o s) l k w = tt
    perform_stems g rnd e p go (stop n b s) l k w = (p, w)
    perform_stems g rnd e p go (begin c s f) l k w =
        and_then_stems P Q (A.goal c s) (sub c s l) _ (good c s l k.0) (stem c s l k.0) (λ o s' l' q. perform_stems g rnd e p go (f o s') l' (k.2 o s' q) (w o s' q))
    perform_stems g rnd e p go (again s) l k w = go s l k

    rounds_stems : (c : σ.Call) (s₀ : σ.State) → A.Pre c s₀ → (b : ℕ) (s : σ.State) (l : ℕ) → (A.goal c s₀).Goes s → Stems P Q (rounds L sub c b s l)
    unfolding rounds perform opened
    rounds_stems c s₀ pre zero s l i = (knows.entries c s₀ pre, tt)
    rounds_stems c s₀ pre (suc b) s l i =
        perform_stems (A.goal c s₀) (rounds L sub c b) (L.entry c) (knows.entries c s₀ pre) (rounds_stems c s₀ pre b) (opened (L.round c s)) l (sound.rounds c s₀ s pre i) (knows.rounds c s₀ s pre i)

  pub enter_stems : (d p : ℕ) → P p → (c : σ.Call) (s : σ.State) (l : ℕ) → A.Pre c s → Stems P Q (enter L d p c s l)
  unfolding enter go_on
  enter_stems zero p h c s l pre = (h, knows.functions c s pre)
  enter_stems (suc d) p h c s zero pre = (h, knows.functions c s pre)
  enter_stems (suc d) p h c s (suc l) pre =
      let e = knows.entries c s pre in
      let sub = enter L d (L.entry c) in
      let good = enter_meets L A sound d (L.entry c) in
      let stem = enter_stems d (L.entry c) e in
      blame_stems P Q (L.blames c) _ (knows.functions c s pre)
      (perform_stems sub good stem (A.goal c s) (rounds L sub c (suc l)) (L.entry c) e (rounds_stems sub good stem c s pre (suc l)) (L.act c s) l (sound.acts c s pre) (knows.acts c s pre))

  -- A run begins under no entry, 0.
  pub run_stems : P 0 → (depth : ℕ) (c : σ.Call) (s : σ.State) (g : ℕ) → A.Pre c s → Stemmed P Q (run L depth c s g).outcome
  unfolding run
  run_stems h depth c s g pre = answer_stems P Q g (enter L depth 0 c s g) (enter_stems depth 0 h c s g pre)
