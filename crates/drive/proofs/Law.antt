-- The smallest-grant law of every language, and how a run goes on, act by act.
use Rattle.std.proofs.Common.{◌≡◌, ℕ, zero, suc, ◌+◌, ◌-◌, ◌<◌, ◌≤◌, ◌⊎◌, Ok, Err, Option, sym, refl, ap, ◌∙◌, subst, inl, inr, arith}
use native.Mathlib.Decide.{dec_le}
use Rattle.drive.specs.Act.{Act, Lang, Shape, again, begin, end, stop}
use Rattle.drive.specs.Drive.{FailsBy, Res, Rounds, SmallestGrant, Sub, and_then, answer, blame, charge, done, enter, fault, faulty, go_on, opened, outside, perform, rounds, run, run_outside}

abbrev pub left_of : {A E S : Type 0} → Res A E S → ℕ
left_of (done o s l) = l
left_of (fault f s l) = l

-- A run that failed by the cause.
abbrev pub Failed : {A E S : Type 0} → E → Res A E S → Type 0
Failed n (done o s l) = ⊥
Failed n (fault f s l) = f.cause ≡ n

abbrev shift : {A E S : Type 0} → ℕ → Res A E S → Res A E S
shift k (done o s l) = done o s (l + k)
shift k (fault f s l) = fault f s (l + k)

-- Less is left than l, or, after a fault, no more.
abbrev pub Falls : {A E S : Type 0} → ℕ → Res A E S → Type 0
Falls l (done o s l') = l' < l
Falls l (fault f s l') = l' ≤ l

abbrev LeR : {A E S : Type 0} → (S → ℕ → Res A E S) → Type 0
LeR {S = S} rnd = (s : S) (l : ℕ) → left_of (rnd s l) ≤ l

-- A run, and the same run with k steps more, where n is the cause of a spent grant.
data Rel {A E S : Type 0} (n : E) (k : ℕ) (r r' : Res A E S) : Type 0 where
  same : r' ≡ shift k r → Rel n k r r'
  out : Failed n r → Failed n r' ⊎ (left_of r' < k) → Rel n k r r'

module _ {A E S : Type 0} where
  falls_le : (l : ℕ) (r : Res A E S) → Falls l r → left_of r ≤ l
  falls_le l (done o s l') h = omega arith
  falls_le l (fault f s l') h = h

  le_falls : (l : ℕ) (r : Res A E S) → left_of r ≤ l → Falls (suc l) r
  le_falls l (done o s l') h = omega arith
  le_falls l (fault f s l') h = omega arith

  -- To blame a function changes neither the cause nor what is left.
  blame_left : (g : Option ℕ) (r : Res A E S) → left_of (blame g r) ≡ left_of r
  unfolding blame
  blame_left g (done o s l) = refl
  blame_left g (fault f s l) = refl

  blame_failed : (g : Option ℕ) (n : E) (r : Res A E S) → Failed n r → Failed n (blame g r)
  unfolding blame charge
  blame_failed g n (done o s l) h = h
  blame_failed g n (fault f s l) h = h

  blame_shift : (g : Option ℕ) (k : ℕ) (r : Res A E S) → blame g (shift k r) ≡ shift k (blame g r)
  unfolding blame
  blame_shift g k (done o s l) = refl
  blame_shift g k (fault f s l) = refl

  blame_rel : (g : Option ℕ) (n : E) (k : ℕ) (r r' : Res A E S) → Rel n k r r' → Rel n k (blame g r) (blame g r')
  blame_rel g n k r r' (same e) = same (ap (blame g) e ∙ blame_shift g k r)
  blame_rel g n k r r' (out e (inl z)) = out (blame_failed g n r e) (inl (blame_failed g n r' z))
  blame_rel g n k r r' (out e (inr z)) = out (blame_failed g n r e) (inr (let w = blame_left g r' in omega arith))

module _ {A B E S : Type 0} where
  and_then_left : (r : Res A E S) (f : A → S → ℕ → Res B E S) (l : ℕ) → left_of r ≤ l → ((o : A) (s : S) (l' : ℕ) → left_of (f o s l') ≤ l') → left_of (and_then r f) ≤ l
  unfolding and_then
  and_then_left (done o s l') f l h hf = let q = hf o s l' in omega arith
  and_then_left (fault n s l') f l h hf = h

  pub and_then_cong : (r : Res A E S) (f f' : A → S → ℕ → Res B E S) → ((o : A) (s : S) (l : ℕ) → r ≡ done o s l → f o s l ≡ f' o s l) → and_then r f ≡ and_then r f'
  unfolding and_then
  and_then_cong (done o s l) f f' h = h o s l refl
  and_then_cong (fault n s l) f f' h = refl

  and_then_rel : (n : E) (k : ℕ) (r r' : Res A E S) (f f' : A → S → ℕ → Res B E S) → Rel n k r r'
      → ((o : A) (s : S) (l : ℕ) → r ≡ done o s l → Rel n k (f o s l) (f' o s (l + k)))
      → ((o : A) (s : S) (l : ℕ) → left_of (f' o s l) ≤ l)
      → Rel n k (and_then r f) (and_then r' f')
  unfolding and_then
  and_then_rel n k (done o s l) r' f f' (same e) hf hl = subst (λ x. Rel n k (f o s l) (and_then x f')) (sym e) (hf o s l refl)
  and_then_rel n k (done o s l) r' f f' (out e late) hf hl = absurd e
  and_then_rel n k (fault p s l) r' f f' (same q) hf hl = same (ap (λ x. and_then x f') q)
  and_then_rel n k (fault p s l) (done o' s' l') f f' (out q (inl z)) hf hl = absurd z
  and_then_rel n k (fault p s l) (done o' s' l') f f' (out q (inr z)) hf hl = let w = hl o' s' l' in out q (inr (omega arith))
  and_then_rel n k (fault p s l) (fault p' s' l') f f' (out q late) hf hl = out q late

module _ {σ : Shape} where
  -- A child spends a step, or at least gives none back.
  abbrev pub Down : Sub σ → Type 0
  Down sub = (c : σ.Call) (s : σ.State) (l : ℕ) → Falls l (sub c s l)

  abbrev Le : Sub σ → Type 0
  Le sub = (c : σ.Call) (s : σ.State) (l : ℕ) → left_of (sub c s l) ≤ l

  down_le : (sub : Sub σ) → Down sub → Le sub
  down_le sub h c s l = falls_le l (sub c s l) (h c s l)

  module _ {A : Type 0} where
    perform_left : (sub : Sub σ) (rnd : Rounds σ A) (e : ℕ) → Le sub → LeR rnd → (a : Act σ A) (l : ℕ) → left_of (perform sub rnd e a l) ≤ l
    unfolding perform
    perform_left sub rnd e hs hr (end o s) l = omega arith
    perform_left sub rnd e hs hr (stop n g s) l = omega arith
    perform_left sub rnd e hs hr (begin c s k) l =
        and_then_left (sub c s l) _ l (hs c s l) (λ o s' l'. perform_left sub rnd e hs hr (k o s') l')
    perform_left sub rnd e hs hr (again s) l = hr s l

    perform_cong : (sub : Sub σ) (rnd rnd' : Rounds σ A) (e m : ℕ) → Le sub → ((s : σ.State) (l : ℕ) → l ≤ m → rnd s l ≡ rnd' s l)
        → (a : Act σ A) (l : ℕ) → l ≤ m → perform sub rnd e a l ≡ perform sub rnd' e a l
    unfolding perform
    perform_cong sub rnd rnd' e m hs hr (end o s) l h = refl
    perform_cong sub rnd rnd' e m hs hr (stop n g s) l h = refl
    perform_cong sub rnd rnd' e m hs hr (begin c s k) l h =
        and_then_cong (sub c s l) _ _ (λ o s' l' q. let w : l' ≤ l = subst (λ x. left_of x ≤ l) q (hs c s l) in perform_cong sub rnd rnd' e m hs hr (k o s') l' (omega arith))
    perform_cong sub rnd rnd' e m hs hr (again s) l h = hr s l h

    -- with k steps more
    perform_rel : (n : σ.Cause) (k : ℕ) (sub : Sub σ) (rnd rnd' : Rounds σ A) (e m : ℕ) → Le sub → LeR rnd'
        → ((c : σ.Call) (s : σ.State) (l : ℕ) → Rel n k (sub c s l) (sub c s (l + k)))
        → ((s : σ.State) (l : ℕ) → l ≤ m → Rel n k (rnd s l) (rnd' s (l + k)))
        → (a : Act σ A) (l : ℕ) → l ≤ m → Rel n k (perform sub rnd e a l) (perform sub rnd' e a (l + k))
    unfolding perform
    perform_rel n k sub rnd rnd' e m hs hr rs rr (end o s) l h = same refl
    perform_rel n k sub rnd rnd' e m hs hr rs rr (stop p g s) l h = same refl
    perform_rel n k sub rnd rnd' e m hs hr rs rr (begin c s f) l h =
        and_then_rel n k (sub c s l) (sub c s (l + k)) _ _ (rs c s l)
        (λ o s' l' q. let w : l' ≤ l = subst (λ x. left_of x ≤ l) q (hs c s l) in perform_rel n k sub rnd rnd' e m hs hr rs rr (f o s') l' (omega arith))
        (λ o s' l'. perform_left sub rnd' e hs hr (f o s') l')
    perform_rel n k sub rnd rnd' e m hs hr rs rr (again s) l h = rr s l h

module _ {σ : Shape} (L : Lang σ) where
  rounds_left : (sub : Sub σ) (c : σ.Call) → Le sub → (b : ℕ) (s : σ.State) (l : ℕ) → left_of (rounds L sub c b s l) ≤ l
  unfolding rounds
  rounds_left sub c hs zero s l = omega arith
  rounds_left sub c hs (suc b) s l =
      let r = L.round c s in
      and_then_left (sub r.child r.state l) _ l (hs r.child r.state l) (λ o s' l'. perform_left sub (rounds L sub c b) (L.entry c) hs (rounds_left sub c hs b) (r.next o s') l')

  go_on_left : (sub : Sub σ) (c : σ.Call) → Le sub → (a : Act σ (σ.Out c)) (l : ℕ) → left_of (go_on L sub c a l) ≤ l
  unfolding go_on
  go_on_left sub c hs a l = perform_left sub (rounds L sub c (suc l)) (L.entry c) hs (rounds_left sub c hs (suc l)) a l

  -- What is begun spends a step.
  pub enter_falls : (d p : ℕ) → Down (enter L d p)
  unfolding enter
  enter_falls zero p c s l = omega arith
  enter_falls (suc d) p c s zero = omega arith
  enter_falls (suc d) p c s (suc l) =
      let w = blame_left (L.blames c) (go_on L (enter L d (L.entry c)) c (L.act c s) l) in
      let v = go_on_left (enter L d (L.entry c)) c (λ c' s' l'. falls_le l' _ (enter_falls d (L.entry c) c' s' l')) (L.act c s) l in
      le_falls l _ (omega arith)

  -- A bound of the rounds does not matter where it is large enough.
  rounds_cong : (sub : Sub σ) (c : σ.Call) → Down sub → (b b' : ℕ) (s : σ.State) (l : ℕ) → l < b → l < b' → rounds L sub c b s l ≡ rounds L sub c b' s l
  unfolding rounds
  rounds_cong sub c hs zero b' s l h h' = absurd (omega arith)
  rounds_cong sub c hs (suc b) zero s l h h' = absurd (omega arith)
  rounds_cong sub c hs (suc b) (suc b') s l h h' =
      let r = L.round c s in
      and_then_cong (sub r.child r.state l) _ _ (λ o s' l' q.
      let w : l' < l = subst (λ x. Falls l x) q (hs r.child r.state l) in
      perform_cong sub (rounds L sub c b) (rounds L sub c b') (L.entry c) l' (down_le sub hs)
      (λ s'' l'' m. rounds_cong sub c hs b b' s'' l'' (omega arith) (omega arith))
      (r.next o s') l' (omega arith))

  -- How an act goes on: the equations that a machine is held to.
  pub go_on-end : (sub : Sub σ) (c : σ.Call) (o : σ.Out c) (s : σ.State) (l : ℕ) → go_on L sub c (end o s) l ≡ done o s l
  unfolding go_on perform
  go_on-end sub c o s l = refl

  pub go_on-stop : (sub : Sub σ) (c : σ.Call) (n : σ.Cause) (g : Option ℕ) (s : σ.State) (l : ℕ) → go_on L sub c (stop n g s) l ≡ faulty n (L.entry c) g s l
  unfolding go_on perform
  go_on-stop sub c n g s l = refl

  pub go_on-begin : (sub : Sub σ) (c : σ.Call) → Down sub → (c' : σ.Call) (s : σ.State) (k : σ.Out c' → σ.State → Act σ (σ.Out c)) (l : ℕ)
      → go_on L sub c (begin c' s k) l ≡ and_then (sub c' s l) (λ o s' l'. go_on L sub c (k o s') l')
  unfolding go_on perform
  go_on-begin sub c hs c' s k l =
      and_then_cong (sub c' s l) _ _ (λ o s' l' q.
      let w : l' < l = subst (λ x. Falls l x) q (hs c' s l) in
      perform_cong sub (rounds L sub c (suc l)) (rounds L sub c (suc l')) (L.entry c) l' (down_le sub hs)
      (λ s'' l'' m. rounds_cong sub c hs (suc l) (suc l') s'' l'' (omega arith) (omega arith))
      (k o s') l' (omega arith))

  pub go_on-again : (sub : Sub σ) (c : σ.Call) → Down sub → (s : σ.State) (l : ℕ) → go_on L sub c (again s) l ≡ go_on L sub c (opened (L.round c s)) l
  unfolding go_on perform rounds opened
  go_on-again sub c hs s l =
      let r = L.round c s in
      and_then_cong (sub r.child r.state l) _ _ (λ o s' l' q.
      let w : l' < l = subst (λ x. Falls l x) q (hs r.child r.state l) in
      perform_cong sub (rounds L sub c l) (rounds L sub c (suc l)) (L.entry c) l' (down_le sub hs)
      (λ s'' l'' m. rounds_cong sub c hs l (suc l) s'' l'' (omega arith) (omega arith))
      (r.next o s') l' (omega arith))

  rounds_rel : (k : ℕ) (sub : Sub σ) (c : σ.Call) → Down sub → ((c : σ.Call) (s : σ.State) (l : ℕ) → Rel L.spent k (sub c s l) (sub c s (l + k)))
      → (b b' : ℕ) (s : σ.State) (l : ℕ) → l < b → l + k < b' → Rel L.spent k (rounds L sub c b s l) (rounds L sub c b' s (l + k))
  unfolding rounds
  rounds_rel k sub c hs rs zero b' s l h h' = absurd (omega arith)
  rounds_rel k sub c hs rs (suc b) zero s l h h' = absurd (omega arith)
  rounds_rel k sub c hs rs (suc b) (suc b') s l h h' =
      let r = L.round c s in
      and_then_rel L.spent k (sub r.child r.state l) (sub r.child r.state (l + k)) _ _ (rs r.child r.state l)
      (λ o s' l' q.
      let w : l' < l = subst (λ x. Falls l x) q (hs r.child r.state l) in
      perform_rel L.spent k sub (rounds L sub c b) (rounds L sub c b') (L.entry c) l' (down_le sub hs) (rounds_left sub c (down_le sub hs) b') rs
      (λ s'' l'' m. rounds_rel k sub c hs rs b b' s'' l'' (omega arith) (omega arith))
      (r.next o s') l' (omega arith))
      (λ o s' l'. perform_left sub (rounds L sub c b') (L.entry c) (down_le sub hs) (rounds_left sub c (down_le sub hs) b') (r.next o s') l')

  go_on_rel : (k : ℕ) (sub : Sub σ) (c : σ.Call) → Down sub → ((c : σ.Call) (s : σ.State) (l : ℕ) → Rel L.spent k (sub c s l) (sub c s (l + k)))
      → (a : Act σ (σ.Out c)) (l : ℕ) → Rel L.spent k (go_on L sub c a l) (go_on L sub c a (l + k))
  unfolding go_on
  go_on_rel k sub c hs rs a l =
      perform_rel L.spent k sub (rounds L sub c (suc l)) (rounds L sub c (suc (l + k))) (L.entry c) l (down_le sub hs) (rounds_left sub c (down_le sub hs) (suc (l + k))) rs
      (λ s'' l'' m. rounds_rel k sub c hs rs (suc l) (suc (l + k)) s'' l'' (omega arith) (omega arith))
      a l (omega arith)

  enter_rel : (k d p : ℕ) (c : σ.Call) (s : σ.State) (l : ℕ) → Rel L.spent k (enter L d p c s l) (enter L d p c s (l + k))
  unfolding enter
  enter_rel k zero p c s l = same refl
  enter_rel zero (suc d) p c s zero = same refl
  enter_rel (suc k) (suc d) p c s zero =
      let e : suc k ≡ 0 + suc k = omega arith in
      let w : Falls (suc k) (enter L (suc d) p c s (suc k)) = enter_falls (suc d) p c s (suc k) in
      let v = blame_left (L.blames c) (go_on L (enter L d (L.entry c)) c (L.act c s) k) in
      let u = go_on_left (enter L d (L.entry c)) c (λ c' s' l'. falls_le l' _ (enter_falls d (L.entry c) c' s' l')) (L.act c s) k in
      out refl (inr (subst (λ n. left_of (enter L (suc d) p c s n) < suc k) e (omega arith)))
  enter_rel k (suc d) p c s (suc l) =
      let e : suc (l + k) ≡ suc l + k = omega arith in
      subst (λ n. Rel L.spent k (enter L (suc d) p c s (suc l)) (enter L (suc d) p c s n)) e
      (blame_rel (L.blames c) L.spent k _ _ (go_on_rel k (enter L d (L.entry c)) c (enter_falls d (L.entry c)) (enter_rel k d (L.entry c)) (L.act c s) l))

  -- an act that is no entry's
  outside_rel : {A : Type 0} (k depth : ℕ) (a : Act σ A) (l : ℕ) → Rel L.spent k (outside L depth a l) (outside L depth a (l + k))
  unfolding outside
  outside_rel k depth a l =
      perform_rel L.spent k (enter L depth 0) _ _ 0 l (down_le (enter L depth 0) (enter_falls depth 0)) (λ s l'. omega arith) (enter_rel k depth 0)
      (λ s l' m. same refl) a l (omega arith)

  outside_left : {A : Type 0} (depth : ℕ) (a : Act σ A) (l : ℕ) → left_of (outside L depth a l) ≤ l
  unfolding outside
  outside_left depth a l = perform_left (enter L depth 0) _ 0 (down_le (enter L depth 0) (enter_falls depth 0)) (λ s l'. omega arith) a l

-- The law, from what a run is to the same run with more steps.
module _ {A E S : Type 0} (n : E) (f : ℕ → Res A E S) (rel : (k l : ℕ) → Rel n k (f l) (f (l + k))) (le : (l : ℕ) → left_of (f l) ≤ l) where
  rel_to : (l m : ℕ) → l ≤ m → Rel n (m - l) (f l) (f m)
  rel_to l m h = let e : l + (m - l) ≡ m = omega arith in subst (λ x. Rel n (m - l) (f l) (f x)) e (rel (m - l) l)

  answer-steps : (g : ℕ) (r : Res A E S) → (answer g r).steps ≡ g - left_of r
  unfolding answer
  answer-steps g (done o s l) = refl
  answer-steps g (fault p s l) = refl

  answer_fails : (g : ℕ) (r : Res A E S) → Failed n r → FailsBy n (answer g r).outcome
  unfolding answer
  answer_fails g (done o s l) h = h
  answer_fails g (fault p s l) h = h

  fails_answer : (g : ℕ) (r : Res A E S) → FailsBy n (answer g r).outcome → Failed n r
  unfolding answer
  fails_answer g (done o s l) h = h
  fails_answer g (fault p s l) h = h

  left_shift : (k : ℕ) (r : Res A E S) → left_of (shift k r) ≡ left_of r + k
  left_shift k (done o s l) = refl
  left_shift k (fault p s l) = refl

  failed_shift : (k : ℕ) (r : Res A E S) → Failed n r → Failed n (shift k r)
  failed_shift k (done o s l) h = h
  failed_shift k (fault p s l) h = h

  -- the same answer from g steps and from k more
  answer_shift : (k g : ℕ) (r : Res A E S) → left_of r ≤ g → answer (g + k) (shift k r) ≡ answer g r
  unfolding answer
  answer_shift k g (done o s l) h =
      let e : g + k - (l + k) ≡ g - l = omega arith in ap (λ m. record { outcome = Ok o; state = s; steps = m }) e
  answer_shift k g (fault p s l) h =
      let e : g + k - (l + k) ≡ g - l = omega arith in ap (λ m. record { outcome = Err p; state = s; steps = m }) e

  -- from l steps up to m, where the first is not spent
  up : (l m : ℕ) → l ≤ m → Rel n (m - l) (f l) (f m) → (Failed n (f l) → ⊥) → answer m (f m) ≡ answer l (f l)
  up l m h (same e) ok =
      let q : l + (m - l) ≡ m = omega arith in
      ap (answer m) e ∙ subst (λ x. answer x (shift (m - l) (f l)) ≡ answer l (f l)) q (answer_shift (m - l) l (f l) (le l))
  up l m h (out e late) ok = absurd (ok e)

  down-short : (h g : ℕ) → h ≤ g → Rel n (g - h) (f h) (f g) → (Failed n (f g) → ⊥) → h < g - left_of (f g) → Failed n (f h)
  down-short h g le' (same e) ok lt = let w = ap left_of e in let v = left_shift (g - h) (f h) in absurd (omega arith)
  down-short h g le' (out e late) ok lt = e

  not_out : (h g : ℕ) → h ≤ g → Rel n (g - h) (f h) (f g) → (Failed n (f g) → ⊥) → g - left_of (f g) ≤ h → Failed n (f h) → ⊥
  not_out h g le' (same e) ok ge z = ok (subst (Failed n) (sym e) (failed_shift (g - h) (f h) z))
  not_out h g le' (out e (inl q)) ok ge z = ok q
  not_out h g le' (out e (inr q)) ok ge z = let w = le g in omega arith

  smallest_grant : (g : ℕ) → (FailsBy n (answer g (f g)).outcome → ⊥) → SmallestGrant n (λ h. answer h (f h)) g
  smallest_grant g ok =
      let ok' : Failed n (f g) → ⊥ = λ e. ok (answer_fails g (f g) e) in
      let st = answer-steps g (f g) in
      record {
        within = omega arith;
        enough = λ h ge. elim (dec_le h g) [ yes p ↦ sym (up h g p (rel_to h g p) (not_out h g p (rel_to h g p) ok' (omega arith))) | no q ↦ up g h (omega arith) (rel_to g h (omega arith)) ok' ];
        short = λ h lt. answer_fails h (f h) (down-short h g (omega arith) (rel_to h g (omega arith)) ok' (omega arith));
      }

module _ {σ : Shape} (L : Lang σ) (depth : ℕ) where
  pub run-smallest : (c : σ.Call) (s : σ.State) (g : ℕ) → (FailsBy L.spent (run L depth c s g).outcome → ⊥) → SmallestGrant L.spent (run L depth c s) g
  unfolding run
  run-smallest c s g ok = smallest_grant L.spent (enter L depth 0 c s) (λ k l. enter_rel L k depth 0 c s l) (λ l. falls_le l _ (enter_falls L depth 0 c s l)) g ok

  pub outside-smallest : {A : Type 0} (a : Act σ A) (g : ℕ) → (FailsBy L.spent (run_outside L depth a g).outcome → ⊥) → SmallestGrant L.spent (run_outside L depth a) g
  unfolding run_outside
  outside-smallest a g ok = smallest_grant L.spent (outside L depth a) (λ k l. outside_rel L k depth a l) (outside_left L depth a) g ok
