-- How one step of a machine keeps what its stack stands for.
use Rattle.std.proofs.Common.{◌≡◌, ℕ, suc, ◌-◌, ◌<◌, ◌≤◌, Some, None, Option, sym, refl, ap, ◌∙◌, arith}
use native.Mathlib.Nat.{sub-zero}
use Rattle.std.specs.Option.{option_or}
use Rattle.drive.specs.Act.{Act, Lang, Shape, again, begin, end, stop}
use Rattle.drive.specs.Drive.{Fault, Res, and_then, blame, charge, done, enter, fault, faulty, outside, perform}
use Rattle.drive.specs.Stack.{Pending, Stack, acting, acts, blamed_by, height, must, outermost, push, settle, top, unwind}
use Rattle.drive.proofs.Law.{enter_falls, go_on-again, go_on-begin, go_on-end, go_on-stop}

or_none : (a : Option ℕ) → a ≡ option_or a None
or_none None = refl
or_none (Some x) = refl

or_assoc : (a b c : Option ℕ) → option_or (option_or a b) c ≡ option_or a (option_or b c)
or_assoc None b c = refl
or_assoc (Some x) b c = refl

module _ {σ : Shape} (L : Lang σ) (D : ℕ) {p : Pending σ} {A : Type 0} where
  -- A fault goes through the pending records, and is blamed on the newest function among them.
  pub unwind-fault : {c : σ.Call} (fs : Stack p A c) (n : Fault σ.Cause) (s : σ.State) (l : ℕ) → unwind L D fs (fault n s l) ≡ fault (charge (blamed_by L D fs) n) s l
  unfolding unwind and_then blame charge
  unwind-fault (outermost k) n s l = ap (λ g. faulty n.cause n.entry g s l) (or_none n.blamed)
  unwind-fault (push f fs) n s l =
      unwind-fault fs (charge (L.blames (p.begun f)) n) s l
      ∙ ap (λ g. faulty n.cause n.entry g s l) (or_assoc n.blamed (L.blames (p.begun f)) (blamed_by L D fs))

  module _ {c : σ.Call} (fs : Stack p A c) (s : σ.State) where
    -- too many are pending
    pub must-full : (l : ℕ) → D ≤ height fs → must L D fs s l ≡ faulty L.full (top L D fs) (option_or (L.blames c) (blamed_by L D fs)) s l
    unfolding must enter charge
    must-full l h =
        let e : D - height fs ≡ 0 = omega arith in
        ap (λ d. unwind L D fs (enter L d (top L D fs) c s l)) e ∙ unwind-fault fs _ s l

    deeper : height fs < D → D - height fs ≡ suc (D - suc (height fs))
    deeper h = omega arith

    -- the grant is spent
    pub must-spent : height fs < D → must L D fs s 0 ≡ faulty L.spent (top L D fs) (option_or (L.blames c) (blamed_by L D fs)) s 0
    unfolding must enter charge
    must-spent h = ap (λ d. unwind L D fs (enter L d (top L D fs) c s 0)) (deeper h) ∙ unwind-fault fs _ s 0

    -- a step is taken
    pub must-begin : (l : ℕ) → height fs < D → must L D fs s (suc l) ≡ acting L D fs (L.act c s) l
    unfolding must enter acting acts
    must-begin l h = ap (λ d. unwind L D fs (enter L d (top L D fs) c s (suc l))) (deeper h)

  -- what c does is what its acts do, blamed on the function that it is the body of
  rest : {c : σ.Call} → Stack p A c → Res (σ.Out c) σ.Cause σ.State → Res A σ.Cause σ.State
  rest {c} fs r = unwind L D fs (blame (L.blames c) r)

  module _ {c : σ.Call} (fs : Stack p A c) where
    pub acting-settle : (a : Act σ (σ.Out c)) (l : ℕ) → acting L D fs (settle L c a) l ≡ acting L D fs a l
    unfolding acting acts rest settle
    acting-settle (end o s) l = refl
    acting-settle (stop n g s) l = refl
    acting-settle (begin c' s k) l = refl
    acting-settle (again s) l =
        sym (ap (rest fs) (go_on-again L (enter L (D - suc (height fs)) (L.entry c)) c (enter_falls L (D - suc (height fs)) (L.entry c)) s l))

    pub acting-end : (o : σ.Out c) (s : σ.State) (l : ℕ) → acting L D fs (end o s) l ≡ unwind L D fs (done o s l)
    unfolding acting acts blame rest
    acting-end o s l = ap (rest fs) (go_on-end L (enter L (D - suc (height fs)) (L.entry c)) c o s l)

    pub acting-stop : (n : σ.Cause) (g : Option ℕ) (s : σ.State) (l : ℕ)
        → acting L D fs (stop n g s) l ≡ faulty n (L.entry c) (option_or (option_or g (L.blames c)) (blamed_by L D fs)) s l
    unfolding acting acts blame charge rest
    acting-stop n g s l = ap (rest fs) (go_on-stop L (enter L (D - suc (height fs)) (L.entry c)) c n g s l) ∙ unwind-fault fs _ s l

  -- A child begun: its parent is pending.
  pub acting-begin : (f : p.Record) (fs : Stack p A (p.begun f)) (s : σ.State) (l : ℕ) → acting L D fs (begin (p.awaits f) s (p.resume f)) l ≡ must L D (push f fs) s l
  unfolding acting acts must unwind rest
  acting-begin f fs s l =
      ap (rest fs) (go_on-begin L (enter L (D - suc (height fs)) (L.entry (p.begun f))) (p.begun f) (enter_falls L (D - suc (height fs)) (L.entry (p.begun f))) (p.awaits f) s (p.resume f) l)

  -- A child ended: its parent takes up what it ended with.
  pub ended_resumes : (f : p.Record) (fs : Stack p A (p.begun f)) (o : σ.Out (p.awaits f)) (s : σ.State) (l : ℕ)
      → unwind L D (push f fs) (done o s l) ≡ acting L D fs (p.resume f o s) l
  unfolding unwind acting and_then
  ended_resumes f fs o s l = refl

-- The outermost act: what it begins, and what it does then.
module _ {σ : Shape} (L : Lang σ) (D : ℕ) (p : Pending σ) {A : Type 0} where
  pub outside-begin : (c : σ.Call) (s : σ.State) (k : σ.Out c → σ.State → Act σ A) (l : ℕ) → outside L D (begin c s k) l ≡ must L D {p = p} {A = A} {c = c} (outermost k) s l
  unfolding outside perform must unwind
  outside-begin c s k l =
      ap (λ d. and_then (enter L d 0 c s l) (λ o s' l'. outside L D (k o s') l')) (sym (sub-zero D))

  pub ended_outside : (c : σ.Call) (k : σ.Out c → σ.State → Act σ A) (o : σ.Out c) (s : σ.State) (l : ℕ) → unwind L D {p = p} {A = A} {c = c} (outermost k) (done o s l) ≡ outside L D (k o s) l
  unfolding unwind and_then
  ended_outside c k o s l = refl
