-- The laws of the first entry at which a function answers.
use Rattle.std.proofs.Common.{◌≡◌, ℕ, zero, suc, ◌+◌, ◌-◌, ◌<◌, ◌≤◌, Bool, true, false, cond, Some, None, Option, sym, refl, ap, ◌∙◌, ⊎_elim, arith}
use Rattle.std.proofs.lemmas.Bool.{cases_eq}
use Rattle.layout.specs.First.{first_some}
use Rattle.std.proofs.lemmas.Option.{none-some}
use Rattle.std.specs.Option.{option_map, option_or}

pub neither : {X : Type 0} (a b : Option X) → option_or a b ≡ None → (a ≡ None) × (b ≡ None)
neither None b h = (refl, h)
neither (Some x) b h = absurd (none-some x (sym h))

-- What is known where a test found nothing, and where nothing was made of what was found.
pub cond_is_none : {X : Type 0} (t : Bool) (x : X) (o : Option X) → cond t (Some x) o ≡ None → (t ≡ false) × (o ≡ None)
cond_is_none true x o h = absurd (none-some x (sym h))
cond_is_none false x o h = (refl, h)

pub mapped_is_none : {A B : Type 0} (f : A → B) (o : Option A) → option_map f o ≡ None → o ≡ None
mapped_is_none f None h = refl
mapped_is_none f (Some x) h = absurd (none-some (f x) (sym h))

module _ {X : Type 0} (f : ℕ → Option X) where
  pub first_more : (e n : ℕ) → e < n → f e ≡ None → first_some f (e + 1) (n - (e + 1)) ≡ first_some f e (n - e)
  unfolding first_some
  first_more e n h none =
      let i : n - e ≡ suc (n - (e + 1)) = omega arith in
      sym (ap (first_some f e) i ∙ ap (λ o. option_or o (first_some f (e + 1) (n - (e + 1)))) none)

  pub first_hit : (e n : ℕ) (x : X) → e < n → f e ≡ Some x → first_some f e (n - e) ≡ Some x
  unfolding first_some
  first_hit e n x h some =
      let i : n - e ≡ suc (n - (e + 1)) = omega arith in
      ap (first_some f e) i ∙ ap (λ o. option_or o (first_some f (e + 1) (n - (e + 1)))) some

  pub first-none : (e n : ℕ) → n ≤ e → first_some f e (n - e) ≡ None
  unfolding first_some
  first-none e n h = let i : n - e ≡ 0 = omega arith in ap (first_some f e) i

  -- none is found exactly where none answers
  pub first_each : (n e k : ℕ) → first_some f e n ≡ None → e ≤ k → k < e + n → f k ≡ None
  unfolding first_some
  first_each zero e k h a b = absurd (omega arith)
  first_each (suc n) e k h a b =
      let r = neither (f e) (first_some f (e + 1) n) h in
      ⊎_elim (λ same. ap f same ∙ r.0) (λ other. first_each n (e + 1) k r.1 (omega arith) (omega arith)) (cases_eq k e)

  pub each_first : (n e : ℕ) → ((k : ℕ) → e ≤ k → k < e + n → f k ≡ None) → first_some f e n ≡ None
  unfolding first_some
  each_first zero e h = refl
  each_first (suc n) e h =
      ap (λ o. option_or o (first_some f (e + 1) n)) (h e (omega arith) (omega arith))
      ∙ each_first n (e + 1) (λ k a b. h k (omega arith) (omega arith))

  -- where the first answers
  pub first_found : (n e i : ℕ) (x : X) → e ≤ i → i < e + n → ((k : ℕ) → e ≤ k → k < i → f k ≡ None) → f i ≡ Some x → first_some f e n ≡ Some x
  unfolding first_some
  first_found zero e i x a b none some = absurd (omega arith)
  first_found (suc n) e i x a b none some =
      ⊎_elim (λ same. ap (λ o. option_or o (first_some f (e + 1) n)) (ap f same ∙ some))
      (λ other.
      ap (λ o. option_or o (first_some f (e + 1) n)) (none e (omega arith) (omega arith))
      ∙ first_found n (e + 1) i x (omega arith) (omega arith) (λ k c d. none k (omega arith) d) some)
      (cases_eq e i)
