-- The depth of a descent does not matter once it is enough.
use Rattle.std.proofs.Common.{◌≡◌, ℕ, zero, suc, ◌-◌, ◌<◌, ◌≤◌, ap, ◌∙◌, arith}
use Rattle.behavior.specs.Rules.{descend}

-- a step that looks only at larger entries below n
abbrev pub Local : {X : Type 0} → ℕ → ((ℕ → X) → ℕ → X) → Type 0
Local {X} n step =
    (f g : ℕ → X) (e : ℕ) → e < n → ((c : ℕ) → e < c → c < n → f c ≡ g c) → step f e ≡ step g e

module _ {X : Type 0} (n : ℕ) (blank : X) (step : (ℕ → X) → ℕ → X) (local : Local n step) where
  enough : (a b e : ℕ) → e < n → n - e ≤ a → n - e ≤ b → descend blank step a e ≡ descend blank step b e
  unfolding descend
  enough zero b e h i j = absurd (omega arith)
  enough (suc a) zero e h i j = absurd (omega arith)
  enough (suc a) (suc b) e h i j =
      local (descend blank step a) (descend blank step b) e h (λ c k l. enough a b c l (omega arith) (omega arith))

  -- an entry in terms of its children, with no depth in sight
  pub opened : (e : ℕ) → e < n → descend blank step (n - e) e ≡ step (λ c. descend blank step (n - c) c) e
  unfolding descend
  opened e h =
      let s : n - e ≡ suc (n - e - 1) = omega arith in
      ap (λ k. descend blank step k e) s
      ∙ local (descend blank step (n - e - 1)) (λ c. descend blank step (n - c) c) e h
      (λ c k l. enough (n - e - 1) (n - c) c l (omega arith) (omega arith))
