-- Which flows the sets of lists and clauses have.
use Rattle.std.proofs.Common.{◌≡◌, ℕ, zero, suc, true, ◌||◌, List, [], ◌∷◌, Some, ap, ◌∙◌, arith}
use Rattle.std.specs.List.{slice_get}
use Rattle.std.proofs.lemmas.Bool.{both_ways, cond_both, or_left, or_right}
use Rattle.behavior.specs.Rules.{followed, in_turn, joined, set, union}
use Rattle.behavior.specs.declared.set.Behavior.{Behavior}
use Rattle.rules.specs.Flows.{has}
use Rattle.rules.specs.declared.flow.Flow.{Flow}
use Rattle.rules.specs.declared.flow.Flow.TheVariants as F

-- b in the place of a's Next
abbrev replaced : Behavior → Behavior → Behavior
replaced a b = set b.next (a.breaks || b.breaks) (a.continues || b.continues) (a.returns || b.returns)

module _ {V : Type 0} where
  -- any flow but Next
  abbrev pub Leaves : Flow V → Type 0
  Leaves F.Next = ⊥
  Leaves F.Break = Unit {0}
  Leaves F.Continue = Unit {0}
  Leaves (F.Return v) = Unit {0}

  module _ (a b : Behavior) where
    union_left : (f : Flow V) → has a f ≡ true → has (union a b) f ≡ true
    union_left F.Next h = or_left a.next b.next h
    union_left F.Break h = or_left a.breaks b.breaks h
    union_left F.Continue h = or_left a.continues b.continues h
    union_left (F.Return v) h = or_left a.returns b.returns h

    union_right : (f : Flow V) → has b f ≡ true → has (union a b) f ≡ true
    union_right F.Next h = or_right a.next b.next h
    union_right F.Break h = or_right a.breaks b.breaks h
    union_right F.Continue h = or_right a.continues b.continues h
    union_right (F.Return v) h = or_right a.returns b.returns h

    replaced_left : (f : Flow V) → Leaves f → has a f ≡ true → has (replaced a b) f ≡ true
    replaced_left F.Next l h = absurd l
    replaced_left F.Break l h = or_left a.breaks b.breaks h
    replaced_left F.Continue l h = or_left a.continues b.continues h
    replaced_left (F.Return v) l h = or_left a.returns b.returns h

    replaced_right : (f : Flow V) → has b f ≡ true → has (replaced a b) f ≡ true
    replaced_right F.Next h = h
    replaced_right F.Break h = or_right a.breaks b.breaks h
    replaced_right F.Continue h = or_right a.continues b.continues h
    replaced_right (F.Return v) h = or_right a.returns b.returns h

    followed_left : (f : Flow V) → Leaves f → has a f ≡ true → has (followed a b) f ≡ true
    followed_left f l h = cond_both {A = Behavior} a.next _ _ (λ x. has x f ≡ true) (λ is. replaced_left f l h) (λ is. h)

    pub followed-right : a.next ≡ true → (f : Flow V) → has b f ≡ true → has (followed a b) f ≡ true
    followed-right n f h =
        cond_both {A = Behavior} a.next _ _ (λ x. has x f ≡ true) (λ is. replaced_right f h)
        (λ is. absurd (both_ways a.next is n))

  -- a list loses no flow but Next
  pub turn_left : (g : ℕ → Behavior) (a : Behavior) (es : List ℕ) (f : Flow V) → Leaves f → has a f ≡ true → has (in_turn g a es) f ≡ true
  turn_left g a [] f l h = h
  turn_left g a (e ∷ es) f l h = turn_left g (followed a (g e)) es f l (followed_left a (g e) f l h)

  -- clauses lose none, and have those of each body
  pub joined_left : (g : ℕ → Behavior) (a : Behavior) (ps : List (ℕ × ℕ)) (f : Flow V) → has a f ≡ true → has (joined g a ps) f ≡ true
  joined_left g a [] f h = h
  joined_left g a (p ∷ ps) f h = joined_left g (union a (g p.1)) ps f (union_left a (g p.1) f h)

  pub joined_at : (g : ℕ → Behavior) (a : Behavior) (ps : List (ℕ × ℕ)) (i : ℕ) (p : ℕ × ℕ) → slice_get ps i ≡ Some p → (f : Flow V) → has (g p.1) f ≡ true → has (joined g a ps) f ≡ true
  joined_at g a [] i p is f h = let w : ◌≡◌ {A = ℕ} 0 1 = cc in absurd (omega arith)
  joined_at g a (q ∷ ps) zero p is f h =
      let e : q ≡ p = cc in
      joined_left g (union a (g q.1)) ps f (union_right a (g q.1) f (ap (λ x. has (g x.1) f) e ∙ h))
  joined_at g a (q ∷ ps) (suc i) p is f h = joined_at g (union a (g q.1)) ps i p is f h
