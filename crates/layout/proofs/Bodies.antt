-- The laws of a body's parts, as the walk meets them.
use Rattle.std.proofs.Common.{◌≡◌, ℕ, ◌+◌, ◌*◌, ◌<◌, ◌≤◌, List, length, get_or, arith, is_some, Some, None, true, sym, ap, ◌∙◌}
use Rattle.std.proofs.lemmas.Bool.{cond-true, cond-false, eq-eqb, ne_eqb, le-ltb, lt-ltb, lt-leb, not_from_true}
use Rattle.layout.specs.Verdict.{body_fault}
use Rattle.layout.specs.declared.error.BookFault.TheVariants.{BadPlace}
use Rattle.layout.specs.Layout.{construct, end, groups, shape, tail_from}
use Rattle.shape.specs.Shapes.{Layout}
use Rattle.shape.specs.declared.Construct.{Construct}

module _ (ws : List ℕ) (p : ℕ) where
  -- A known body ends behind its tag, its head, its groups and its tail
  pub known_end : is_some (construct ws p) ≡ true → end ws p ≡ tail_from ws p + length (shape ws p).tail
  unfolding end
  known_end h = cond-true _ _ _ h

  pub end_is : (c : Construct) (s : Layout) → construct ws p ≡ Some c → s ≡ shape ws p → end ws p ≡ p + 1 + length s.head + length s.group * groups ws p + length s.tail
  end_is c s known is =
      known_end (ap is_some known)
      ∙ sym (ap (λ (x : Layout). p + 1 + length x.head + length x.group * groups ws p + length x.tail) is)

  -- How many groups a body has of which the layout is known
  pub groups_none : (s : Layout) → s ≡ shape ws p → length s.group < 1 → groups ws p ≡ 0
  unfolding groups
  groups_none s is h = cond-true _ _ _ (eq-eqb (length (shape ws p).group) 0 (sym (ap (λ (x : Layout). length x.group) is) ∙ omega arith))

  pub groups-some : (s : Layout) → s ≡ shape ws p → 1 ≤ length s.group → groups ws p ≡ get_or ws (p + length s.head) 0
  unfolding groups
  groups-some s is h =
      let g = ap (λ (x : Layout). length x.group) is in
      cond-false _ _ _ (ne_eqb (length (shape ws p).group) 0 (λ z. absurd (omega (arith, z, g))))
      ∙ ap (λ (x : Layout). get_or ws (p + length x.head) 0) (sym is)

-- The words of a body are wrong, or they are not
module _ (ws : List ℕ) (p : ℕ) (here : p < length ws) where
  pub body_short : is_some (construct ws p) ≡ true → length ws < end ws p → body_fault ws p ≡ Some BadPlace
  body_short known h =
      cond-false _ _ _ (lt-leb (length ws) p here) ∙ cond-false _ _ _ (not_from_true _ known) ∙ cond-true _ _ _ (lt-ltb (length ws) (end ws p) h)

  pub body_there : is_some (construct ws p) ≡ true → end ws p ≤ length ws → body_fault ws p ≡ None
  body_there known h =
      cond-false _ _ _ (lt-leb (length ws) p here) ∙ cond-false _ _ _ (not_from_true _ known) ∙ cond-false _ _ _ (le-ltb (length ws) (end ws p) h)
