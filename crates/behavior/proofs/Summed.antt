-- The summary of an entry from those of its children.
use Rattle.std.proofs.Common.{◌≡◌, ℕ, ◌<◌, true, List, [], ◌∷◌, sym, refl, ap, ◌∙◌}
use Rattle.layout.specs.Layout.{entries}
use Rattle.layout.specs.WellFormed.{WellFormed}
use Rattle.layout.specs.Verdict.{accepted}
use Rattle.layout.proofs.Accepted.{loaded}
use Rattle.behavior.specs.Below.{earliest, is_bare, is_leaving, is_valued, least, seconds}
use Rattle.control.specs.Control.{control}
use Rattle.behavior.specs.Rules.{behavior, in_turn, joined}
use Rattle.behavior.specs.Summaries.{clauses_from, control_summary, list_from, summary}
use Rattle.control.specs.declared.Control.{Control}
use Rattle.behavior.specs.declared.summary.Summary.{Summary}
use Rattle.behavior.proofs.Openings.{opened-behavior, opened-least}

module _ (ws : List ℕ) where
  -- the folds of a list, part by part
  abbrev listed_parts : Summary → List ℕ → Summary
  listed_parts s cs =
      record {
        behavior = in_turn (behavior ws) s.behavior cs;
        bare = earliest (least ws (is_bare ws)) s.bare cs;
        valued = earliest (least ws (is_valued ws)) s.valued cs;
        leaving = earliest (least ws (is_leaving ws)) s.leaving cs;
      }

  pub list_folds : (cs : List ℕ) (s : Summary) → list_from ws s cs ≡ listed_parts s cs
  unfolding summary
  list_folds [] s = refl
  list_folds (c ∷ cs) s = list_folds cs _

  abbrev clause_parts : Summary → List (ℕ × ℕ) → Summary
  clause_parts s ps =
      record {
        behavior = joined (behavior ws) s.behavior ps;
        bare = earliest (least ws (is_bare ws)) s.bare (seconds ps);
        valued = earliest (least ws (is_valued ws)) s.valued (seconds ps);
        leaving = earliest (least ws (is_leaving ws)) s.leaving (seconds ps);
      }

  pub clause_folds : (ps : List (ℕ × ℕ)) (s : Summary) → clauses_from ws s ps ≡ clause_parts s ps
  unfolding summary
  clause_folds [] s = refl
  clause_folds (p ∷ ps) s = clause_folds ps _

  module _ (w : WellFormed ws) (e : ℕ) (h : e < entries ws) where
    opened-summary : summary ws e ≡ control_summary ws e (control ws e)
    unfolding summary
    opened-summary =
        let b = opened-behavior ws w e h in
        let r = opened-least ws w (is_bare ws) e h in
        let v = opened-least ws w (is_valued ws) e h in
        let l = opened-least ws w (is_leaving ws) e h in
        cc

    module _ (t : Control) (is : t ≡ control ws e) where
      at-control : control_summary ws e t ≡ summary ws e
      at-control = ap (control_summary ws e) is ∙ sym opened-summary

-- of the control that was read at an entry of a loaded book
pub summed_at : (ws : List ℕ) → accepted ws ≡ true → (e : ℕ) (t : Control) → t ≡ control ws e → e < entries ws → summary ws e ≡ control_summary ws e t
summed_at ws ok e t is h = sym (at-control ws (loaded ws ok) e h t is)
