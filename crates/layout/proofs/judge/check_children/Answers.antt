use Rattle.std.proofs.Common.{◌≡◌, ℕ, Bool, List, true, false, rules, None, Some, Err, sym, refl, ap, ◌∙◌, arith}
use Rattle.std.proofs.lemmas.Iterator.{first_from_Range}
use Rattle.layout.specs.Layout.{body_passes, entries, place}
use Rattle.layout.specs.Verdict.{answer, child_fault, child_fits, layout_fault, located}
use Rattle.layout.proofs.Firsts.{first_found}
use Rattle.layout.proofs.Refusals.{child_fine, child_wrong, each_first}
use Rattle.layout.proofs.judge.check_children.Goals as goal

-- whether the children of an entry pass, if its body has no fault
abbrev Fit : List ℕ → Bool → ℕ → Type 0
Fit ws b e = layout_fault ws e ≡ None → body_passes (child_fits ws e) ws (place ws e) ≡ b

pub returns-in-Some : goal.returns-in-Some
returns-in-Some c =
    let ws = c.args.draft.now.words.now in
    let e = c.in-Some.e in
    let n = c.entries.ensures in
    let h = first_from_Range _ c.find.new.self _ (Some e) (Fit ws false) (Fit ws true) c.in-Some.ensures.ran (λ x q k fine. search rules) (λ x q k. (search rules, λ fine. search rules)) in
    let wrong = child_wrong ws e _ refl (h.2 (c.requires e (omega (arith, h.1)))) in
    let found = first_found (λ k. located k (child_fault ws k)) (entries ws) 0 e _ (omega arith) (omega (arith, h.1))
    (λ k a b. ap (located k) (child_fine ws k _ refl (h.3 k a b (c.requires k (omega (arith, h.1))))))
    (ap (located e) wrong) in
    ap Err c.at.ensures ∙ sym (ap answer found)

pub returns-in-None : goal.returns-in-None
returns-in-None c =
    let ws = c.args.draft.now.words.now in
    let n = c.entries.ensures in
    let h = first_from_Range _ c.find.new.self _ None (Fit ws false) (Fit ws true) c.in-None.ensures.ran (λ x q k fine. search rules) (λ x q k. (search rules, λ fine. search rules)) in
    sym (ap answer (each_first (child_fault ws) (entries ws) 0 (λ k a b. child_fine ws k _ refl (h k a (omega arith) (c.requires k (omega arith))))))
