use Rattle.std.proofs.Common.{◌≡◌, ◌*◌, is_some, Some, length, sym, ap, ◌∙◌, arith}
use Rattle.layout.specs.Layout as layout
use Rattle.layout.specs.Verdict.{located}
use Rattle.layout.proofs.Bodies.{body_short, end_is, groups_none, groups-some}
use Rattle.layout.proofs.walk.Draft.body.Goals as goal
use Rattle.layout.proofs.walk.Draft.body.Goals.{in-empty, in_default-group}

pub returns-then-words-end : goal.returns-then-words-end
returns-then-words-end c =
    let ws = c.args.self.now.words.now in
    let p = c.args.at in
    let h = c.in-Some.ensures in
    let g : c.if-shape-lt1.groups ≡ layout.groups ws p =
    elim c.if-shape-lt1.branch [
      | in-empty w ↦ w.groups-is ∙ sym (groups_none ws p _ h.1 w.in-empty.len_below)
      | in_default-group w ↦ w.groups-is ∙ w.word.ensures ∙ sym (groups-some ws p _ h.1 w.in_default-group.len_at_least)
    ] in
    let e = end_is ws p _ _ h.0 h.1 in
    let m = ap (λ k. length c.in-Some.shape.now.group.now * k) g in
    ap (located c.args.e) (body_short ws p (omega arith) (ap is_some h.0) (omega arith)) ∙ ap Some (sym c.at-then-words-end.ensures)

pub invariant_of-result : goal.invariant_of-result
invariant_of-result c =
    let ws = c.args.self.now.words.now in
    let p = c.args.at in
    let h = c.in-Some.ensures in
    let g : c.if-shape-lt1.groups ≡ layout.groups ws p =
    elim c.if-shape-lt1.branch [
      | in-empty w ↦ w.groups-is ∙ sym (groups_none ws p _ h.1 w.in-empty.len_below)
      | in_default-group w ↦ w.groups-is ∙ w.word.ensures ∙ sym (groups-some ws p _ h.1 w.in_default-group.len_at_least)
    ] in
    let e = end_is ws p _ _ h.0 h.1 in
    let m = ap (λ k. length c.in-Some.shape.now.group.now * k) g in
    record { known = h.0; laid = h.1; ends = omega arith; whole = omega arith }
