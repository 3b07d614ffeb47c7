use Rattle.std.proofs.Common.{◌≡◌, ◌+◌, ◌*◌, ◌&&◌, length, ◌∙◌, arith}
use Rattle.layout.specs.Layout.{groups}
use Rattle.layout.specs.declared.walk.Body.{Body}
use Rattle.layout.proofs.Bodies.{end_is}
use Rattle.layout.proofs.Tests.{and_not, and_then, answered, groups_do, groups_long, tail_passes}
use Rattle.layout.proofs.walk.Body.passes.Goals as goal
use Rattle.layout.proofs.walk.Body.passes.Goals.{then-all_pass, else-all_pass, then-groups_pass, else-groups_pass}

-- where a body ends, by the lengths of its shape
ends_at : (b : Body) → b.end ≡ b.at + 1 + length b.shape.now.head.now + length b.shape.now.group.now * groups b.words.now b.at + length b.shape.now.tail.now
ends_at b = b.ends ∙ end_is b.words.now b.at _ _ b.known b.laid

pub offset_bounds-self-groups_from : goal.offset_bounds-self-groups_from
offset_bounds-self-groups_from g c = omega (arith, ends_at c.args.self.now, c.args.self.now.whole)

pub slice_bounds-groups_pass-count : goal.slice_bounds-groups_pass-count
slice_bounds-groups_pass-count g c = omega (arith, ends_at c.args.self.now, c.args.self.now.whole)

pub slice_bounds-groups_pass-start : goal.slice_bounds-groups_pass-start
slice_bounds-groups_pass-start g c = omega (arith, ends_at c.args.self.now, c.args.self.now.whole)

pub returns : goal.returns
returns g c =
    λ t a.
    let b = c.args.self.now in
    let e = ends_at b in
    let long = groups_long t b.words.now b.at b.end _ b.laid e b.whole in
    let two : c.if-all_pass.value ≡ (c.all_pass.result && groups_do t b.words.now b.at b.end _ b.laid e b.whole) =
    elim c.if-all_pass.branch [
      | then-all_pass w ↦ and_then c.all_pass.result _ c.if-all_pass.value w.if-all_pass.true (w.value-is ∙ w.groups_pass.ensures t (groups b.words.now b.at) a long)
      | else-all_pass w ↦ and_not c.all_pass.result _ c.if-all_pass.value w.if-all_pass.false w.value-is
    ] in
    let all : c.if-groups_pass.result ≡ (c.if-all_pass.value && tail_passes t b.words.now b.at b.end _ b.laid e b.whole) =
    elim c.if-groups_pass.branch [
      | then-groups_pass w ↦ and_then c.if-all_pass.value _ c.if-groups_pass.result w.if-groups_pass.true (w.result-is ∙ w.all_pass-then-groups_pass.ensures t a)
      | else-groups_pass w ↦ and_not c.if-all_pass.value _ c.if-groups_pass.result w.if-groups_pass.false w.result-is
    ] in
    answered t b.words.now b.at b.end _ b.laid e b.whole c.all_pass.result c.if-all_pass.value c.if-groups_pass.result (c.all_pass.ensures t a) two all
