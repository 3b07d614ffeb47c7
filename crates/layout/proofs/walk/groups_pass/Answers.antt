use Rattle.std.proofs.Common.{◌≡◌, ◌<◌, rules, [], length, sym, ap, ◌∙◌, arith}
use Rattle.std.specs.List.{list_all}
use Rattle.std.specs.Simd.{first_chunks}
use Rattle.std.proofs.lemmas.Iterator.Search.{all_from_yields_List}
use Rattle.std.proofs.lemmas.List.{nil_from_length}
use Rattle.std.proofs.lemmas.Bool.{eqb-false}
use Rattle.layout.specs.Layout.{all_pass}
use Rattle.layout.proofs.Tests.{YieldsList-from_chunks, no_fields}
use Rattle.layout.proofs.walk.groups_pass.Goals as goal

pub returns-then-is_empty : goal.returns-then-is_empty
returns-then-is_empty g c =
    λ t k a long.
    let none : c.args.fields.now ≡ [] = nil_from_length c.args.fields.now (search rules) in
    c.if-is_empty.true ∙ sym (ap (λ fs. list_all (all_pass t fs) (first_chunks (length fs) k c.args.words.now)) none ∙ no_fields t k c.args.words.now)

pub returns-else-is_empty : goal.returns-else-is_empty
returns-else-is_empty g c =
    λ t k a long.
    let some : 0 < length c.args.fields.now = let ne = eqb-false (length c.args.fields.now) 0 (sym c.is_empty.ensures ∙ c.if-is_empty.false) in omega arith in
    all_from_yields_List (all_pass t c.args.fields.now) c.all.new.self _ c.all.result c.all.ensures.ran
    (YieldsList-from_chunks k (length c.args.fields.now) c.args.words.now some long c.chunks_exact.ensures.size c.chunks_exact.ensures.rest)
    (λ x b q h. (search rules, search rules))
