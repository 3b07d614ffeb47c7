use Rattle.std.proofs.Common.{◌≡◌, ap, ◌∙◌, rules, arith}
use Rattle.std.proofs.lemmas.Iterator.{YieldsList-from_range, items_from_collect}
use borrow.Author.Tests.{tests}
use Rattle.behavior.specs.Rules.{behavior_at}
use Rattle.behavior.proofs.Kept.{YieldsList-from_map_keeping}
use Rattle.behavior.proofs.analysis.behaviors.Goals as goal

pub returns : goal.returns
returns c =
    let ws = c.args.book.now.words.now in
    rw (← c.entries.ensures)
    (items_from_collect _ c.collect.ensures.ran
    (YieldsList-from_map_keeping _ _ _ (λ f. f.0.now ≡ ws) (behavior_at ws) (λ f x r q k m. (search (rules, tests), search (rules, tests)))
    (YieldsList-from_range 0 c.entries.result c.entries.result c.map.ensures.source (omega arith))
    (ap (λ f. f.0.now) c.map.ensures.closure ∙ c.new-summaries.ensures)))
