use Rattle.std.proofs.Common.{ℕ, refl, rules}
use Rattle.std.specs.Bool.{◌==◌}
use Rattle.std.proofs.lemmas.Iterator.Consumers.{YieldsList-from_first}
use Rattle.std.proofs.lemmas.Iterator.Search.{any_from_yields_List}
use borrow.Author.Tests.{tests}
use Rattle.behavior.proofs.summary.has_default.Goals as goal

pub returns : goal.returns
returns c =
    any_from_yields_List (λ (p : ℕ × ℕ). p.0 == 0) _ _ _ c.any.ensures.ran (YieldsList-from_first (λ x. x) (λ s. s) c.args.clauses refl)
    (λ x b q k. search (rules, tests))
