use Rattle.std.proofs.Common.{rules}
use Rattle.std.proofs.lemmas.Iterator.{YieldsList-from_slice, YieldsList-from_zip}
use Rattle.std.proofs.lemmas.Iterator.Search.{all_from_yields_List}
use Rattle.layout.proofs.walk.all_pass.Goals as goal

pub returns : goal.returns
returns g c =
    λ t a. all_from_yields_List (λ p. t p.0 p.1) c.all.new.self _ c.all.result c.all.ensures.ran
    (YieldsList-from_zip (YieldsList-from_slice c.args.fields.now cc) (YieldsList-from_slice c.args.words.now cc))
    (λ x b q k. (search rules, a _ _ _ (search rules)))
