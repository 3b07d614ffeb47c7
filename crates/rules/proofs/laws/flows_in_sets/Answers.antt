use Rattle.layout.proofs.Accepted.{loaded}
use Rattle.rules.proofs.Runs.{flows_in_sets}
use Rattle.rules.proofs.laws.flows_in_sets.Goals as goal

pub returns : goal.returns
returns g c = flows_in_sets _ (loaded c.args.book.now.words.now c.args.book.now.loaded)
