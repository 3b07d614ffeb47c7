use Rattle.layout.proofs.Accepted.{loaded}
use Rattle.rules.proofs.Runs.{never_astray}
use Rattle.rules.proofs.laws.never_astray.Goals as goal

pub returns : goal.returns
returns g c = never_astray _ (loaded c.args.book.now.words.now c.args.book.now.loaded)
