use Rattle.layout.proofs.Accepted.{loaded}
use Rattle.rules.proofs.Runs.{fit_never}
use Rattle.rules.proofs.laws.fit_never_refused.Goals as goal

pub returns : goal.returns
returns g c = fit_never _ (loaded c.args.book.now.words.now c.args.book.now.loaded)
