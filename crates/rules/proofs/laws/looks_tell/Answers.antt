use Rattle.rules.proofs.Looking.{looks_tell}
use Rattle.rules.proofs.laws.looks_tell.Goals as goal

pub returns : goal.returns
returns g c = looks_tell _
