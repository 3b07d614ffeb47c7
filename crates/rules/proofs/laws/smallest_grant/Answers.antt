use Rattle.rules.proofs.Granted.{smallest_grants}
use Rattle.rules.proofs.laws.smallest_grant.Goals as goal

pub returns : goal.returns
returns g c = smallest_grants _
