use Rattle.rules.proofs.Ledgers.{ledger_holds}
use Rattle.rules.proofs.laws.ledger_holds.Goals as goal

pub returns : goal.returns
returns g c = ledger_holds _
