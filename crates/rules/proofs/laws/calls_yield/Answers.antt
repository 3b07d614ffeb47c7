use Rattle.rules.proofs.Yielding.{calls_yield}
use Rattle.rules.proofs.laws.calls_yield.Goals as goal

pub returns : goal.returns
returns g c = calls_yield _ (g.met.H.Values.lawful c.args.host.now)
