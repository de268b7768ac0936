use Rattle.bench.proofs.Promises.{plays}
use Rattle.bench.proofs.calls.Bench+Live.sign.Goals as goal

pub returns : goal.returns
returns g c = rw (← c.self.view_is) (plays g.met.R.Record.idle_follows c.sign.ensures)
