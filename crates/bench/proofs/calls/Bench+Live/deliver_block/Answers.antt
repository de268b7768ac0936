use Rattle.bench.proofs.Promises.{plays}
use Rattle.bench.proofs.calls.Bench+Live.deliver_block.Goals as goal

pub returns : goal.returns
returns g c = rw (← c.self.view_is) (plays g.met.R.Record.idle_follows c.deliver_block.ensures)
