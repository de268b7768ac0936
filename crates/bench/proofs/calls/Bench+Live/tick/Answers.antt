use Rattle.bench.proofs.Promises.{plays}
use Rattle.bench.proofs.calls.Bench+Live.tick.Goals as goal

pub returns : goal.returns
returns g c = rw (← c.self.view_is) (plays g.met.R.Record.idle_follows
    (record { is = c.tick.ensures.is; bench = c.tick.ensures.bench; same = c.tick.ensures.same }))
