use Rattle.laws.proofs.InTime.{every_run_is_in_time}
use Rattle.laws.proofs.in_time.every_run_is_in_time.Goals as goal

pub returns-clause-in_time : goal.returns-clause-in_time
returns-clause-in_time g c = every_run_is_in_time g.R.Record.kind g.met.R.Record.idle_follows
