use Rattle.tables.specs.View.{rows_of}
use Rattle.bench.proofs.Beginning.{begins}
use Rattle.bench.proofs.open.Bench+Live.open.Goals as goal

pub returns-in-Ok-clause-laws : goal.returns-in-Ok-clause-laws
returns-in-Ok-clause-laws g c = begins g.R.Record.kind g.met.R.Record.idle_follows c.args.roster c.args.plan (g.B.Beacon.ranking c.args.beacon.now)
    (g.met.B.Beacon.lawful c.args.beacon.now) (rows_of c.args.t.now) c.open_tables.new.t c.in-Ok.terms c.in-Ok.ensures.is c.in-Ok.ensures.terms
