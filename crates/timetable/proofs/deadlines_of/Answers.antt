use Rattle.timetable.proofs.Promised.{round_over, leader_final}
use Rattle.timetable.proofs.deadlines_of.Goals as goal

-- whatever is answered, the promises are those of every run
pub returns-then-not-contains-clause-over : goal.returns-then-not-contains-clause-over
returns-then-not-contains-clause-over g c = round_over g.R.Record.kind c.args.roster.now c.args.delay c.args.round g.met.R.Record.idle_follows

pub returns-then-not-contains-clause-leader_final : goal.returns-then-not-contains-clause-leader_final
returns-then-not-contains-clause-leader_final g c = leader_final g.R.Record.kind c.args.roster.now c.args.delay c.args.round g.met.R.Record.idle_follows

pub returns-then-not-contains-2-clause-over : goal.returns-then-not-contains-2-clause-over
returns-then-not-contains-2-clause-over g c = round_over g.R.Record.kind c.args.roster.now c.args.delay c.args.round g.met.R.Record.idle_follows

pub returns-then-not-contains-2-clause-leader_final : goal.returns-then-not-contains-2-clause-leader_final
returns-then-not-contains-2-clause-leader_final g c = leader_final g.R.Record.kind c.args.roster.now c.args.delay c.args.round g.met.R.Record.idle_follows

pub returns-clause-over : goal.returns-clause-over
returns-clause-over g c = round_over g.R.Record.kind c.args.roster.now c.args.delay c.args.round g.met.R.Record.idle_follows

pub returns-clause-leader_final : goal.returns-clause-leader_final
returns-clause-leader_final g c = leader_final g.R.Record.kind c.args.roster.now c.args.delay c.args.round g.met.R.Record.idle_follows
