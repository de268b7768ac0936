use Rattle.std.proofs.Common.{ap, rules}
use Rattle.rules.specs.Loops.{upto}
use Rattle.rules.specs.Setup.{setup_with}
use Rattle.tables.specs.View.{view, setup_of}
use Rattle.terms.specs.Numbers.{bench_of_terms}
use Rattle.ticking.proofs.Turns.{ended_more}
use Rattle.ticking.proofs.due.end_waits.Goals as goal

pub loop-seat-init : goal.loop-seat-init
unfolding upto
loop-seat-init g c = search rules

pub loop-seat-preserved : goal.loop-seat-preserved
loop-seat-preserved g c = (
  ended_more (setup_of c.args.terms c.args.t.now) (setup_of c.args.terms c.loop-seat.t) g.R.Record.kind
      (view c.args.terms c.args.t.now) (view c.args.terms c.loop-seat.t) (view c.args.terms c.end_if_due.new.t) c.loop-seat.seat
      (ap (setup_with (bench_of_terms c.args.terms)) c.loop-seat.invariant.1.order_rows) c.loop-seat.invariant.0 c.end_if_due.ensures.is,
  search rules,
)
