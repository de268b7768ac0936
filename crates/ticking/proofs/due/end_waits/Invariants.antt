use Rattle.std.proofs.Common.{◌≡◌}
use Rattle.rules.specs.Loops.{upto}
use Rattle.rules.specs.Calls.{end_due}
use Rattle.tables.specs.View.{view, setup_of, SameMemory}
use Rattle.ticking.proofs.due.end_waits.Given as goal

abbrev pub invariant-loop-seat : goal.invariant-loop-seat
invariant-loop-seat g l =
    (view l.terms l.t ≡ upto (end_due (setup_of l.terms l.initial.t) g.R.Record.kind) (view l.terms l.initial.t) l.seat)
    × SameMemory l.t l.initial.t
