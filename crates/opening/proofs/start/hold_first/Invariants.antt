use Rattle.std.proofs.Common.{◌≡◌}
use Rattle.tables.specs.View.{rows_of, SameMemory}
use Rattle.opening.specs.Stages.{first_held}
use Rattle.opening.proofs.start.hold_first.Given as goal

abbrev pub invariant-loop-seat : goal.invariant-loop-seat
invariant-loop-seat g l = (rows_of l.t ≡ first_held (rows_of l.initial.t) l.seat) × SameMemory l.t l.initial.t
