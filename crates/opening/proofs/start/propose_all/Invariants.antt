use Rattle.std.proofs.Common.{◌≡◌, []}
use Rattle.rules.specs.Setup.{setup_with}
use Rattle.tables.specs.View.{rows_of, SameMemory}
use Rattle.terms.specs.Numbers.{bench_of_terms}
use Rattle.opening.specs.Stages.{first_proposals}
use Rattle.opening.proofs.start.propose_all.Given as goal

abbrev pub invariant-loop-seat : goal.invariant-loop-seat
invariant-loop-seat g l =
    (rows_of l.t ≡ first_proposals (setup_with (bench_of_terms l.terms) []) g.R.Record.kind (rows_of l.initial.t) l.seat) × SameMemory l.t l.initial.t
