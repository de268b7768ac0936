-- What an opening answers.
use Rattle.std.specs.Prelude.{Ok, Err, Result}
use Rattle.rules.specs.declared.fault.BenchFault.{BenchFault}
use Rattle.bench.specs.declared.live.Bench.{Bench}
use Rattle.bench.specs.declared.live.Live.{Live}
use Rattle.bench.specs.declared.unopened.Unopened.{Unopened}

-- without the bench or the roster that it holds
abbrev pub open_outcome : Result (Bench Live) Unopened → Result (Unit {0}) BenchFault
open_outcome (Ok b) = Ok tt
open_outcome (Err u) = Err u.fault
