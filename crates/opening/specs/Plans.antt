-- The bench that a roster and a plan make.
use Rattle.std.specs.Prelude.{◌&&◌, if◌then◌else◌, Ok, Err, Result}
use Rattle.numbers.specs.Quorum.{majority_of}
use Rattle.orders.specs.Ranking.{Ranking}
use Rattle.roster.specs.declared.roster.Roster.{Roster}
use Rattle.rules.specs.declared.fault.BenchFault.{BenchFault}
use Rattle.rules.specs.declared.fault.BenchFault.TheVariants.{DelayOutOfRange, RoundOutOfRange, EditionOutOfRange}
use Rattle.rules.specs.Setup.{Bench}
use Rattle.rules.specs.Opening.{bench_of, within, serves}
use Rattle.terms.specs.declared.terms.Terms.{Terms}
use Rattle.opening.specs.declared.plan.Plan.{Plan}

-- a majority of its seats notarises a block
abbrev pub planned : Roster → Plan → Bench
planned ro p = bench_of ro p.delay p.rounds p.editions (majority_of ro.n)

-- the answer to opening bench b with a beacon that means m, before the tables are looked at
abbrev pub plan_answer : Bench → Ranking → Result (Unit {0}) BenchFault
plan_answer b m =
    if within b.delay 1000 then
    (if within b.rounds 256 && serves m b then
    (if within b.editions 8 then Ok tt
    else Err EditionOutOfRange) else Err RoundOutOfRange) else Err DelayOutOfRange

-- an answer that holds the numbers of the bench, without them
abbrev pub bare : Result Terms BenchFault → Result (Unit {0}) BenchFault
bare (Ok b) = Ok tt
bare (Err f) = Err f
