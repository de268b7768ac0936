-- The refusals of an opening: those of its numbers, and then the lengths of the tables.
use Rattle.std.proofs.Common.{◌≡◌, Bool, true, false, cond, ◌&&◌, if◌then◌else◌, Ok, Err, Result, refl}
use Rattle.orders.specs.Ranking.{Ranking}
use Rattle.rules.specs.declared.fault.BenchFault.{BenchFault}
use Rattle.rules.specs.declared.fault.BenchFault.TheVariants.{DelayOutOfRange, RoundOutOfRange, EditionOutOfRange, TableLength}
use Rattle.rules.specs.Setup.{Bench}
use Rattle.rules.specs.Tables.{Tables, setup_at, fits}
use Rattle.rules.specs.Opening.{within, serves, open_answer}
use Rattle.opening.specs.Plans.{plan_answer}

-- a first check and, if it refuses nothing, a second
abbrev pub checked : Result (Unit {0}) BenchFault → Result (Unit {0}) BenchFault → Result (Unit {0}) BenchFault
checked (Ok u) y = y
checked (Err f) y = Err f

four : (x y v z : Bool) (w : Result (Unit {0}) BenchFault)
    → cond x (cond (cond y v false) (cond z w (Err EditionOutOfRange)) (Err RoundOutOfRange)) (Err DelayOutOfRange)
    ≡ checked (if x then (if y && v then (if z then Ok tt else Err EditionOutOfRange) else Err RoundOutOfRange) else Err DelayOutOfRange) w
four true true true true w = refl
four true true true false w = refl
four true true false z w = refl
four true false v z w = refl
four false y v z w = refl

pub open_is : {A : Type 0} (b : Bench) (m : Ranking) (t : Tables A)
    → open_answer b m t ≡ checked (plan_answer b m) (cond (fits (setup_at b t) t) (Ok tt) (Err TableLength))
unfolding open_answer
open_is b m t =
    four (within b.delay 1000) (within b.rounds 256) (serves m b) (within b.editions 8)
    (cond (fits (setup_at b t) t) (Ok tt) (Err TableLength))
