-- A bench of one honest seat with Δ = 1, two rounds and one edition, and heat records, driven by six ticks.
use Rattle.std.specs.Prelude.{◌≡◌, List, [], ◌∷◌, Ok, Err, Result}
use Rattle.numbers.specs.Quorum.{majority_of}
use Rattle.orders.specs.Wheel.{wheel_ranking}
use Rattle.records.specs.declared.heat.Heat.{Heat}
use Rattle.records.specs.Heat.{heat_kind}
use Rattle.records.specs.Kind.{Kind}
use Rattle.rules.specs.declared.fault.BenchFault.{BenchFault}
use Rattle.rules.specs.declared.fault.BenchFault.TheVariants.{SeatIsHonest}
use Rattle.rules.specs.declared.rows.Phase.TheVariants.{Resting}
use Rattle.rules.specs.Setup.{Bench}
use Rattle.rules.specs.Tables.{Tables, block_at, seat_at}
use Rattle.rules.specs.Opening.{open_answer, opened}
use Rattle.rules.specs.Runs.{Call, call, after}
use Rattle.rules.specs.Runs.Call.{tick_call, sign_call}

abbrev pub one_seat : Bench
one_seat = record { n = 1; marks = 0; delay = 1; rounds = 2; editions = 1; quorum = majority_of 1 }

abbrev pub start : Tables Heat
start = opened one_seat (wheel_ranking 1) heat_kind

abbrev pub six_ticks : List (Call Heat)
six_ticks = tick_call ∷ tick_call ∷ tick_call ∷ tick_call ∷ tick_call ∷ tick_call ∷ []

-- what the calls of a run answer
unfoldable pub answers : {A : Type 0} → Bench → Kind A → List (Call A) → Tables A → List (Result (Unit {0}) BenchFault)
answers b K [] t = []
answers b K (c ∷ cs) t = (call b K c t).answer ∷ answers b K cs (call b K c t).tables

-- tables of the lengths required are accepted, and so are all six ticks
abbrev pub AllAccepted : Type 0
AllAccepted = (open_answer one_seat (wheel_ranking 1) start ≡ Ok tt) × (answers one_seat heat_kind six_ticks start ≡ Ok tt ∷ Ok tt ∷ Ok tt ∷ Ok tt ∷ Ok tt ∷ Ok tt ∷ [])

-- the seat rests in round 3, and its final chain is 0 1: block 1 is its head, and block 0 is the parent of block 1
abbrev pub FinalChainReached : Type 0
FinalChainReached = (seat_at (after one_seat heat_kind six_ticks start) 0 ≡ record { round = 3; phase = Resting; head = 1 })
    × ((block_at (after one_seat heat_kind six_ticks start) 1).parent ≡ 0)

-- a signature in the name of the honest seat is then refused
abbrev pub SignatureRefused : Type 0
SignatureRefused = (call one_seat heat_kind (sign_call 0 1) (after one_seat heat_kind six_ticks start)).answer ≡ Err SeatIsHonest
