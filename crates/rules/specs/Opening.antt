-- Opening a bench: its refusals, and the tables after it.
use Rattle.std.specs.Prelude.{ℕ, ◌+◌, ◌*◌, Bool, true, false, if◌then◌else◌, ◌∷◌, replicate, None, Ok, Err, Result, ◌==◌, nat_le, nat_lt}
use Rattle.orders.specs.Ranking.{Ranking}
use Rattle.orders.specs.Rows.{order_rows}
use Rattle.records.specs.Kind.{Kind}
use Rattle.roster.specs.declared.roster.Roster.{Roster}
use Rattle.rules.specs.declared.fault.BenchFault.{BenchFault}
use Rattle.rules.specs.declared.fault.BenchFault.TheVariants.{DelayOutOfRange, RoundOutOfRange, EditionOutOfRange, TableLength}
use Rattle.rules.specs.declared.rows.BlockRow.{BlockRow}
use Rattle.rules.specs.declared.rows.Phase.TheVariants.{Waiting}
use Rattle.rules.specs.Loops.{writes}
use Rattle.rules.specs.Setup.{Bench, Setup, setup_with, honest, own_block, block_rows}
use Rattle.rules.specs.Tables.{Tables, setup_at, fits, no_block, nothing_received, no_vote, no_certificate}
use Rattle.rules.specs.Holding.{hold_row}
use Rattle.rules.specs.Calls.{Outcome}

-- the bench of a roster
abbrev pub bench_of : Roster → ℕ → ℕ → ℕ → ℕ → Bench
bench_of ro delay rounds editions quorum = record {
  n = ro.n;
  marks = ro.marks;
  delay = delay;
  rounds = rounds;
  editions = editions;
  quorum = quorum;
}

-- from 1 to a limit
abbrev pub within : ℕ → ℕ → Bool
within x limit = if nat_lt 0 x then nat_le x limit else false

-- a beacon with this meaning serves a bench: it has the seat count, and covers the rounds
abbrev pub serves : Ranking → Bench → Bool
serves m b = if m.seats == b.n then nat_le b.rounds m.rounds else false

-- the answer to opening bench b with a beacon that means m, on the tables t of the caller
unfoldable pub open_answer : {A : Type 0} → Bench → Ranking → Tables A → Result (Unit {0}) BenchFault
open_answer b m t =
    if within b.delay 1000 then (
    if (if within b.rounds 256 then serves m b else false) then (
    if within b.editions 8 then (
    if fits (setup_at b t) t then Ok tt
    else Err TableLength) else Err EditionOutOfRange) else Err RoundOutOfRange) else Err DelayOutOfRange

-- block 0, and the blocks of round 1, which stand on it
abbrev pub first_block : BlockRow
first_block = record { made = true; parent = 0; carried = 0 }

-- The tables as an opening fills them. Each honest seat has entered round 1 at tick 0 and proposed the idle record; it holds
-- block 0, as all seats do, and its own block.
unfoldable pub opened_tables : {A : Type 0} → Setup → Kind A → Tables A
opened_tables s K = record {
  clock = 0;
  blocks = writes (honest s) (λ i. own_block s i 1) (λ a. first_block) no_block (first_block ∷ replicate (s.rounds * s.n * s.editions) no_block) s.n;
  records = writes (honest s) (λ i. own_block s i 1) (λ a. K.idle K.first) K.first (replicate (block_rows s) K.first) s.n;
  orders = s.orders;
  drafts = replicate s.n None;
  seats = replicate s.n (record { round = 1; phase = Waiting; head = 0 });
  received = writes (honest s) (λ i. own_block s i 1 * s.n + i) hold_row nothing_received
      (writes (λ i. true) (λ i. i) hold_row nothing_received (replicate (block_rows s * s.n) nothing_received) s.n) s.n;
  votes = replicate (block_rows s * s.n) no_vote;
  certificates = replicate (s.n * s.rounds) no_certificate;
}

-- the tables after an accepted opening: the order rows are copied out from the beacon
abbrev pub opened : {A : Type 0} → Bench → Ranking → Kind A → Tables A
opened b m K = opened_tables (setup_with b (order_rows m b.rounds)) K

-- an opening, accepted or refused
abbrev pub tables_by : {A : Type 0} → Result (Unit {0}) BenchFault → Tables A → Tables A → Tables A
tables_by (Ok u) new old = new
tables_by (Err f) new old = old

abbrev pub opening : {A : Type 0} → Bench → Ranking → Kind A → Tables A → Outcome A
opening b m K t = record { answer = open_answer b m t; tables = tables_by (open_answer b m t) (opened b m K) t }
