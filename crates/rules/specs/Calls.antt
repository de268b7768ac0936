-- The calls that drive a bench. Each tests its refusals in the order of their numbers and answers the first that applies;
-- a refused call changes nothing.
use Rattle.std.specs.Prelude.{ℕ, suc, ◌+◌, ◌-◌, ◌*◌, ◌^◌, Bool, true, false, if◌then◌else◌, Some, Ok, Err, Result, ◌==◌, count_ones, nat_le, nat_lt, slice_set}
use Rattle.numbers.specs.Numbering.{number_of}
use Rattle.records.specs.Kind.{Kind}
use Rattle.rules.specs.declared.fault.BenchFault.{BenchFault}
use Rattle.rules.specs.declared.fault.BenchFault.TheVariants.{NoSuchSeat, SeatIsByzantine, SeatIsHonest, RoundOutOfRange, EditionOutOfRange, TableLength, NoSuchBlock, NeverSent, NothingNew, WrongParent, MessageOverdue, ClockStopped}
use Rattle.rules.specs.Loops.{upto}
use Rattle.rules.specs.Setup.{Setup, honest, block_round}
use Rattle.rules.specs.Tables.{Tables, has_signed, block_at, seat_at, received_at, vote_at, certificate_at, entered_at, fits, is_waiting, with_drafts, with_votes, next_tick}
use Rattle.rules.specs.Holding.{takes_in, receives, has_vote, has_certificate, signers}
use Rattle.rules.specs.Seat.{with_block, react, end_wait}
use Rattle.rules.specs.Overdue.{certificate_sent, overdue}

-- what a call answers, and the tables after it
pub record Outcome (A : Type 0) : Type 0 where
  pub answer : Result (Unit {0}) BenchFault
  pub tables : Tables A

abbrev pub refused : {A : Type 0} → BenchFault → Tables A → Outcome A
refused f t = record { answer = Err f; tables = t }

abbrev pub done : {A : Type 0} → Tables A → Outcome A
done t = record { answer = Ok tt; tables = t }

-- the wait of seat i is due to end: 2 Δ after it entered its round
abbrev pub wait_due : {A : Type 0} → Setup → Tables A → ℕ → Bool
wait_due s t i =
    if honest s i then (
    if is_waiting (seat_at t i).phase then nat_le (entered_at s t i (seat_at t i).round + 2 * s.delay) t.clock else false) else false

module _ {A : Type 0} (s : Setup) (K : Kind A) where
  abbrev pub end_due : ℕ → Tables A → Tables A
  end_due i t = if wait_due s t i then end_wait s K t i else t

  -- a tick: the clock moves on, and then the waits that are due end, in rising seat order
  unfoldable pub tick : Tables A → Outcome A
  tick t =
      if fits s t then (
      if overdue s t then refused MessageOverdue t else (
      if nat_lt t.clock 8000000 then done (upto end_due (next_tick t) s.n)
      else refused ClockStopped t)) else refused TableLength t

  -- seat i is offered the draft d, in place of the one it has
  unfoldable pub offer : ℕ → A → Tables A → Outcome A
  offer i d t =
      if nat_lt i s.n then (
      if honest s i then (
      if fits s t then done (with_drafts t (slice_set t.drafts i (Some d)))
      else refused TableLength t) else refused SeatIsByzantine t) else refused NoSuchSeat t

  -- seat j gets block b, and reacts
  unfoldable pub deliver_block : ℕ → ℕ → Tables A → Outcome A
  deliver_block j b t =
      if nat_lt j s.n then (
      if honest s j then (
      if fits s t then (
      if (block_at t b).made then (
      if (received_at s t j b).held then refused NothingNew t
      else done (react s K (takes_in s t j b) j))
      else refused NoSuchBlock t) else refused TableLength t) else refused SeatIsByzantine t) else refused NoSuchSeat t

  -- seat j gets the vote of seat i for block b, with the block, and reacts
  unfoldable pub deliver_vote : ℕ → ℕ → ℕ → Tables A → Outcome A
  deliver_vote i j b t =
      if nat_lt i s.n then (
      if nat_lt j s.n then (
      if honest s j then (
      if fits s t then (
      if (block_at t b).made then (
      if has_signed (vote_at s t i b) then (
      if has_vote s t i b j then refused NothingNew t
      else done (react s K (receives s (takes_in s t j b) j b (2 ^ i)) j))
      else refused NeverSent t) else refused NoSuchBlock t) else refused TableLength t) else refused SeatIsByzantine t) else refused NoSuchSeat t) else refused NoSuchSeat t

  -- seat j gets the certificate of seat i for round r + 1, if it was sent, with its block and its signatures, and reacts
  abbrev pub deliver_sent : ℕ → ℕ → ℕ → Tables A → Outcome A
  deliver_sent i j r t =
      let c = (certificate_at s t i (suc r)).block in
      let m = (certificate_at s t i (suc r)).signers in
      if certificate_sent s t i r then (
      if has_certificate s t c m j then refused NothingNew t
      else done (react s K (receives s (takes_in s t j c) j c m) j))
      else refused NeverSent t

  -- seat j gets the certificate of seat i for round r
  unfoldable pub deliver_certificate : ℕ → ℕ → ℕ → Tables A → Outcome A
  deliver_certificate i j r t =
      if nat_lt i s.n then (
      if nat_lt j s.n then (
      if honest s j then (
      if fits s t then (
      if (if nat_lt 0 r then nat_le r s.rounds else false) then deliver_sent i j (r - 1) t
      else refused NeverSent t) else refused TableLength t) else refused SeatIsByzantine t) else refused NoSuchSeat t) else refused NoSuchSeat t

  -- Byzantine seat i makes its block of round r and edition e, on the parent p and with the record x. It carries all
  -- signatures that exist on p.
  unfoldable pub plant : ℕ → ℕ → ℕ → ℕ → A → Tables A → Outcome A
  plant i r e p x t =
      let b = number_of s.n s.editions r i e in
      if nat_lt i s.n then (
      if honest s i then refused SeatIsHonest t else (
      if (if nat_lt 0 r then nat_le r s.rounds else false) then (
      if nat_lt e s.editions then (
      if fits s t then (
      if (block_at t p).made then (
      if (block_at t b).made then refused NothingNew t else (
      if (if suc (block_round s p) == r then (if p == 0 then true else nat_le s.quorum (count_ones (signers s t p))) else false) then
      done (takes_in s (with_block t b p (signers s t p) x) i b)
      else refused WrongParent t)) else refused NoSuchBlock t) else refused TableLength t) else refused EditionOutOfRange t) else refused RoundOutOfRange t)) else refused NoSuchSeat t

  -- Byzantine seat i signs block b
  unfoldable pub sign : ℕ → ℕ → Tables A → Outcome A
  sign i b t =
      if nat_lt i s.n then (
      if honest s i then refused SeatIsHonest t else (
      if fits s t then (
      if (if nat_lt 0 b then (block_at t b).made else false) then (
      if has_signed (vote_at s t i b) then refused NothingNew t
      else done (receives s (takes_in s (with_votes t (slice_set t.votes (b * s.n + i) (record { sent = Some t.clock })) t.received) i b) i b (2 ^ i)))
      else refused NoSuchBlock t) else refused TableLength t)) else refused NoSuchSeat t
