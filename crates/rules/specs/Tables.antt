-- The tables of a bench: their rows, reading them, and tables with one of the lists replaced.
use Rattle.std.specs.Prelude.{ℕ, zero, suc, ◌+◌, ◌*◌, Bool, true, false, if◌then◌else◌, List, length, None, Option, ◌==◌, is_some, slice_index_or, unwrap_or}
use Rattle.records.specs.Kind.{Kind}
use Rattle.rules.specs.declared.rows.Phase.{Phase}
use Rattle.rules.specs.declared.rows.Phase.TheVariants.{Waiting, Voting, Resting}
use Rattle.rules.specs.declared.rows.BlockRow.{BlockRow}
use Rattle.rules.specs.declared.rows.SeatRow.{SeatRow}
use Rattle.rules.specs.declared.rows.ReceivedRow.{ReceivedRow}
use Rattle.rules.specs.declared.rows.VoteRow.{VoteRow}
use Rattle.rules.specs.declared.rows.CertificateRow.{CertificateRow}
use Rattle.rules.specs.Setup.{Bench, Setup, setup_with, block_rows}

-- the clock of a bench and the eight tables that its caller lends; A is the record type
pub record Tables (A : Type 0) : Type 0 where
  pub clock : ℕ
  pub blocks : List BlockRow  -- for each block
  pub records : List A  -- for each block
  pub orders : List (List ℕ)  -- for each round the ranks of the seats; row of round r: r - 1
  pub drafts : List (Option A)  -- for each seat the record that it is to propose, if there is one
  pub seats : List SeatRow  -- for each seat
  pub received : List ReceivedRow  -- row of block b and seat i: b * n + i
  pub votes : List VoteRow  -- likewise
  pub certificates : List CertificateRow  -- row of seat i and round r: i * R + r - 1

-- the setup of a bench with these tables
abbrev pub setup_at : {A : Type 0} → Bench → Tables A → Setup
setup_at b t = setup_with b t.orders

-- the rows that a table starts from; they also stand for what lies past the end of a table
abbrev pub no_block : BlockRow
no_block = record { made = false; parent = 0; carried = 0 }

abbrev pub no_seat : SeatRow
no_seat = record { round = 0; phase = Resting; head = 0 }

abbrev pub nothing_received : ReceivedRow
nothing_received = record { held = false; signers = 0 }

abbrev pub no_vote : VoteRow
no_vote = record { sent = None }

abbrev pub no_certificate : CertificateRow
no_certificate = record { block = 0; signers = 0; tick = 0 }

-- the seat has signed the block ..
abbrev pub has_signed : VoteRow → Bool
has_signed a = is_some a.sent

-- .. at this tick; 0 if it has not
abbrev pub signing_tick : VoteRow → ℕ
signing_tick a = unwrap_or a.sent 0

abbrev pub is_waiting : Phase → Bool
is_waiting Waiting = true
is_waiting Voting = false
is_waiting Resting = false

-- reading a row
module _ {A : Type 0} where
  abbrev pub block_at : Tables A → ℕ → BlockRow
  block_at t b = slice_index_or t.blocks b no_block

  abbrev pub record_at : Kind A → Tables A → ℕ → A
  record_at K t b = slice_index_or t.records b K.first

  abbrev pub draft_at : Tables A → ℕ → Option A
  draft_at t i = slice_index_or t.drafts i None

  abbrev pub seat_at : Tables A → ℕ → SeatRow
  seat_at t i = slice_index_or t.seats i no_seat

  -- block b is valid: its record follows its parent's
  abbrev pub valid : Kind A → Tables A → ℕ → Bool
  valid K t b = K.follows (record_at K t b) (record_at K t (block_at t b).parent)

module _ {A : Type 0} (s : Setup) where
  -- what seat i has received of block b
  abbrev pub received_at : Tables A → ℕ → ℕ → ReceivedRow
  received_at t i b = slice_index_or t.received (b * s.n + i) nothing_received

  -- the signature of seat i on block b
  abbrev pub vote_at : Tables A → ℕ → ℕ → VoteRow
  vote_at t i b = slice_index_or t.votes (b * s.n + i) no_vote

  -- the certificate with which seat i left round r
  abbrev pub certificate_at : Tables A → ℕ → ℕ → CertificateRow
  certificate_at t i zero = no_certificate
  certificate_at t i (suc r) = slice_index_or t.certificates (i * s.rounds + r) no_certificate

  -- the tick at which seat i entered round r: that of its certificate of the round before, and 0 for round 1
  abbrev pub entered_at : Tables A → ℕ → ℕ → ℕ
  entered_at t i zero = 0
  entered_at t i (suc zero) = 0
  entered_at t i (suc (suc r)) = (slice_index_or t.certificates (i * s.rounds + r) no_certificate).tick

  -- every table has the length required
  unfoldable pub fits : Tables A → Bool
  fits t =
      if length t.blocks == block_rows s then (
      if length t.records == block_rows s then (
      if length t.orders == s.rounds then (
      if length t.drafts == s.n then (
      if length t.seats == s.n then (
      if length t.received == block_rows s * s.n then (
      if length t.votes == block_rows s * s.n then length t.certificates == s.n * s.rounds else false) else false) else false) else false) else false) else false) else false

-- the tables with some lists replaced; no call replaces the order rows
module _ {A : Type 0} where
  abbrev pub with_blocks : Tables A → List BlockRow → List A → Tables A
  with_blocks t x y = record t { blocks = x; records = y }

  abbrev pub with_drafts : Tables A → List (Option A) → Tables A
  with_drafts t x = record t { drafts = x }

  abbrev pub with_seats : Tables A → List SeatRow → Tables A
  with_seats t x = record t { seats = x }

  abbrev pub with_received : Tables A → List ReceivedRow → Tables A
  with_received t x = record t { received = x }

  abbrev pub with_votes : Tables A → List VoteRow → List ReceivedRow → Tables A
  with_votes t x y = record t { votes = x; received = y }

  -- the clock one tick later
  abbrev pub next_tick : Tables A → Tables A
  next_tick t = record t { clock = suc t.clock }
