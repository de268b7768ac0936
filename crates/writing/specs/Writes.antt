-- The tables after one row was written.
use Rattle.std.specs.Prelude.{ℕ, ◌+◌, ◌*◌, Option, slice_set}
use Rattle.rules.specs.declared.rows.BlockRow.{BlockRow}
use Rattle.rules.specs.declared.rows.SeatRow.{SeatRow}
use Rattle.rules.specs.declared.rows.CertificateRow.{CertificateRow}
use Rattle.rules.specs.Setup.{Setup}
use Rattle.rules.specs.Tables.{Tables, received_at, vote_at, with_blocks, with_drafts, with_seats, with_received, with_votes}
use Rattle.rules.specs.Holding.{hold_row}
use Rattle.rules.specs.Seat.{vote_row}

module _ {A : Type 0} where
  abbrev pub with_block_row : Tables A → ℕ → BlockRow → Tables A
  with_block_row t b x = with_blocks t (slice_set t.blocks b x) t.records

  abbrev pub with_record : Tables A → ℕ → A → Tables A
  with_record t b x = with_blocks t t.blocks (slice_set t.records b x)

  abbrev pub with_draft : Tables A → ℕ → Option A → Tables A
  with_draft t i x = with_drafts t (slice_set t.drafts i x)

  abbrev pub with_seat : Tables A → ℕ → SeatRow → Tables A
  with_seat t i x = with_seats t (slice_set t.seats i x)

module _ {A : Type 0} (s : Setup) where
  -- the certificate of seat i for round r + 1
  abbrev pub with_certificate : Tables A → ℕ → ℕ → CertificateRow → Tables A
  with_certificate t i r x = record {
    clock = t.clock;
    blocks = t.blocks;
    records = t.records;
    orders = t.orders;
    drafts = t.drafts;
    seats = t.seats;
    received = t.received;
    votes = t.votes;
    certificates = slice_set t.certificates (i * s.rounds + r) x;
  }

  -- seat i has signed block b, now or earlier
  abbrev pub with_vote : Tables A → ℕ → ℕ → Tables A
  with_vote t i b = with_votes t (slice_set t.votes (b * s.n + i) (vote_row t.clock (vote_at s t i b))) t.received

  -- seat i holds block b
  abbrev pub holds : Tables A → ℕ → ℕ → Tables A
  holds t i b = with_received t (slice_set t.received (b * s.n + i) (hold_row (received_at s t i b)))
