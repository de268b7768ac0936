-- What an accepted call does.
use Rattle.std.specs.Prelude.{ℕ, ◌+◌, ◌*◌, ◌^◌, Some, set}
use Rattle.records.specs.Kind.{Kind}
use Rattle.rules.specs.Setup.{Setup}
use Rattle.rules.specs.Tables.{Tables, with_votes}
use Rattle.rules.specs.Holding.{takes_in, receives, signers}
use Rattle.rules.specs.Seat.{with_block}
use Rattle.reacting.specs.Parts.{seat_reacts}

module _ {A : Type 0} (s : Setup) where
  -- seat j has taken in block b, and has reacted
  abbrev pub block_taken : Kind A → Tables A → ℕ → ℕ → Tables A
  block_taken K t j b = seat_reacts s K (takes_in s t j b) j

  -- seat j has taken in block b with the signatures m on it, and has reacted
  abbrev pub message_taken : Kind A → Tables A → ℕ → ℕ → ℕ → Tables A
  message_taken K t j b m = seat_reacts s K (receives s (takes_in s t j b) j b m) j

  -- seat i has made block b on p with the record x
  abbrev pub planted : Tables A → ℕ → ℕ → ℕ → A → Tables A
  planted t i b p x = takes_in s (with_block t b p (signers s t p) x) i b

  -- seat i has signed block b
  abbrev pub signed : Tables A → ℕ → ℕ → Tables A
  signed t i b =
      receives s (takes_in s (with_votes t (set t.votes (b * s.n + i) (record { sent = Some t.clock })) t.received) i b) i b (2 ^ i)
