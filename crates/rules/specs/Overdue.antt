-- The search for a message of an honest seat that would be overdue at the next tick: sent Δ ticks before it or earlier,
-- while some honest seat lacks part of what it says.
use Rattle.std.specs.Prelude.{ℕ, suc, ◌+◌, Bool, true, false, if◌then◌else◌, not, nat_le, nat_lt}
use Rattle.rules.specs.Loops.{any}
use Rattle.rules.specs.Setup.{Setup, honest, block_round, block_owner, block_rows}
use Rattle.rules.specs.Tables.{Tables, has_signed, signing_tick, block_at, seat_at, received_at, vote_at, certificate_at, entered_at}
use Rattle.rules.specs.Holding.{has_vote, has_certificate}

module _ {A : Type 0} (s : Setup) where
  -- a message sent at this tick has to have arrived by the next
  abbrev pub late : Tables A → ℕ → Bool
  late t sent = nat_le (sent + s.delay) (suc t.clock)

  -- honest seat j does not hold block b
  abbrev pub lacks_block : Tables A → ℕ → ℕ → Bool
  lacks_block t b j = if honest s j then not (received_at s t j b).held else false

  -- block b, which an honest seat sent when it entered the round of the block
  abbrev pub block_overdue : Tables A → ℕ → Bool
  block_overdue t b =
      if (block_at t b).made then (
      if honest s (block_owner s b) then (
      if late t (entered_at s t (block_owner s b) (block_round s b)) then any (lacks_block t b) s.n else false) else false) else false

  -- the vote of seat i for block b
  abbrev pub vote_overdue : Tables A → ℕ → ℕ → Bool
  vote_overdue t b i =
      if has_signed (vote_at s t i b) then (
      if honest s i then (
      if late t (signing_tick (vote_at s t i b)) then any (λ j. if honest s j then not (has_vote s t i b j) else false) s.n else false) else false) else false

  -- honest seat i has sent a certificate of round r + 1: it is past that round
  abbrev pub certificate_sent : Tables A → ℕ → ℕ → Bool
  certificate_sent t i r = if honest s i then nat_lt (suc r) (seat_at t i).round else false

  abbrev pub certificate_overdue : Tables A → ℕ → ℕ → Bool
  certificate_overdue t i r =
      if certificate_sent t i r then (
      if late t (certificate_at s t i (suc r)).tick then any (λ j. if honest s j then not (has_certificate s t (certificate_at s t i (suc r)).block (certificate_at s t i (suc r)).signers j) else false) s.n else false) else false

  -- some block, vote or certificate is
  unfoldable pub overdue : Tables A → Bool
  overdue t =
      if any (λ b. block_overdue t b) (block_rows s) then true else (
      if any (λ b. any (vote_overdue t b) s.n) (block_rows s) then true else any (λ i. any (certificate_overdue t i) s.rounds) s.n)
