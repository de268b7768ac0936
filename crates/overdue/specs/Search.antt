-- The search for an overdue message, in the shape of its loops: a message that is late, and a seat that lacks part of it.
use Rattle.std.specs.Prelude.{ℕ, Bool, true, false, cond}
use Rattle.rules.specs.Loops.{any}
use Rattle.rules.specs.Setup.{Setup, block_rows}
use Rattle.rules.specs.Tables.{Tables}
use Rattle.overdue.specs.Messages.{block_late, vote_late, certificate_late, block_lacking, vote_lacking, certificate_lacking}

module _ {A : Type 0} (s : Setup) where
  -- one message
  abbrev pub late_block : Tables A → ℕ → Bool
  late_block t b = cond (block_late s t b) (any (block_lacking s t b) s.n) false

  abbrev pub late_vote : Tables A → ℕ → ℕ → Bool
  late_vote t b i = cond (vote_late s t b i) (any (vote_lacking s t b i) s.n) false

  abbrev pub late_certificate : Tables A → ℕ → ℕ → Bool
  late_certificate t i r = cond (certificate_late s t i r) (any (certificate_lacking s t i r) s.n) false

  -- all votes for a block, all certificates of a seat
  abbrev pub late_votes : Tables A → ℕ → Bool
  late_votes t b = any (late_vote t b) s.n

  abbrev pub late_certificates : Tables A → ℕ → Bool
  late_certificates t i = any (late_certificate t i) s.rounds

  unfoldable pub searched : Tables A → Bool
  searched t =
      cond (any (late_block t) (block_rows s)) true (
      cond (any (late_votes t) (block_rows s)) true (
      any (late_certificates t) s.n))
