-- The messages of honest seats that are late at the next tick, and the honest seats that lack part of one.
use Rattle.std.specs.Prelude.{ℕ, suc, Bool, false, cond, not}
use Rattle.rules.specs.Setup.{Setup, honest, block_round, block_owner}
use Rattle.rules.specs.Tables.{Tables, has_signed, signing_tick, block_at, vote_at, certificate_at, entered_at}
use Rattle.rules.specs.Holding.{has_vote, has_certificate}
use Rattle.rules.specs.Overdue.{late, lacks_block, certificate_sent}

module _ {A : Type 0} (s : Setup) where
  -- block b
  abbrev pub block_late : Tables A → ℕ → Bool
  block_late t b =
      cond (block_at t b).made (
      cond (honest s (block_owner s b)) (late s t (entered_at s t (block_owner s b) (block_round s b))) false) false

  abbrev pub block_lacking : Tables A → ℕ → ℕ → Bool
  block_lacking t b j = lacks_block s t b j

  -- the vote of seat i for block b
  abbrev pub vote_late : Tables A → ℕ → ℕ → Bool
  vote_late t b i = cond (has_signed (vote_at s t i b)) (cond (honest s i) (late s t (signing_tick (vote_at s t i b))) false) false

  abbrev pub vote_lacking : Tables A → ℕ → ℕ → ℕ → Bool
  vote_lacking t b i j = cond (honest s j) (not (has_vote s t i b j)) false

  -- the certificate of seat i for round r + 1
  abbrev pub certificate_late : Tables A → ℕ → ℕ → Bool
  certificate_late t i r = cond (certificate_sent s t i r) (late s t (certificate_at s t i (suc r)).tick) false

  abbrev pub certificate_lacking : Tables A → ℕ → ℕ → ℕ → Bool
  certificate_lacking t i r j =
      cond (honest s j) (not (has_certificate s t (certificate_at s t i (suc r)).block (certificate_at s t i (suc r)).signers j)) false
