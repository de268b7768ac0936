-- The blocks that a seat votes for: of the valid blocks of its round that it holds, those of lowest rank.
use Rattle.std.specs.Prelude.{ℕ, ◌+◌, Bool, false, if◌then◌else◌, ◌==◌, nat_lt}
use Rattle.records.specs.Kind.{Kind}
use Rattle.rules.specs.Loops.{upto}
use Rattle.rules.specs.Setup.{Setup, round_start, round_width}
use Rattle.rules.specs.Ranks.{rank}
use Rattle.rules.specs.Tables.{Tables, valid, received_at}

module _ {A : Type 0} (s : Setup) (K : Kind A) where
  -- seat i holds block b, and b is valid
  abbrev pub holds_valid : Tables A → ℕ → ℕ → Bool
  holds_valid t i b = if (received_at s t i b).held then valid K t b else false

  -- the lowest rank of those of round r; c is one of them
  unfoldable pub lowest_rank : Tables A → ℕ → ℕ → ℕ → ℕ
  lowest_rank t i r c =
      upto (λ x low.
      if holds_valid t i (round_start s r + x) then (
      if nat_lt (rank s (round_start s r + x)) low then rank s (round_start s r + x) else low) else low)
      (rank s c) (round_width s)

  -- seat i votes for block b if `low` is the lowest rank
  unfoldable pub voting_choice : Tables A → ℕ → ℕ → ℕ → Bool
  voting_choice t i low b = if holds_valid t i b then rank s b == low else false
