-- The votes of a seat by the order of its round, as the code has it: sixteen ranks.
use Rattle.std.specs.Prelude.{ℕ, ◌+◌, false, cond, List, ◌==◌, nat_lt, slice_index}
use Rattle.records.specs.Kind.{Kind}
use Rattle.rules.specs.Loops.{upto}
use Rattle.rules.specs.Setup.{Setup, block_owner, round_start, round_width}
use Rattle.rules.specs.Tables.{Tables}
use Rattle.rules.specs.VotingChoice.{holds_valid}
use Rattle.rules.specs.Seat.{vote_for}

-- the rank of a block in a round with this order: that of its owner
abbrev pub rank_by : Setup → List ℕ → ℕ → ℕ
rank_by s ranks b = slice_index ranks (block_owner s b)

module _ {A : Type 0} (s : Setup) (K : Kind A) (ranks : List ℕ) where
  -- the lower of `low` and the rank of block b, if seat i holds b and it is valid
  abbrev pub lower_by : Tables A → ℕ → ℕ → ℕ → ℕ
  lower_by t i b low = cond (holds_valid s K t i b) (cond (nat_lt (rank_by s ranks b) low) (rank_by s ranks b) low) low

  -- the lowest rank of the valid blocks of round r that seat i holds; c is one of them
  abbrev pub lowest_by : Tables A → ℕ → ℕ → ℕ → ℕ
  lowest_by t i r c = upto (λ x low. lower_by t i (round_start s r + x) low) (rank_by s ranks c) (round_width s)

  -- seat i votes for block b, if it holds b and it is valid and has the rank `low`
  abbrev pub vote_by : ℕ → ℕ → ℕ → Tables A → Tables A
  vote_by i low b u = cond (cond (holds_valid s K u i b) (rank_by s ranks b == low) false) (vote_for s i u b) u

  -- seat i votes for the blocks of round r that have the rank `low`
  abbrev pub votes_by : Tables A → ℕ → ℕ → ℕ → Tables A
  votes_by t i r low = upto (λ x u. vote_by i low (round_start s r + x) u) t (round_width s)
