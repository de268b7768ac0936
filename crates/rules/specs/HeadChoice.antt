-- The final head of a seat when its wait ends.
use Rattle.std.specs.Prelude.{ℕ, ◌-◌, false, if◌then◌else◌, not, Some, None, Option, ◌==◌, is_some, nat_le}
use Rattle.records.specs.Kind.{Kind}
use Rattle.rules.specs.Loops.{first_from}
use Rattle.rules.specs.Setup.{Setup, round_start, round_width}
use Rattle.rules.specs.Tables.{Tables, block_at, seat_at}
use Rattle.rules.specs.VotingChoice.{holds_valid}

module _ {A : Type 0} (s : Setup) (K : Kind A) where
  -- Of round r, c is the first valid block that seat i holds: if all others that it holds have c's parent too, then that
  -- parent, else the old head.
  abbrev pub head_from : Tables A → ℕ → ℕ → ℕ → Option ℕ → ℕ
  head_from t i r old None = old
  head_from t i r old (Some c) =
      if is_some (first_from (λ x. if holds_valid s K t i x then not ((block_at t x).parent == (block_at t c).parent) else false) (round_start s r) (round_width s)) then
      old else (block_at t c).parent

  -- From round 3 on: if all valid blocks of the round before that seat i holds have one parent, that is its new head.
  unfoldable pub next_head : Tables A → ℕ → ℕ
  next_head t i =
      let r = (seat_at t i).round - 1 in
      if nat_le 3 (seat_at t i).round then head_from t i r (seat_at t i).head (first_from (holds_valid s K t i) (round_start s r) (round_width s)) else (seat_at t i).head
