-- The ranks of the seats, as the order rows have them.
use Rattle.std.specs.Prelude.{ℕ, ◌-◌, [], slice_index, slice_index_or}
use Rattle.rules.specs.Setup.{Setup, block_round, block_owner}

module _ (s : Setup) where
  -- the rank of seat i in round r: 0 leads
  abbrev pub rank_at : ℕ → ℕ → ℕ
  rank_at r i = slice_index (slice_index_or s.orders (r - 1) []) i

  -- the rank of a block: that of its owner in its round
  abbrev pub rank : ℕ → ℕ
  rank b = rank_at (block_round s b) (block_owner s b)
