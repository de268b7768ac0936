-- The Shuffle: each round's order is drawn by SplitMix64.
use Rattle.std.specs.Prelude.{ℕ, zero, suc, ◌+◌, ◌-◌, ◌%◌, cond, List, [], ◌∷◌, ◌==◌, bit_xor, slice_index, slice_set}
use Rattle.shuffle.specs.SplitMix.{draws}
use Rattle.orders.specs.Ranking.{Ranking}
use Rattle.orders.specs.Rows.{numbers}

-- places i and j exchanged
abbrev pub exchanged : ℕ → ℕ → List ℕ → List ℕ
exchanged i j xs = slice_set (slice_set xs i (slice_index xs j)) j (slice_index xs i)

-- one exchange for each draw d: of place m, from `m` down to 1, and of place d mod (m + 1)
unfoldable pub shuffled : ℕ → List ℕ → List ℕ → List ℕ
shuffled zero ds xs = xs
shuffled (suc k) [] xs = xs
shuffled (suc k) (d ∷ ds) xs = shuffled k ds (exchanged (suc k) (d % (suc k + 1)) xs)

-- the place of v, from 0
unfoldable pub place : ℕ → List ℕ → ℕ
place v [] = 0
place v (x ∷ xs) = cond (x == v) 0 (place v xs + 1)

-- the n seats in the order of their ranks, with the generator started at s
abbrev pub arrangement : ℕ → ℕ → List ℕ
arrangement n s = shuffled (n - 1) (draws (n - 1) s) (numbers 0 n)

-- the rank of seat s in round r among n seats: its place, with the generator started at seed XOR r
abbrev pub shuffle_rank : ℕ → ℕ → ℕ → ℕ → ℕ
shuffle_rank seed n r s = place s (arrangement n (bit_xor seed r))

abbrev pub shuffle_ranking : ℕ → ℕ → Ranking
shuffle_ranking seed n = record { seats = n; rounds = 65535; rank = shuffle_rank seed n }
