-- How many signatures notarise a block, how many Byzantine seats a bench bears, and what a block weighs.
use Rattle.std.specs.Prelude.{ℕ, ◌+◌, ◌-◌, ◌/◌, ◌^◌}

-- the majority of n seats
abbrev pub majority_of : ℕ → ℕ
majority_of n = n / 2 + 1

-- the most seats of n that may be Byzantine: twice their count stays below n
abbrev pub most_byzantine_of : ℕ → ℕ
most_byzantine_of n = (n - 1) / 2

-- the weight of a block whose owner has this rank
abbrev pub weight_of_rank : ℕ → ℕ
weight_of_rank rank = 2 ^ (15 - rank)
