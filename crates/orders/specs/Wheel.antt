-- The Wheel: in round r the seat r mod n leads, and the others follow in turn.
use Rattle.std.specs.Prelude.{ℕ, ◌+◌, ◌-◌, ◌%◌}
use Rattle.orders.specs.Ranking.{Ranking}

-- the rank of seat s in round r among n seats
abbrev pub wheel_rank : ℕ → ℕ → ℕ → ℕ
wheel_rank n r s = (s + n - r % n) % n

abbrev pub wheel_ranking : ℕ → Ranking
wheel_ranking n = record { seats = n; rounds = 65535; rank = wheel_rank n }
