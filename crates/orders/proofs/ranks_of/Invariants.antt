use Rattle.std.proofs.Common.{◌≡◌, ℕ, ◌<◌, ◌≤◌, length, get_or}
use Rattle.orders.specs.Ranking.{rank_answer}
use Rattle.orders.proofs.ranks_of.Given as goal

-- the ranks of the seats before this one are the beacon's, and the rest are 0
abbrev pub invariant-loop-seat : goal.invariant-loop-seat
invariant-loop-seat g l =
    ((k : ℕ) → k < l.seat → get_or l.ranks k 0 ≡ rank_answer (g.B.Beacon.ranking l.beacon) l.round k)
    × ((k : ℕ) → l.seat ≤ k → get_or l.ranks k 0 ≡ 0)
    × (length l.ranks ≡ 16)
