use Rattle.std.proofs.Common.{◌≡◌, ℕ, ◌<◌, ◌≤◌, length, get_or}
use Rattle.orders.proofs.seats_by_rank.Given as goal

-- the seats before this one stand at their ranks, and past the last rank there is 0
abbrev pub invariant-loop-seat : goal.invariant-loop-seat
invariant-loop-seat g l =
    ((s : ℕ) → s < l.seat → get_or l.seats ((g.B.Beacon.ranking l.beacon).rank l.round s) 0 ≡ s)
    × ((j : ℕ) → (g.B.Beacon.ranking l.beacon).seats ≤ j → get_or l.seats j 0 ≡ 0)
    × (length l.seats ≡ 16)
