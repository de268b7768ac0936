-- Who leads a round: the seat of rank 0.
use Rattle.std.specs.Prelude.{ℕ, zero, suc, ◌+◌, Bool, false, cond, ◌&&◌, Some, None, Option, ◌==◌}
use Rattle.orders.specs.Ranking.{Ranking, covers, seat_of_rank}
use Rattle.roster.specs.Marks.{is_honest}

abbrev pub leader_of : Ranking → ℕ → ℕ
leader_of m r = seat_of_rank m.seats (m.rank r) 0

-- the leader of a round that the beacon covers
abbrev pub leader_answer : Ranking → ℕ → Option ℕ
leader_answer m r = cond (covers m r) (Some (leader_of m r)) None

-- an honest seat of the roster leads round r
abbrev pub honest_leads : ℕ → ℕ → Ranking → ℕ → Bool
honest_leads n marks m r = cond (covers m r) (is_honest n marks (leader_of m r)) false

-- how many of the rounds 1 to R an honest seat leads
unfoldable pub honest_led : ℕ → ℕ → Ranking → ℕ → ℕ
honest_led n marks m zero = 0
honest_led n marks m (suc R) = cond (honest_leads n marks m (suc R)) 1 0 + honest_led n marks m R

-- a beacon for n seats that covers rounds 1 to R
abbrev pub beacon_fits : ℕ → Ranking → ℕ → Bool
beacon_fits n m R = covers m R && m.seats == n
