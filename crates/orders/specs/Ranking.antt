-- What a beacon means: for each round an order of the seats.
use Rattle.std.specs.Prelude.{◌≡◌, ℕ, zero, suc, ◌<◌, ◌≤◌, Bool, cond, ◌&&◌, ◌||◌, ◌==◌, nat_le, nat_lt}

-- an order of n seats: each rank from 0 to n - 1 belongs to exactly one of them
pub record Order (n : ℕ) (rank : ℕ → ℕ) : Type 0 where
  pub below : (s : ℕ) → s < n → rank s < n
  pub one : (s t : ℕ) → s < n → t < n → rank s ≡ rank t → s ≡ t
  pub every : (k : ℕ) → k < n → (s : ℕ) × (s < n) × (rank s ≡ k)

-- the ranks that a beacon gives: for its one seat count, in rounds 1 to `rounds`; `rank r s` is that of seat s in round r
pub record Ranking : Type 0 where
  pub seats : ℕ
  pub rounds : ℕ
  pub rank : ℕ → ℕ → ℕ

-- what every beacon has to meet
pub record Lawful (m : Ranking) : Type 0 where
  pub some : 1 ≤ m.seats
  pub sixteen : m.seats ≤ 16
  pub orders : (r : ℕ) → 1 ≤ r → r ≤ m.rounds → Order m.seats (m.rank r)

-- whether a beacon covers round r
abbrev pub covers : Ranking → ℕ → Bool
covers m r = nat_le 1 r && nat_le r m.rounds

-- what a beacon answers: the rank of seat s in round r, or 16 outside its rounds or seats
abbrev pub rank_answer : Ranking → ℕ → ℕ → ℕ
rank_answer m r s = cond (covers m r && nat_lt s m.seats) (m.rank r s) 16

-- the seat that has rank k, of the first n
unfoldable pub seat_of_rank : ℕ → (ℕ → ℕ) → ℕ → ℕ
seat_of_rank zero rank k = 0
seat_of_rank (suc n) rank k = cond (rank n == k) n (seat_of_rank n rank k)

-- a seat count outside 1 to 16 is taken as 1
abbrev pub seat_count : ℕ → ℕ
seat_count n = cond (n == 0 || nat_lt 16 n) 1 n
