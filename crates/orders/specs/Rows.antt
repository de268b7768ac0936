-- A round's order as a row of sixteen ranks.
use Rattle.std.specs.Prelude.{ℕ, zero, suc, ◌+◌, cond, List, [], ◌∷◌, map, Some, None, Option, nat_lt}
use Rattle.orders.specs.Ranking.{Ranking, covers, rank_answer, seat_of_rank}

-- the n numbers from k on
unfoldable pub numbers : ℕ → ℕ → List ℕ
numbers k zero = []
numbers k (suc n) = k ∷ numbers (k + 1) n

-- sixteen numbers: f 0 to f (n - 1), and then 0
abbrev pub row_of_sixteen : ℕ → (ℕ → ℕ) → List ℕ
row_of_sixteen n f = map (λ s. cond (nat_lt s n) (f s) 0) (numbers 0 16)

-- the order row of round r: the rank of each seat
abbrev pub order_row : Ranking → ℕ → List ℕ
order_row m r = row_of_sixteen m.seats (rank_answer m r)

-- the order rows of the rounds from 1 to R
abbrev pub order_rows : Ranking → ℕ → List (List ℕ)
order_rows m R = map (order_row m) (numbers 1 R)

-- the seats of round r in the order of their ranks, if the round is covered
abbrev pub seats_answer : Ranking → ℕ → Option (List ℕ)
seats_answer m r = cond (covers m r) (Some (row_of_sixteen m.seats (seat_of_rank m.seats (m.rank r)))) None
