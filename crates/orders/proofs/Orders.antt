-- Orders: the same ranks are the same order, and each rank has its seat.
use Rattle.std.proofs.Common.{◌≡◌, ℕ, zero, suc, ◌+◌, ◌<◌, ◌≤◌, ◌≢◌, List, length, get_or, set, refl, sym, ap, ◌∙◌, ⊎_elim, arith, get_or-set_other, get_or-set_same, below_more}
use Rattle.std.proofs.lemmas.Bool.{cases_eq, eq-eqb, ne_eqb}
use Rattle.orders.specs.Ranking.{Order, seat_of_rank}

-- equal ranks are an order too
pub order_same : (n : ℕ) (f g : ℕ → ℕ) → Order n f → ((s : ℕ) → s < n → g s ≡ f s) → Order n g
order_same n f g o e = record {
  below = λ s h. rw (e s h) (o.below s h);
  one = λ s t h k q. o.one s t h k (sym (e s h) ∙ q ∙ e t k);
  every = λ k h. let w = o.every k h in (w.0, w.1, e w.0 w.1 ∙ w.2);
}

-- under an order, the seat that has rank m
seat_of_rank_found : (k : ℕ) (rank : ℕ → ℕ) (m s : ℕ) → s < k → rank s ≡ m → (seat_of_rank k rank m < k) × (rank (seat_of_rank k rank m) ≡ m)
unfolding seat_of_rank
seat_of_rank_found zero rank m s h e = absurd (omega arith)
seat_of_rank_found (suc k) rank m s h e =
    ⊎_elim
    (λ (q : rank k ≡ m). rw (eq-eqb (rank k) m q) (omega arith, q))
    (λ (q : rank k ≡ m → ⊥).
    let ne : s ≢ k = λ x. q (sym (ap rank x) ∙ e) in
    let rest = seat_of_rank_found k rank m s (omega arith) e in
    rw (ne_eqb (rank k) m q) (omega (arith, rest.0), rest.1))
    (cases_eq (rank k) m)

pub order_seat : (n : ℕ) (rank : ℕ → ℕ) → Order n rank → (m : ℕ) → m < n → (seat_of_rank n rank m < n) × (rank (seat_of_rank n rank m) ≡ m)
order_seat n rank o m h = let w = o.every m h in seat_of_rank_found n rank m w.0 w.1 w.2

-- a row in which each seat is to stand at its rank: one seat more
pub placed_more : (n : ℕ) (rank : ℕ → ℕ) (row : List ℕ) (seat : ℕ) → Order n rank → n ≤ length row → seat < n
    → ((s : ℕ) → s < seat → get_or row (rank s) 0 ≡ s) → (s : ℕ) → s < seat + 1 → get_or (set row (rank seat) seat) (rank s) 0 ≡ s
placed_more n rank row seat o long h before =
    let room : rank seat < length row = omega (arith, o.below seat h) in
    below_more _ _
    (λ s l. let ne : rank s ≢ rank seat = λ e. let same = o.one s seat (omega arith) h e in omega arith in rw get_or-set_other (before s l))
    (rw get_or-set_same refl)

-- past the last rank nothing is written
pub placed_past : (n : ℕ) (rank : ℕ → ℕ) (row : List ℕ) (seat : ℕ) → Order n rank → seat < n
    → ((j : ℕ) → n ≤ j → get_or row j 0 ≡ 0) → (j : ℕ) → n ≤ j → get_or (set row (rank seat) seat) j 0 ≡ 0
placed_past n rank row seat o h rest j le =
    let ne : j ≢ rank seat = λ e. let low = o.below seat h in omega arith in rw get_or-set_other (rest j le)
