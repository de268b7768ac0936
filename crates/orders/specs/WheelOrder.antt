-- The Wheel's ranks are an order.
use Rattle.std.specs.Prelude.{◌≡◌, ℕ, ◌+◌, ◌-◌, ◌%◌, ◌<◌, ◌≤◌}
use Rattle.std.proofs.Common.{ap, ◌∙◌, ⊎_elim, mod-lt, mod-eq_of_lt, arith}
use Rattle.std.proofs.Math.Nat.{mod-eq-sub-mod}
use Rattle.std.proofs.lemmas.Bool.{cases_lt}
use Rattle.orders.specs.Ranking.{Order}
use Rattle.orders.specs.Wheel.{wheel_rank}

-- with the leader q of the round, below n: seats before it, and seats from it on
turn_low : (n q s : ℕ) → q < n → s < q → (s + n - q) % n ≡ s + n - q
turn_low n q s h l = mod-eq_of_lt (omega arith)

turn_high : (n q s : ℕ) → q < n → s < n → q ≤ s → (s + n - q) % n ≡ s - q
turn_high n q s h k l =
    let le : n ≤ s + n - q = omega arith in
    let e : s + n - q - n ≡ s - q = omega arith in
    mod-eq-sub-mod le ∙ ap (λ (x : ℕ). x % n) e ∙ mod-eq_of_lt (omega arith)

turn_one : (n q s t : ℕ) → q < n → s < n → t < n → (s + n - q) % n ≡ (t + n - q) % n → s ≡ t
turn_one n q s t h k l e =
    ⊎_elim
    (λ (a : s < q). ⊎_elim
    (λ (b : t < q). omega (arith, turn_low n q s h a, turn_low n q t h b))
    (λ (b : q ≤ t). omega (arith, turn_low n q s h a, turn_high n q t h l b))
    (cases_lt t q))
    (λ (a : q ≤ s). ⊎_elim
    (λ (b : t < q). omega (arith, turn_high n q s h k a, turn_low n q t h b))
    (λ (b : q ≤ t). omega (arith, turn_high n q s h k a, turn_high n q t h l b))
    (cases_lt t q))
    (cases_lt s q)

turn_every : (n q k : ℕ) → q < n → k < n → (s : ℕ) × (s < n) × ((s + n - q) % n ≡ k)
turn_every n q k h l =
    ⊎_elim
    (λ (a : k + q < n). let le : q ≤ k + q = omega arith in (k + q, a, omega (arith, turn_high n q (k + q) h a le)))
    (λ (a : n ≤ k + q). let lt : k + q - n < q = omega arith in (k + q - n, omega arith, omega (arith, turn_low n q (k + q - n) h lt)))
    (cases_lt (k + q) n)

pub wheel_order : (n r : ℕ) → 1 ≤ n → Order n (wheel_rank n r)
wheel_order n r h =
    let p : 0 < n = omega arith in
    let q : r % n < n = mod-lt r p in
    record {
      below = λ s k. mod-lt (s + n - r % n) p;
      one = λ s t k l e. turn_one n (r % n) s t q k l e;
      every = λ k l. turn_every n (r % n) k q l;
    }
