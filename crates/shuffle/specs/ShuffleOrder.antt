-- The Shuffle's list stays an arrangement of the seats, and so its places are an order.
use Rattle.std.specs.Prelude.{◌≡◌, ℕ, zero, suc, ◌+◌, ◌-◌, ◌%◌, ◌<◌, ◌≤◌, false, cond, ◌≢◌, List, [], ◌∷◌, length, take, ◌==◌, nat_eq, slice_index, slice_set, refl}
use Rattle.std.proofs.Common.{sym, ap, subst, ◌∙◌, ⊎_elim, mod-lt, add-one, arith, length-set, length-take-le, get_or-set_same, get_or-set_other, get_or-take}
use Rattle.std.proofs.Math.Seq.{take-set-lt}
use Rattle.std.proofs.lemmas.Bool.{cases_lt, cases_eq, eq-eqb, ne_eqb}
use Rattle.shuffle.specs.SplitMix.{advanced, drawn, draws}
use Rattle.orders.specs.Ranking.{Order}
use Rattle.orders.specs.Rows.{numbers}
use Rattle.orders.proofs.Rows.{length_numbers, get_or-numbers, take_numbers}
use Rattle.shuffle.specs.Shuffle.{exchanged, shuffled, place, arrangement}

-- the place of v is the first that holds v
pub place_at : (v : ℕ) (xs : List ℕ) (k : ℕ) → k < length xs → ((j : ℕ) → j < k → slice_index xs j ≢ v) → slice_index xs k ≡ v → place v xs ≡ k
unfolding place
place_at v [] k h before here = absurd (omega arith)
place_at v (x ∷ xs) zero h before here = rw (eq-eqb x v here)
place_at v (x ∷ xs) (suc k) h before here =
    let no_x : nat_eq x v ≡ false = ne_eqb x v (before 0 (omega arith)) in
    let rest : place v xs ≡ k = place_at v xs k (omega arith) (λ j l. before (suc j) (omega arith)) here in
    rw (no_x, rest, add-one)

pub place_none : (v : ℕ) (xs : List ℕ) → ((j : ℕ) → j < length xs → slice_index xs j ≢ v) → place v xs ≡ length xs
unfolding place
place_none v [] before = refl
place_none v (x ∷ xs) before =
    let no_x : nat_eq x v ≡ false = ne_eqb x v (before 0 (omega arith)) in
    let rest : place v xs ≡ length xs = place_none v xs (λ j l. before (suc j) (omega arith)) in
    rw (no_x, rest, add-one)

-- what a search over the first n entries of a longer list finds
pub place_found : (v : ℕ) (xs : List ℕ) (n r : ℕ) → n ≤ length xs → r ≤ n
    → ((j : ℕ) → j < r → slice_index xs j ≢ v) → (r < n → slice_index xs r ≡ v) → r ≡ place v (take n xs)
place_found v xs n r long within before found =
    let cut : length (take n xs) ≡ n = length-take-le n xs long in
    let no : (j : ℕ) → j < r → slice_index (take n xs) j ≢ v = λ j h e. before j h (sym (get_or-take n xs j 0 (omega arith)) ∙ e) in
    ⊎_elim
    (λ (h : r < n). sym (place_at v (take n xs) r (omega arith) no (get_or-take n xs r 0 h ∙ found h)))
    (λ (h : n ≤ r). omega (arith, place_none v (take n xs) (λ j k. no j (omega arith))))
    (cases_lt r n)

-- an exchange, place by place: place k holds what place `other i j k` held
other : ℕ → ℕ → ℕ → ℕ
other i j k = cond (k == j) i (cond (k == i) j k)

other_below : (n i j k : ℕ) → i < n → j < n → k < n → other i j k < n
unfolding other
other_below n i j k p q h = grind arith

other_other : (i j k : ℕ) → other i j (other i j k) ≡ k
unfolding other
other_other i j k = grind arith

exchanged_is : (i j : ℕ) (xs : List ℕ) (k : ℕ) → i < length xs → j < length xs → slice_index (exchanged i j xs) k ≡ slice_index xs (other i j k)
unfolding other
exchanged_is i j xs k p q =
    ⊎_elim
    (λ (e : k ≡ j). let l : j < length (slice_set xs i (slice_index xs j)) = simp length-set q in rw (e, eq-eqb j j refl, get_or-set_same))
    (λ (ne : k ≢ j). ⊎_elim
    (λ (e : k ≡ i). let ne2 : i ≢ j = λ f. ne (e ∙ f) in rw (e, ne_eqb i j ne2, eq-eqb i i refl, get_or-set_other, get_or-set_same))
    (λ (ne2 : k ≢ i). rw (ne_eqb k j ne, ne_eqb k i ne2, get_or-set_other, get_or-set_other))
    (cases_eq k i))
    (cases_eq k j)

pub take_exchanged : (n i j : ℕ) (xs : List ℕ) → i < n → j < n → take n (exchanged i j xs) ≡ exchanged i j (take n xs)
take_exchanged n i j xs p q = simp (take-set-lt n (slice_set xs i (slice_index xs j)) j (slice_index xs i) q, take-set-lt n xs i (slice_index xs j) p, get_or-take n xs i 0 p, get_or-take n xs j 0 q)

-- each seat below n stands at one place
pub record Arranged (n : ℕ) (xs : List ℕ) : Type 0 where
  pub long : length xs ≡ n
  pub below : (k : ℕ) → k < n → slice_index xs k < n
  pub at : ℕ → ℕ
  pub at_below : (v : ℕ) → v < n → at v < n
  pub at_is : (v : ℕ) → v < n → slice_index xs (at v) ≡ v
  pub is_at : (k : ℕ) → k < n → at (slice_index xs k) ≡ k

numbers_arranged : (n : ℕ) → Arranged n (numbers 0 n)
numbers_arranged n = record {
  long = length_numbers 0 n;
  below = λ k h. omega (arith, get_or-numbers 0 n k h);
  at = λ v. v;
  at_below = λ v h. h;
  at_is = λ v h. omega (arith, get_or-numbers 0 n v h);
  is_at = λ k h. omega (arith, get_or-numbers 0 n k h);
}

exchanged_arranged : (n i j : ℕ) (xs : List ℕ) → i < n → j < n → Arranged n xs → Arranged n (exchanged i j xs)
exchanged_arranged n i j xs p q a =
    let long = a.long in
    let pl : i < length xs = omega arith in
    let ql : j < length xs = omega arith in
    record {
      long = simp length-set long;
      below = λ k h. rw (exchanged_is i j xs k pl ql) (a.below (other i j k) (other_below n i j k p q h));
      at = λ v. other i j (a.at v);
      at_below = λ v h. other_below n i j (a.at v) p q (a.at_below v h);
      at_is = λ v h. exchanged_is i j xs (other i j (a.at v)) pl ql ∙ ap (λ (k : ℕ). slice_index xs k) (other_other i j (a.at v)) ∙ a.at_is v h;
      is_at = λ k h. ap (λ (v : ℕ). other i j (a.at v)) (exchanged_is i j xs k pl ql)
          ∙ ap (other i j) (a.is_at (other i j k) (other_below n i j k p q h)) ∙ other_other i j k;
    }

-- whatever the draws
shuffled_arranged : (n m : ℕ) (ds xs : List ℕ) → m < n → Arranged n xs → Arranged n (shuffled m ds xs)
unfolding shuffled
shuffled_arranged n zero ds xs h a = a
shuffled_arranged n (suc k) [] xs h a = a
shuffled_arranged n (suc k) (d ∷ ds) xs h a =
    let q : d % (suc k + 1) < suc k + 1 = mod-lt d (omega arith) in
    shuffled_arranged n k ds (exchanged (suc k) (d % (suc k + 1)) xs) (omega arith)
    (exchanged_arranged n (suc k) (d % (suc k + 1)) xs h (omega arith) a)

module _ (n : ℕ) (xs : List ℕ) (a : Arranged n xs) where
  place_is : (v : ℕ) → v < n → place v xs ≡ a.at v
  place_is v h =
      let long = a.long in
      let l : a.at v < n = a.at_below v h in
      place_at v xs (a.at v) (omega arith)
      (λ j b e. let same : a.at v ≡ j = ap a.at (sym e) ∙ a.is_at j (omega arith) in omega arith)
      (a.at_is v h)

  arranged_order : Order n (λ s. place s xs)
  arranged_order = record {
    below = λ s h. subst (λ (k : ℕ). k < n) (sym (place_is s h)) (a.at_below s h);
    one = λ s t h k e.
        sym (a.at_is s h) ∙ ap (λ (i : ℕ). slice_index xs i) (sym (place_is s h) ∙ e ∙ place_is t k) ∙ a.at_is t k;
    every = λ k h. (slice_index xs k, a.below k h, place_is (slice_index xs k) (a.below k h) ∙ a.is_at k h);
  }

pub shuffle_order : (n s : ℕ) → 1 ≤ n → Order n (λ v. place v (arrangement n s))
shuffle_order n s h =
    arranged_order n (arrangement n s)
    (shuffled_arranged n (n - 1) (draws (n - 1) s) (numbers 0 n) (omega arith) (numbers_arranged n))

-- one turn of the loop: what is left to exchange
pub shuffled_step : (m s : ℕ) (xs : List ℕ) → 0 < m
    → shuffled m (draws m s) xs ≡ shuffled (m - 1) (draws (m - 1) (advanced s)) (exchanged m (drawn (advanced s) % (m + 1)) xs)
unfolding shuffled draws
shuffled_step zero s xs h = absurd (omega arith)
shuffled_step (suc k) s xs h = let e : suc k - 1 ≡ k = omega arith in rw e

shuffled_none : (ds xs : List ℕ) → shuffled 0 ds xs ≡ xs
unfolding shuffled
shuffled_none ds xs = refl

-- at its end none is left
pub shuffled_done : (m : ℕ) (ds xs ys : List ℕ) → ys ≡ shuffled (m - 1) ds xs → m ≤ 1 → xs ≡ ys
shuffled_done m ds xs ys e h =
    let z : m - 1 ≡ 0 = omega arith in sym (e ∙ ap (λ (k : ℕ). shuffled k ds xs) z ∙ shuffled_none ds xs)

abbrev pub sixteen : List ℕ
sixteen = 0 ∷ 1 ∷ 2 ∷ 3 ∷ 4 ∷ 5 ∷ 6 ∷ 7 ∷ 8 ∷ 9 ∷ 10 ∷ 11 ∷ 12 ∷ 13 ∷ 14 ∷ 15 ∷ []

pub start_list : (n : ℕ) → n ≤ 16 → take n sixteen ≡ numbers 0 n
unfolding numbers
start_list n h = take_numbers 0 n 16 h
