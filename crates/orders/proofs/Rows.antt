-- The numbers from k on, and rows and tables made of them.
use Rattle.std.proofs.Common.{◌≡◌, ℕ, zero, suc, ◌+◌, ◌<◌, ◌≤◌, true, cond, ltb, List, [], ◌∷◌, ◌++◌, map, length, get_or, take, set, sym, refl, ap, ◌∙◌, ⊎_elim, add-one, arith, ext_get_or}
use lib.ListN.{length-map}
use Rattle.std.specs.List.{flat_map}
use Rattle.std.proofs.lemmas.List.{get_or-map, take_more_set, map_push, take_all, flat_map_more}
use Rattle.std.proofs.lemmas.Bool.{lt-ltb, le-ltb, cases_lt}
use Rattle.orders.specs.Ranking.{Ranking, covers, rank_answer}
use Rattle.orders.specs.Rows.{numbers, row_of_sixteen, order_row}

-- the numbers from k on
pub length_numbers : (k n : ℕ) → length (numbers k n) ≡ n
unfolding numbers
length_numbers k zero = refl
length_numbers k (suc n) = ap suc (length_numbers (k + 1) n)

pub get_or-numbers : (k n i : ℕ) → i < n → get_or (numbers k n) i 0 ≡ k + i
unfolding numbers
get_or-numbers k zero i h = absurd (omega arith)
get_or-numbers k (suc n) zero h = omega arith
get_or-numbers k (suc n) (suc i) h = let p : i < n = omega arith in omega (arith, get_or-numbers (k + 1) n i p)

pub take_numbers : (k n m : ℕ) → n ≤ m → take n (numbers k m) ≡ numbers k n
unfolding numbers
take_numbers k zero m h = refl
take_numbers k (suc n) zero h = absurd (omega arith)
take_numbers k (suc n) (suc m) h = ap (λ xs. k ∷ xs) (take_numbers (k + 1) n m (omega arith))

-- a list that holds f k, f (k + 1) and so on
pub is_map : {X : Type 0} (f : ℕ → X) (k n : ℕ) (d : X) (xs : List X) → length xs ≡ n → ((i : ℕ) → i < n → get_or xs i d ≡ f (k + i)) → xs ≡ map f (numbers k n)
is_map f k n d xs long at =
    let ln : length (map f (numbers k n)) ≡ n = length-map (numbers k n) f ∙ length_numbers k n in
    ext_get_or d xs (map f (numbers k n)) (long ∙ sym ln)
    (λ i h.
    let lt : i < n = omega arith in
    let lt2 : i < length (numbers k n) = omega (arith, length_numbers k n) in
    at i lt ∙ ap f (sym (get_or-numbers k n i lt)) ∙ sym (get_or-map f (numbers k n) i 0 d lt2))

pub is_row : (n : ℕ) (rank : ℕ → ℕ) (row : List ℕ) → length row ≡ 16 → ((s : ℕ) → s < n → get_or row s 0 ≡ rank s) → ((s : ℕ) → n ≤ s → get_or row s 0 ≡ 0) → row ≡ row_of_sixteen n rank
is_row n rank row long seats rest =
    is_map (λ s. cond (ltb s n) (rank s) 0) 0 16 0 row long
    (λ i h.
    let z : 0 + i ≡ i = omega arith in
    rw z (⊎_elim
    (λ (q : i < n). rw (lt-ltb i n q) (seats i q))
    (λ (q : n ≤ i). rw (le-ltb i n q) (rest i q))
    (cases_lt i n)))

numbers_suc : (k n : ℕ) → numbers k (suc n) ≡ numbers k n ++ (k + n) ∷ []
unfolding numbers
numbers_suc k zero = let e : k ≡ k + 0 = omega arith in ap (λ x. x ∷ []) e
numbers_suc k (suc n) = let e : k + 1 + n ≡ k + suc n = omega arith in ap (λ xs. k ∷ xs) (numbers_suc (k + 1) n ∙ ap (λ x. numbers (k + 1) n ++ x ∷ []) e)

pub numbers_more : (k n : ℕ) → numbers k (n + 1) ≡ numbers k n ++ (k + n) ∷ []
numbers_more k n = rw add-one (numbers_suc k n)

-- a loop that fills a table row by row: one turn, and the end
pub fill_step : {X : Type 0} (f : ℕ → X) (k i j : ℕ) (xs : List X) (y : X) → i < length xs → k + i ≡ j → y ≡ f j
    → take i xs ≡ map f (numbers k i) → take (i + 1) (set xs i y) ≡ map f (numbers k (i + 1))
fill_step f k i j xs y h e q before =
    take_more_set xs i y h ∙ ap (λ zs. zs ++ y ∷ []) before ∙ ap (λ x. map f (numbers k i) ++ x ∷ []) (q ∙ ap f (sym e))
    ∙ sym (map_push f (numbers k i) (k + i)) ∙ ap (map f) (sym (numbers_more k i))

pub fill_end : {X : Type 0} (f : ℕ → X) (k i : ℕ) (xs : List X) → length xs ≡ i → take i xs ≡ map f (numbers k i) → xs ≡ map f (numbers k i)
fill_end f k i xs e all = sym (take_all i xs (omega arith)) ∙ all

-- what stands in a row of sixteen
pub sixteen_at : (n : ℕ) (f : ℕ → ℕ) (s : ℕ) → n ≤ 16 → s < n → get_or (row_of_sixteen n f) s 0 ≡ f s
sixteen_at n f s h k =
    let long : s < length (numbers 0 16) = omega (arith, length_numbers 0 16) in
    let z : get_or (numbers 0 16) s 0 ≡ s = omega (arith, get_or-numbers 0 16 s (omega arith)) in
    get_or-map (λ i. cond (ltb i n) (f i) 0) (numbers 0 16) s 0 0 long ∙ ap (λ i. cond (ltb i n) (f i) 0) z ∙ rw (lt-ltb s n k)

-- the rank of a seat stands in its order row
pub order_row_at : (m : Ranking) (r s : ℕ) → m.seats ≤ 16 → covers m r ≡ true → s < m.seats → get_or (order_row m r) s 0 ≡ m.rank r s
order_row_at m r s h c k = sixteen_at m.seats (rank_answer m r) s h k ∙ rw (c, lt-ltb s m.seats k)

-- a text of one line for each number: one line more
pub lines_more : (line : ℕ → List ℕ) (bs : List ℕ) (i r : ℕ) → 1 + i ≡ r → (bs ++ flat_map line (numbers 1 i)) ++ line r ≡ bs ++ flat_map line (numbers 1 (i + 1))
lines_more line bs i r e =
    ap (λ (x : ℕ). (bs ++ flat_map line (numbers 1 i)) ++ line x) (sym e)
    ∙ flat_map_more line bs (numbers 1 i) (1 + i) ∙ ap (λ (l : List ℕ). bs ++ flat_map line l) (sym (numbers_more 1 i))
