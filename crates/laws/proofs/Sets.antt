-- Sets of seats as numbers: seat s is bit s. How many are in a set, unions, and the set of one seat.
use Rattle.std.proofs.Common.{◌≡◌, ℕ, zero, suc, ◌+◌, ◌/◌, ◌%◌, ◌^◌, ◌<◌, Bool, cond, ◌||◌, T, eqb, sym, refl, ap, ◌∙◌, subst, ap₂, div-le_self, div-one, arith, eqb→eq}
use native.Mathlib.Nat.{pow-succ', div-div-eq-div-mul, add_left_comm}
use lib.Count.{ones, ones_step}
use lib.Bits.{bit_or, or_shr, or_mod}
use Rattle.rules.specs.Counting.{count}
use Rattle.rules.specs.Sets.{bit}

-- a count, seat 0 apart
count_low : (n : ℕ) (p : ℕ → Bool) → count (suc n) p ≡ cond (p 0) 1 0 + count n (λ s. p (suc s))
count_low zero p = refl
count_low (suc n) p = ap (λ (x : ℕ). cond (p (suc n)) 1 0 + x) (count_low n p)
    ∙ add_left_comm (cond (p (suc n)) 1 0) (cond (p 0) 1 0) (count n (λ s. p (suc s)))

-- two tests that agree have one count
pub count_same : (n : ℕ) (p q : ℕ → Bool) → ((s : ℕ) → p s ≡ q s) → count n p ≡ count n q
count_same zero p q e = refl
count_same (suc n) p q e = ap₂ (λ (a : Bool) (x : ℕ). cond a 1 0 + x) (e n) (count_same n p q e)

-- the seats from 1 on, moved down by one, are the set m / 2; seat 0 is the remainder
pub bit_suc : (m s : ℕ) → bit m (suc s) ≡ bit (m / 2) s
unfolding bit
bit_suc m s = ap (λ (x : ℕ). eqb (x % 2) 1) (ap (λ (x : ℕ). m / x) (pow-succ' 2 s) ∙ sym (div-div-eq-div-mul m 2 (2 ^ s)))

digit : (x : ℕ) → x < 2 → cond (eqb x 1) 1 0 ≡ x
digit zero l = refl
digit (suc zero) l = refl
digit (suc (suc x)) l = absurd (omega arith)

pub bit_zero : (m : ℕ) → cond (bit m 0) 1 0 ≡ m % 2
unfolding bit
bit_zero m = ap (λ (x : ℕ). cond (eqb (x % 2) 1) 1 0) (div-one m) ∙ digit (m % 2) (omega arith)

-- how many seats are in a set
pub count_ones : (n m : ℕ) → m < 2 ^ n → count n (bit m) ≡ ones m
unfolding ones
count_ones zero m l = let e : 0 ≡ m = omega arith in ap ones e
count_ones (suc n) m l =
    count_low n (bit m)
    ∙ ap₂ (λ (x y : ℕ). x + y) (bit_zero m) (count_same n (λ s. bit m (suc s)) (bit (m / 2)) (bit_suc m) ∙ count_ones n (m / 2) (omega arith))
    ∙ sym (ones_step m)

or_bit : (a b : ℕ) → a < 2 → b < 2 → eqb (bit_or a b) 1 ≡ (eqb a 1 || eqb b 1)
or_bit zero zero l k = refl
or_bit zero (suc zero) l k = refl
or_bit zero (suc (suc b)) l k = absurd (omega arith)
or_bit (suc zero) zero l k = refl
or_bit (suc zero) (suc zero) l k = refl
or_bit (suc zero) (suc (suc b)) l k = absurd (omega arith)
or_bit (suc (suc a)) b l k = absurd (omega arith)

-- a seat is in the union of two sets if it is in one of them
pub bit-bit_or : (a b s : ℕ) → bit (bit_or a b) s ≡ (bit a s || bit b s)
unfolding bit
bit-bit_or a b s =
    ap (λ (x : ℕ). eqb (x % 2) 1) (or_shr a b s) ∙ ap (λ (x : ℕ). eqb x 1) (or_mod (a / 2 ^ s) (b / 2 ^ s) 1)
    ∙ or_bit (a / 2 ^ s % 2) (b / 2 ^ s % 2) (omega arith) (omega arith)

half : (i : ℕ) → 2 ^ suc i / 2 ≡ 2 ^ i
half i = omega arith

-- seat i is in the set 2 ^ i
pub bit_own : (i : ℕ) → T (bit (2 ^ i) i)
unfolding bit
bit_own zero = tt
bit_own (suc i) = subst T (sym (bit_suc (2 ^ suc i) i ∙ ap (λ (x : ℕ). bit x i) (half i))) (bit_own i)

-- no seat is in the set 0
pub bit_none : (x : ℕ) → T (bit 0 x) → ⊥
unfolding bit
bit_none x t = let e = eqb→eq (0 / 2 ^ x % 2) 1 t in omega (arith, e, div-le_self 0 (2 ^ x))

even : (i : ℕ) → T (bit (2 ^ suc i) 0) → ⊥
unfolding bit
even i t = let e = eqb→eq (2 ^ suc i / 2 ^ 0 % 2) 1 t in omega (arith, e)

-- no other seat than i is in the set 2 ^ i
pub bit_other : (i x : ℕ) → T (bit (2 ^ i) x) → x ≡ i
bit_other zero zero t = refl
bit_other (suc i) zero t = absurd (even i t)
bit_other zero (suc x) t = absurd (bit_none x (subst T (bit_suc 1 x) t))
bit_other (suc i) (suc x) t = ap suc (bit_other i x (subst T (bit_suc (2 ^ suc i) x ∙ ap (λ (y : ℕ). bit y x) (half i)) t))
