-- Sets of seats: how many are in one, and that no more than f seats are Byzantine.
use Rattle.std.proofs.Common.{◌≡◌, ℕ, zero, suc, ◌/◌, ◌%◌, ◌^◌, ◌<◌, ◌≤◌, Bool, true, false, cond, not, T, ltb, sym, subst, le_refl, arith, ltb→lt, lt→ltb}
use lib.Count.{ones}
use Rattle.roster.specs.Marks.{is_marked}
use Rattle.rules.specs.Counting.{count}
use Rattle.rules.specs.Sets.{bit}
use Rattle.rules.specs.Setup.{Setup, honest}
use Rattle.laws.proofs.Counts.{count_mono_below}
use Rattle.laws.proofs.Sets.{bit_suc, bit_zero, count_ones}
use Rattle.laws.proofs.Tests.{both_l}
use Rattle.laws.proofs.BenchView.{Proper}

-- a set with no seat from n on is below 2 ^ n
no_bits : (k m : ℕ) → m ≤ k → ((x : ℕ) → T (bit m x) → ⊥) → m ≡ 0
no_bits zero m l f = omega arith
no_bits (suc k) m l f =
    let h = no_bits k (m / 2) (omega arith) (λ x t. f (suc x) (subst T (sym (bit_suc m x)) t)) in
    omega (arith, h, even (bit m 0) (f 0) (bit_zero m))
  where
    even : (b : Bool) → (T b → ⊥) → cond b 1 0 ≡ m % 2 → m % 2 ≡ 0
    even true n e = absurd (n tt)
    even false n e = sym e

bits_below : (n m : ℕ) → ((x : ℕ) → T (bit m x) → x < n) → m < 2 ^ n
bits_below zero m f = let e = no_bits m m (le_refl m) (λ x t. omega (arith, f x t)) in omega (arith, e)
bits_below (suc n) m f = let h = bits_below n (m / 2) (λ x t. omega (arith, f (suc x) (subst T (sym (bit_suc m x)) t))) in omega (arith, h)

-- a set of seats below n: counting the seats and counting the bits is the same
pub count_set : (n m : ℕ) → ((x : ℕ) → T (bit m x) → x < n) → count n (bit m) ≡ ones m
count_set n m f = count_ones n m (bits_below n m f)

-- an honest seat is one of the n
pub honest_below : (s : Setup) (i : ℕ) → T (honest s i) → i < s.n
honest_below s i h = ltb→lt i s.n (both_l (ltb i s.n) (not (is_marked s.marks i)) h)

is_bit : (m i : ℕ) → T (is_marked m i) → T (bit m i)
unfolding bit
is_bit m i t = t

-- the seats that are not honest are those marked
pub few : (s : Setup) → Proper s → count s.n (λ i. not (honest s i)) ≤ ones s.marks
few s P = omega (arith, count_mono_below s.n (λ i. not (honest s i)) (bit s.marks) marked, count_ones s.n s.marks P.marks)
  where
    marked : (i : ℕ) → i < s.n → T (not (honest s i)) → T (bit s.marks i)
    marked i l t = is_bit s.marks i (go (ltb i s.n) (is_marked s.marks i) (lt→ltb i s.n l) t)
      where
        go : (a b : Bool) → T a → T (not (cond a (not b) false)) → T b
        go true true x y = tt
        go true false x y = y
        go false b x y = absurd x
