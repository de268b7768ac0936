-- Sets of seats as numbers: one seat more, and seats that no number of 16 bits has.
use Rattle.std.proofs.Common.{◌≡◌, ℕ, ◌+◌, ◌*◌, ◌/◌, ◌%◌, ◌^◌, ◌<◌, sym, ap, refl, ◌∙◌, ◌≤◌, false, add-mul, one-mul, zero-mul, ⊎_elim, arith, rules, pow_pos}
use lib.Bits.{bit_and, bit_or, or_disjoint, or_lt, and_block, and_mask, and_zero_r}
use lib.Count.{ones, ones_step, ones_cat}
use lib.Pow.{pow-lt}
use Rattle.std.proofs.Math.Nat.{div-eq_of_lt}
use Rattle.std.proofs.Math.Pow.{pow_mono}
use Rattle.std.proofs.lemmas.Bool.{lt-ltb, le-ltb, cases_lt}
use Rattle.numbers.specs.Sets.{has_bit, seat_bit}
use Rattle.std.proofs.lemmas.Nat.{shr_split, mod_below}

-- one more than an even number has one more bit
ones_odd : (h : ℕ) → h % 2 ≡ 0 → ones (h + 1) ≡ ones h + 1
ones_odd h e =
    let p : (h + 1) / 2 ≡ h / 2 = omega arith in
    let q : (h + 1) % 2 ≡ 1 = omega arith in
    let s = ones_step (h + 1) in
    let t = ones_step h in
    let u : ones ((h + 1) / 2) ≡ ones (h / 2) = ap ones p in
    omega (arith, s, t, u)

pub ones_add : (m s : ℕ) → m / 2 ^ s % 2 ≡ 0 → ones (m + 2 ^ s) ≡ ones m + 1
ones_add m s e =
    let h : ℕ = m / 2 ^ s in
    let r : ℕ = m % 2 ^ s in
    let lt : r < 2 ^ s = mod_below m (2 ^ s) (pow_pos s) in
    let whole : h * 2 ^ s + r ≡ m = shr_split m s in
    let more : (h + 1) * 2 ^ s + r ≡ m + 2 ^ s = omega (arith, add-mul h 1 (2 ^ s), one-mul (2 ^ s), whole) in
    let a : ones (h * 2 ^ s + r) ≡ ones h + ones r = ones_cat s h r lt in
    let b : ones ((h + 1) * 2 ^ s + r) ≡ ones (h + 1) + ones r = ones_cat s (h + 1) r lt in
    let o : ones (h + 1) ≡ ones h + 1 = ones_odd h e in
    let x : ones (h * 2 ^ s + r) ≡ ones m = ap ones whole in
    let y : ones ((h + 1) * 2 ^ s + r) ≡ ones (m + 2 ^ s) = ap ones more in
    omega (arith, a, b, o, x, y)

-- a clear bit is set by an addition
pub or_bit : (m s : ℕ) → m / 2 ^ s % 2 ≡ 0 → bit_or m (2 ^ s) ≡ m + 2 ^ s
or_bit m s e =
    let h : ℕ = m / 2 ^ s in
    let r : ℕ = m % 2 ^ s in
    let lt : r < 2 ^ s = mod_below m (2 ^ s) (pow_pos s) in
    let whole : h * 2 ^ s + r ≡ m = shr_split m s in
    let one : 1 * 2 ^ s + 0 ≡ 2 ^ s = omega (arith, one-mul (2 ^ s)) in
    let b : bit_and (h * 2 ^ s + r) (1 * 2 ^ s + 0) ≡ bit_and h 1 * 2 ^ s + bit_and r 0 = and_block s h 1 r 0 lt (pow_pos s) in
    let z : bit_and h 1 ≡ 0 = and_mask h 1 ∙ e in
    let c : bit_and (h * 2 ^ s + r) (1 * 2 ^ s + 0) ≡ 0 = b ∙ ap (λ (x : ℕ). x * 2 ^ s + bit_and r 0) z ∙ ap (λ (x : ℕ). 0 * 2 ^ s + x) (and_zero_r r) ∙ omega (arith, zero-mul (2 ^ s)) in
    or_disjoint m (2 ^ s) (sym (ap (λ (x : ℕ). bit_and x (1 * 2 ^ s + 0)) whole ∙ ap (bit_and m) one) ∙ c)

pub ones_or : (m s : ℕ) → m / 2 ^ s % 2 ≡ 0 → ones (bit_or m (2 ^ s)) ≡ ones m + 1
ones_or m s e = ap ones (or_bit m s e) ∙ ones_add m s e

-- one seat more
pub one_more : (m s : ℕ) → s < 16 → has_bit m s ≡ false → ones (bit_or m (seat_bit s)) ≡ ones m + 1
one_more m s lt e =
    let clear : m / 2 ^ s % 2 ≡ 0 = search rules in
    rw (lt-ltb s 16 lt) (ones_or m s clear)

seat_bit_within : (s n : ℕ) → s < n → seat_bit s < 2 ^ n
seat_bit_within s n h =
    ⊎_elim
    (λ (l : s < 16). rw (lt-ltb s 16 l) (pow-lt h))
    (λ (g : 16 ≤ s). rw (le-ltb s 16 g) (pow_pos n))
    (cases_lt s 16)

-- a set of the seats below n stays one
pub still_within : (m s n : ℕ) → s < n → m < 2 ^ n → bit_or m (seat_bit s) < 2 ^ n
still_within m s n in_n few = or_lt n m (seat_bit s) few (seat_bit_within s n in_n)

pub none_past : (m s : ℕ) → m < 65536 → 16 ≤ s → has_bit m s ≡ false
none_past m s few past =
    let up = pow_mono past in
    let gone : m / 2 ^ s ≡ 0 = div-eq_of_lt (omega (arith, up)) in
    rw gone refl
