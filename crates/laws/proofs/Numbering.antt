-- The numbers of blocks: which round, which owner, and that they lie within the tables.
use Rattle.std.proofs.Common.{◌≡◌, ℕ, zero, suc, ◌+◌, ◌-◌, ◌*◌, ◌/◌, ◌%◌, ◌<◌, ◌≤◌, refl, ap, ◌∙◌, mul-le-mul_right, mod-lt, mul_comm, div-add-mod', arith}
use native.Mathlib.Nat.{div-div-eq-div-mul}
use Rattle.std.proofs.lemmas.Nat.{div-mul-add, mod-mul-add, mul-add-lt}
use Rattle.numbers.specs.Numbering.{number_of}
use Rattle.numbers.proofs.Numbers.{round_past_zero}
use Rattle.rules.specs.Setup.{Setup, block_round, block_owner, own_block, round_start, round_width, block_rows}
use Rattle.laws.proofs.BenchView.{Proper}

module _ (s : Setup) where
  -- only block 0 is of round 0
  pub round_above : (b : ℕ) → 1 ≤ b → 1 ≤ block_round s b
  round_above b l = omega (arith, round_past_zero s.n s.editions b l)

  pub root_only : (b : ℕ) → block_round s b ≡ 0 → b ≡ 0
  root_only zero e = refl
  root_only (suc b) e = absurd (omega (arith, e, round_above (suc b) (omega arith)))

module _ (s : Setup) (P : Proper s) where
  abbrev w : ℕ
  w = s.n * s.editions

  w_pos : 1 ≤ w
  w_pos = omega (arith, mul-add-lt 0 s.n 0 s.editions P.editions P.seats)

  pub owner_below : (b : ℕ) → block_owner s b < s.n
  owner_below b = mod-lt ((b - 1) / s.editions) P.seats

  -- the round by rows of n × E
  round_row : (b : ℕ) → 1 ≤ b → block_round s b ≡ suc ((b - 1) / w)
  round_row b l =
      let d : (b - 1) / s.editions / s.n ≡ (b - 1) / w =
      div-div-eq-div-mul (b - 1) s.editions s.n ∙ ap (λ (y : ℕ). (b - 1) / y) (mul_comm s.editions s.n) in
      omega (arith, round_past_zero s.n s.editions b l, d)

  -- the blocks of a round are the numbers of a range
  pub in_round : (r c : ℕ) → block_round s c ≡ suc r → (round_start s (suc r) ≤ c) × (c < round_start s (suc r) + round_width s)
  in_round r zero e = absurd (omega arith)
  in_round r (suc b) e =
      let x = suc b - 1 in
      let one : suc x ≡ suc b = omega arith in
      let q : x / w ≡ r = omega (arith, e, round_row (suc b) (omega arith)) in
      let d : x / w * w + x % w ≡ x = div-add-mod' x w in
      let m = mod-lt x w_pos in
      let f : x / w * w ≡ r * w = ap (λ (y : ℕ). y * w) q in
      (omega (arith, d, f, one), omega (arith, d, f, m, one))

  -- .. and all of them
  pub round_in : (r c : ℕ) → round_start s (suc r) ≤ c → c < round_start s (suc r) + round_width s → block_round s c ≡ suc r
  round_in r c l u =
      let d = c - 1 - r * w in
      let e : c - 1 ≡ r * w + d = omega arith in
      round_row c (omega arith) ∙ ap suc (ap (λ (x : ℕ). x / w) e ∙ div-mul-add r w d (omega arith))

  -- the number of a block has its round and its owner
  module _ (i r e : ℕ) (li : i < s.n) (pos : 1 ≤ r) (le : e < s.editions) where
    before : (number_of s.n s.editions r i e - 1) / s.editions ≡ (r - 1) * s.n + i
    before =
        let x = (r - 1) * s.n + i in
        let off : number_of s.n s.editions r i e - 1 ≡ x * s.editions + e = omega arith in
        ap (λ (y : ℕ). y / s.editions) off ∙ div-mul-add x s.editions e le

    pub number_round : block_round s (number_of s.n s.editions r i e) ≡ r
    number_round =
        round_past_zero s.n s.editions (number_of s.n s.editions r i e) (omega arith) ∙ ap (λ (y : ℕ). 1 + y / s.n) before
        ∙ ap (λ (y : ℕ). 1 + y) (div-mul-add (r - 1) s.n i li) ∙ omega arith

    pub number_owner : block_owner s (number_of s.n s.editions r i e) ≡ i
    number_owner = ap (λ (y : ℕ). y % s.n) before ∙ mod-mul-add (r - 1) s.n i li

  -- the own block of a seat
  pub own_round : (i r : ℕ) → i < s.n → 1 ≤ r → block_round s (own_block s i r) ≡ r
  own_round i r l p = number_round i r 0 l p P.editions

  pub own_owner : (i r : ℕ) → i < s.n → 1 ≤ r → block_owner s (own_block s i r) ≡ i
  own_owner i r l p = number_owner i r 0 l p P.editions

  -- within the tables
  pub round_room : (r c : ℕ) → block_round s c ≡ suc r → suc r ≤ s.rounds → c < block_rows s
  round_room r c e l = omega (arith, (in_round r c e).1, mul-le-mul_right w l)

  pub number_room : (i r e : ℕ) → i < s.n → 1 ≤ r → e < s.editions → r ≤ s.rounds → number_of s.n s.editions r i e < block_rows s
  number_room i zero e li p le l = absurd (omega arith)
  number_room i (suc r) e li p le l = round_room r (number_of s.n s.editions (suc r) i e) (number_round i (suc r) e li p le) l

  pub row_room : (b i : ℕ) → b < block_rows s → i < s.n → b * s.n + i < block_rows s * s.n
  row_room b i l li = omega (arith, mul-add-lt b s.n i (block_rows s) l li)

  pub certificate_room : (i r : ℕ) → i < s.n → r < s.rounds → i * s.rounds + r < s.n * s.rounds
  certificate_room i r li l = omega (arith, mul-add-lt i s.rounds r s.n li l)
