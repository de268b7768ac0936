-- Vigna's public generator SplitMix64, on numbers modulo 2 ^ 64.
use Rattle.std.specs.Prelude.{ℕ, zero, suc, ◌+◌, ◌*◌, ◌/◌, ◌%◌, ◌^◌, List, [], ◌∷◌, bit_xor}

-- the state after a draw
abbrev pub advanced : ℕ → ℕ
advanced s = (s + 0x9E37_79B9_7F4A_7C15) % 2 ^ 64

abbrev pub mixed_by_30 : ℕ → ℕ
mixed_by_30 z = (bit_xor z (z / 2 ^ 30) * 0xBF58_476D_1CE4_E5B9) % 2 ^ 64

abbrev pub mixed_by_27 : ℕ → ℕ
mixed_by_27 z = (bit_xor z (z / 2 ^ 27) * 0x94D0_49BB_1331_11EB) % 2 ^ 64

abbrev pub mixed_by_31 : ℕ → ℕ
mixed_by_31 z = bit_xor z (z / 2 ^ 31)

-- what a draw gives, of the state after it
abbrev pub drawn : ℕ → ℕ
drawn s = mixed_by_31 (mixed_by_27 (mixed_by_30 s))

-- the next k draws from the state s
unfoldable pub draws : ℕ → ℕ → List ℕ
draws zero s = []
draws (suc k) s = drawn (advanced s) ∷ draws k (advanced s)
