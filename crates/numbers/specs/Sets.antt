-- A set of seats as a number: seat s is bit s.
use Rattle.std.specs.Prelude.{ℕ, ◌/◌, ◌%◌, ◌^◌, Bool, cond, ◌==◌, nat_lt}

-- whether seat s is in the set m
abbrev pub has_bit : ℕ → ℕ → Bool
has_bit m s = m / 2 ^ s % 2 == 1

-- the set of seat s alone; there is no seat 16, nor any above, and their set is empty
abbrev pub seat_bit : ℕ → ℕ
seat_bit s = cond (nat_lt s 16) (2 ^ s) 0
