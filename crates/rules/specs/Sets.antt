-- A set of seats as a number: seat s is bit s.
use Rattle.std.specs.Prelude.{ℕ, Bool}
use Rattle.roster.specs.Marks.{is_marked}

-- seat s is in the set m
unfoldable pub bit : ℕ → ℕ → Bool
bit m s = is_marked m s
