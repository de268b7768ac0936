-- The deadlines of a round, as numbers.
use Rattle.std.specs.Prelude.{ℕ, suc, ◌+◌, ◌*◌}

-- the last tick at which an honest seat can be in round r, with f Byzantine seats: r times (f + 6) Δ
abbrev pub last_tick_of : ℕ → ℕ → ℕ → ℕ
last_tick_of f delay r = r * ((f + 6) * delay)

-- the tick at which an honest leader's block of round r is final everywhere: the wait of round r + 2 is over
abbrev pub final_at : ℕ → ℕ → ℕ → ℕ
final_at f delay r = last_tick_of f delay (suc r) + 2 * delay
