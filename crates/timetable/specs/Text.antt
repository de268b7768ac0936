-- The text of a timetable.
use Rattle.std.specs.Prelude.{◌≡◌, ℕ, List, ◌++◌, Some, None, codes, decimal}
use Rattle.std.specs.List.{flat_map}
use Rattle.orders.specs.Rows.{numbers}
use Rattle.timetable.specs.Deadlines.{last_tick_of, final_at}
use Rattle.timetable.specs.Promises.{deadline_refusal}
use Rattle.refusals.specs.declared.TextFault.{TextFault}
use Rattle.refusals.specs.declared.TextFault.TheVariants.{Refused, Memory}
use Rattle.rules.specs.declared.fault.BenchFault.{BenchFault}

-- a round, with f Byzantine seats
unfoldable pub round_line : ℕ → ℕ → ℕ → List ℕ
round_line f delay r =
    codes "round " ++ (decimal r ++ (codes " over after " ++ (decimal (last_tick_of f delay r) ++ (codes " final by " ++ (decimal (final_at f delay r) ++ codes "\n")))))

-- the rounds from 1 to R, a line each
unfoldable pub timetable_lines : ℕ → ℕ → ℕ → List ℕ
timetable_lines f delay R = flat_map (round_line f delay) (numbers 1 R)

-- why there is no timetable: no bench has this delay or so many rounds, or memory ran out
abbrev pub NoTimetable : ℕ → ℕ → TextFault BenchFault → Type 0
NoTimetable delay R (Refused f) = deadline_refusal delay R ≡ Some f
NoTimetable delay R Memory = deadline_refusal delay R ≡ None
