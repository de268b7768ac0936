use Rattle.std.proofs.Common.{◌≡◌, ◌+◌, ◌-◌, ◌≤◌, string_bytes}
use lib.Count.{ones}
use Rattle.timetable.specs.Text.{timetable_lines}
use Rattle.timetable.proofs.text.timetable.Given as goal

-- the rounds below this one are written
abbrev pub invariant-loop-round : goal.invariant-loop-round
invariant-loop-round g l = (string_bytes l.out ≡ timetable_lines (ones l.roster.marks) l.delay (l.round - 1)) × (1 ≤ l.round) × (l.round ≤ l.rounds + 1)
