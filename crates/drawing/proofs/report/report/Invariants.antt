use Rattle.std.proofs.Common.{◌≡◌, ◌+◌, ◌-◌, ◌≤◌, ◌++◌, string_bytes}
use Rattle.drawing.specs.Report.{roster_line, round_lines}
use Rattle.drawing.proofs.report.report.Given as goal

-- the rounds below this one are written
abbrev pub invariant-loop-round : goal.invariant-loop-round
invariant-loop-round g l =
    (string_bytes l.out ≡ roster_line l.roster.n l.roster.marks ++ round_lines l.roster.n l.roster.marks (g.B.Beacon.ranking l.beacon) (l.round - 1)) × (1 ≤ l.round) × (l.round ≤ l.rounds + 1)
