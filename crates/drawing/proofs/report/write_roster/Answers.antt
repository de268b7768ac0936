use Rattle.std.proofs.Common.{append_assoc, rules}
use Rattle.drawing.specs.Report.{roster_line}
use Rattle.drawing.proofs.report.write_roster.Goals as goal

pub returns : goal.returns
unfolding roster_line
returns c = search (rules, append_assoc)
