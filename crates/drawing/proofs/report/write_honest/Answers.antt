use Rattle.std.proofs.Common.{rules}
use Rattle.drawing.specs.Report.{honest_line}
use Rattle.drawing.proofs.report.write_honest.Goals as goal

pub returns : goal.returns
unfolding honest_line
returns c = search rules
