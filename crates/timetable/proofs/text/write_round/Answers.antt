use Rattle.std.proofs.Common.{append_assoc, rules}
use Rattle.timetable.specs.Text.{round_line}
use Rattle.timetable.proofs.text.write_round.Goals as goal

pub returns : goal.returns
unfolding round_line
returns g c = search (rules, append_assoc)
