use Rattle.std.proofs.Common.{append_assoc, rules}
use Rattle.orders.specs.Ranking.{Ranking, seat_of_rank}
use Rattle.orders.proofs.Rows.{sixteen_at}
use Rattle.drawing.specs.Report.{round_line}
use Rattle.drawing.proofs.report.write_round.Goals as goal

pub returns : goal.returns
unfolding round_line
returns g c =
    let m : Ranking = g.B.Beacon.ranking c.args.beacon.now in
    let law = g.met.B.Beacon.lawful c.args.beacon.now in
    let first = sixteen_at m.seats (seat_of_rank m.seats (m.rank c.args.round)) 0 law.sixteen law.some in
    search (rules, append_assoc)
