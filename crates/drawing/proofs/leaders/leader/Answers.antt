use Rattle.std.proofs.Common.{rules}
use Rattle.orders.specs.Ranking.{Ranking, seat_of_rank}
use Rattle.orders.proofs.Rows.{sixteen_at}
use Rattle.drawing.proofs.leaders.leader.Goals as goal

-- the first seat of the row is that of rank 0
pub returns : goal.returns
returns g c =
    let m : Ranking = g.B.Beacon.ranking c.args.beacon.now in
    let law = g.met.B.Beacon.lawful c.args.beacon.now in
    let first = sixteen_at m.seats (seat_of_rank m.seats (m.rank c.args.round)) 0 law.sixteen law.some in
    search rules
