use Rattle.std.proofs.Common.{get_or, rules}
use Rattle.orders.specs.Ranking.{Ranking, rank_answer}
use Rattle.orders.proofs.Orders.{order_same}
use Rattle.orders.proofs.Rows.{is_row}
use Rattle.orders.proofs.ranks_of.Goals as goal

pub returns : goal.returns
returns g c =
    let m : Ranking = g.B.Beacon.ranking c.args.beacon.now in
    let law = g.met.B.Beacon.lawful c.args.beacon.now in
    let inv = c.loop-seat.invariant in
    record {
      row = is_row m.seats (rank_answer m c.args.round) c.loop-seat.ranks
          inv.2 (λ s h. inv.0 s (search rules)) (λ s h. inv.1 s (search rules));
      order = λ p q. order_same m.seats (m.rank c.args.round) (λ s. get_or c.loop-seat.ranks s 0)
          (law.orders c.args.round p q) (λ s h. search rules);
    }
