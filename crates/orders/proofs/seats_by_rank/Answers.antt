use Rattle.std.proofs.Common.{◌≡◌, ◌<◌, ◌≤◌, true, length, get_or, Some, sym, ap, ◌∙◌, arith, rules}
use Rattle.orders.specs.Ranking.{Ranking, Order, covers, seat_of_rank}
use Rattle.orders.proofs.Orders.{order_seat, placed_more, placed_past}
use Rattle.orders.proofs.Rows.{is_row, order_row_at}
use Rattle.orders.proofs.seats_by_rank.Goals as goal

pub loop-seat-preserved : goal.loop-seat-preserved
loop-seat-preserved g c =
    let m : Ranking = g.B.Beacon.ranking c.args.beacon.now in
    let law = g.met.B.Beacon.lawful c.args.beacon.now in
    let r = c.args.round in
    let s = c.loop-seat.seat in
    let row = c.loop-seat.seats in
    let inv = c.loop-seat.invariant in
    let lt : s < m.seats = search rules in
    let some : 1 ≤ r = search rules in
    let last : r ≤ m.rounds = search rules in
    let in_rounds : covers m r ≡ true = search rules in
    let order : Order m.seats (m.rank r) = law.orders r some last in
    let at : get_or c.ranks_of-ranks.result s 0 ≡ m.rank r s
    = ap (λ (xs : _). get_or xs s 0) c.ranks_of-ranks.ensures.row ∙ order_row_at m r s law.sixteen in_rounds lt in
    let long : m.seats ≤ length row = omega (arith, inv.2, law.sixteen) in
    rw at (
      placed_more m.seats (m.rank r) row s order long lt inv.0,
      placed_past m.seats (m.rank r) row s order lt inv.1,
      search rules,
    )

pub returns : goal.returns
returns g c =
    let m : Ranking = g.B.Beacon.ranking c.args.beacon.now in
    let law = g.met.B.Beacon.lawful c.args.beacon.now in
    let r = c.args.round in
    let inv = c.loop-seat.invariant in
    let some : 1 ≤ r = search rules in
    let last : r ≤ m.rounds = search rules in
    let in_rounds : covers m r ≡ true = search rules in
    let seat = order_seat m.seats (m.rank r) (law.orders r some last) in
    let row = is_row m.seats (seat_of_rank m.seats (m.rank r)) c.loop-seat.seats inv.2
    (λ k h. ap (λ (x : _). get_or c.loop-seat.seats x 0) (sym (seat k h).1) ∙ inv.0 (seat_of_rank m.seats (m.rank r) k) (search rules))
    (λ k h. inv.1 k (search rules)) in
    rw in_rounds (ap Some row)
