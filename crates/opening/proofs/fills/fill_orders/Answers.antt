use Rattle.std.proofs.Common.{◌+◌, arith}
use Rattle.orders.specs.Rows.{order_row}
use Rattle.orders.proofs.Rows.{fill_step}
use Rattle.opening.proofs.fills.fill_orders.Goals as goal

pub loop-i-preserved : goal.loop-i-preserved
loop-i-preserved g c =
    fill_step (order_row (g.B.Beacon.ranking c.args.beacon.now)) 1 c.loop-i.i (c.loop-i.i + 1) c.loop-i.rows c.ranks_of.result
    (omega arith) (omega arith) c.ranks_of.ensures.row c.loop-i.invariant
