use Rattle.std.proofs.Common.{◌≡◌, take}
use Rattle.orders.specs.Rows.{order_rows}
use Rattle.opening.proofs.fills.fill_orders.Given as goal

-- the rows so far
abbrev pub invariant-loop-i : goal.invariant-loop-i
invariant-loop-i g l = take l.i l.rows ≡ order_rows (g.B.Beacon.ranking l.beacon) l.i
