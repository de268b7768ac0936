use Rattle.std.proofs.Common.{rules}
use Rattle.drawing.proofs.Marking.{marked_step, marked_end}
use Rattle.drawing.proofs.seating.seat_all.Goals as goal

pub returns-in_err-mark : goal.returns-in_err-mark
returns-in_err-mark c =
    let step = marked_step c.args.n c.loop-seat.roster.marks c.args.byzantine.now c.loop-seat.seat-index (search rules) in
    search rules

pub loop-seat-preserved : goal.loop-seat-preserved
loop-seat-preserved c =
    let step = marked_step c.args.n c.loop-seat.roster.marks c.args.byzantine.now c.loop-seat.seat-index (search rules) in
    search rules

pub returns : goal.returns
returns c =
    let end = marked_end c.args.n c.loop-seat.roster.marks c.args.byzantine.now c.loop-seat.seat-index (search rules) in
    search rules
