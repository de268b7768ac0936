use Rattle.std.proofs.Common.{rules}
use Rattle.tables.specs.View.{view, setup_of}
use Rattle.ticking.proofs.Turns.{due_waits, due_seat}
use Rattle.ticking.proofs.Woken.{woken_seat_reacts}
use Rattle.ticking.proofs.due.end_if_due.Goals as goal

pub wake-requires : goal.wake-requires
wake-requires g c =
    let e = due_waits (setup_of c.args.terms c.args.t.now) (view c.args.terms c.args.t.now) c.args.seat (search rules) in
    search rules

pub returns-then-wait_due : goal.returns-then-wait_due
returns-then-wait_due g c =
    let s = setup_of c.args.terms c.args.t.now in
    let t = view c.args.terms c.args.t.now in
    let e = woken_seat_reacts s g.R.Record.kind t c.args.seat (due_seat s t c.args.seat (search rules)) in
    search rules
