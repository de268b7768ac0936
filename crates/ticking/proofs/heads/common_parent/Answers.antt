use Rattle.std.proofs.Common.{rules}
use Rattle.tables.specs.View.{view, setup_of}
use Rattle.ticking.proofs.HeadsRead.{head_by}
use Rattle.ticking.proofs.heads.common_parent.Goals as goal

pub returns-then-some_stray : goal.returns-then-some_stray
returns-then-some_stray g c =
    let s = setup_of c.args.terms c.args.t.now in
    let e = head_by s g.R.Record.kind (view c.args.terms c.args.t.now) c.args.seat c.args.round c.args.old c.in-Some.first c.block_row-parent.result.parent (search rules) in
    search rules

pub returns-else-some_stray : goal.returns-else-some_stray
returns-else-some_stray g c =
    let s = setup_of c.args.terms c.args.t.now in
    let e = head_by s g.R.Record.kind (view c.args.terms c.args.t.now) c.args.seat c.args.round c.args.old c.in-Some.first c.block_row-parent.result.parent (search rules) in
    search rules
