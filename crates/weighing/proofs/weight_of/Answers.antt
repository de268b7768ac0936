use Prim.Native.Nat.{◌-◌}
use borrow.Author.Rules.{rules}
use Rattle.tables.specs.View.{setup_of}
use Rattle.weighing.proofs.Laws.{weight_step}
use Rattle.weighing.proofs.weight_of.Goals as goal

pub loop-preserved : goal.loop-preserved
loop-preserved g c =
    let e = weight_step (setup_of c.args.terms c.args.t.now) (c.round_of-end.result - c.loop.counter) c.args.t.now.blocks.now c.loop.at in
    search rules

pub returns : goal.returns
returns g c =
    let e = weight_step (setup_of c.args.terms c.args.t.now) (c.round_of-end.result - c.loop.counter) c.args.t.now.blocks.now c.loop.at in
    search rules
