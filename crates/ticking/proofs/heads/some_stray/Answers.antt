use Rattle.std.proofs.Common.{rules, tests}
use Rattle.rules.specs.Setup.{round_start, round_width}
use Rattle.tables.specs.View.{view, setup_of}
use Rattle.terms.proofs.Blocks.{any_by}
use Rattle.ticking.specs.Strays.{stray}
use Rattle.ticking.proofs.heads.some_stray.Goals as goal

pub returns : goal.returns
unfolding stray
returns g c =
    let s = setup_of c.args.terms c.args.t.now in
    any_by c.blocks_of.result (round_start s c.args.round) (round_width s) (c.blocks_of.ensures.first c.args.t.now.orders.now) c.blocks_of.ensures.count
    (stray s g.R.Record.kind (view c.args.terms c.args.t.now) c.args.seat c.args.parent) _ c.any.result _ c.any.ensures.ran (λ x b q k. search (rules, tests))
