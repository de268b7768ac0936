use borrow.Author.Rules.{rules}
use borrow.Author.Tests.{tests}
use Rattle.rules.specs.Holding.{holds_notarisation}
use Rattle.rules.specs.Setup.{round_start, round_width}
use Rattle.tables.specs.View.{view, setup_of}
use Rattle.terms.proofs.Blocks.{found_by}
use Rattle.holding.proofs.notarised.lowest_notarised.Goals as goal

pub returns : goal.returns
returns g c =
    let s = setup_of c.args.terms c.args.t.now in
    found_by c.blocks_of.result (round_start s c.args.round) (round_width s) (c.blocks_of.ensures.first c.args.t.now.orders.now) c.blocks_of.ensures.count
    (holds_notarisation s (view c.args.terms c.args.t.now) c.args.seat) _ c.find.result _ c.find.ensures.ran (λ x b q k. search (rules, tests))
