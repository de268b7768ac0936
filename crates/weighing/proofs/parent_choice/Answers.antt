use borrow.Author.Rules.{rules}
use borrow.Author.Tests.{tests}
use Rattle.rules.specs.ParentChoice.{parent_choice}
use Rattle.rules.specs.Setup.{round_start, round_width}
use Rattle.tables.specs.View.{view, setup_of}
use Rattle.terms.proofs.Blocks.{fold_by}
use Rattle.weighing.specs.Turns.{heavier_of}
use Rattle.weighing.proofs.parent_choice.Goals as goal

pub returns : goal.returns
unfolding parent_choice
returns g c =
    let s = setup_of c.args.terms c.args.t.now in
    fold_by c.blocks_of.result (round_start s c.args.round) (round_width s) (c.blocks_of.ensures.first c.args.t.now.orders.now) c.blocks_of.ensures.count
    (heavier_of s (view c.args.terms c.args.t.now) c.args.seat) _ c.args.lowest c.fold.result c.fold.ensures.ran (λ a x b q k. search (rules, tests))
