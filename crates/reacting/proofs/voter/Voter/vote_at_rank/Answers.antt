use Rattle.std.proofs.Common.{◌+◌, ap, ◌∙◌, rules}
use Rattle.rules.specs.Loops.{upto}
use Rattle.rules.specs.Setup.{round_start, round_width}
use Rattle.tables.specs.View.{view, setup_of}
use Rattle.terms.proofs.Blocks.{number_at, numbers_end}
use Rattle.reacting.specs.Turns.{vote_by}
use Rattle.reacting.proofs.ByOrder.{turn_more}
use Rattle.reacting.proofs.voter.Voter.vote_at_rank.Goals as goal

pub loop-block-init : goal.loop-block-init
unfolding upto
loop-block-init g c = search rules

pub loop-block-preserved : goal.loop-block-preserved
loop-block-preserved g c =
    let s = setup_of c.args.terms c.args.t.now in
    let first = round_start s (c.args.self.past + 1) in
    let first_is = c.blocks_of-block-items.ensures.first c.args.t.now.orders.now in
    let at = number_at c.into_iter-block-iterator.result first (round_width s) (search rules) (search rules)
    c.loop-block.yielded _ c.loop-block.yielded_by _ _ c.in-Some.block c.in-Some.is c.next.ensures.steps in (
      turn_more (vote_by s g.R.Record.kind c.args.ranks c.args.self.seat c.args.low) (view c.args.terms c.args.t.now) (view c.args.terms c.loop-block.t) (view c.args.terms c.vote_if_lowest.new.t)
          first c.in-Some.block c.loop-block.yielded at c.loop-block.invariant.0 c.vote_if_lowest.ensures.is,
      search rules,
      search rules,
    )

pub returns : goal.returns
returns g c =
    let s = setup_of c.args.terms c.args.t.now in
    let first = round_start s (c.args.self.past + 1) in
    let turns = upto (λ x u. vote_by s g.R.Record.kind c.args.ranks c.args.self.seat c.args.low (first + x) u) (view c.args.terms c.args.t.now) in
    let first_is = c.blocks_of-block-items.ensures.first c.args.t.now.orders.now in
    let all = numbers_end c.into_iter-block-iterator.result first (round_width s) (search rules) (search rules)
    c.loop-block.yielded _ c.loop-block.yielded_by _ _ c.in-None.is c.next.ensures.steps in
    record {
      is = c.loop-block.invariant.0 ∙ ap turns all;
      same = search rules;
      seats = search rules;
    }
