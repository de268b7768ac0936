use Rattle.std.proofs.Common.{ℕ, ◌+◌, ap, ◌∙◌, rules, tests}
use Rattle.rules.specs.Loops.{upto}
use Rattle.rules.specs.Setup.{round_start, round_width}
use Rattle.tables.specs.View.{view, setup_of}
use Rattle.terms.proofs.Blocks.{fold_by}
use Rattle.reacting.specs.Turns.{lower_by}
use Rattle.reacting.proofs.choice.lowest_rank.Goals as goal

pub returns : goal.returns
returns g c =
    let s = setup_of c.args.terms c.args.t.now in
    let lower = lower_by s g.R.Record.kind c.args.ranks (view c.args.terms c.args.t.now) c.args.seat in
    fold_by c.blocks_of.result (round_start s c.args.round) (round_width s) (c.blocks_of.ensures.first c.args.t.now.orders.now) c.blocks_of.ensures.count
    lower _ c.rank_in-rank.result c.fold.result c.fold.ensures.ran (λ a x b q k. search (rules, tests))
    ∙ ap (λ (low : ℕ). upto (λ x low. lower (round_start s c.args.round + x) low) low (round_width s)) c.rank_in-rank.ensures
