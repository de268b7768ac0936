use Rattle.std.proofs.Common.{rules, tests}
use Rattle.rules.specs.Setup.{round_start, round_width}
use Rattle.rules.specs.VotingChoice.{holds_valid}
use Rattle.std.proofs.lemmas.Option.{IfSome_then}
use Rattle.tables.specs.View.{view, setup_of}
use Rattle.terms.proofs.Blocks.{found_by, found_within}
use Rattle.reacting.proofs.choice.first_valid.Goals as goal

pub returns : goal.returns
returns g c =
    let s = setup_of c.args.terms c.args.t.now in
    let valid = holds_valid s g.R.Record.kind (view c.args.terms c.args.t.now) c.args.seat in
    record {
      is = found_by c.blocks_of.result (round_start s c.args.round) (round_width s) (c.blocks_of.ensures.first c.args.t.now.orders.now) c.blocks_of.ensures.count
          valid _ c.find.result _ c.find.ensures.ran (λ x b q k. search (rules, tests));
      of_round = IfSome_then c.find.result (found_within c.blocks_of.result valid _ c.find.result _ c.find.ensures.ran (λ x b q k. search (rules, tests)))
          (λ b within some. c.blocks_of.ensures.of_round b some within.0 within.1);
    }
