use Rattle.std.proofs.Common.{◌≡◌, ◌+◌, ◌-◌, ◌*◌, [], ap, ◌∙◌, arith, rules}
use Rattle.numbers.specs.Numbering.{round_of}
use Rattle.rules.specs.Setup.{setup_with}
use Rattle.terms.specs.Numbers.{bench_of_terms}
use Rattle.terms.proofs.Blocks.{member_round}
use Rattle.terms.proofs.Limits.{round_start_is}
use Rattle.terms.proofs.terms.Terms.blocks_of.Goals as goal

pub returns : goal.returns
returns c =
    let n = c.args.self.n in
    let e = c.args.self.editions in
    let from = c.round_start-first.ensures.is [] in
    let start_is = round_start_is (setup_with (bench_of_terms c.args.self) []) c.args.round in
    record {
      first = c.round_start-first.ensures.is;
      count = search rules;
      of_round = λ block some after below.
          let start : c.round_start-first.result ≡ 1 + (c.args.round - 1) * (n * e) = search rules in
          let x = block - c.round_start-first.result in
          let at : block ≡ 1 + (c.args.round - 1) * (n * e) + x = omega arith in
          ap (round_of n e) at ∙ member_round n e c.args.round x some (omega arith);
    }
