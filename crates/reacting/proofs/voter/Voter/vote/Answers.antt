use Rattle.std.proofs.Common.{◌+◌, rules, arith}
use Rattle.rules.specs.Seat.{vote}
use Rattle.tables.specs.View.{view, setup_of}
use Rattle.reacting.proofs.ByOrder.{lowest_is, votes_are}
use Rattle.reacting.proofs.voter.Voter.vote.Goals as goal

pub returns-in-Some : goal.returns-in-Some
unfolding vote
returns-in-Some g c =
    let s = setup_of c.args.terms c.args.t.now in
    let t = view c.args.terms c.args.t.now in
    let low = lowest_is s g.R.Record.kind c.args.ranks (c.args.self.past + 1) (omega arith) c.requires t c.args.self.seat c.in-Some.first (search rules) in
    let votes = votes_are s g.R.Record.kind c.args.ranks (c.args.self.past + 1) (omega arith) c.requires t c.args.self.seat c.lowest_rank-low.result in
    search rules

pub returns-in_default : goal.returns-in_default
unfolding vote
returns-in_default g c = search rules
