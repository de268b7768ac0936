use Rattle.std.proofs.Common.{◌≡◌, ◌∙◌, rules}
use Rattle.tables.specs.View.{view, setup_of}
use Rattle.reacting.specs.Parts.{reacted_in}
use Rattle.reacting.proofs.PartsJoined.{reacted_in_is}
use Rattle.reacting.proofs.voter.Voter.react_in.Goals as goal

pub returns-in-Some-clause-is : goal.returns-in-Some-clause-is
returns-in-Some-clause-is g c =
    let s = setup_of c.args.terms c.args.t.now in
    let t = view c.args.terms c.args.t.now in
    let reacted : view c.args.terms c.leave.new.t ≡ reacted_in s g.R.Record.kind t c.args.self.seat c.args.self.past = search rules in
    reacted ∙ reacted_in_is s g.R.Record.kind t c.args.self.seat c.args.self.past

pub returns-in-Some-lowest_notarised-clause-is : goal.returns-in-Some-lowest_notarised-clause-is
returns-in-Some-lowest_notarised-clause-is g c =
    let s = setup_of c.args.terms c.args.t.now in
    let t = view c.args.terms c.args.t.now in
    let reacted : view c.args.terms c.leave-in-Some-lowest_notarised.new.t ≡ reacted_in s g.R.Record.kind t c.args.self.seat c.args.self.past = search rules in
    reacted ∙ reacted_in_is s g.R.Record.kind t c.args.self.seat c.args.self.past

pub returns-in_default-lowest_notarised-clause-is : goal.returns-in_default-lowest_notarised-clause-is
returns-in_default-lowest_notarised-clause-is g c =
    let s = setup_of c.args.terms c.args.t.now in
    let t = view c.args.terms c.args.t.now in
    let reacted : view c.args.terms c.vote.new.t ≡ reacted_in s g.R.Record.kind t c.args.self.seat c.args.self.past = search rules in
    reacted ∙ reacted_in_is s g.R.Record.kind t c.args.self.seat c.args.self.past
