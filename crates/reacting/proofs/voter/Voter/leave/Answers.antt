use Rattle.std.proofs.Common.{◌≡◌, ap, ◌∙◌, rules}
use Rattle.rules.specs.Tables as of_rules
use Rattle.rules.specs.Seat.{moves_on}
use Rattle.tables.specs.View.{view, setup_of}
use Rattle.reacting.specs.Parts.{proposed}
use Rattle.reacting.proofs.PartsJoined.{moved_is}
use Rattle.reacting.proofs.voter.Voter.leave.Goals as goal

pub returns-clause-is : goal.returns-clause-is
returns-clause-is g c =
    let s = setup_of c.args.terms c.args.t.now in
    let t = view c.args.terms c.args.t.now in
    let i = c.args.self.seat in
    let r = c.args.self.past in
    let signers = c.signers_at-signers.result in
    let moved : view c.args.terms c.put_certificate.new.t ≡ moves_on s (view c.args.terms c.propose_next.new.t) i r c.args.lowest signers = search rules in
    moved
    ∙ ap (λ (u : of_rules.Tables _). moves_on s u i r c.args.lowest signers) c.propose_next.ensures.is
    ∙ ap (moves_on s (proposed s g.R.Record.kind t i r c.args.lowest) i r c.args.lowest) c.signers_at-signers.ensures
    ∙ moved_is s g.R.Record.kind t i r c.args.lowest
