use Rattle.std.proofs.Common.{◌≡◌, ◌+◌, length}
use Rattle.rules.specs.Loops.{upto}
use Rattle.rules.specs.Setup.{round_start}
use Rattle.tables.specs.View.{view, setup_of, SameMemory}
use Rattle.reacting.specs.Turns.{vote_by}
use Rattle.reacting.proofs.voter.Voter.vote_at_rank.Given as goal

abbrev pub invariant-loop-block : goal.invariant-loop-block
invariant-loop-block g l =
    let s = setup_of l.terms l.initial.t in
    (view l.terms l.t ≡ upto (λ x u. vote_by s g.R.Record.kind l.ranks l.self.seat l.low (round_start s (l.self.past + 1) + x) u) (view l.terms l.initial.t) (length l.yielded))
    × SameMemory l.t l.initial.t
    × (l.t.seats.now ≡ l.initial.t.seats.now)
