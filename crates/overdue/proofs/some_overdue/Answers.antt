use Rattle.std.proofs.Common.{rules}
use Rattle.tables.specs.View.{view, setup_of}
use Rattle.overdue.proofs.Laws.{block_hit, vote_hit, certificate_hit, none_found}
use Rattle.overdue.proofs.some_overdue.Goals as goal

pub returns-then-lacks_block : goal.returns-then-lacks_block
returns-then-lacks_block g c = block_hit (setup_of c.args.terms c.args.t.now) (view c.args.terms c.args.t.now) c.made.block c.holders.seat (search rules) (search rules) (search rules) (search rules)

pub returns-then-lacks_vote : goal.returns-then-lacks_vote
returns-then-lacks_vote g c = vote_hit (setup_of c.args.terms c.args.t.now) (view c.args.terms c.args.t.now) c.voted.block c.voters.voter c.hearers.seat (search rules) (search rules) (search rules) (search rules) (search rules)

pub returns-then-lacks_certificate : goal.returns-then-lacks_certificate
returns-then-lacks_certificate g c = certificate_hit (setup_of c.args.terms c.args.t.now) (view c.args.terms c.args.t.now) c.senders.sender c.left.past c.receivers.seat (search rules) (search rules) (search rules) (search rules) (search rules)

pub returns-after-senders : goal.returns-after-senders
returns-after-senders g c = none_found (setup_of c.args.terms c.args.t.now) (view c.args.terms c.args.t.now) (search rules) (search rules) (search rules)
