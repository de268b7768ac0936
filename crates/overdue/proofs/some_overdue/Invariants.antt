use Rattle.std.proofs.Common.{◌≡◌, false}
use Rattle.rules.specs.Loops.{any}
use Rattle.tables.specs.View.{view, setup_of}
use Rattle.overdue.specs.Messages.{block_lacking, vote_lacking, certificate_lacking}
use Rattle.overdue.specs.Search.{late_block, late_vote, late_votes, late_certificate, late_certificates}
use Rattle.overdue.proofs.some_overdue.Given as goal

-- each loop: none so far
abbrev pub invariant-made : goal.invariant-made
invariant-made g l = any (late_block (setup_of l.terms l.t) (view l.terms l.t)) l.block ≡ false

abbrev pub invariant-holders : goal.invariant-holders
invariant-holders g l = any (block_lacking (setup_of l.terms l.t) (view l.terms l.t) l.block) l.seat ≡ false

abbrev pub invariant-voted : goal.invariant-voted
invariant-voted g l = any (late_votes (setup_of l.terms l.t) (view l.terms l.t)) l.block ≡ false

abbrev pub invariant-voters : goal.invariant-voters
invariant-voters g l = any (late_vote (setup_of l.terms l.t) (view l.terms l.t) l.block) l.voter ≡ false

abbrev pub invariant-hearers : goal.invariant-hearers
invariant-hearers g l = any (vote_lacking (setup_of l.terms l.t) (view l.terms l.t) l.block l.voter) l.seat ≡ false

abbrev pub invariant-senders : goal.invariant-senders
invariant-senders g l = any (late_certificates (setup_of l.terms l.t) (view l.terms l.t)) l.sender ≡ false

abbrev pub invariant-left : goal.invariant-left
invariant-left g l = any (late_certificate (setup_of l.terms l.t) (view l.terms l.t) l.sender) l.past ≡ false

abbrev pub invariant-receivers : goal.invariant-receivers
invariant-receivers g l = any (certificate_lacking (setup_of l.terms l.t) (view l.terms l.t) l.sender l.past) l.seat ≡ false
