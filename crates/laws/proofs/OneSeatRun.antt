-- The run of the one-seat bench, computed.
use Rattle.std.proofs.Common.{refl}
use lib.Count.{ones}
use Rattle.orders.specs.Rows.{numbers}
use Rattle.rules.specs.Sets.{bit}
use Rattle.rules.specs.Loops.{upto, first_from, any, writes}
use Rattle.rules.specs.Tables.{fits}
use Rattle.rules.specs.Holding.{take_in, signers}
use Rattle.rules.specs.Weights.{chain_weight}
use Rattle.rules.specs.ParentChoice.{parent_choice}
use Rattle.rules.specs.VotingChoice.{lowest_rank, voting_choice}
use Rattle.rules.specs.HeadChoice.{next_head}
use Rattle.rules.specs.Seat.{propose, vote_at_rank, vote, leave, react_in, react, end_wait}
use Rattle.rules.specs.Overdue.{overdue}
use Rattle.rules.specs.Calls.{tick, sign}
use Rattle.rules.specs.Opening.{open_answer, opened_tables}
use Rattle.rules.specs.Runs.{after}
use Rattle.laws.specs.OneSeat.{answers, AllAccepted, FinalChainReached, SignatureRefused}

pub all_accepted : AllAccepted
unfolding answers open_answer after tick fits overdue any upto first_from writes take_in chain_weight parent_choice signers lowest_rank voting_choice vote_at_rank vote propose leave react_in react next_head end_wait opened_tables numbers ones bit
all_accepted = (refl, refl)

pub final_chain_reached : FinalChainReached
unfolding after tick fits overdue any upto first_from writes take_in chain_weight parent_choice signers lowest_rank voting_choice vote_at_rank vote propose leave react_in react next_head end_wait opened_tables numbers ones bit
final_chain_reached = (refl, refl)

pub signature_refused : SignatureRefused
unfolding after tick sign fits overdue any upto first_from writes take_in chain_weight parent_choice signers lowest_rank voting_choice vote_at_rank vote propose leave react_in react next_head end_wait opened_tables numbers ones bit
signature_refused = refl
