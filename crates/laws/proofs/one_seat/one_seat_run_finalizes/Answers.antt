use Rattle.laws.proofs.OneSeatRun.{all_accepted, final_chain_reached, signature_refused}
use Rattle.laws.proofs.one_seat.one_seat_run_finalizes.Goals as goal

pub returns-clause-accepted : goal.returns-clause-accepted
returns-clause-accepted c = all_accepted

pub returns-clause-final_chain : goal.returns-clause-final_chain
returns-clause-final_chain c = final_chain_reached

pub returns-clause-signature : goal.returns-clause-signature
returns-clause-signature c = signature_refused
