use Rattle.holding.proofs.taking.+take_chain.Given as goal

abbrev pub decreases-take_chain : goal.decreases-take_chain
decreases-take_chain g l = l.round
