use Rattle.std.proofs.Common.{rules}
use Rattle.rules.specs.Seat.{propose}
use Rattle.reacting.proofs.proposal.propose.Goals as goal

pub returns : goal.returns
unfolding propose
returns g c = search rules
