use Rattle.bench.proofs.Listings.{shows_final_blocks}
use Rattle.bench.proofs.live.Bench.final_chain.Goals as goal

pub returns-clause-shows : goal.returns-clause-shows
returns-clause-shows g c = shows_final_blocks g.R.Record.kind g.met.R.Record.idle_follows _ _ _
