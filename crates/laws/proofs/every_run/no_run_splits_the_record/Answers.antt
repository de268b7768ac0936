use Rattle.rules.specs.Tables.{setup_at}
use Rattle.laws.proofs.EveryRun.{no_run_splits_the_record, no_majority_run_splits_the_record}
use Rattle.laws.proofs.OrderRows.{orders_stay}
use Rattle.laws.proofs.Refusing.{refused_kept}
use Rattle.laws.proofs.every_run.no_run_splits_the_record.Goals as goal

pub returns-clause-every_quorum : goal.returns-clause-every_quorum
returns-clause-every_quorum g c = no_run_splits_the_record g.R.Record.kind g.met.R.Record.idle_follows

pub returns-clause-majority : goal.returns-clause-majority
returns-clause-majority g c = no_majority_run_splits_the_record g.R.Record.kind g.met.R.Record.idle_follows

pub returns-clause-refusals : goal.returns-clause-refusals
returns-clause-refusals g c = λ b d t f. refused_kept (setup_at b t) g.R.Record.kind d t f

pub returns-clause-order_rows : goal.returns-clause-order_rows
returns-clause-order_rows g c = λ b d t. orders_stay (setup_at b t) g.R.Record.kind d t
