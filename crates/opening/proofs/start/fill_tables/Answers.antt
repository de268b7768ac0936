use Rattle.std.proofs.Common.{refl, rules}
use Rattle.tables.specs.View.{rows_of}
use Rattle.terms.specs.Numbers.{bench_of_terms}
use Rattle.opening.proofs.Filling.{opened_by, few_rows}
use Rattle.opening.proofs.start.fill_tables.Goals as goal

pub fill_orders-requires : goal.fill_orders-requires
fill_orders-requires g c =
    let e = few_rows (bench_of_terms c.args.terms) (g.B.Beacon.ranking c.args.beacon.now) g.R.Record.kind (rows_of c.args.t.now) (search rules) in
    search rules

pub returns : goal.returns
returns g c =
    let e = opened_by (bench_of_terms c.args.terms) (g.B.Beacon.ranking c.args.beacon.now) g.R.Record.kind (rows_of c.args.t.now) (search rules) refl in
    search rules
