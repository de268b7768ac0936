use borrow.Author.Rules.{rules}
use Rattle.tables.specs.View.{view}
use Rattle.holding.proofs.Laws.{taken_open}
use Rattle.holding.proofs.taking.+take_chain.Goals as goal

pub returns : goal.returns
returns g t c =
    let e = taken_open c.args.terms.n c.args.round (view c.args.terms c.args.t.now) c.args.seat c.args.block (search rules) (search rules) in
    search rules
