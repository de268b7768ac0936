use Rattle.std.proofs.Common.{rules}
use Rattle.opening.proofs.Filling.{filled_with}
use Rattle.opening.proofs.start.clear_blocks.Goals as goal

pub returns-clause-is : goal.returns-clause-is
returns-clause-is g c =
    let run = c.fill_with.ensures.ran in
    let same = filled_with _ g.R.Record.kind.first _ _ run.0 run.1 (λ x d h. search rules) in
    search rules
