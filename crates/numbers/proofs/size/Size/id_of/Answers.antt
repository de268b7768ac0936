use Rattle.std.proofs.Common.{◌<◌, ◌≤◌, arith, rules}
use Rattle.numbers.specs.Numbering.{block_count}
use Rattle.numbers.proofs.Numbers.{id_within, round_past_zero}
use Rattle.numbers.proofs.size.Size.id_of.Goals as goal

-- the round fits its 16 bits, since it is at most the last
pub overflow_cast-result-2 : goal.overflow_cast-result-2
overflow_cast-result-2 c =
    let z = c.args.self.now in
    let b = c.args.block in
    let some : 1 ≤ b = search rules in
    let few : b < block_count z.n z.rounds z.editions = search rules in
    omega (arith, (id_within z.n z.rounds z.editions b (search rules) (search rules) some few).rounds, round_past_zero z.n z.editions b some)
