use Rattle.std.proofs.Common.{rules}
use Rattle.std.proofs.lemmas.Fmt.{parse-decimal}
use Rattle.arguments.proofs.number.Goals as goal

pub returns : goal.returns
returns c = λ n fits is. let back = parse-decimal 64 n c.args.word.now c.parse.result fits fits is c.parse.ensures.value.0 in search rules
