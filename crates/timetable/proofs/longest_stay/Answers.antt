use Rattle.std.proofs.Common.{◌+◌, refl, arith}
use Rattle.std.proofs.lemmas.Nat.{mul-le}
use Rattle.timetable.proofs.longest_stay.Goals as goal

pub returns : goal.returns
returns c = (refl, mul-le (c.args.byzantine + 6) c.args.delay 22 1000 (omega (arith, c.requires.0)) c.requires.1)
