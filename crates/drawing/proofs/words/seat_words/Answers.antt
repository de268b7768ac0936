use Rattle.std.proofs.Common.{rules}
use Rattle.std.proofs.lemmas.List.{take_all}
use Rattle.drawing.proofs.Growing.{seats_more}
use Rattle.drawing.proofs.words.seat_words.Goals as goal

pub loop-seat-preserved : goal.loop-seat-preserved
loop-seat-preserved c = search (rules, seats_more)

pub returns : goal.returns
returns c = search (rules, take_all)
