use Rattle.std.proofs.Common.{◌≡◌, ◌++◌, take, string_bytes}
use Rattle.drawing.specs.Report.{seat_words}
use Rattle.drawing.proofs.words.seat_words.Given as goal

abbrev pub invariant-loop-seat : goal.invariant-loop-seat
invariant-loop-seat l = string_bytes l.out ≡ string_bytes l.initial.out ++ seat_words (take l.seat-index l.seats)
