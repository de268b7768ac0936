use Rattle.std.proofs.Common.{◌≡◌, drop}
use Rattle.drawing.specs.Seating.{seated, marked_all}
use Rattle.drawing.proofs.seating.seat_all.Given as goal

-- what is left to mark gives the answer
abbrev pub invariant-loop-seat : goal.invariant-loop-seat
invariant-loop-seat l = (seated l.n l.byzantine ≡ marked_all l.n l.roster.marks (drop l.seat-index l.byzantine)) × (l.roster.n ≡ l.n)
