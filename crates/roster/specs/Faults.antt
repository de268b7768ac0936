-- The refusals of a roster: their numbers, and the sentence that explains each.
use Rattle.std.specs.Prelude.{ℕ, List, codes}
use Rattle.roster.specs.declared.fault.RosterFault.{RosterFault}
use Rattle.roster.specs.declared.fault.RosterFault.TheVariants.{SeatCount, NoSuchSeat, AlreadyByzantine, TooManyByzantine}

abbrev pub roster_fault_number : RosterFault → ℕ
roster_fault_number SeatCount = 1
roster_fault_number NoSuchSeat = 2
roster_fault_number AlreadyByzantine = 3
roster_fault_number TooManyByzantine = 4

abbrev pub roster_fault_sentence : RosterFault → List ℕ
roster_fault_sentence SeatCount = codes "a roster has 1 to 16 seats"
roster_fault_sentence NoSuchSeat = codes "there is no such seat"
roster_fault_sentence AlreadyByzantine = codes "the seat is already Byzantine"
roster_fault_sentence TooManyByzantine = codes "half of the seats would be Byzantine"
