-- The refusals of a bench: their numbers, and the sentence that explains each.
use Rattle.std.specs.Prelude.{ℕ, List, codes}
use Rattle.roster.specs.Faults.{roster_fault_number, roster_fault_sentence}
use Rattle.rules.specs.declared.fault.BenchFault.{BenchFault}
use Rattle.rules.specs.declared.fault.BenchFault.TheVariants.{Roster, NoSuchSeat, SeatIsByzantine, SeatIsHonest, DelayOutOfRange, RoundOutOfRange, EditionOutOfRange, TableLength, NoSuchBlock, NeverSent, NothingNew, WrongParent, MessageOverdue, ClockStopped, ShortBuffer}

abbrev pub bench_fault_number : BenchFault → ℕ
bench_fault_number (Roster f) = roster_fault_number f
bench_fault_number NoSuchSeat = 2
bench_fault_number SeatIsByzantine = 3
bench_fault_number SeatIsHonest = 3
bench_fault_number DelayOutOfRange = 5
bench_fault_number RoundOutOfRange = 6
bench_fault_number EditionOutOfRange = 7
bench_fault_number TableLength = 8
bench_fault_number NoSuchBlock = 9
bench_fault_number NeverSent = 10
bench_fault_number NothingNew = 11
bench_fault_number WrongParent = 12
bench_fault_number MessageOverdue = 13
bench_fault_number ClockStopped = 14
bench_fault_number ShortBuffer = 15

abbrev pub bench_fault_sentence : BenchFault → List ℕ
bench_fault_sentence (Roster f) = roster_fault_sentence f
bench_fault_sentence NoSuchSeat = codes "there is no such seat"
bench_fault_sentence SeatIsByzantine = codes "the seat is Byzantine"
bench_fault_sentence SeatIsHonest = codes "the seat is honest"
bench_fault_sentence DelayOutOfRange = codes "a delay is 1 to 1,000 ticks"
bench_fault_sentence RoundOutOfRange = codes "the round is not covered"
bench_fault_sentence EditionOutOfRange = codes "the edition is out of range"
bench_fault_sentence TableLength = codes "a table has the wrong length"
bench_fault_sentence NoSuchBlock = codes "there is no such block"
bench_fault_sentence NeverSent = codes "this was never sent"
bench_fault_sentence NothingNew = codes "there is nothing new in it"
bench_fault_sentence WrongParent = codes "the parent does not fit"
bench_fault_sentence MessageOverdue = codes "a message is overdue"
bench_fault_sentence ClockStopped = codes "the clock has stopped"
bench_fault_sentence ShortBuffer = codes "the buffer is too short"
