-- A seat's row after an event.
use Rattle.std.specs.Prelude.{cond}
use Rattle.rules.specs.declared.rows.Phase.{Phase}
use Rattle.rules.specs.declared.rows.Phase.TheVariants.{Waiting, Voting, Resting}
use Rattle.rules.specs.declared.rows.SeatRow.{SeatRow}
use Rattle.writing.specs.declared.events.SeatEvent.{SeatEvent}
use Rattle.writing.specs.declared.events.SeatEvent.TheVariants.{WaitOver, Left}

-- waiting, it votes or rests when its wait is over; voting, it waits in the next round when it has left
abbrev pub after_in : Phase → SeatEvent → SeatRow → SeatRow
after_in Waiting (WaitOver head past_last) a = record { round = a.round; phase = cond past_last Resting Voting; head = head }
after_in Waiting (Left next) a = a
after_in Voting (WaitOver head past_last) a = a
after_in Voting (Left next) a = record { round = next; phase = Waiting; head = a.head }
after_in Resting (WaitOver head past_last) a = a
after_in Resting (Left next) a = a

abbrev pub seat_after : SeatRow → SeatEvent → SeatRow
seat_after a e = after_in a.phase e a
