-- Starting a roster and marking its seats. The marked seats are the bits of a number: bit s is seat s.
use Rattle.std.specs.Prelude.{ℕ, ◌+◌, ◌*◌, ◌^◌, Bool, false, cond, not, Some, None, Ok, Err, Option, Result, ◌==◌, bit_or, count_ones, nat_lt}
use Rattle.numbers.specs.Sets.{has_bit}
use Rattle.roster.specs.declared.fault.RosterFault.{RosterFault}
use Rattle.roster.specs.declared.fault.RosterFault.TheVariants.{SeatCount, NoSuchSeat, AlreadyByzantine, TooManyByzantine}

-- why n seats make no roster
abbrev pub start_refusal : ℕ → Option RosterFault
start_refusal n = cond (n == 0) (Some SeatCount) (cond (nat_lt 16 n) (Some SeatCount) None)

-- whether seat s is among the marked
abbrev pub is_marked : ℕ → ℕ → Bool
is_marked marks s = has_bit marks s

-- the answer to marking seat s, of n seats with these marks: the first refusal that applies, or none
abbrev pub mark_answer : ℕ → ℕ → ℕ → Result (Unit {0}) RosterFault
mark_answer n marks s =
    cond (nat_lt s n) (
    cond (is_marked marks s) (Err AlreadyByzantine) (
    cond (nat_lt (2 * (count_ones marks + 1)) n) (Ok tt)
    (Err TooManyByzantine)))
    (Err NoSuchSeat)

abbrev pub marks_by : Result (Unit {0}) RosterFault → ℕ → ℕ → ℕ
marks_by (Ok u) marks s = bit_or marks (2 ^ s)
marks_by (Err f) marks s = marks

-- the marks after it: one more, or what they were
abbrev pub marks_after : ℕ → ℕ → ℕ → ℕ
marks_after n marks s = marks_by (mark_answer n marks s) marks s

-- a seat of n that is not marked
abbrev pub is_honest : ℕ → ℕ → ℕ → Bool
is_honest n marks s = cond (nat_lt s n) (not (is_marked marks s)) false
