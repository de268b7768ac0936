-- A roster from a list of Byzantine seats.
use Rattle.std.specs.Prelude.{ℕ, List, [], ◌∷◌, Some, None, Ok, Err, Option, Result}
use Rattle.roster.specs.Marks.{start_refusal, mark_answer, marks_after}
use Rattle.roster.specs.declared.fault.RosterFault.{RosterFault}

-- what comes next, unless this was refused
abbrev pub unless_refused : Result (Unit {0}) RosterFault → Result ℕ RosterFault → Result ℕ RosterFault
unless_refused (Ok u) next = next
unless_refused (Err f) next = Err f

abbrev pub unless_fault : Option RosterFault → Result ℕ RosterFault → Result ℕ RosterFault
unless_fault None next = next
unless_fault (Some f) next = Err f

-- the marks after each seat of the list was marked in turn, or the first refusal
unfoldable pub marked_all : ℕ → ℕ → List ℕ → Result ℕ RosterFault
marked_all n marks [] = Ok marks
marked_all n marks (s ∷ rest) = unless_refused (mark_answer n marks s) (marked_all n (marks_after n marks s) rest)

-- the same from the start of a roster of n seats
abbrev pub seated : ℕ → List ℕ → Result ℕ RosterFault
seated n byzantine = unless_fault (start_refusal n) (marked_all n 0 byzantine)
