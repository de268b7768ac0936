-- The refusals of a drawing: their numbers, and the sentence that explains each.
use Rattle.std.specs.Prelude.{ℕ, List, codes}
use Rattle.roster.specs.Faults.{roster_fault_number, roster_fault_sentence}
use Rattle.drawing.specs.declared.fault.DrawFault.{DrawFault}
use Rattle.drawing.specs.declared.fault.DrawFault.TheVariants as fault

-- want of memory is no refusal of the rules, and has 0
abbrev pub draw_fault_number : DrawFault → ℕ
draw_fault_number (fault.Roster f) = roster_fault_number f
draw_fault_number fault.Rounds = 6
draw_fault_number fault.Memory = 0

abbrev pub draw_fault_sentence : DrawFault → List ℕ
draw_fault_sentence (fault.Roster f) = roster_fault_sentence f
draw_fault_sentence fault.Rounds = codes "the beacon has no such rounds"
draw_fault_sentence fault.Memory = codes "out of memory"
