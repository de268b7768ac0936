-- The refusals of a text: the number and the sentence of what refused it, or those of want of memory.
use Rattle.std.specs.Prelude.{ℕ, List, codes}
use Rattle.refusals.specs.declared.TextFault.{TextFault}
use Rattle.refusals.specs.declared.TextFault.TheVariants.{Refused, Memory}

-- want of memory is no refusal of the rules, and has 0
abbrev pub text_fault_number : {F : Type 0} → (F → ℕ) → TextFault F → ℕ
text_fault_number number (Refused f) = number f
text_fault_number number Memory = 0

abbrev pub text_fault_sentence : {F : Type 0} → (F → List ℕ) → TextFault F → List ℕ
text_fault_sentence sentence (Refused f) = sentence f
text_fault_sentence sentence Memory = codes "out of memory"
