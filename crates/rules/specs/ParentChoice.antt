-- The parent that a proposal stands on.
use Rattle.std.specs.Prelude.{ℕ, ◌+◌, if◌then◌else◌, nat_lt}
use Rattle.rules.specs.Loops.{upto}
use Rattle.rules.specs.Setup.{Setup, round_start, round_width}
use Rattle.rules.specs.Tables.{Tables}
use Rattle.rules.specs.Holding.{holds_notarisation}
use Rattle.rules.specs.Weights.{weight_of}

-- Of the blocks of round r whose notarisation seat i holds, the one with the heaviest chain, the lower number on a tie.
-- c is the lowest-numbered of them.
unfoldable pub parent_choice : {A : Type 0} → Setup → Tables A → ℕ → ℕ → ℕ → ℕ
parent_choice s t i r c =
    upto (λ x best.
    if holds_notarisation s t i (round_start s r + x) then (
    if nat_lt (weight_of s t best) (weight_of s t (round_start s r + x)) then round_start s r + x else best) else best)
    c (round_width s)
