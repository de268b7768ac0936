-- A timetable that grows by one more round.
use Rattle.std.proofs.Common.{◌≡◌, ℕ, ◌-◌, ◌≤◌, List, ◌++◌, ap, ◌∙◌, arith}
use Rattle.std.specs.List.{flat_map}
use Rattle.orders.specs.Rows.{numbers}
use Rattle.orders.proofs.Rows.{lines_more}
use Rattle.timetable.specs.Text.{round_line, timetable_lines}

pub lines_grow : (f delay : ℕ) (bs : List ℕ) (r : ℕ) → 1 ≤ r → (bs ++ timetable_lines f delay (r - 1)) ++ round_line f delay r ≡ bs ++ timetable_lines f delay r
unfolding timetable_lines
lines_grow f delay bs r h =
    lines_more (round_line f delay) bs (r - 1) r (omega arith) ∙ ap (λ (x : ℕ). bs ++ flat_map (round_line f delay) (numbers 1 x)) (omega arith)
