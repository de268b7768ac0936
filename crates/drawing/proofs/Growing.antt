-- A text that grows by one more seat or round.
use Rattle.std.proofs.Common.{◌≡◌, ℕ, ◌+◌, ◌-◌, ◌<◌, ◌≤◌, List, ◌++◌, length, get_or, take, sym, ap, ◌∙◌, arith}
use Rattle.std.proofs.lemmas.List.{flat_map_more, take_more}
use Rattle.std.specs.List.{flat_map}
use Rattle.orders.specs.Ranking.{Ranking}
use Rattle.orders.specs.Rows.{numbers}
use Rattle.orders.proofs.Rows.{lines_more}
use Rattle.drawing.specs.Report.{seat_word, seat_words, round_line, round_lines}

pub seats_more : (bs xs : List ℕ) (i : ℕ) → i < length xs → (bs ++ seat_words (take i xs)) ++ seat_word (get_or xs i 0) ≡ bs ++ seat_words (take (i + 1) xs)
seats_more bs xs i h = flat_map_more seat_word bs (take i xs) (get_or xs i 0) ∙ ap (λ (l : List ℕ). bs ++ seat_words l) (sym (take_more xs i 0 h))

-- a text that grows by one more round
pub rounds_more : (n marks : ℕ) (m : Ranking) (bs : List ℕ) (r : ℕ) → 1 ≤ r → (bs ++ round_lines n marks m (r - 1)) ++ round_line n marks m r ≡ bs ++ round_lines n marks m r
unfolding round_lines
rounds_more n marks m bs r h =
    lines_more (round_line n marks m) bs (r - 1) r (omega arith) ∙ ap (λ (x : ℕ). bs ++ flat_map (round_line n marks m) (numbers 1 x)) (omega arith)
