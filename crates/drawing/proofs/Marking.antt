-- Marking a list of seats: one step, and the end.
use Rattle.std.proofs.Common.{◌≡◌, ℕ, ◌+◌, ◌<◌, ◌≤◌, List, length, get_or, drop, Ok}
use Rattle.std.proofs.lemmas.List.{at_drop_more, at_drop_all}
use Rattle.roster.specs.Marks.{mark_answer, marks_after}
use Rattle.drawing.specs.Seating.{marked_all, unless_refused}

pub marked_step : (n marks : ℕ) (xs : List ℕ) (i : ℕ) → i < length xs
    → marked_all n marks (drop i xs)
    ≡ unless_refused (mark_answer n marks (get_or xs i 0)) (marked_all n (marks_after n marks (get_or xs i 0)) (drop (i + 1) xs))
unfolding marked_all
marked_step n marks xs i h = at_drop_more (marked_all n marks) xs i 0 h

pub marked_end : (n marks : ℕ) (xs : List ℕ) (i : ℕ) → length xs ≤ i → marked_all n marks (drop i xs) ≡ Ok marks
unfolding marked_all
marked_end n marks xs i h = at_drop_all (marked_all n marks) xs i h
