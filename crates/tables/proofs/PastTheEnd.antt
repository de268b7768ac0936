-- Rows past the end of a table.
use Rattle.std.proofs.Common.{◌≡◌, ℕ, ◌<◌, ◌≤◌, List, [], length, get_or, replicate, sym, ap, ◌∙◌, ⊎_elim}
use Rattle.std.proofs.lemmas.List.{get_or_default}
use Rattle.std.proofs.lemmas.Bool.{cases_lt}
use lib.ListN.{get_or-replicate, get_or-eq_default}

-- a row past the end is blank
pub past_end : {A : Type 0} (xs : List A) (i : ℕ) (d : A) → length xs ≤ i → get_or xs i d ≡ d
past_end xs i d l = get_or-eq_default xs d {n = i} l

-- a row of sixteen ranks in place of an empty one, where a table has ended
pub blank_rank : (i : ℕ) → ◌≡◌ {A = ℕ} (get_or (replicate 16 0) i 0) 0
blank_rank i = ⊎_elim (λ (h : i < 16). get_or-replicate 16 i 0 0 h) (λ (h : 16 ≤ i). past_end (replicate 16 0) i 0 h) (cases_lt i 16)

pub rank_row_is : (rows : List (List ℕ)) (k i : ℕ) → get_or (get_or rows k (replicate 16 0)) i 0 ≡ get_or (get_or rows k []) i 0
rank_row_is rows k i = ⊎_elim
    (λ (h : k < length rows). ap (λ (xs : List ℕ). get_or xs i 0) (get_or_default rows k (replicate 16 0) [] h))
    (λ (h : length rows ≤ k). ap (λ (xs : List ℕ). get_or xs i 0) (past_end rows k (replicate 16 0) h) ∙ blank_rank i ∙ sym (ap (λ (xs : List ℕ). get_or xs i 0) (past_end rows k [] h)))
    (cases_lt k (length rows))
