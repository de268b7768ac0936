-- A chain written from its newest block on, and then turned round.
use Rattle.std.proofs.Common.{◌≡◌, ℕ, zero, suc, ◌+◌, ◌-◌, ◌<◌, ◌≤◌, List, [], ◌∷◌, ◌++◌, length, get_or, take, set, reverse, ap, append_assoc, arith}
use Rattle.std.proofs.lemmas.List.{take_more_set, take_all, reverse-append}
use Rattle.rules.specs.declared.rows.BlockRow.{BlockRow}
use Rattle.rules.specs.Tables.{no_block}
use Rattle.reading.specs.Reading.{chain_of}

-- the newest block of a chain stands behind the others
chain_end : (bs : List BlockRow) (n m b : ℕ) → n ≡ suc m → chain_of bs n b ≡ chain_of bs m (get_or bs b no_block).parent ++ b ∷ []
unfolding chain_of
chain_end bs zero m b e = absurd (omega (arith, e))
chain_end bs (suc k) m b e =
    let same : k ≡ m = omega (arith, e) in
    ap (λ (j : ℕ). chain_of bs j (get_or bs b no_block).parent ++ b ∷ []) same

-- one block more is written
pub chain_step : (bs : List BlockRow) (b k : ℕ) (xs : List ℕ) → k < length xs
    → chain_of bs (length xs - k) b ++ reverse (take k xs)
    ≡ chain_of bs (length xs - (k + 1)) (get_or bs b no_block).parent ++ reverse (take (k + 1) (set xs k b))
chain_step bs b k xs h =
    let last : chain_of bs (length xs - k) b ≡ chain_of bs (length xs - (k + 1)) (get_or bs b no_block).parent ++ b ∷ [] =
    chain_end bs (length xs - k) (length xs - (k + 1)) b (omega arith) in
    rw (last, take_more_set xs k b h, reverse-append, append_assoc)

-- all are written
pub chain_done : (bs : List BlockRow) (b k : ℕ) (xs : List ℕ) → length xs ≤ k → chain_of bs (length xs - k) b ++ reverse (take k xs) ≡ reverse xs
unfolding chain_of
chain_done bs b k xs h =
    let none : length xs - k ≡ 0 = omega arith in
    rw (none, take_all k xs h)
