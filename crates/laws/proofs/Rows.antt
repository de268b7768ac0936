-- Rows of a table: what a write changes, and which row is whose.
use Rattle.std.proofs.Common.{◌≡◌, ℕ, zero, suc, ◌+◌, ◌*◌, ◌/◌, ◌%◌, ◌<◌, ◌⊎◌, List, length, get_or, set, replicate, sym, refl, ap, ◌∙◌, inl, inr}
use native.Mathlib.Decide.{ℕ_discrete}
use Rattle.std.proofs.lemmas.Nat.{div-mul-add, mod-mul-add}
use Rattle.std.proofs.lemmas.List.{get_or-set_same, get_or-set_other}

-- a row after a write: the row written, or the old one
pub set_cases : {A : Type 0} (xs : List A) (i : ℕ) (x : A) (d : A) → i < length xs → (j : ℕ) → ((j ≡ i) × (get_or (set xs i x) j d ≡ x)) ⊎ (get_or (set xs i x) j d ≡ get_or xs j d)
set_cases xs i x d l j = go (ℕ_discrete j i)
  where
    go : Dec (j ≡ i) → ((j ≡ i) × (get_or (set xs i x) j d ≡ x)) ⊎ (get_or (set xs i x) j d ≡ get_or xs j d)
    go (yes e) = inl (e, ap (λ y. get_or (set xs i x) y d) e ∙ get_or-set_same xs i x d l)
    go (no n) = inr (get_or-set_other xs i j x d n)

-- the row of a block and a seat has one block and one seat
pub row_one : (n b c i j : ℕ) → i < n → j < n → b * n + i ≡ c * n + j → (b ≡ c) × (i ≡ j)
row_one n b c i j li lj e =
    (sym (div-mul-add b n i li) ∙ ap (λ (x : ℕ). x / n) e ∙ div-mul-add c n j lj, sym (mod-mul-add b n i li) ∙ ap (λ (x : ℕ). x % n) e ∙ mod-mul-add c n j lj)

-- a table whose rows are all the default row
pub all_same : {A : Type 0} (m x : ℕ) (d : A) → get_or (replicate m d) x d ≡ d
all_same zero x d = refl
all_same (suc m) zero d = refl
all_same (suc m) (suc x) d = all_same m x d
