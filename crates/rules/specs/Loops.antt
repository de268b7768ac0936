-- Loops, as definitions.
use Rattle.std.specs.Prelude.{ℕ, zero, suc, Bool, true, false, if◌then◌else◌, List, Some, None, Option, slice_index_or, slice_set}

-- z changed by f 0, then by f 1, .., f (k - 1)
unfoldable pub upto : {A : Type 0} → (ℕ → A → A) → A → ℕ → A
upto f z zero = z
upto f z (suc k) = f k (upto f z k)

-- the first of the m numbers from k on that passes the test p
unfoldable pub first_from : (ℕ → Bool) → ℕ → ℕ → Option ℕ
first_from p k zero = None
first_from p k (suc m) = if p k then Some k else first_from p (suc k) m

-- one of the numbers below m passes
unfoldable pub any : (ℕ → Bool) → ℕ → Bool
any p zero = false
any p (suc m) = if p m then true else any p m

-- for each number x below m that passes, row (r x) of the list is changed by f
unfoldable pub writes : {A : Type 0} → (ℕ → Bool) → (ℕ → ℕ) → (A → A) → A → List A → ℕ → List A
writes p r f d xs zero = xs
writes p r f d xs (suc k) =
    let ys = writes p r f d xs k in
    if p k then slice_set ys (r k) (f (slice_index_or ys (r k) d)) else ys
