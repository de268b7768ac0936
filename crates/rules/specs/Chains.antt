-- The ancestors of a block.
use Rattle.std.specs.Prelude.{ℕ, zero, suc}

-- the k-th ancestor of block b: b itself for k = 0, its parent for k = 1
abbrev pub ancestor : (ℕ → ℕ) → ℕ → ℕ → ℕ
ancestor parent zero b = b
ancestor parent (suc k) b = ancestor parent k (parent b)
