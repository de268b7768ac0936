-- The head choice over what has been read.
use Rattle.std.proofs.Common.{◌≡◌, ℕ, cond, is_some, Some, ap}
use Rattle.records.specs.Kind.{Kind}
use Rattle.rules.specs.Loops.{first_from}
use Rattle.rules.specs.Setup.{Setup, round_start, round_width}
use Rattle.rules.specs.Tables.{Tables, block_at}
use Rattle.rules.specs.HeadChoice.{head_from}
use Rattle.ticking.specs.Strays.{stray}

module _ {A : Type 0} (s : Setup) (K : Kind A) (t : Tables A) (i : ℕ) where
  -- c is the first valid block that seat i holds, and p its parent
  pub head_by : (r old c p : ℕ) → p ≡ (block_at t c).parent
      → cond (is_some (first_from (stray s K t i p) (round_start s r) (round_width s))) old p ≡ head_from s K t i r old (Some c)
  unfolding stray
  head_by r old c p e = ap (λ (p : ℕ). cond (is_some (first_from (stray s K t i p) (round_start s r) (round_width s))) old p) e
