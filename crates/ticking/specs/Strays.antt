-- A valid block that does not stand where the others do.
use Rattle.std.specs.Prelude.{ℕ, Bool, false, cond, not, ◌==◌}
use Rattle.records.specs.Kind.{Kind}
use Rattle.rules.specs.Setup.{Setup}
use Rattle.rules.specs.Tables.{Tables, block_at}
use Rattle.rules.specs.VotingChoice.{holds_valid}

-- seat i holds block x, which is valid, and its parent is not p
unfoldable pub stray : {A : Type 0} → Setup → Kind A → Tables A → ℕ → ℕ → ℕ → Bool
stray s K t i p x = cond (holds_valid s K t i x) (not ((block_at t x).parent == p)) false
