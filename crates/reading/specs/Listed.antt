-- What a listing shows of a run: the final blocks of the seat, all of them, one for each round, and nothing else.
use Rattle.std.specs.Prelude.{◌≡◌, ℕ, ◌<◌, List, length, slice_index}
use Rattle.rules.specs.Setup.{Bench}
use Rattle.rules.specs.Tables.{Tables}
use Rattle.laws.specs.Laws.{Final, round}

-- the chain lists the final blocks of seat i, that of round k at place k
pub record ListsFinal {A : Type 0} (b : Bench) (t : Tables A) (i : ℕ) (chain : List ℕ) : Type 0 where
  pub each_final : (k : ℕ) → k < length chain → Final b t i (slice_index chain k)
  pub by_rounds : (k : ℕ) → k < length chain → round b (slice_index chain k) ≡ k
  pub every_final : (c : ℕ) → Final b t i c → (k : ℕ) × (k < length chain) × (slice_index chain k ≡ c)
