-- One turn of the search for the heaviest chain.
use Rattle.std.specs.Prelude.{cond, ℕ, ltb}
use Rattle.rules.specs.Setup.{Setup}
use Rattle.rules.specs.Tables.{Tables}
use Rattle.rules.specs.Holding.{holds_notarisation}
use Rattle.rules.specs.Weights.{weight_of}

module _ {A : Type 0} (s : Setup) (t : Tables A) where
  -- block b, if seat i holds a notarisation of it and its chain is heavier than that of `best`; else `best`
  abbrev pub heavier_of : ℕ → ℕ → ℕ → ℕ
  heavier_of i b best = cond (holds_notarisation s t i b) (cond (ltb (weight_of s t best) (weight_of s t b)) b best) best
