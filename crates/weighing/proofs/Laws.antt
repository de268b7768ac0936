-- One step of a chain's weight.
use mathlib.Core.Path.{◌≡◌, refl}
use mathlib.Core.Bool.{false, cond}
use mathlib.Core.List.{List}
use Prim.Native.Nat.{ℕ, zero, suc, ◌+◌, ◌-◌}
use native.Mathlib.Omega.{arith}
use lib.Dec.{eqb}
use lib.ListN.{get_or}
use borrow.Author.Tests.{ne_eqb}
use Rattle.numbers.specs.Quorum.{weight_of_rank}
use Rattle.rules.specs.declared.rows.BlockRow.{BlockRow}
use Rattle.rules.specs.Setup.{Setup}
use Rattle.rules.specs.Ranks.{rank}
use Rattle.rules.specs.Tables.{no_block}
use Rattle.rules.specs.Weights.{chain_weight}

pub weight_step : (s : Setup) (m : ℕ) (bs : List BlockRow) (b : ℕ) →
    chain_weight s m bs b ≡ cond (eqb m 0) 0 (weight_of_rank (rank s b) + chain_weight s (m - 1) bs (get_or bs b no_block).parent)
unfolding chain_weight
weight_step s zero bs b = refl
weight_step s (suc m) bs b =
    let e : suc m - 1 ≡ m = omega arith in
    let f : eqb (suc m) 0 ≡ false = ne_eqb (suc m) 0 (λ h. omega arith) in
    rw (e, f)
