-- Where a round starts.
use mathlib.Core.Path.{◌≡◌, refl}
use mathlib.Core.Bool.{false, cond}
use Prim.Native.Nat.{ℕ, zero, suc, ◌+◌, ◌-◌, ◌*◌}
use native.Mathlib.Omega.{arith}
use lib.Dec.{eqb}
use borrow.Author.Tests.{ne_eqb}
use Rattle.rules.specs.Setup.{Setup, round_start}

-- where a round starts, by a test
pub round_start_is : (s : Setup) (r : ℕ) → round_start s r ≡ cond (eqb r 0) 0 (1 + (r - 1) * (s.n * s.editions))
round_start_is s zero = refl
round_start_is s (suc r) =
    let f : eqb (suc r) 0 ≡ false = ne_eqb (suc r) 0 (λ h. omega arith) in
    let e : suc r - 1 ≡ r = omega arith in
    let g : suc (r * (s.n * s.editions)) ≡ 1 + r * (s.n * s.editions) = omega arith in
    rw (f, e) g
