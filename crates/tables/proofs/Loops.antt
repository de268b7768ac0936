-- One turn of a loop.
use Rattle.std.proofs.Common.{◌≡◌, ℕ, zero, suc, ◌+◌, ◌-◌, Bool, true, false, cond, eqb, Some, None, refl, add-one, arith, ne_eqb}
use Rattle.rules.specs.Loops.{upto, first_from, any}

pub upto_more : {X : Type 0} (f : ℕ → X → X) (z : X) (k : ℕ) → upto f z (k + 1) ≡ f k (upto f z k)
unfolding upto
upto_more f z k = rw add-one

pub any_none : (p : ℕ → Bool) → any p 0 ≡ false
unfolding any
any_none p = refl

pub any_more : (p : ℕ → Bool) (k : ℕ) → any p (k + 1) ≡ cond (p k) true (any p k)
unfolding any
any_more p k = rw add-one
