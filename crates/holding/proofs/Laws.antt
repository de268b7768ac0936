-- Taking a block in, by one step.
use mathlib.Core.Path.{◌≡◌, refl, ap, sym, ◌∙◌}
use mathlib.Core.Bool.{Bool, true, false, cond}
use mathlib.Core.List.{List}
use Prim.Native.Nat.{ℕ, zero, suc, ◌+◌, ◌-◌, ◌*◌}
use native.Mathlib.Omega.{arith}
use lib.ListN.{get_or, set}
use lib.Dec.{eqb}
use borrow.Author.Tests.{ne_eqb}
use Rattle.rules.specs.declared.rows.BlockRow.{BlockRow}
use Rattle.rules.specs.declared.rows.ReceivedRow.{ReceivedRow}
use Rattle.rules.specs.Tables.{Tables, no_block, nothing_received, with_received}
use Rattle.rules.specs.Holding.{take_in, receive_row, hold_row}
use Rattle.holding.specs.Taking.{taken}

pub take_step : (n m : ℕ) (bs : List BlockRow) (h : List ReceivedRow) (j b : ℕ) → take_in n m bs h j b ≡ cond (eqb m 0) h (cond (get_or h (b * n + j) nothing_received).held h
    (let p = (get_or bs b no_block).parent in let u = take_in n (m - 1) bs h j p in let x = set u (p * n + j) (receive_row (get_or bs b no_block).carried (get_or u (p * n + j) nothing_received)) in set x (b * n + j) (hold_row (get_or x (b * n + j) nothing_received))))
unfolding take_in
take_step n zero bs h j b = refl
take_step n (suc m) bs h j b = let e : suc m - 1 ≡ m = omega arith in let f : eqb (suc m) 0 ≡ false = ne_eqb (suc m) 0 (λ h. omega arith) in rw (e, f)

module _ {A : Type 0} (n m : ℕ) (t : Tables A) (j b : ℕ) where
  abbrev above : ℕ
  above = (get_or t.blocks b no_block).parent

  abbrev first : List ReceivedRow
  first = take_in n (m - 1) t.blocks t.received j above

  abbrev later : List ReceivedRow
  later = set first (above * n + j) (receive_row (get_or t.blocks b no_block).carried (get_or first (above * n + j) nothing_received))

  -- the tables with these rows received
  abbrev receiving : Tables A → ℕ → (ReceivedRow → ReceivedRow) → Tables A
  receiving u at f = with_received u (set u.received at (f (get_or u.received at nothing_received)))

  pub taken_none : m ≡ 0 → t ≡ taken n m t j b
  unfolding taken
  taken_none e = ap (with_received t) (sym (take_step n m t.blocks t.received j b ∙ rw e))

  pub taken_held : (get_or t.received (b * n + j) nothing_received).held ≡ true → t ≡ taken n m t j b
  unfolding taken
  taken_held e = ap (with_received t) (sym (take_step n m t.blocks t.received j b ∙ go (eqb m 0) (set later (b * n + j) (hold_row (get_or later (b * n + j) nothing_received)))))
    where
      go : (q : Bool) (y : List ReceivedRow) → cond q t.received (cond (get_or t.received (b * n + j) nothing_received).held t.received y) ≡ t.received
      go true y = refl
      go false y = ap (λ q. cond q t.received y) e

  pub taken_open : eqb m 0 ≡ false → (get_or t.received (b * n + j) nothing_received).held ≡ false
      → receiving (receiving (taken n (m - 1) t j above) (above * n + j) (receive_row (get_or t.blocks b no_block).carried)) (b * n + j) hold_row ≡ taken n m t j b
  unfolding taken
  taken_open e f = ap (with_received t) (sym (take_step n m t.blocks t.received j b ∙ rw (e, f)))
