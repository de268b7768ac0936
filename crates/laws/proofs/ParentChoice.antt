-- The law of the parent choice: a block of the round whose notarisation the seat holds.
-- Which of them is chosen no law of a bench depends on.
use Rattle.std.proofs.Common.{◌≡◌, ℕ, suc, ◌+◌, ◌<◌, Bool, true, false, cond, T, ltb, refl, arith}
use Rattle.rules.specs.Setup.{Setup, block_round, round_start, round_width}
use Rattle.rules.specs.Tables.{Tables}
use Rattle.rules.specs.Holding.{holds_notarisation}
use Rattle.rules.specs.Weights.{weight_of}
use Rattle.rules.specs.ParentChoice.{parent_choice}
use Rattle.laws.proofs.Tests.{yes_T}
use Rattle.laws.proofs.Loops.{upto_keeps}
use Rattle.laws.proofs.BenchView.{Proper}
use Rattle.laws.proofs.Numbering.{round_in}

module _ {A : Type 0} (s : Setup) (P : Proper s) (t : Tables A) (i r : ℕ) where
  -- a block of round r + 1 whose notarisation seat i holds
  abbrev pub FitParent : ℕ → Type 0
  FitParent p = T (holds_notarisation s t i p) × (block_round s p ≡ suc r)

  -- the choice is such a block, if it is made from one
  pub parent_fits : (c : ℕ) → FitParent c → FitParent (parent_choice s t i (suc r) c)
  unfolding parent_choice
  parent_fits c q = upto_keeps FitParent
      (λ x best. cond (holds_notarisation s t i (round_start s (suc r) + x))
      (cond (ltb (weight_of s t best) (weight_of s t (round_start s (suc r) + x))) (round_start s (suc r) + x) best) best)
      c (round_width s) q turn
    where
      turn : (x best : ℕ) → x < round_width s → FitParent best
          → FitParent (cond (holds_notarisation s t i (round_start s (suc r) + x))
          (cond (ltb (weight_of s t best) (weight_of s t (round_start s (suc r) + x))) (round_start s (suc r) + x) best) best)
      turn x best l g = go (holds_notarisation s t i d) refl (ltb (weight_of s t best) (weight_of s t d))
        where
          d : ℕ
          d = round_start s (suc r) + x

          go : (b : Bool) → holds_notarisation s t i d ≡ b → (z : Bool) → FitParent (cond b (cond z d best) best)
          go true e true = (yes_T e, round_in s P r d (omega arith) (omega arith))
          go true e false = g
          go false e z = g
