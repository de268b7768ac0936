-- The laws of the voting choice, of a seat that holds a valid block of its round.
use Rattle.std.proofs.Common.{◌≡◌, ℕ, suc, ◌+◌, ◌-◌, ◌<◌, ◌≤◌, Bool, false, cond, T, eqb, ◌⊎◌, sym, refl, ap, ◌∙◌, subst, inl, inr, ⊎_elim, arith, eqb→eq}
use native.Mathlib.Decide.{ℕ_discrete}
use lib.Dec.{eqb_refl}
use Rattle.records.specs.Kind.{Kind}
use Rattle.rules.specs.Setup.{Setup, block_round, round_start, round_width}
use Rattle.rules.specs.Ranks.{rank}
use Rattle.rules.specs.Tables.{Tables, valid, received_at}
use Rattle.rules.specs.VotingChoice.{holds_valid, lowest_rank, voting_choice}
use Rattle.laws.proofs.Tests.{both, both_l, both_r}
use Rattle.laws.proofs.Loops.{First}
use Rattle.laws.proofs.Least.{Least, least_is}
use Rattle.laws.proofs.BenchView.{Proper}
use Rattle.laws.proofs.Numbering.{in_round, round_in}

module _ {A : Type 0} (s : Setup) (K : Kind A) where
  -- a seat votes only for a valid block that it holds
  pub choice_held : (t : Tables A) (i low c : ℕ) → T (voting_choice s K t i low c) → T (holds_valid s K t i c)
  unfolding voting_choice
  choice_held t i low c q = both_l (holds_valid s K t i c) (eqb (rank s c) low) q

  -- the choice depends on nothing but what is held and valid; so the votes of a reaction do not change it
  pub choice_same : (t u : Tables A) (i low c : ℕ) → (received_at s u i c).held ≡ (received_at s t i c).held → valid K u c ≡ valid K t c
      → voting_choice s K u i low c ≡ voting_choice s K t i low c
  unfolding voting_choice
  choice_same t u i low c e f =
      ap (λ (b : Bool). cond (cond b (valid K u c) false) (eqb (rank s c) low) false) e
      ∙ ap (λ (b : Bool). cond (cond (received_at s t i c).held b false) (eqb (rank s c) low) false) f

  choice_rank : (t : Tables A) (i low c : ℕ) → T (voting_choice s K t i low c) → rank s c ≡ low
  unfolding voting_choice
  choice_rank t i low c q = eqb→eq (rank s c) low (both_r (holds_valid s K t i c) (eqb (rank s c) low) q)

  choice_of : (t : Tables A) (i low c : ℕ) → T (holds_valid s K t i c) → rank s c ≡ low → T (voting_choice s K t i low c)
  unfolding voting_choice
  choice_of t i low c g e = both (holds_valid s K t i c) (eqb (rank s c) low) g (subst (λ (y : ℕ). T (eqb (rank s c) y)) e (eqb_refl (rank s c)))

  -- of round r + 1; c0 is the first valid block of it that seat i holds
  module _ (P : Proper s) (t : Tables A) (i r c0 : ℕ) (x0 : First (holds_valid s K t i) (round_start s (suc r)) (round_width s) c0) where
    abbrev start : ℕ
    start = round_start s (suc r)

    abbrev low : ℕ
    low = lowest_rank s K t i (suc r) c0

    least : Least (λ x. holds_valid s K t i (start + x)) (λ x. rank s (start + x)) (rank s c0) (round_width s) low
    unfolding lowest_rank
    least = least_is (λ x. holds_valid s K t i (start + x)) (λ x. rank s (start + x)) (rank s c0) (round_width s)

    under : (c : ℕ) → block_round s c ≡ suc r → T (holds_valid s K t i c) → low ≤ rank s c
    under c e q =
        let o = in_round s P r c e in
        let z : start + (c - start) ≡ c = omega (arith, o.0) in
        subst (λ (y : ℕ). low ≤ rank s y) z (least.below (c - start) (omega (arith, o.0, o.1)) (subst (λ (y : ℕ). T (holds_valid s K t i y)) (sym z) q))

    -- no valid block of the round that the seat holds is of lower rank than one that it votes for
    pub choice_lowest : (b c : ℕ) → T (voting_choice s K t i low b) → block_round s c ≡ suc r → T (holds_valid s K t i c) → rank s b ≤ rank s c
    choice_lowest b c q e g = omega (arith, choice_rank t i low b q, under c e g)

    best : (b : ℕ) × (block_round s b ≡ suc r) × T (voting_choice s K t i low b)
    best = ⊎_elim
        (λ e. (c0, round_in s P r c0 x0.from x0.to, choice_of t i low c0 x0.passes (sym e)))
        (λ z. (start + z.0, round_in s P r (start + z.0) (omega arith) (omega (arith, z.1)), choice_of t i low (start + z.0) z.2 z.3))
        least.is

    -- for each valid block of the round that it holds it votes for that one, or for one of lower rank
    pub choice_answers : (c : ℕ) → block_round s c ≡ suc r → T (holds_valid s K t i c)
        → (b : ℕ) × (block_round s b ≡ suc r) × T (voting_choice s K t i low b) × ((b ≡ c) ⊎ (rank s b < rank s c))
    choice_answers c e g = go (ℕ_discrete (rank s c) low)
      where
        go : Dec (rank s c ≡ low) → (b : ℕ) × (block_round s b ≡ suc r) × T (voting_choice s K t i low b) × ((b ≡ c) ⊎ (rank s b < rank s c))
        go (yes z) = (c, e, choice_of t i low c g z, inl refl)
        go (no z) = (best.0, best.1, best.2, inr (omega (arith, z, under c e g, choice_rank t i low best.0 best.2)))
