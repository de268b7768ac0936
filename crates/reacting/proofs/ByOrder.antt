-- The votes by the order of a round are those of the rules.
use Rattle.std.proofs.Common.{◌≡◌, ℕ, zero, suc, ◌+◌, ◌-◌, ◌*◌, ◌<◌, ◌≤◌, cond, false, eqb, ltb, List, [], ◌∷◌, ◌++◌, length, get_or, sym, refl, ap, ◌∙◌, arith}
use Rattle.numbers.specs.Numbering.{round_of}
use Rattle.records.specs.Kind.{Kind}
use Rattle.rules.specs.Loops.{upto}
use Rattle.rules.specs.Setup.{Setup, block_round, block_owner, round_start, round_width}
use Rattle.rules.specs.Ranks.{rank}
use Rattle.rules.specs.Tables.{Tables}
use Rattle.rules.specs.VotingChoice.{holds_valid, lowest_rank}
use Rattle.rules.specs.Seat.{vote_for, vote_at_rank}
use Rattle.tables.specs.View.{order_at}
use Rattle.std.proofs.lemmas.List.{length_push}
use Rattle.tables.proofs.Loops.{upto_more}
use Rattle.tables.proofs.PastTheEnd.{rank_row_is}
use Rattle.terms.proofs.Blocks.{member_round}
use Rattle.reacting.specs.Turns.{rank_by, lowest_by, votes_by}

-- turns that do the same
upto_same : {X : Type 0} (f g : ℕ → X → X) (z : X) (k : ℕ) → ((x : ℕ) (u : X) → x < k → f x u ≡ g x u) → upto f z k ≡ upto g z k
unfolding upto
upto_same f g z zero same = refl
upto_same f g z (suc k) same = same k (upto f z k) (omega arith) ∙ ap (g k) (upto_same f g z k (λ x u l. same x u (omega arith)))

-- one turn more of a loop over numbers from k on, after the turns at xs
pub turn_more : {X : Type 0} (f : ℕ → X → X) (z u v : X) (k b : ℕ) (xs : List ℕ) → b ≡ k + length xs → u ≡ upto (λ x u. f (k + x) u) z (length xs)
    → v ≡ f b u → v ≡ upto (λ x u. f (k + x) u) z (length (xs ++ (b ∷ [])))
turn_more {X} f z u v k b xs at so turn =
    turn ∙ ap (λ (y : ℕ). f y u) at ∙ ap (f (k + length xs)) so ∙ sym (upto_more turns z (length xs)) ∙ ap (upto turns z) (sym (length_push xs b))
  where
    turns : ℕ → X → X
    turns x u = f (k + x) u

start_past_zero : (s : Setup) (r : ℕ) → 1 ≤ r → round_start s r ≡ 1 + (r - 1) * (s.n * s.editions)
start_past_zero s zero some = absurd (omega arith)
start_past_zero s (suc r) some =
    let e : suc r - 1 ≡ r = omega arith in
    let g : suc (r * (s.n * s.editions)) ≡ 1 + r * (s.n * s.editions) = omega arith in
    g ∙ ap (λ (y : ℕ). 1 + y * (s.n * s.editions)) (sym e)

module _ {A : Type 0} (s : Setup) (K : Kind A) (ranks : List ℕ) (r : ℕ) (some : 1 ≤ r) (order : ranks ≡ order_at s.orders r) where
  of_round : (x : ℕ) → x < round_width s → block_round s (round_start s r + x) ≡ r
  of_round x h = ap (λ (y : ℕ). round_of s.n s.editions (y + x)) (start_past_zero s r some) ∙ member_round s.n s.editions r x some h

  rank_is : (b : ℕ) → block_round s b ≡ r → rank_by s ranks b ≡ rank s b
  rank_is b of =
      ap (λ (xs : List ℕ). get_or xs (block_owner s b) 0) (order ∙ ap (order_at s.orders) (sym of)) ∙ rank_row_is s.orders (block_round s b - 1) (block_owner s b)

  pub lowest_is : (t : Tables A) (i c : ℕ) → block_round s c ≡ r → lowest_by s K ranks t i r c ≡ lowest_rank s K t i r c
  unfolding lowest_rank
  lowest_is t i c of =
      ap (λ (low : ℕ). upto (λ x low. cond (holds_valid s K t i (round_start s r + x)) (cond (ltb (rank_by s ranks (round_start s r + x)) low) (rank_by s ranks (round_start s r + x)) low) low) low (round_width s)) (rank_is c of)
      ∙ upto_same _ _ (rank s c) (round_width s)
      (λ x low h. ap (λ (q : ℕ). cond (holds_valid s K t i (round_start s r + x)) (cond (ltb q low) q low) low) (rank_is (round_start s r + x) (of_round x h)))

  pub votes_are : (t : Tables A) (i low : ℕ) → votes_by s K ranks t i r low ≡ vote_at_rank s K t i r low
  unfolding vote_at_rank Rattle.rules.specs.VotingChoice.voting_choice
  votes_are t i low = upto_same _ _ t (round_width s)
      (λ x u h. ap (λ (q : ℕ). cond (cond (holds_valid s K u i (round_start s r + x)) (eqb q low) false) (vote_for s i u (round_start s r + x)) u) (rank_is (round_start s r + x) (of_round x h)))
