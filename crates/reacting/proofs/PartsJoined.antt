-- The parts make the whole.
use Rattle.std.proofs.Common.{◌≡◌, ℕ, suc, ◌+◌, ◌-◌, ◌<◌, ◌≤◌, Bool, true, false, cond, ltb, leb, sym, refl, ap, ◌∙◌, arith}
use Rattle.std.proofs.lemmas.Bool.{lt-ltb, ltb-true, leb-true, le-leb}
use Rattle.records.specs.Kind.{Kind}
use Rattle.rules.specs.declared.rows.Phase.{Phase}
use Rattle.rules.specs.declared.rows.Phase.TheVariants.{Waiting, Voting, Resting}
use Rattle.rules.specs.Setup.{Setup}
use Rattle.rules.specs.Tables.{Tables, seat_at, received_at}
use Rattle.rules.specs.Holding.{lowest_notarised}
use Rattle.rules.specs.ParentChoice.{parent_choice}
use Rattle.rules.specs.Seat.{propose, moves_on, vote, leave, leave_by, react_in}
use Rattle.reacting.specs.Parts.{moved_on, reacted_in, reacted_as, reacts, seat_reacts}

module _ {A : Type 0} (s : Setup) (K : Kind A) (t : Tables A) (i : ℕ) where
  pub moved_is : (r c : ℕ) → moved_on s K t i r c ≡ leave s K t i r c
  unfolding leave
  moved_is r c =
      let f : r + 1 ≡ suc r = omega arith in
      let g : r + 2 ≡ suc (suc r) = omega arith in
      λ k. moves_on s (cond (leb (g k) s.rounds) (propose s K t i (g k) (parent_choice s t i (f k) c)) t) i r c (received_at s t i c).signers

  pub reacted_in_is : (r : ℕ) → reacted_in s K t i r ≡ react_in s K t i r
  unfolding react_in
  reacted_in_is r =
      let f : r + 1 ≡ suc r = omega arith in
      λ k. leave_by s K t i r (lowest_notarised s t i (f k)) (leave_by s K (vote s K t i (f k)) i r (lowest_notarised s (vote s K t i (f k)) i (f k)) (vote s K t i (f k)))

  -- a seat of the bench that votes in one of the rounds
  pub voted_is : i < s.n → (seat_at t i).phase ≡ Voting → (seat_at t i).round ≤ s.rounds → react_in s K t i ((seat_at t i).round - 1) ≡ seat_reacts s K t i
  unfolding reacts
  voted_is in_bench votes within =
      sym (ap (λ (b : Bool). cond b (reacts s K t i) t) (lt-ltb i s.n in_bench) ∙ ap (reacted_as s K t i) votes ∙ ap (λ (b : Bool). cond b (react_in s K t i ((seat_at t i).round - 1)) t) (le-leb (seat_at t i).round s.rounds within))

  -- any other
  pub still_is : (i < s.n → (seat_at t i).phase ≡ Voting → (seat_at t i).round ≤ s.rounds → ⊥) → t ≡ seat_reacts s K t i
  unfolding reacts
  still_is none = seat (ltb i s.n) refl
    where
      by : (b : Bool) → leb (seat_at t i).round s.rounds ≡ b → ((seat_at t i).round ≤ s.rounds → ⊥) → t ≡ cond b (react_in s K t i ((seat_at t i).round - 1)) t
      by true e never = absurd (never (leb-true (seat_at t i).round s.rounds e))
      by false e never = refl

      go : (x : Phase) → (x ≡ Voting → (seat_at t i).round ≤ s.rounds → ⊥) → t ≡ reacted_as s K t i x
      go Waiting never = refl
      go Voting never = by (leb (seat_at t i).round s.rounds) refl (never refl)
      go Resting never = refl

      seat : (b : Bool) → ltb i s.n ≡ b → t ≡ cond b (reacts s K t i) t
      seat true e = go (seat_at t i).phase (none (ltb-true i s.n e))
      seat false e = refl
