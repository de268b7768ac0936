-- A seat whose wait has ended votes only in one of the rounds, so that it reacts as the rules say.
use Rattle.std.proofs.Common.{◌≡◌, ℕ, ◌<◌, ◌≤◌, ⊎_elim, Bool, true, false, cond, ltb, leb, length, set, length-set, refl, sym, subst, ◌∙◌, arith}
use Rattle.std.proofs.lemmas.Bool.{cases_lt, leb-true}
use Rattle.std.proofs.lemmas.List.{get_or-set_same}
use Rattle.records.specs.Kind.{Kind}
use Rattle.rules.specs.declared.rows.Phase.{Phase}
use Rattle.rules.specs.declared.rows.Phase.TheVariants.{Voting, Resting}
use Rattle.rules.specs.declared.rows.SeatRow.{SeatRow}
use Rattle.rules.specs.Setup.{Setup}
use Rattle.rules.specs.Tables.{Tables, no_seat, seat_at}
use Rattle.rules.specs.HeadChoice.{next_head}
use Rattle.rules.specs.Seat.{wakes, end_wait}
use Rattle.tables.proofs.PastTheEnd.{past_end}
use Rattle.reacting.specs.Parts.{reacts, seat_reacts}
use Rattle.reacting.proofs.PastTheRounds.{of_seat, in_rounds}

votes_within : (r R : ℕ) (b : Bool) → leb r R ≡ b → ◌≡◌ {A = Phase} (cond b Voting Resting) Voting → r ≤ R
votes_within r R true e h = leb-true r R e
votes_within r R false e h = absurd (cc)

module _ {A : Type 0} (s : Setup) (K : Kind A) (t : Tables A) (i : ℕ) where
  abbrev Within : SeatRow → Type 0
  Within a = a.phase ≡ Voting → a.round ≤ s.rounds

  abbrev row : SeatRow
  row = record {
    round = (seat_at t i).round;
    phase = cond (leb (seat_at t i).round s.rounds) Voting Resting;
    head = next_head s K t i;
  }

  woken_within : Within (seat_at (wakes s K t i) i)
  woken_within = ⊎_elim
      (λ (h : i < length t.seats). subst Within (sym (get_or-set_same t.seats i row no_seat h))
      (votes_within (seat_at t i).round s.rounds (leb (seat_at t i).round s.rounds) refl))
      (λ (h : length t.seats ≤ i). subst Within (sym (past_end (set t.seats i row) i no_seat (omega (arith, length-set t.seats i row))))
      (λ (e : ◌≡◌ {A = Phase} Resting Voting). absurd (cc)))
      (cases_lt i (length t.seats))

  pub woken_reacts : reacts s K (wakes s K t i) i ≡ end_wait s K t i
  unfolding end_wait
  woken_reacts = in_rounds s K (wakes s K t i) i woken_within

  -- .. which is a seat of the bench
  pub woken_seat_reacts : ltb i s.n ≡ true → seat_reacts s K (wakes s K t i) i ≡ end_wait s K t i
  woken_seat_reacts in_bench = of_seat s K (wakes s K t i) i in_bench ∙ woken_reacts
