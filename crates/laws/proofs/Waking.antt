-- The end of a wait, with the head chosen, is a step.
use Rattle.std.proofs.Common.{◌≡◌, ℕ, ◌<◌, T, ◌⊎◌, length, set, sym, refl, ap, ◌∙◌, subst, ⊎_elim, le_refl, arith}
use Rattle.records.specs.Kind.{Kind}
use Rattle.rules.specs.declared.rows.SeatRow.{SeatRow}
use Rattle.rules.specs.Setup.{Setup}
use Rattle.rules.specs.Tables.{Tables, is_waiting, no_seat, seat_at, with_seats}
use Rattle.laws.proofs.View.{Terms, View}
use Rattle.laws.proofs.Discipline.{EndsWait, Heads, Step}
use Rattle.laws.proofs.Rows.{set_cases}
use Rattle.laws.proofs.BenchView.{Proper, terms_of, view}
use Rattle.laws.proofs.Seats.{few}

module _ {A : Type 0} (s : Setup) (K : Kind A) (P : Proper s) where
  abbrev k : Terms
  k = terms_of s

  abbrev see : Tables A → View
  see = view s K

  -- a wait ends: the row of seat i has another head, and the seat no longer waits
  pub waking : (t : Tables A) (i : ℕ) (x : SeatRow) → i < length t.seats → x.round ≡ (see t).round i
      → ((x.head ≡ (see t).head i → ⊥) → Heads k (see t) (see (with_seats t (set t.seats i x))) i)
      → EndsWait k (see t) (see (with_seats t (set t.seats i x))) i
      → Step k (see t) (see (with_seats t (set t.seats i x)))
  waking t i x len same heads ends_wait = record {
    clock_le = le_refl t.clock;
    honest_was = λ j h. h;
    round_le = λ j. ⊎_elim (λ e. omega (arith, ap (λ y. y.round) e.1, same, ap (see t).round e.0)) (λ e. omega (arith, ap (λ y. y.round) e)) (cases j);
    entered_at_same = λ j r h l. refl;
    left_by_same = λ j r h l. refl;
    made_stays = λ b q. q;
    valid_same = λ b q. refl;
    parent_same = λ b q. refl;
    carried_same = λ b z q. refl;
    signed_stays = λ j b q. q;
    signed_at_same = λ j b q. refl;
    held_stays = λ j b q. q;
    received_stays = λ j b z q. q;
    leaves = λ j h lt. absurd (⊎_elim (λ e. omega (arith, ap (λ y. y.round) e.1, same, ap (see t).round e.0)) (λ e. omega (arith, ap (λ y. y.round) e)) (cases j));
    votes = λ j b h q n. absurd (n q);
    gets = λ j b h q n. absurd (n q);
    receives = λ j b z h q n. absurd (n q);
    ticks = λ l. absurd (omega arith);
    makes = λ b q n. absurd (n q);
    heads = λ j h n. ⊎_elim
        (λ e. subst (Heads k (see t) (see w)) (sym e.0) (heads (λ q. n (ap (λ y. y.head) e.1 ∙ q ∙ ap (see t).head (sym e.0)))))
        (λ e. absurd (n (ap (λ y. y.head) e))) (cases j);
    ends_wait = λ j h q n. ⊎_elim
        (λ e. subst (EndsWait k (see t) (see w)) (sym e.0) ends_wait)
        (λ e. absurd (n (subst (λ y. T (is_waiting y.phase)) (sym e) q))) (cases j);
    few = few s P;
  }
    where
      w : Tables A
      w = with_seats t (set t.seats i x)

      cases : (j : ℕ) → ((j ≡ i) × (seat_at w j ≡ x)) ⊎ (seat_at w j ≡ seat_at t j)
      cases j = set_cases t.seats i x no_seat len j
