-- An honest seat that leaves its round, with its certificate: a step.
use Rattle.std.proofs.Common.{◌≡◌, ℕ, zero, suc, ◌+◌, ◌*◌, ◌<◌, ◌≤◌, T, ◌⊎◌, length, get_or, sym, refl, ap, ◌∙◌, subst, ⊎_elim, le_refl, arith}
use Rattle.std.proofs.lemmas.List.{get_or-set_same}
use Rattle.records.specs.Kind.{Kind}
use Rattle.rules.specs.declared.rows.CertificateRow.{CertificateRow}
use Rattle.rules.specs.declared.rows.Phase.TheVariants.{Waiting}
use Rattle.rules.specs.declared.rows.SeatRow.{SeatRow}
use Rattle.rules.specs.Setup.{Setup, block_round, honest, own_block}
use Rattle.rules.specs.Tables.{Tables, is_waiting, no_certificate, no_seat, seat_at}
use Rattle.rules.specs.Seat.{moves_on}
use Rattle.laws.proofs.View.{NotarisedAt, Terms, View}
use Rattle.laws.proofs.Discipline.{Leaves, Step}
use Rattle.laws.proofs.Rows.{row_one, set_cases}
use Rattle.laws.proofs.BenchView.{Proper, terms_of, view}
use Rattle.laws.proofs.Seats.{few}

module _ {A : Type 0} (s : Setup) (K : Kind A) (P : Proper s) where
  abbrev k : Terms
  k = terms_of s

  abbrev see : Tables A → View
  see = view s K

  -- an honest seat leaves its round
  pub moving : (t : Tables A) (i r c m : ℕ) → i < s.n → i < length t.seats → i * s.rounds + r < length t.certificates → (see t).round i ≡ suc r → suc r ≤ s.rounds
      → ((j : ℕ) → T (honest s j) → (see t).round j ≤ suc s.rounds)
      → (T ((see t).waiting i) → ⊥) → (see t).entered_at i (suc r) + 2 * s.delay ≤ t.clock → NotarisedAt k (see t) i c → block_round s c ≡ suc r
      → (suc (suc r) ≤ s.rounds → T ((see t).made (own_block s i (suc (suc r)))))
      → Step k (see t) (see (moves_on s t i r c m))
  moving t i r c m li len_s len_c at_r top tops awake over notarised round_is made = record {
    clock_le = le_refl t.clock;
    honest_was = λ j h. h;
    round_le = λ j. ⊎_elim (λ e. omega (arith, ap (λ y. y.round) e.1, at_r, ap (see t).round e.0)) (λ e. omega (arith, ap (λ y. y.round) e)) (seat' j);
    entered_at_same = entered_at_same;
    left_by_same = left_by_same;
    made_stays = λ b q. q;
    valid_same = λ b q. refl;
    parent_same = λ b q. refl;
    carried_same = λ b x q. refl;
    signed_stays = λ j b q. q;
    signed_at_same = λ j b q. refl;
    held_stays = λ j b q. q;
    received_stays = λ j b x q. q;
    leaves = λ j h lt. ⊎_elim
        (λ e. subst (Leaves k (see t) (see w)) (sym e.0) it)
        (λ e. absurd (omega (arith, ap (λ y. y.round) e))) (seat' j);
    votes = λ j b h q n. absurd (n q);
    gets = λ j b h q n. absurd (n q);
    receives = λ j b x h q n. absurd (n q);
    ticks = λ l. absurd (omega arith);
    makes = λ b q n. absurd (n q);
    heads = λ j h n. absurd (n (⊎_elim (λ e. ap (λ y. y.head) e.1 ∙ ap (see t).head (sym e.0)) (λ e. ap (λ y. y.head) e) (seat' j)));
    ends_wait = λ j h q n. absurd (n (⊎_elim (λ e. subst (λ y. T (is_waiting y.phase)) (sym e.1) tt) (λ e. subst (λ y. T (is_waiting y.phase)) (sym e) q) (seat' j)));
    few = few s P;
  }
    where
      w : Tables A
      w = moves_on s t i r c m

      srow : SeatRow
      srow = record { round = suc (suc r); phase = Waiting; head = (seat_at t i).head }

      crow : CertificateRow
      crow = record { block = c; signers = m; tick = t.clock }

      seat' : (x : ℕ) → ((x ≡ i) × (seat_at w x ≡ srow)) ⊎ (seat_at w x ≡ seat_at t x)
      seat' x = set_cases t.seats i srow no_seat len_s x

      certificate_case : (x : ℕ) → ((x ≡ i * s.rounds + r) × (get_or w.certificates x no_certificate ≡ crow))
          ⊎ (get_or w.certificates x no_certificate ≡ get_or t.certificates x no_certificate)
      certificate_case x = set_cases t.certificates (i * s.rounds + r) crow no_certificate len_c x

      here : get_or w.certificates (i * s.rounds + r) no_certificate ≡ crow
      here = get_or-set_same t.certificates (i * s.rounds + r) crow no_certificate len_c

      -- a row of an earlier round is another row
      other : (j x : ℕ) → T (honest s j) → suc (suc x) ≤ (see t).round j → get_or w.certificates (j * s.rounds + x) no_certificate
          ≡ get_or t.certificates (j * s.rounds + x) no_certificate
      other j x h l = ⊎_elim
          (λ e.
          let o = row_one s.rounds j i x r (omega (arith, tops j h)) top e.0 in
          absurd (omega (arith, ap (see t).round o.0, o.1, at_r)))
          (λ e. e) (certificate_case (j * s.rounds + x))

      entered_at_same : (j x : ℕ) → T (honest s j) → x ≤ (see t).round j → (see w).entered_at j x ≡ (see t).entered_at j x
      entered_at_same j zero h l = refl
      entered_at_same j (suc zero) h l = refl
      entered_at_same j (suc (suc x)) h l = ap (λ y. y.tick) (other j x h l)

      left_by_same : (j x : ℕ) → T (honest s j) → x < (see t).round j → (see w).left_by j x ≡ (see t).left_by j x
      left_by_same j zero h l = refl
      left_by_same j (suc x) h l = ap (λ y. y.block) (other j x h l)

      it : Leaves k (see t) (see w) i
      it = record {
        still = refl;
        one = ap (λ y. y.round) mine ∙ ap suc (sym at_r);
        now = ap (λ y. (see w).entered_at i (suc y)) at_r ∙ ap (λ y. y.tick) here;
        over = omega (arith, ap ((see t).entered_at i) at_r, over);
        below = omega (arith, at_r);
        certified = subst (NotarisedAt k (see t) i) (sym by_c) notarised;
        left_by_round = ap (block_round s) by_c ∙ round_is ∙ sym at_r;
        waited = awake;
        waiting = subst (λ y. T (is_waiting y.phase)) (sym mine) tt;
        proposes = λ l. subst (λ y. T ((see t).made (own_block s i (suc y)))) (sym at_r) (made (omega (arith, at_r)));
      }
        where
          mine : seat_at w i ≡ srow
          mine = get_or-set_same t.seats i srow no_seat len_s

          by_c : (see w).left_by i ((see t).round i) ≡ c
          by_c = ap ((see w).left_by i) at_r ∙ ap (λ y. y.block) here
