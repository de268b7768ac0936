-- The end of a wait: the head is chosen, and the seat reacts.
use Rattle.std.proofs.Common.{◌≡◌, ℕ, ◌+◌, ◌*◌, ◌<◌, ◌≤◌, Bool, true, false, cond, T, leb, ◌⊎◌, length, set, sym, refl, ap, ◌∙◌, subst, ⊎_elim, arith, leb→le, length-set}
use lib.Dec.{not_T}
use Rattle.std.proofs.lemmas.List.{get_or-set_same}
use Rattle.records.specs.Kind.{IdleFollows, Kind}
use Rattle.rules.specs.declared.rows.Phase.TheVariants.{Resting, Voting}
use Rattle.rules.specs.declared.rows.SeatRow.{SeatRow}
use Rattle.rules.specs.Setup.{Setup, block_round, honest}
use Rattle.rules.specs.Tables.{Tables, entered_at, is_waiting, no_seat, seat_at, with_seats}
use Rattle.rules.specs.HeadChoice.{next_head}
use Rattle.rules.specs.Seat.{end_wait, wakes}
use Rattle.laws.proofs.Chains.{On}
use Rattle.laws.proofs.View.{View}
use Rattle.laws.proofs.Discipline.{Calm, EndsWait, Heads, Step}
use Rattle.laws.proofs.Discipline.Run.{next, start}
use Rattle.laws.proofs.Tests.{no_T, yes_T}
use Rattle.laws.proofs.Rows.{set_cases}
use Rattle.laws.proofs.BenchView.{Proper, terms_of, view}
use Rattle.laws.proofs.Seats.{honest_below}
use Rattle.laws.proofs.Waking.{waking}
use Rattle.laws.proofs.Sound.{PhaseFits, Sound}
use Rattle.laws.proofs.Acting.{Acts, acts_then}
use Rattle.laws.proofs.Reacting.{react_acts}
use Rattle.laws.proofs.HeadChoice.{head_common, head_final, head_low, head_not_older, head_second}

module _ {A : Type 0} (s : Setup) (K : Kind A) (P : Proper s) (idles : IdleFollows K) where
  module _ (t : Tables A) (f : Sound s K P idles t) (i : ℕ) (h : T (honest s i)) where
    abbrev v : View
    v = view s K t

    abbrev round : ℕ
    round = (seat_at t i).round

    module _ (over : entered_at s t i round + 2 * s.delay ≤ t.clock) where
      abbrev new : SeatRow
      new = record { round = round; phase = cond (leb round s.rounds) Voting Resting; head = next_head s K t i }

      abbrev w : Tables A
      w = with_seats t (set t.seats i new)

      len : i < length t.seats
      len = omega (arith, f.sized.seats, honest_below s i h)

      mine : seat_at w i ≡ new
      mine = get_or-set_same t.seats i new no_seat len

      seat_case : (j : ℕ) → ((j ≡ i) × (seat_at w j ≡ new)) ⊎ (seat_at w j ≡ seat_at t j)
      seat_case j = set_cases t.seats i new no_seat len j

      round_w : (seat_at w i).round ≡ round
      round_w = ap (λ a. a.round) mine

      head_w : (seat_at w i).head ≡ next_head s K t i
      head_w = ap (λ a. a.head) mine

      over_w : (view s K w).entered_at i ((view s K w).round i) + 2 * s.delay ≤ w.clock
      over_w = subst (λ (y : ℕ). entered_at s t i y + 2 * s.delay ≤ t.clock) (sym round_w) over

      heads : (next_head s K t i ≡ (seat_at t i).head → ⊥) → Heads (terms_of s) v (view s K w) i
      heads d = record {
        second = omega (arith, round_w, head_second s K P idles t f i h d);
        over = over_w;
        common = λ c hc vc e. subst (λ (y : ℕ). On v.parent (block_round s) y c) (sym head_w) (head_common s K P idles t f i h d c hc vc (e ∙ round_w));
        not_older = omega (arith, ap (block_round s) head_w, head_not_older s K P idles t f i h);
      }

      ends_wait : EndsWait (terms_of s) v (view s K w) i
      ends_wait = record {
        over = over_w;
        head_set = λ l p all. subst (On v.parent (block_round s) p) (sym head_w)
            (head_final s K P idles t f i h (omega (arith, l, round_w)) p (λ c hc vc e. all c hc vc (e ∙ sym round_w)));
      }

      st' : Step (terms_of s) v (view s K w)
      st' = waking s K P t i new len refl heads ends_wait

      not_waiting : T (is_waiting (seat_at w i).phase) → ⊥
      not_waiting q = go (leb round s.rounds) (subst (λ a. T (is_waiting a.phase)) mine q)
        where
          go : (b : Bool) → T (is_waiting (cond b Voting Resting)) → ⊥
          go true q = q
          go false q = q

      phase_new : PhaseFits s (cond (leb round s.rounds) Voting Resting) round
      phase_new = go (leb round s.rounds) refl
        where
          go : (b : Bool) → leb round s.rounds ≡ b → PhaseFits s (cond b Voting Resting) round
          go true e = leb→le round s.rounds (yes_T e)
          go false e = lib.Dec.nleb→lt round s.rounds (not_T (leb round s.rounds) (no_T e))

      round_same : (j : ℕ) → (seat_at w j).round ≡ (seat_at t j).round
      round_same j = ⊎_elim (λ e. ap (λ a. a.round) e.1 ∙ ap (λ z. (seat_at t z).round) (sym e.0)) (λ e. ap (λ a. a.round) e) (seat_case j)

      wakes_acts : Acts s K P idles i t w
      wakes_acts = record {
        sound = record {
          run = next f.run st';
          sized = record {
            blocks = f.sized.blocks;
            records = f.sized.records;
            drafts = f.sized.drafts;
            seats = length-set t.seats i new ∙ f.sized.seats;
            received = f.sized.received;
            votes = f.sized.votes;
            certificates = f.sized.certificates;
          };
          phase = λ j hj. ⊎_elim (λ e. subst (λ a. PhaseFits s a.phase a.round) (sym e.1) phase_new)
              (λ e. subst (λ a. PhaseFits s a.phase a.round) (sym e) (f.phase j hj)) (seat_case j);
          low = λ j hj. ⊎_elim (λ e. subst (λ a. 1 ≤ block_round s a.head → block_round s a.head + 2 ≤ a.round) (sym e.1) (head_low s K P idles t f i h))
              (λ e. subst (λ a. 1 ≤ block_round s a.head → block_round s a.head + 2 ≤ a.round) (sym e) (f.low j hj)) (seat_case j);
          sealed = λ j r hj l. let old = f.sealed j r hj (omega (arith, l, round_same j)) in record { signed = old.signed; quorum = old.quorum };
          ahead = λ j r hj l. f.ahead j r hj (omega (arith, l, round_same j));
        };
        run = next start st';
        only = record { clock = refl; received = λ j c l d. refl; seats = λ j d. ⊎_elim (λ e. absurd (d e.0)) (λ e. e) (seat_case j); certificates = λ j r l m d. refl };
      }

  -- the end of a wait that is due
  pub end_wait_acts : (t : Tables A) → Sound s K P idles t → (i : ℕ) → T (honest s i) → entered_at s t i (seat_at t i).round + 2 * s.delay ≤ t.clock
      → Acts s K P idles i t (end_wait s K t i) × Calm (terms_of s) (view s K (end_wait s K t i)) i
  unfolding end_wait
  end_wait_acts t f i h over =
      let a = wakes_acts t f i h over in
      let b = react_acts s K P idles (wakes s K t i) a.sound i h (λ q. absurd (not_waiting t f i h over q)) in
      (acts_then s K P idles a b.0, b.1)
