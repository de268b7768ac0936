-- A tick: the clock moves on, then the waits that are due end one by one.
use Rattle.std.proofs.Common.{◌≡◌, ℕ, suc, ◌+◌, ◌*◌, ◌<◌, ◌≤◌, Bool, true, false, cond, T, ltb, leb, ◌⊎◌, sym, refl, subst, inl, inr, ⊎_elim, arith, leb→le}
use native.Mathlib.Decide.{ℕ_discrete}
use lib.Dec.{not_T, nleb→lt}
use Rattle.records.specs.Kind.{IdleFollows, Kind}
use Rattle.rules.specs.declared.fault.BenchFault.TheVariants.{ClockStopped, MessageOverdue, TableLength}
use Rattle.rules.specs.Loops.{upto}
use Rattle.rules.specs.Setup.{Setup, honest}
use Rattle.rules.specs.Tables.{Tables, entered_at, fits, is_waiting, next_tick, seat_at}
use Rattle.rules.specs.Seat.{end_wait}
use Rattle.rules.specs.Overdue.{overdue}
use Rattle.rules.specs.Calls.{Outcome, done, end_due, refused, tick, wait_due}
use Rattle.laws.proofs.Counts.{holds}
use Rattle.laws.proofs.View.{View}
use Rattle.laws.proofs.Discipline.{Calm, Run, Step, Ticks}
use Rattle.laws.proofs.Discipline.Run.{next, start}
use Rattle.laws.proofs.Runs.{run_then}
use Rattle.laws.proofs.Moves.{still_calm, tick_step}
use Rattle.laws.proofs.Tests.{both, both_l, both_r, no_T, yes_T}
use Rattle.laws.proofs.Loops.{upto_step}
use Rattle.laws.proofs.BenchView.{Proper, terms_of, view}
use Rattle.laws.proofs.Seats.{few, honest_below}
use Rattle.laws.proofs.Sound.{Sound}
use Rattle.laws.proofs.Acting.{Acts, others_untouched}
use Rattle.laws.proofs.EndingWaits.{end_wait_acts}
use Rattle.laws.proofs.Settled.{Settled, Settles, either, same}
use Rattle.laws.proofs.NothingOverdue.{blocks_due, certificates_due, votes_due}

module _ {A : Type 0} (s : Setup) (K : Kind A) (P : Proper s) (idles : IdleFollows K) where
  module _ (t : Tables A) (z : Settled s K P idles t) (quiet : overdue s t ≡ false) where
    abbrev v : View
    v = view s K t

    abbrev f : Sound s K P idles t
    f = z.sound

    ticks : Ticks (terms_of s) v (view s K (next_tick t))
    ticks = record {
      one = refl;
      calm = z.calm;
      votes_due = votes_due s K P idles t f quiet;
      certificates_due = certificates_due s K P idles t f quiet;
      blocks_due = blocks_due s K P idles t f quiet;
    }

    clock_step : Step (terms_of s) v (view s K (next_tick t))
    clock_step = tick_step (terms_of s) v (few s P) ticks

    sound_later : Sound s K P idles (next_tick t)
    sound_later = record {
      run = next f.run clock_step;
      sized = record {
        blocks = f.sized.blocks;
        records = f.sized.records;
        drafts = f.sized.drafts;
        seats = f.sized.seats;
        received = f.sized.received;
        votes = f.sized.votes;
        certificates = f.sized.certificates;
      };
      phase = f.phase;
      low = f.low;
      sealed = λ i r h l. record { signed = (f.sealed i r h l).signed; quorum = (f.sealed i r h l).quorum };
      ahead = f.ahead;
    }

    -- while the waits end: a seat is calm, or its turn is still to come
    record Turn (x : ℕ) (u : Tables A) : Type 0 where
      sound : Sound s K P idles u
      run : Run (terms_of s) v (view s K u)
      each : (j : ℕ) → T (honest s j) → Calm (terms_of s) (view s K u) j ⊎ ((x ≤ j) × T ((view s K u).waiting j))

    first_turn : Turn 0 (next_tick t)
    first_turn = record {
      sound = sound_later;
      run = next start clock_step;
      each = λ j h. ⊎_elim
          (λ q. inr (omega arith, q))
          (λ q. inl (record { waiting = λ y. absurd (q y); voting = (z.calm j h).voting; done = (z.calm j h).done }))
          (holds (v.waiting j));
    }

    turn : (x : ℕ) (u : Tables A) → x < s.n → Turn x u → Turn (suc x) (end_due s K x u)
    turn x u l y = go (wait_due s u x) refl
      where
        go : (b : Bool) → wait_due s u x ≡ b → Turn (suc x) (cond b (end_wait s K u x) u)
        go true e = record { sound = r.0.sound; run = run_then y.run r.0.run; each = λ j hj. each j hj (ℕ_discrete j x) }
          where
            h : T (honest s x)
            h = both_l (honest s x) (cond (is_waiting (seat_at u x).phase) (leb (entered_at s u x (seat_at u x).round + 2 * s.delay) u.clock) false) (yes_T e)

            rest : T (cond (is_waiting (seat_at u x).phase) (leb (entered_at s u x (seat_at u x).round + 2 * s.delay) u.clock) false)
            rest = both_r (honest s x) (cond (is_waiting (seat_at u x).phase) (leb (entered_at s u x (seat_at u x).round + 2 * s.delay) u.clock) false) (yes_T e)

            over : entered_at s u x (seat_at u x).round + 2 * s.delay ≤ u.clock
            over = leb→le (entered_at s u x (seat_at u x).round + 2 * s.delay) u.clock
                (both_r (is_waiting (seat_at u x).phase) (leb (entered_at s u x (seat_at u x).round + 2 * s.delay) u.clock) rest)

            r : Acts s K P idles x u (end_wait s K u x) × Calm (terms_of s) (view s K (end_wait s K u x)) x
            r = end_wait_acts s K P idles u y.sound x h over

            each : (j : ℕ) → T (honest s j) → Dec (j ≡ x) → Calm (terms_of s) (view s K (end_wait s K u x)) j ⊎ ((suc x ≤ j) × T ((view s K (end_wait s K u x)).waiting j))
            each j hj (yes q) = inl (subst (Calm (terms_of s) (view s K (end_wait s K u x))) (sym q) r.1)
            each j hj (no q) =
                let o = others_untouched s K P idles x u (end_wait s K u x) y.sound r.0 j hj q in
                ⊎_elim (λ c. inl (still_calm (terms_of s) (view s K u) (view s K (end_wait s K u x)) j o c))
                (λ c. inr (omega (arith, c.0, q), subst T (sym o.waiting) c.1)) (y.each j hj)
        go false e = record { sound = y.sound; run = y.run; each = λ j hj. ⊎_elim inl (λ c. each j hj c (ℕ_discrete j x)) (y.each j hj) }
          where
            each : (j : ℕ) → T (honest s j) → (x ≤ j) × T ((view s K u).waiting j) → Dec (j ≡ x) → Calm (terms_of s) (view s K u) j ⊎ ((suc x ≤ j) × T ((view s K u).waiting j))
            each j hj c (no q) = inr (omega (arith, c.0, q), c.1)
            each j hj c (yes q) = inl (subst (Calm (terms_of s) (view s K u)) (sym q) (record {
              waiting = λ w. nleb→lt (entered_at s u x (seat_at u x).round + 2 * s.delay) u.clock
                  (not_T (leb (entered_at s u x (seat_at u x).round + 2 * s.delay) u.clock) (λ o. no_T e
                  (both (honest s x) (cond (is_waiting (seat_at u x).phase) (leb (entered_at s u x (seat_at u x).round + 2 * s.delay) u.clock) false) hx
                  (both (is_waiting (seat_at u x).phase) (leb (entered_at s u x (seat_at u x).round + 2 * s.delay) u.clock) wx o))));
              voting = λ n. absurd (n wx);
              done = λ n. absurd (n wx);
            }))
              where
                hx : T (honest s x)
                hx = subst (λ (y : ℕ). T (honest s y)) q hj

                wx : T (is_waiting (seat_at u x).phase)
                wx = subst (λ (y : ℕ). T (is_waiting (seat_at u y).phase)) q c.1

    ticked : Settles s K P idles t (upto (end_due s K) (next_tick t) s.n)
    ticked =
        let y = upto_step Turn (end_due s K) (next_tick t) s.n first_turn turn in
        record { settled = record { sound = y.sound; calm = λ j h. ⊎_elim (λ c. c) (λ c. absurd (omega (arith, c.0, honest_below s j h))) (y.each j h) }; run = y.run }

  -- the call
  pub tick_settles : (t : Tables A) → Settled s K P idles t → Settles s K P idles t (tick s K t).tables
  unfolding tick
  tick_settles t z =
      either s K P idles Q (fits s t) (cond (overdue s t) (refused MessageOverdue t)
      (cond (ltb t.clock 8000000) (done (upto (end_due s K) (next_tick t) s.n)) (refused ClockStopped t))) (refused TableLength t)
      (λ e. either s K P idles Q (overdue s t) (refused MessageOverdue t) (cond (ltb t.clock 8000000) (done (upto (end_due s K) (next_tick t) s.n))
      (refused ClockStopped t)) (λ e. same s K P idles z)
      (λ quiet. either s K P idles Q (ltb t.clock 8000000) (done (upto (end_due s K) (next_tick t) s.n)) (refused ClockStopped t) (λ e. ticked t z quiet)
      (λ e. same s K P idles z)))
      (λ e. same s K P idles z)
    where
      Q : Outcome A → Type 0
      Q o = Settles s K P idles t o.tables
