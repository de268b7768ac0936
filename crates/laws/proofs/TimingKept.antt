-- The timing of rounds and messages lasts over a step. Of each fact: what was there before stays, and what is new has its ground.
use Rattle.std.proofs.Common.{◌≡◌, ℕ, zero, suc, ◌+◌, ◌<◌, ◌≤◌, T, sym, ap, ◌∙◌, subst, ⊎_elim, le_trans, le_refl, arith}
use native.Mathlib.Decide.{dec_le}
use Rattle.laws.proofs.Counts.{holds}
use Rattle.laws.proofs.View.{Terms, View, NotarisedAt}
use Rattle.laws.proofs.Discipline.{Votes, Ticks, Holding, Step}
use Rattle.laws.proofs.Invariants.{Voted, Past, Timing}
use Rattle.laws.proofs.StepFacts.{Enters, notarisation_stays, moved, tick_or}

module _ (k : Terms) (pos : 1 ≤ k.delay) (v w : View) (timing : Timing k v) (s : Step k v w) where
  received : (j b x : ℕ) → T (w.honest j) → T (w.received j b x) → T (w.signed x b) × T (w.held j b)
  received j b x h t = ⊎_elim old (s.receives j b x h t) (holds (v.received j b x))
    where
      old : T (v.received j b x) → T (w.signed x b) × T (w.held j b)
      old t = let o = timing.received j b x (s.honest_was j h) t in (s.signed_stays x b o.0, s.held_stays j b o.1)

  holding : (j b : ℕ) → T (w.honest j) → T (w.held j b) → Holding k w j b
  holding j b h t = ⊎_elim old (s.gets j b h t) (holds (v.held j b))
    where
      old : T (v.held j b) → Holding k w j b
      old t =
          let o = timing.holding j b (s.honest_was j h) t in
          let e = s.parent_same b o.made in
          record {
            made = s.made_stays b o.made;
            parent = λ p. subst (λ x. T (w.held j x)) (sym e) (s.held_stays j (v.parent b) (o.parent p));
            carried = λ x c. subst (λ y. T (w.received j y x)) (sym e)
                (s.received_stays j (v.parent b) x (o.carried x (subst T (s.carried_same b x o.made) c)));
          }

  voted : (i b : ℕ) → T (w.honest i) → T (w.signed i b) → Voted k w i b
  voted i b h t = ⊎_elim old new (holds (v.signed i b))
    where
      old : T (v.signed i b) → Voted k w i b
      old t =
          let o = timing.voted i b (s.honest_was i h) t in
          let m = timing.holding i b (s.honest_was i h) o.held in
          let ea = s.signed_at_same i b t in
          let ee = s.entered_at_same i (k.round_of b) h o.entered in
          let r = s.round_le i in
          let c = s.clock_le in
          record {
            valid = subst T (sym (s.valid_same b m.made)) o.valid;
            held = s.held_stays i b o.held;
            entered = omega (arith, o.entered);
            over = omega (arith, o.over);
            past = omega (arith, o.past);
          }

      new : (T (v.signed i b) → ⊥) → Voted k w i b
      new no_t =
          let d = s.votes i b h t no_t in
          let m = timing.holding i b (s.honest_was i h) d.holds in
          let e : w.entered_at i (k.round_of b) ≡ v.entered_at i (v.round i) =
          ap (w.entered_at i) d.this_round ∙ s.entered_at_same i (v.round i) h (le_refl (v.round i)) in
          record {
            valid = subst T (sym (s.valid_same b m.made)) d.valid;
            held = s.held_stays i b d.holds;
            entered = omega (arith, d.this_round, d.here);
            over = omega (arith, d.over, d.tick);
            past = omega (arith, d.tick, d.still);
          }

  entered : (i r : ℕ) → T (w.honest i) → r ≤ w.round i → w.entered_at i r ≤ w.clock
  entered i r h le = ⊎_elim old new (moved k v w s i r h le)
    where
      old : r ≤ v.round i → w.entered_at i r ≤ w.clock
      old p = omega (arith, s.entered_at_same i r h p, timing.entered i r (s.honest_was i h) p, s.clock_le)

      new : Enters k v w i r → w.entered_at i r ≤ w.clock
      new d = omega (arith, ap (w.entered_at i) d.1, d.0.now, d.0.still)

  past : (i r : ℕ) → T (w.honest i) → 1 ≤ r → r < w.round i → Past k w i r
  past i r h p le = ⊎_elim old new (moved k v w s i (suc r) h le)
    where
      old : suc r ≤ v.round i → Past k w i r
      old q =
          let o = timing.past i r (s.honest_was i h) p q in
          let e = s.left_by_same i r h q in
          record {
            over = omega (arith, o.over, s.entered_at_same i r h (omega arith), s.entered_at_same i (suc r) h q);
            left_by_round = ap k.round_of e ∙ o.left_by_round;
            left_by_notarised = notarisation_stays k v w s i (w.left_by i r) (subst (λ b. NotarisedAt k v i b) (sym e) o.left_by_notarised);
          }

      new : Enters k v w i (suc r) → Past k w i r
      new d =
          let e : r ≡ v.round i = omega (arith, d.1) in
          subst (λ x. Past k w i x) (sym e) (record {
            over = omega (arith, d.0.over, d.0.now, s.entered_at_same i (v.round i) h (le_refl (v.round i)));
            left_by_round = d.0.left_by_round;
            left_by_notarised = d.0.certified;
          })

  round_pos : (i : ℕ) → T (w.honest i) → 1 ≤ w.round i
  round_pos i h = le_trans (timing.round_pos i (s.honest_was i h)) (s.round_le i)

  round_top : (i : ℕ) → T (w.honest i) → w.round i ≤ suc k.rounds
  round_top i h = ⊎_elim
      (λ q. le_trans q (timing.round_top i (s.honest_was i h)))
      (λ d. omega (arith, d.0.one, d.0.below))
      (moved k v w s i (w.round i) h (le_refl (w.round i)))

  -- an old vote that is due reached all before, or the tick would not have come; a new vote is not yet due
  votes_due : (i b : ℕ) → T (w.honest i) → T (w.signed i b) → w.signed_at i b + k.delay ≤ w.clock
      → (j : ℕ) → T (w.honest j) → T (w.held j b) × T (w.received j b i)
  votes_due i b hi t due j hj = ⊎_elim old new (holds (v.signed i b))
    where
      on : T (v.held j b) × T (v.received j b i) → T (w.held j b) × T (w.received j b i)
      on o = (s.held_stays j b o.0, s.received_stays j b i o.1)

      old : T (v.signed i b) → T (w.held j b) × T (w.received j b i)
      old t = ⊎_elim
          (λ e. on (timing.votes_due i b (s.honest_was i hi) t (omega (arith, s.signed_at_same i b t)) j (s.honest_was j hj)))
          (λ d. on (d.votes_due i b (s.honest_was i hi) t (omega (arith, s.signed_at_same i b t, d.one)) j (s.honest_was j hj)))
          (tick_or k v w s)

      new : (T (v.signed i b) → ⊥) → T (w.held j b) × T (w.received j b i)
      new no_t = let d = s.votes i b hi t no_t in absurd (omega (arith, d.still, d.tick))

  -- likewise
  certificates_due : (i r : ℕ) → T (w.honest i) → r < w.round i → 1 ≤ r → w.entered_at i (suc r) + k.delay ≤ w.clock
      → (j : ℕ) → T (w.honest j) → NotarisedAt k w j (w.left_by i r)
  certificates_due i r hi le p due j hj = ⊎_elim old new (moved k v w s i (suc r) hi le)
    where
      old : suc r ≤ v.round i → NotarisedAt k w j (w.left_by i r)
      old q =
          let e = s.left_by_same i r hi q in
          let f = s.entered_at_same i (suc r) hi q in
          subst (λ b. NotarisedAt k w j b) (sym e) (notarisation_stays k v w s j (v.left_by i r) (⊎_elim
          (λ c. timing.certificates_due i r (s.honest_was i hi) q p (omega arith) j (s.honest_was j hj))
          (λ d. d.certificates_due i r (s.honest_was i hi) q p (omega (arith, d.one)) j (s.honest_was j hj))
          (tick_or k v w s)))

      new : Enters k v w i (suc r) → NotarisedAt k w j (w.left_by i r)
      new d = absurd (omega (arith, ap (w.entered_at i) d.1, d.0.now, d.0.still))

  -- At a tick: if seat i will have entered a round Δ ago, then seat j has entered it too. For seat j has the certificate by which
  -- seat i left the round before. If it still voted there it would not be calm; and if it still waited there, then it had entered
  -- that round Δ or more after seat i.
  drawn : Ticks k v w → (i : ℕ) → T (v.honest i) → (j : ℕ) → T (v.honest j) → (r : ℕ) → 1 ≤ r → r ≤ v.round i
      → v.entered_at i r + k.delay ≤ suc v.clock → r ≤ v.round j
  drawn d i hi j hj zero p le due = omega arith
  drawn d i hi j hj (suc zero) p le due = timing.round_pos j hj
  drawn d i hi j hj (suc (suc r)) p le due = go (dec_le (suc (suc r)) (v.round j))
    where
      a : Past k v i (suc r)
      a = timing.past i (suc r) hi (omega arith) le

      before : suc r ≤ v.round j
      before = timing.all_enter i (suc r) hi (omega arith) (omega arith) (omega (arith, a.over)) j hj

      go : Dec (suc (suc r) ≤ v.round j) → suc (suc r) ≤ v.round j
      go (yes q) = q
      go (no q) = absurd (⊎_elim waiting voting (holds (v.waiting j)))
        where
          e : v.round j ≡ suc r
          e = omega (arith, before)

          waiting : T (v.waiting j) → ⊥
          waiting t = omega (
            arith,
            (d.calm j hj).waiting t,
            ap (v.entered_at j) e,
            a.over,
            timing.skew i j (suc r) hi hj (omega arith) (omega arith) before,
          )

          voting : (T (v.waiting j) → ⊥) → ⊥
          voting t = (d.calm j hj).voting t (omega (arith, timing.round_top i hi)) (v.left_by i (suc r)) (a.left_by_round ∙ sym e)
              (d.certificates_due i (suc r) hi le (omega arith) due j hj)

  all_enter : (i r : ℕ) → T (w.honest i) → 1 ≤ r → r ≤ w.round i → w.entered_at i r + k.delay ≤ w.clock
      → (j : ℕ) → T (w.honest j) → r ≤ w.round j
  all_enter i r hi p le due j hj = ⊎_elim old new (moved k v w s i r hi le)
    where
      old : r ≤ v.round i → r ≤ w.round j
      old q =
          let f = s.entered_at_same i r hi q in
          le_trans (⊎_elim
          (λ c. timing.all_enter i r (s.honest_was i hi) p q (omega arith) j (s.honest_was j hj))
          (λ d. drawn d i (s.honest_was i hi) j (s.honest_was j hj) r p q (omega (arith, d.one)))
          (tick_or k v w s)) (s.round_le j)

      new : Enters k v w i r → r ≤ w.round j
      new d = absurd (omega (arith, ap (w.entered_at i) d.1, d.0.now, d.0.still))

  -- who enters a round now is not late: else it would have entered it before
  skew : (i j r : ℕ) → T (w.honest i) → T (w.honest j) → 1 ≤ r → r ≤ w.round i → r ≤ w.round j
      → w.entered_at j r < w.entered_at i r + k.delay
  skew i j r hi hj p li lj = ⊎_elim old new (moved k v w s j r hj lj)
    where
      ui : T (v.honest i)
      ui = s.honest_was i hi

      uj : T (v.honest j)
      uj = s.honest_was j hj

      old : r ≤ v.round j → w.entered_at j r < w.entered_at i r + k.delay
      old q = ⊎_elim
          (λ q'. omega (arith, s.entered_at_same i r hi q', s.entered_at_same j r hj q, timing.skew i j r ui uj p q' q))
          (λ d. omega (arith, ap (w.entered_at i) d.1, d.0.now, s.entered_at_same j r hj q, timing.entered j r uj q))
          (moved k v w s i r hi li)

      late : Enters k v w j r → r ≤ v.round i → Dec (v.entered_at i r + k.delay ≤ v.clock)
          → w.entered_at j r < w.entered_at i r + k.delay
      late d q (yes due) = absurd (omega (arith, timing.all_enter i r ui p q due j uj, d.1))
      late d q (no n) = omega (arith, ap (w.entered_at j) d.1, d.0.now, s.entered_at_same i r hi q)

      new : Enters k v w j r → w.entered_at j r < w.entered_at i r + k.delay
      new d = ⊎_elim
          (λ q. late d q (dec_le (v.entered_at i r + k.delay) v.clock))
          (λ c. omega (arith, ap (w.entered_at i) c.1, c.0.now, ap (w.entered_at j) d.1, d.0.now))
          (moved k v w s i r hi li)

  -- who votes so late has the certificate by which seat i left the round, and would leave too
  no_late_vote : (i j b : ℕ) → T (w.honest i) → T (w.honest j) → T (w.signed j b) → k.round_of b < w.round i → 1 ≤ k.round_of b
      → w.signed_at j b < w.entered_at i (suc (k.round_of b)) + k.delay
  no_late_vote i j b hi hj t le p = ⊎_elim old new (holds (v.signed j b))
    where
      ui : T (v.honest i)
      ui = s.honest_was i hi

      uj : T (v.honest j)
      uj = s.honest_was j hj

      old : T (v.signed j b) → w.signed_at j b < w.entered_at i (suc (k.round_of b)) + k.delay
      old t = ⊎_elim
          (λ q. omega (arith, s.signed_at_same j b t, s.entered_at_same i (suc (k.round_of b)) hi q, timing.no_late_vote i j b ui uj t q p))
          (λ d. omega (arith, s.signed_at_same j b t, (timing.voted j b uj t).past, ap (w.entered_at i) d.1, d.0.now))
          (moved k v w s i (suc (k.round_of b)) hi le)

      new : (T (v.signed j b) → ⊥) → w.signed_at j b < w.entered_at i (suc (k.round_of b)) + k.delay
      new no_t = ⊎_elim
          (λ q. in_time q (dec_le (v.entered_at i (suc (k.round_of b)) + k.delay) v.clock))
          (λ c. omega (arith, ap (w.entered_at i) c.1, c.0.now, d.tick))
          (moved k v w s i (suc (k.round_of b)) hi le)
        where
          d : Votes k v w j b
          d = s.votes j b hj t no_t

          in_time : suc (k.round_of b) ≤ v.round i → Dec (v.entered_at i (suc (k.round_of b)) + k.delay ≤ v.clock)
              → w.signed_at j b < w.entered_at i (suc (k.round_of b)) + k.delay
          in_time q (yes due) = absurd (d.without (v.left_by i (k.round_of b))
              ((timing.past i (k.round_of b) ui p q).left_by_round ∙ d.this_round) (timing.certificates_due i (k.round_of b) ui q p due j uj))
          in_time q (no n) = omega (arith, d.tick, s.entered_at_same i (suc (k.round_of b)) hi q)

  pub timing_kept : Timing k w
  timing_kept = record {
    received = received;
    holding = holding;
    voted = voted;
    entered = entered;
    past = past;
    round_pos = round_pos;
    round_top = round_top;
    votes_due = votes_due;
    certificates_due = certificates_due;
    all_enter = all_enter;
    skew = skew;
    no_late_vote = no_late_vote;
  }
