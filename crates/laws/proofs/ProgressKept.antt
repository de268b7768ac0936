-- Answers and stays last over a step.
use Rattle.std.proofs.Common.{◌≡◌, ℕ, suc, ◌+◌, ◌*◌, ◌<◌, ◌≤◌, T, ◌⊎◌, sym, ap, ◌∙◌, subst, inl, inr, ⊎_elim, le_refl, arith}
use native.Mathlib.Decide.{dec_le}
use Rattle.laws.proofs.Counts.{holds}
use Rattle.laws.proofs.View.{Terms, LawfulTerms, View, FinalAt, PastWait}
use Rattle.laws.proofs.Discipline.{Ticks, Step}
use Rattle.laws.proofs.Invariants.{Timing, Blocks, Answer, VotingAt, Progress}
use Rattle.laws.proofs.StepFacts.{Enters, moved, tick_or}
use Rattle.laws.proofs.FinalStays.{past_wait_or, final_stays, led_final}
use Rattle.laws.proofs.Stay.{not_calm}

module _ (k : Terms) (L : LawfulTerms k) (v w : View) (timing : Timing k v) (blocks : Blocks k v) (progress : Progress k v) (s : Step k v w)
    (timing' : Timing k w) (blocks' : Blocks k w) where
  final_led : (i h r : ℕ) → T (w.honest i) → T (w.honest h) → 1 ≤ r → r < k.rounds → k.rank_of (k.own_block h r) ≡ 0
      → PastWait k w i (suc (suc r)) → FinalAt k w i (k.own_block h r)
  final_led i h r hi hh p top first o = ⊎_elim
      (λ q. final_stays k L v w timing blocks s timing' blocks' i (k.own_block h r) hi
      (progress.final_led i h r (s.honest_was i hi) (s.honest_was h hh) p top first q))
      (λ d. led_final k L v w timing blocks s timing' blocks' (k.own_block h r) r p alone i hi d.0 d.1)
      (past_wait_or k v w s i (suc (suc r)) hi o)
    where
      alone : (j b : ℕ) → T (w.honest j) → T (w.signed j b) → k.round_of b ≡ r → b ≡ k.own_block h r
      alone j b hj t e =
          blocks'.led h j b hh hj (omega arith) (omega arith) t (subst (λ y. k.rank_of (k.own_block h y) ≡ 0) (sym e) first) ∙ ap (k.own_block h) e

  answer_stays : (j c d : ℕ) → Answer k v j c d → Answer k w j c d
  answer_stays j c d a = (a.0, s.signed_stays j a.0 a.1, a.2, omega (arith, s.signed_at_same j a.0 a.1, a.3), a.4)

  -- at a tick each valid block that a seat holds has its answer
  answer_now : Ticks k v w → (j c : ℕ) → T (v.honest j) → k.round_of c ≡ v.round j → k.round_of c ≤ k.rounds
      → v.entered_at j (k.round_of c) + 2 * k.delay ≤ v.clock → T (v.held j c) → T (v.valid c) → Answer k v j c v.clock
  answer_now d j c hj e top over t ok =
      let a = (d.calm j hj).done (λ x. omega (arith, (d.calm j hj).waiting x, ap (v.entered_at j) e)) (omega arith) c e t ok in
      (a.0, a.1, a.2, (timing.voted j a.0 hj a.1).past, a.3)

  -- the clock ticks from d on, and seat j votes in round r
  abbrev TicksNow : ℕ → ℕ → ℕ → Type 0
  TicksNow j r d = Ticks k v w × (d ≡ v.clock) × (r ≡ v.round j) × (v.entered_at j r + 2 * k.delay ≤ d)

  -- that a seat was voting at tick d was known before, or d ends with this step
  voting_before : (j r d : ℕ) → T (w.honest j) → VotingAt k w j r d → VotingAt k v j r d ⊎ TicksNow j r d
  voting_before j r d hj i = ⊎_elim old
      (λ x. absurd (omega (arith, i.over, i.past, ap (w.entered_at j) x.1, x.0.now, x.0.still)))
      (moved k v w s j r hj i.entered)
    where
      old : r ≤ v.round j → VotingAt k v j r d ⊎ TicksNow j r d
      old q = go (dec_le (suc d) v.clock)
        where
          over : v.entered_at j r + 2 * k.delay ≤ d
          over = omega (arith, i.over, s.entered_at_same j r hj q)

          stays : r < v.round j → d < v.entered_at j (suc r)
          stays lt = omega (arith, i.stays (omega (arith, s.round_le j)), s.entered_at_same j (suc r) hj lt)

          here : v.clock ≤ d → Dec (v.round j ≤ r) → r ≡ v.round j
          here le (yes y) = omega arith
          here le (no n) = absurd (omega (arith, stays (omega arith), timing.entered j (suc r) (s.honest_was j hj) (omega arith)))

          go : Dec (d < v.clock) → VotingAt k v j r d ⊎ TicksNow j r d
          go (yes lt) = inl (record { entered = q; over = over; stays = stays; past = lt })
          go (no n) = ⊎_elim (λ e. absurd (omega (arith, i.past)))
              (λ t. inr (t, omega (arith, i.past, t.one), here (omega arith) (dec_le (v.round j) r), over)) (tick_or k v w s)

  -- seat j answers block c by tick d: it had done so before, or tick d ends now, at which seat j holds c and is calm
  answers : (j c d : ℕ) → T (w.honest j) → k.round_of c ≤ k.rounds → T (v.valid c) → (VotingAt k v j (k.round_of c) d → Answer k v j c d)
      → (d ≡ v.clock → T (v.held j c)) → VotingAt k w j (k.round_of c) d → Answer k w j c d
  answers j c d hj top ok before held x = answer_stays j c d (⊎_elim before
      (λ y. subst (Answer k v j c) (sym y.1) (answer_now y.0 j c (s.honest_was j hj) y.2 top (omega (arith, y.3, y.1)) (held y.1) ok))
      (voting_before j (k.round_of c) d hj x))

  -- an honest vote: a new one is not yet due
  answered : (i j b d : ℕ) → T (w.honest i) → T (w.honest j) → T (w.signed i b) → k.round_of b ≤ k.rounds → w.signed_at i b + k.delay ≤ d
      → VotingAt k w j (k.round_of b) d → Answer k w j b d
  answered i j b d hi hj t top due x = ⊎_elim old new (holds (v.signed i b))
    where
      ui : T (v.honest i)
      ui = s.honest_was i hi

      uj : T (v.honest j)
      uj = s.honest_was j hj

      new : (T (v.signed i b) → ⊥) → Answer k w j b d
      new n = let y = s.votes i b hi t n in absurd (omega (arith, y.tick, y.still, x.past))

      old : T (v.signed i b) → Answer k w j b d
      old t = answers j b d hj top (timing.voted i b ui t).valid
          (progress.answered i j b d ui uj t top (omega (arith, s.signed_at_same i b t)))
          (λ e. (timing.votes_due i b ui t (omega (arith, s.signed_at_same i b t, e)) j uj).0) x

  -- the own block of an honest seat: a new one is not yet due
  answered_block : (i j r d : ℕ) → T (w.honest i) → T (w.honest j) → 1 ≤ r → r ≤ k.rounds → r ≤ w.round i → w.entered_at i r + k.delay ≤ d
      → VotingAt k w j r d → Answer k w j (k.own_block i r) d
  answered_block i j r d hi hj p top in_i due x = ⊎_elim old new (moved k v w s i r hi in_i)
    where
      ui : T (v.honest i)
      ui = s.honest_was i hi

      uj : T (v.honest j)
      uj = s.honest_was j hj

      c : ℕ
      c = k.own_block i r

      c_round : k.round_of c ≡ r
      c_round = L.own_round i r (blocks.below i ui) p

      new : Enters k v w i r → Answer k w j c d
      new y = absurd (omega (arith, ap (w.entered_at i) y.1, y.0.now, y.0.still, x.past))

      old : r ≤ v.round i → Answer k w j c d
      old q = answers j c d hj (omega (arith, c_round)) valid
          (λ y. progress.answered_block i j r d ui uj p top q (omega (arith, s.entered_at_same i r hi q)) (subst (λ z. VotingAt k v j z d) c_round y))
          (λ e. blocks.blocks_due i r ui p q top (omega (arith, s.entered_at_same i r hi q, e)) j uj)
          (subst (λ z. VotingAt k w j z d) (sym c_round) x)
        where
          valid : T (v.valid c)
          valid = (blocks.honest_own c (blocks.proposed i r ui p q top) (omega (arith, c_round))
              (subst (λ z. T (v.honest z)) (sym (L.own_owner i r (blocks.below i ui) p)) ui)).1

  -- the clock does not tick for a seat that has stayed so long, since it is not calm
  stay : (j : ℕ) → T (w.honest j) → w.round j ≤ k.rounds → w.clock ≤ w.entered_at j (w.round j) + (k.byzantine + 6) * k.delay
  stay j hj top = ⊎_elim old new (moved k v w s j (w.round j) hj (le_refl (w.round j)))
    where
      uj : T (v.honest j)
      uj = s.honest_was j hj

      new : Enters k v w j (w.round j) → w.clock ≤ w.entered_at j (w.round j) + (k.byzantine + 6) * k.delay
      new d = omega (arith, ap (w.entered_at j) d.1, d.0.now, d.0.still)

      old : w.round j ≤ v.round j → w.clock ≤ w.entered_at j (w.round j) + (k.byzantine + 6) * k.delay
      old q = ⊎_elim
          (λ c. omega (arith, en, progress.stay j uj (omega arith)))
          (λ t. go t (dec_le (v.entered_at j (v.round j) + (k.byzantine + 6) * k.delay) v.clock))
          (tick_or k v w s)
        where
          same : w.round j ≡ v.round j
          same = omega (arith, s.round_le j)

          en : w.entered_at j (w.round j) ≡ v.entered_at j (v.round j)
          en = ap (w.entered_at j) same ∙ s.entered_at_same j (v.round j) hj (le_refl (v.round j))

          go : Ticks k v w → Dec (v.entered_at j (v.round j) + (k.byzantine + 6) * k.delay ≤ v.clock)
              → w.clock ≤ w.entered_at j (w.round j) + (k.byzantine + 6) * k.delay
          go t (yes long) = absurd (not_calm k L v timing blocks progress j uj (omega arith) long (t.calm j uj))
          go t (no n) = omega (arith, en, t.one)

  awake : (i : ℕ) → T (w.honest i) → (T (w.waiting i) → ⊥) → w.entered_at i (w.round i) + 2 * k.delay ≤ w.clock
  awake i hi n = ⊎_elim
      (λ q. ⊎_elim (λ t. (s.ends_wait i hi t n).over) (λ n'. asleep q n') (holds (v.waiting i)))
      (λ d. absurd (n d.0.waiting))
      (moved k v w s i (w.round i) hi (le_refl (w.round i)))
    where
      asleep : w.round i ≤ v.round i → (T (v.waiting i) → ⊥) → w.entered_at i (w.round i) + 2 * k.delay ≤ w.clock
      asleep q n' =
          let e : w.round i ≡ v.round i = omega (arith, s.round_le i) in
          let f = ap (w.entered_at i) e ∙ s.entered_at_same i (v.round i) hi (le_refl (v.round i)) in
          omega (arith, f, progress.awake i (s.honest_was i hi) n', s.clock_le)

  pub progress_kept : Progress k w
  progress_kept = record { awake = awake; final_led = final_led; answered = answered; answered_block = answered_block; stay = stay }
