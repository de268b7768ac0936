-- What is known of blocks and signatures lasts over a step.
use Rattle.std.proofs.Common.{◌≡◌, ℕ, suc, ◌+◌, ◌*◌, ◌<◌, ◌≤◌, T, ◌⊎◌, sym, ap, ◌∙◌, subst, inl, inr, ⊎_elim, le_trans, arith}
use native.Mathlib.Decide.{ℕ_discrete}
use Rattle.rules.specs.Counting.{count}
use Rattle.laws.proofs.Counts.{holds, count_mono}
use Rattle.laws.proofs.View.{Terms, LawfulTerms, View}
use Rattle.laws.proofs.Discipline.{Makes, Votes, Step}
use Rattle.laws.proofs.Invariants.{Timing, Headed, Blocks}
use Rattle.laws.proofs.StepFacts.{Enters, moved, tick_or}
use Rattle.laws.proofs.HeadsKept.{headed_stays, headed_new}

module _ (k : Terms) (L : LawfulTerms k) (v w : View) (timing : Timing k v) (blocks : Blocks k v) (s : Step k v w) (timing' : Timing k w) where
  -- a made block is an old one or a new one
  made_or : (b : ℕ) → T (w.made b) → T (v.made b) ⊎ Makes k v w b
  made_or b t = ⊎_elim inl (λ n. inr (s.makes b t n)) (holds (v.made b))

  parent_made : (b : ℕ) → T (w.made b) → 1 ≤ k.round_of b → T (w.made (w.parent b))
  parent_made b t p = ⊎_elim
      (λ o. subst (λ x. T (w.made x)) (sym (s.parent_same b o)) (s.made_stays (v.parent b) (blocks.parent_made b o p)))
      (λ d. s.made_stays (w.parent b) d.parent_made)
      (made_or b t)

  parent_round : (b : ℕ) → T (w.made b) → 1 ≤ k.round_of b → suc (k.round_of (w.parent b)) ≡ k.round_of b
  parent_round b t p = ⊎_elim
      (λ o. subst (λ x. suc (k.round_of x) ≡ k.round_of b) (sym (s.parent_same b o)) (blocks.parent_round b o p))
      (λ d. d.parent_round)
      (made_or b t)

  carried_quorum : (b : ℕ) → T (w.made b) → 2 ≤ k.round_of b → k.quorum ≤ count k.seats (w.carried b)
  carried_quorum b t p = ⊎_elim
      (λ o. le_trans (blocks.carried_quorum b o p) (count_mono k.seats (v.carried b) (w.carried b) (λ i c. subst T (sym (s.carried_same b i o)) c)))
      (λ d. d.carried_quorum p)
      (made_or b t)

  carried_signed : (b i : ℕ) → T (w.made b) → 1 ≤ k.round_of b → T (w.carried b i) → T (w.signed i (w.parent b))
  carried_signed b i t p c = ⊎_elim
      (λ o. subst (λ x. T (w.signed i x)) (sym (s.parent_same b o))
      (s.signed_stays i (v.parent b) (blocks.carried_signed b i o p (subst T (s.carried_same b i o) c))))
      (λ d. s.signed_stays i (w.parent b) (d.carried_signed i c))
      (made_or b t)

  honest_own : (b : ℕ) → T (w.made b) → 1 ≤ k.round_of b → T (w.honest (k.owner_of b))
      → (b ≡ k.own_block (k.owner_of b) (k.round_of b)) × T (w.valid b)
  honest_own b t p h = ⊎_elim
      (λ o. let q = blocks.honest_own b o p (s.honest_was (k.owner_of b) h) in (q.0, subst T (sym (s.valid_same b o)) q.1))
      (λ d. d.honest_own h)
      (made_or b t)

  proposed : (i r : ℕ) → T (w.honest i) → 1 ≤ r → r ≤ w.round i → r ≤ k.rounds → T (w.made (k.own_block i r))
  proposed i r h p le top = ⊎_elim
      (λ q. s.made_stays (k.own_block i r) (blocks.proposed i r (s.honest_was i h) p q top))
      (λ d. subst (λ x. T (w.made (k.own_block i x))) (sym d.1) (d.0.proposes (omega (arith, d.1))))
      (moved k v w s i r h le)

  blocks_due : (i r : ℕ) → T (w.honest i) → 1 ≤ r → r ≤ w.round i → r ≤ k.rounds → w.entered_at i r + k.delay ≤ w.clock
      → (j : ℕ) → T (w.honest j) → T (w.held j (k.own_block i r))
  blocks_due i r hi p le top due j hj = ⊎_elim old new (moved k v w s i r hi le)
    where
      old : r ≤ v.round i → T (w.held j (k.own_block i r))
      old q =
          let f = s.entered_at_same i r hi q in
          s.held_stays j (k.own_block i r) (⊎_elim
          (λ e. blocks.blocks_due i r (s.honest_was i hi) p q top (omega arith) j (s.honest_was j hj))
          (λ d. d.blocks_due i r (s.honest_was i hi) p q top (omega (arith, d.one)) j (s.honest_was j hj))
          (tick_or k v w s))

      new : Enters k v w i r → T (w.held j (k.own_block i r))
      new d = absurd (omega (arith, ap (w.entered_at i) d.1, d.0.now, d.0.still, L.delay_pos))

  -- Seat j, which votes now for block b, has waited 2 Δ. Seat i, honest and first-ranked, had entered the round Δ before, so that
  -- seat j holds its own block x. Block x is valid and has rank 0. So b has rank 0 too, and seat i has made no other block.
  led : (i j b : ℕ) → T (w.honest i) → T (w.honest j) → 1 ≤ k.round_of b → k.round_of b ≤ k.rounds → T (w.signed j b)
      → k.rank_of (k.own_block i (k.round_of b)) ≡ 0 → b ≡ k.own_block i (k.round_of b)
  led i j b hi hj p top t first = ⊎_elim (λ o. blocks.led i j b ui uj p top o first) new (holds (v.signed j b))
    where
      ui : T (v.honest i)
      ui = s.honest_was i hi

      uj : T (v.honest j)
      uj = s.honest_was j hj

      new : (T (v.signed j b) → ⊥) → b ≡ k.own_block i (k.round_of b)
      new no_t = mine.0 ∙ ap (λ x. k.own_block x (k.round_of b)) same
        where
          r : ℕ
          r = k.round_of b

          x : ℕ
          x = k.own_block i r

          d : Votes k v w j b
          d = s.votes j b hj t no_t

          over : v.entered_at j r + 2 * k.delay ≤ v.clock
          over = subst (λ y. v.entered_at j y + 2 * k.delay ≤ v.clock) (sym d.this_round) d.over

          here : r ≤ v.round j
          here = omega (arith, d.this_round)

          in_r : r ≤ v.round i
          in_r = timing.all_enter j r uj p here (omega (arith, over)) i ui

          early : v.entered_at i r < v.entered_at j r + k.delay
          early = timing.skew j i r uj ui p here in_r

          has : T (v.held j x)
          has = blocks.blocks_due i r ui p in_r top (omega (arith, early, over)) j uj

          there : T (v.made x)
          there = blocks.proposed i r ui p in_r top

          xr : k.round_of x ≡ r
          xr = L.own_round i r (blocks.below i ui) p

          xo : k.owner_of x ≡ i
          xo = L.own_owner i r (blocks.below i ui) p

          ok : T (v.valid x)
          ok = (blocks.honest_own x there (omega (arith, xr)) (subst (λ y. T (v.honest y)) (sym xo) ui)).1

          low : k.rank_of b ≤ k.rank_of x
          low = d.lowest x has ok (xr ∙ d.this_round)

          same : k.owner_of b ≡ i
          same = L.rank_owner b x (sym xr) (omega (arith, low, first)) p top ∙ xo

          made : T (v.made b)
          made = (timing.holding j b uj d.holds).made

          mine : (b ≡ k.own_block (k.owner_of b) (k.round_of b)) × T (v.valid b)
          mine = blocks.honest_own b made p (subst (λ y. T (v.honest y)) (sym same) ui)

  head : (i : ℕ) → T (w.honest i) → (w.head i ≡ 0) ⊎ Headed k w i (w.head i)
  head i hi = go (ℕ_discrete (w.head i) (v.head i))
    where
      go : Dec (w.head i ≡ v.head i) → (w.head i ≡ 0) ⊎ Headed k w i (w.head i)
      go (yes e) = ⊎_elim
          (λ z. inl (e ∙ z))
          (λ d. inr (subst (Headed k w i) (sym e) (headed_stays k L v w timing blocks s timing' i (v.head i) hi d)))
          (blocks.head i (s.honest_was i hi))
      go (no n) = inr (headed_new k L v w timing blocks s timing' i hi (s.heads i hi n))

  pub blocks_kept : Blocks k w
  blocks_kept = record {
    below = λ i h. blocks.below i (s.honest_was i h);
    few = s.few;
    root_made = s.made_stays 0 blocks.root_made;
    parent_made = parent_made;
    parent_round = parent_round;
    carried_quorum = carried_quorum;
    carried_signed = carried_signed;
    honest_own = honest_own;
    proposed = proposed;
    blocks_due = blocks_due;
    led = led;
    head = head;
  }
