-- A bench as an opening gives it; the invariants hold there.
use Rattle.std.proofs.Common.{◌≡◌, ℕ, ◌<◌, ◌≤◌, T, ◌⊎◌, sym, ap, ◌∙◌, subst, inl, ⊎_elim, arith}
use Rattle.laws.proofs.View.{Terms, LawfulTerms, View, FewByzantine}
use Rattle.laws.proofs.Invariants.{Timing, Blocks, Progress, Invariants}

pub record Opened (k : Terms) (v : View) : Type 0 where
  -- the clock is at 0
  pub clock : v.clock ≡ 0
  -- honest seats are seats, and all others are few
  pub below : (i : ℕ) → T (v.honest i) → i < k.seats
  pub few : FewByzantine k v
  -- all are in round 1, entered at tick 0, and wait there
  pub rounds : (i : ℕ) → T (v.honest i) → v.round i ≡ 1
  pub entered_at : (i r : ℕ) → v.entered_at i r ≡ 0
  pub waiting : (i : ℕ) → T (v.honest i) → T (v.waiting i)
  -- nothing is signed, received or carried
  pub unsigned : (i b : ℕ) → T (v.signed i b) → ⊥
  pub none_received : (i b s : ℕ) → T (v.honest i) → T (v.received i b s) → ⊥
  pub none_carried : (b s : ℕ) → T (v.carried b s) → ⊥
  -- block 0 is made, and all hold it
  pub root_made : T (v.made 0)
  pub root_held : (i : ℕ) → T (v.honest i) → T (v.held i 0)
  -- of the others at most own blocks of round 1 are made: valid, and with block 0 as parent
  pub made_only : (b : ℕ) → T (v.made b)
      → (b ≡ 0) ⊎ ((k.round_of b ≡ 1) × (b ≡ k.own_block (k.owner_of b) 1) × T (v.valid b) × (v.parent b ≡ 0))
  -- what is held is made
  pub held_made : (i b : ℕ) → T (v.honest i) → T (v.held i b) → T (v.made b)
  -- each honest seat has made its own block of round 1
  pub proposed : (i : ℕ) → T (v.honest i) → T (v.made (k.own_block i 1))
  -- the final heads are block 0
  pub heads : (i : ℕ) → T (v.honest i) → v.head i ≡ 0

module _ (k : Terms) (L : LawfulTerms k) (v : View) (o : Opened k v) where
  none_left : (i r : ℕ) → T (v.honest i) → r < v.round i → 1 ≤ r → ⊥
  none_left i r h lt p = omega (arith, o.rounds i h)

  not_root : (b : ℕ) → 1 ≤ k.round_of b → b ≡ 0 → ⊥
  not_root b p e = omega (arith, ap k.round_of e, L.root_round)

  pub opened_timing : Timing k v
  opened_timing = record {
    received = λ j b s h t. absurd (o.none_received j b s h t);
    holding = λ j b h t.
        let made = o.held_made j b h t in
        record {
          made = made;
          parent = λ p. ⊎_elim (λ e. absurd (not_root b p e)) (λ x. subst (λ y. T (v.held j y)) (sym x.3) (o.root_held j h)) (o.made_only b made);
          carried = λ s c. absurd (o.none_carried b s c);
        };
    voted = λ i b h t. absurd (o.unsigned i b t);
    entered = λ i r h le. omega (arith, o.entered_at i r);
    past = λ i r h p lt. absurd (none_left i r h lt p);
    round_pos = λ i h. omega (arith, o.rounds i h);
    round_top = λ i h. omega (arith, o.rounds i h);
    votes_due = λ i b h t. absurd (o.unsigned i b t);
    certificates_due = λ i r h lt p. absurd (none_left i r h lt p);
    all_enter = λ i r h p le due j hj. omega (arith, o.rounds i h, o.rounds j hj);
    skew = λ i j r hi hj p li lj. omega (arith, o.entered_at i r, o.entered_at j r, L.delay_pos);
    no_late_vote = λ i j b hi hj t. absurd (o.unsigned j b t);
  }

  pub opened_blocks : Blocks k v
  opened_blocks = record {
    below = o.below;
    few = o.few;
    root_made = o.root_made;
    parent_made = λ b t p. ⊎_elim (λ e. absurd (not_root b p e)) (λ x. subst (λ y. T (v.made y)) (sym x.3) o.root_made) (o.made_only b t);
    parent_round = λ b t p. ⊎_elim (λ e. absurd (not_root b p e)) (λ x. omega (arith, ap k.round_of x.3, L.root_round, x.0)) (o.made_only b t);
    carried_quorum = λ b t p. ⊎_elim (λ e. absurd (not_root b (omega arith) e)) (λ x. absurd (omega (arith, x.0))) (o.made_only b t);
    carried_signed = λ b i t p c. absurd (o.none_carried b i c);
    honest_own = λ b t p h. ⊎_elim (λ e. absurd (not_root b p e))
        (λ x. (x.1 ∙ ap (k.own_block (k.owner_of b)) (sym x.0), x.2)) (o.made_only b t);
    proposed = λ i r h p le top. subst (λ x. T (v.made (k.own_block i x))) (one_round i r h p le) (o.proposed i h);
    blocks_due = λ i r h p le top due. absurd (omega (arith, o.clock, L.delay_pos));
    led = λ i j b hi hj p top t. absurd (o.unsigned j b t);
    head = λ i h. inl (o.heads i h);
  }
    where
      one_round : (i r : ℕ) → T (v.honest i) → 1 ≤ r → r ≤ v.round i → 1 ≡ r
      one_round i r h p le = omega (arith, o.rounds i h)

  pub opened_progress : Progress k v
  opened_progress = record {
    awake = λ i h n. absurd (n (o.waiting i h));
    final_led = λ i h r hi hh p top first over.
        absurd (⊎_elim (λ lt. omega (arith, o.rounds i hi)) (λ x. omega (arith, o.rounds i hi, x.0)) over);
    answered = λ i j b d hi hj t. absurd (o.unsigned i b t);
    answered_block = λ i j r d hi hj p top le due x. absurd (omega (arith, x.past, o.clock));
    stay = λ j h top. omega (arith, o.clock);
  }

  pub opened_invariants : Invariants k v
  opened_invariants = record { timing = opened_timing; blocks = opened_blocks; progress = opened_progress }
