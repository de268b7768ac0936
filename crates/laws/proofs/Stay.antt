-- A seat that has been in one of the rounds for (f + 6) Δ has something left to do.
-- Let e be the tick at which it entered. By e + Δ all honest seats have entered too, and by e + 3 Δ all their waits are over.
-- Some honest seat has a rank of at most f, so by then ours has voted for a block of a rank of at most f. Each honest vote draws
-- all honest seats, within Δ, to its block or to a lower rank. So by e + (f + 4) Δ all honest seats have signed one block,
-- and by e + (f + 5) Δ our seat has received these signatures: it holds a notarisation of its round.
-- All this while nobody has left the round: else our seat would have followed within Δ, by e + (f + 6) Δ.
use Rattle.std.proofs.Common.{◌≡◌, ℕ, zero, suc, ◌+◌, ◌*◌, ◌<◌, ◌≤◌, Bool, true, false, not, T, ◌⊎◌, sym, ap, ◌∙◌, subst, inl, inr, ⊎_elim, le_trans, le_refl, arith}
use native.Mathlib.Decide.{dec_le}
use Rattle.laws.proofs.Counts.{holds, count_mono_below, count_not, all_or_one, count_named}
use Rattle.laws.proofs.View.{Terms, LawfulTerms, View, NotarisedAt}
use Rattle.laws.proofs.Discipline.{Calm}
use Rattle.laws.proofs.Invariants.{Timing, Blocks, Answer, VotingAt, Progress}

-- some honest seat has a rank of at most f in the round: f + 1 seats cannot all be Byzantine
some_low_rank : (k : Terms) → LawfulTerms k → (v : View) → Blocks k v → (r : ℕ) → 1 ≤ r → r ≤ k.rounds
    → (i : ℕ) × T (v.honest i) × (k.rank_of (k.own_block i r) ≤ k.byzantine)
some_low_rank k L v blocks r p top = ⊎_elim all_byzantine
    (λ x. (k.seat_of_rank r x.0, x.2, omega (arith, (ranked x.0 x.1).1, x.1)))
    (all_or_one {A = λ x. T (not (v.honest (k.seat_of_rank r x)))} {B = λ x. T (v.honest (k.seat_of_rank r x))}
    (suc k.byzantine) (λ x l. either (v.honest (k.seat_of_rank r x))))
  where
    ranked : (x : ℕ) → x < suc k.byzantine → (k.seat_of_rank r x < k.seats) × (k.rank_of (k.own_block (k.seat_of_rank r x) r) ≡ x)
    ranked x l = L.ranked r x p top (omega (arith, L.honest_enough, L.some_honest))

    either : (b : Bool) → T (not b) ⊎ T b
    either true = inr tt
    either false = inl tt

    all_byzantine : ((x : ℕ) → x < suc k.byzantine → T (not (v.honest (k.seat_of_rank r x))))
        → (i : ℕ) × T (v.honest i) × (k.rank_of (k.own_block i r) ≤ k.byzantine)
    all_byzantine f =
        let many = count_named (suc k.byzantine) k.seats (λ i. not (v.honest i)) (k.seat_of_rank r) (λ x l. ((ranked x l).0, f x l))
        (λ x y lx ly e. sym (ranked x lx).1 ∙ ap (λ i. k.rank_of (k.own_block i r)) e ∙ (ranked y ly).1) in
        absurd (omega (arith, many, blocks.few))

module _ (k : Terms) (L : LawfulTerms k) (v : View) (timing : Timing k v) (blocks : Blocks k v) (progress : Progress k v)
    (j : ℕ) (hj : T (v.honest j)) (top : v.round j ≤ k.rounds) (long : v.entered_at j (v.round j) + (k.byzantine + 6) * k.delay ≤ v.clock) where
  -- the round of our seat, and the tick at which it entered it
  abbrev r : ℕ
  r = v.round j

  abbrev e : ℕ
  e = v.entered_at j (v.round j)

  -- all honest seats have entered the round, and they did so before e + Δ
  entered : (i : ℕ) → T (v.honest i) → r ≤ v.round i
  entered i hi = timing.all_enter j r hj (timing.round_pos j hj) (le_refl r) (omega arith) i hi

  near : (i : ℕ) → T (v.honest i) → v.entered_at i r < e + k.delay
  near i hi = timing.skew j i r hj hi (timing.round_pos j hj) (le_refl r) (entered i hi)

  -- who has left it did so after e + (f + 5) Δ: our seat would have followed within Δ
  remains : (i : ℕ) → T (v.honest i) → r < v.round i → e + (k.byzantine + 5) * k.delay < v.entered_at i (suc r)
  remains i hi lt = go (dec_le (v.entered_at i (suc r) + k.delay) v.clock)
    where
      go : Dec (v.entered_at i (suc r) + k.delay ≤ v.clock) → e + (k.byzantine + 5) * k.delay < v.entered_at i (suc r)
      go (yes due) = absurd (omega (arith, timing.all_enter i (suc r) hi (omega arith) lt due j hj))
      go (no n) = omega arith

  -- so between e + 3 Δ and e + (f + 5) Δ all honest seats vote in it
  voting : (i d : ℕ) → T (v.honest i) → e + 3 * k.delay ≤ d → d ≤ e + (k.byzantine + 5) * k.delay → VotingAt k v i r d
  voting i d hi from to = record {
    entered = entered i hi;
    over = omega (arith, near i hi);
    stays = λ lt. omega (arith, remains i hi lt);
    past = omega (arith, L.delay_pos);
  }

  -- by tick d seat i, if it is honest, has signed block b
  abbrev Signs : ℕ → ℕ → ℕ → Type 0
  Signs b d i = T (v.honest i) → T (v.signed i b) × (v.signed_at i b ≤ d)

  -- by tick d seat i, which is honest, has signed a block of the round of lower rank than b
  abbrev Lower : ℕ → ℕ → ℕ → Type 0
  Lower b d i = T (v.honest i) × ((c : ℕ) × T (v.signed i c) × (k.round_of c ≡ r) × (v.signed_at i c ≤ d) × (k.rank_of c < k.rank_of b))

  -- by tick d all honest seats have signed block b, which is of the round
  abbrev AllSign : ℕ → ℕ → Type 0
  AllSign b d = (k.round_of b ≡ r) × ((i : ℕ) → i < k.seats → Signs b d i)

  -- an honest vote for b draws each seat to b, or to a lower rank, within Δ
  drawn : (i b d : ℕ) → T (v.honest i) → T (v.signed i b) → k.round_of b ≡ r → v.signed_at i b ≤ d
      → e + 3 * k.delay ≤ d → d + k.delay ≤ e + (k.byzantine + 5) * k.delay
      → (x : ℕ) → x < k.seats → Signs b (d + k.delay) x ⊎ Lower b (d + k.delay) x
  drawn i b d hi t of_r by_d from to x lx = ⊎_elim honest_seat (λ n. inl (λ h. absurd (n h))) (holds (v.honest x))
    where
      honest_seat : T (v.honest x) → Signs b (d + k.delay) x ⊎ Lower b (d + k.delay) x
      honest_seat hx = sides a.4
        where
          a : Answer k v x b (d + k.delay)
          a = progress.answered i x b (d + k.delay) hi hx t (omega (arith, of_r)) (omega arith)
              (subst (λ y. VotingAt k v x y (d + k.delay)) (sym of_r) (voting x (d + k.delay) hx (omega arith) to))

          sides : (a.0 ≡ b) ⊎ (k.rank_of a.0 < k.rank_of b) → Signs b (d + k.delay) x ⊎ Lower b (d + k.delay) x
          sides (inl q) = inl (λ h. (subst (λ c. T (v.signed x c)) q a.1, subst (λ c. v.signed_at x c ≤ d + k.delay) q a.3))
          sides (inr q) = inr (hx, (a.0, a.1, a.2 ∙ of_r, a.3, q))

  -- from an honest vote of rank at most x: after x + 1 times Δ all honest seats have signed one block
  one_block : (x i b d : ℕ) → T (v.honest i) → T (v.signed i b) → k.round_of b ≡ r → v.signed_at i b ≤ d → k.rank_of b ≤ x
      → e + 3 * k.delay ≤ d → d + suc x * k.delay ≤ e + (k.byzantine + 5) * k.delay
      → (c : ℕ) × AllSign c (d + suc x * k.delay)
  one_block zero i b d hi t of_r by_d rank from to = ⊎_elim
      (λ a. (b, (of_r, λ y ly hy. let z = a y ly hy in (z.0, omega (arith, z.1)))))
      (λ y. absurd (omega (arith, y.2.1.4)))
      (all_or_one {A = Signs b (d + k.delay)} {B = Lower b (d + k.delay)} k.seats (drawn i b d hi t of_r by_d from (omega arith)))
  one_block (suc x) i b d hi t of_r by_d rank from to = ⊎_elim
      (λ a. (b, (of_r, λ y ly hy. let z = a y ly hy in (z.0, omega (arith, z.1)))))
      (λ y.
      let c = y.2.1 in
      let ih = one_block x y.0 c.0 (d + k.delay) y.2.0 c.1 c.2 c.3 (omega (arith, c.4)) (omega arith) (omega arith) in
      (ih.0, (ih.1.0, λ z lz hz. let q = ih.1.1 z lz hz in (q.0, omega (arith, q.1)))))
      (all_or_one {A = Signs b (d + k.delay)} {B = Lower b (d + k.delay)} k.seats (drawn i b d hi t of_r by_d from (omega arith)))

  pub not_calm : Calm k v j → ⊥
  not_calm calm = calm.voting (λ t. omega (arith, calm.waiting t)) top best.0 best.1.0 notarised
    where
      h : (i : ℕ) × T (v.honest i) × (k.rank_of (k.own_block i r) ≤ k.byzantine)
      h = some_low_rank k L v blocks r (timing.round_pos j hj) top

      b : ℕ
      b = k.own_block h.0 r

      first : Answer k v j b (e + 3 * k.delay)
      first = progress.answered_block h.0 j r (e + 3 * k.delay) h.1 hj (timing.round_pos j hj) top (entered h.0 h.1)
          (omega (arith, near h.0 h.1)) (voting j (e + 3 * k.delay) hj (le_refl (e + 3 * k.delay)) (omega arith))

      first_round : k.round_of first.0 ≡ r
      first_round = first.2 ∙ L.own_round h.0 r (blocks.below h.0 h.1) (timing.round_pos j hj)

      first_rank : (first.0 ≡ b) ⊎ (k.rank_of first.0 < k.rank_of b) → k.rank_of first.0 ≤ k.byzantine
      first_rank (inl q) = omega (arith, ap k.rank_of q, h.2)
      first_rank (inr q) = omega (arith, h.2)

      best : (c : ℕ) × AllSign c (e + 3 * k.delay + suc k.byzantine * k.delay)
      best = one_block k.byzantine j first.0 (e + 3 * k.delay) hj first.1 first_round first.3
          (first_rank first.4) (le_refl (e + 3 * k.delay)) (omega arith)

      notarised : NotarisedAt k v j best.0
      notarised = le_trans (omega (arith, count_not k.seats v.honest, blocks.few, L.honest_enough))
          (count_mono_below k.seats v.honest (v.received j best.0)
          (λ i li hi. let q = best.1.1 i li hi in (timing.votes_due i best.0 hi q.0 (omega (arith, q.1)) j hj).1))
