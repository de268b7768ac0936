-- The laws over every run of views from an opening: agreement, the round of an honest first-ranked seat, and no long stay.
use Rattle.std.proofs.Common.{◌≡◌, ℕ, suc, ◌+◌, ◌*◌, ◌<◌, ◌≤◌, T, sym, ap, ◌∙◌, subst, ⊎_elim, arith}
use Rattle.laws.proofs.Chains.{on_trans, on_one_round}
use Rattle.laws.proofs.Trees.{on_tip, agree}
use Rattle.laws.proofs.View.{Terms, LawfulTerms, View, IsNotarised, FinalAt, PastWait}
use Rattle.laws.proofs.Discipline.{Run}
use Rattle.laws.proofs.Invariants.{Timing, Blocks}
use Rattle.laws.proofs.Facts.{signer, notarised_valid}
use Rattle.laws.proofs.Heads.{tree, lawful_tree, head_final, ancestor_notarised}
use Rattle.laws.proofs.Opened.{Opened, opened_invariants}
use Rattle.laws.proofs.Runs.{run_then, invariants_kept, run_final, past_stay}

module _ (k : Terms) where
  pub record Agreed (v : View) : Type 0 where
    -- no two honest seats have different final blocks of one round
    pub one_per_round : (i j b c : ℕ) → T (v.honest i) → T (v.honest j) → FinalAt k v i b → FinalAt k v j c → k.round_of b ≡ k.round_of c → b ≡ c
    -- the record of a final block follows that of its parent
    pub follows : (i b : ℕ) → T (v.honest i) → FinalAt k v i b → 1 ≤ k.round_of b → T (v.valid b)

  -- Seat h, honest and first-ranked in round r, leads it.
  pub record LedBy (h r : ℕ) (v : View) : Type 0 where
    -- no block of the round but its own is notarised
    pub alone : (b : ℕ) → k.round_of b ≡ r → IsNotarised k v b → b ≡ k.own_block h r
    -- unless the round is the last, that block is final where the wait two rounds later is over
    pub final : (i : ℕ) → T (v.honest i) → r < k.rounds → PastWait k v i (suc (suc r)) → FinalAt k v i (k.own_block h r)

  abbrev pub Led : View → Type 0
  Led v = (h r : ℕ) → T (v.honest h) → 1 ≤ r → r ≤ k.rounds → k.rank_of (k.own_block h r) ≡ 0 → LedBy h r v

  -- no honest seat has been in its round for more than (f + 6) Δ
  abbrev pub ShortStays : View → Type 0
  ShortStays v = (i : ℕ) → T (v.honest i) → v.round i ≤ k.rounds → v.clock ≤ v.entered_at i (v.round i) + (k.byzantine + 6) * k.delay

  -- nor had it been in a round that it has left
  abbrev pub PastStays : View → Type 0
  PastStays v = (i r : ℕ) → T (v.honest i) → 1 ≤ r → r < v.round i → v.entered_at i (suc r) ≤ v.entered_at i r + (k.byzantine + 6) * k.delay

  -- what was final at an honest seat is final there still
  abbrev pub KeepsFinal : View → View → Type 0
  KeepsFinal v w = (i b : ℕ) → T (w.honest i) → FinalAt k v i b → FinalAt k w i b

  -- The laws of a view w that was reached through v.
  pub record ViewLaws (v w : View) : Type 0 where
    pub agreed : Agreed w
    pub led : Led w
    pub short_stays : ShortStays w
    pub past_stays : PastStays w
    pub keeps_final : KeepsFinal v w

abbrev pub EveryViewRun : Type 0
EveryViewRun = (k : Terms) → LawfulTerms k → (o : View) → Opened k o → (v w : View) → Run k o v → Run k v w → ViewLaws k v w

-- Of one view.
module _ (k : Terms) (L : LawfulTerms k) (v : View) (timing : Timing k v) (blocks : Blocks k v) where
  one_per_round : (i j b c : ℕ) → T (v.honest i) → T (v.honest j) → FinalAt k v i b → FinalAt k v j c → k.round_of b ≡ k.round_of c → b ≡ c
  one_per_round i j b c hi hj p q e = ⊎_elim
      (λ o. on_one_round v.parent k.round_of b c (v.head j) (on_trans v.parent k.round_of b (v.head i) (v.head j) p o) q e)
      (λ o. on_one_round v.parent k.round_of b c (v.head i) p (on_trans v.parent k.round_of c (v.head j) (v.head i) q o) e)
      (agree (tree k v) (lawful_tree k L v timing blocks) (v.head i) (v.head j) (head_final k L v timing blocks i hi) (head_final k L v timing blocks j hj))

  -- a final block lies below a notarised one, so it is notarised
  follows : (i b : ℕ) → T (v.honest i) → FinalAt k v i b → 1 ≤ k.round_of b → T (v.valid b)
  follows i b hi o p = ⊎_elim
      (λ f.
      let x = on_trans v.parent k.round_of b (v.head i) f.tip o (on_tip (tree k v) (lawful_tree k L v timing blocks) (v.head i) f) in
      let n = ancestor_notarised k L v timing blocks x.back f.tip f.tip_notarised (omega (arith, x.rounds)) in
      (notarised_valid k L v timing blocks.few b (subst (IsNotarised k v) x.there n)).1)
      (λ e. absurd (omega (arith, ap k.round_of e, L.root_round, o.rounds)))
      (head_final k L v timing blocks i hi)

  -- an honest seat has signed a notarised block, and honest seats sign that of the first-ranked seat alone
  alone : (h r : ℕ) → T (v.honest h) → 1 ≤ r → r ≤ k.rounds → k.rank_of (k.own_block h r) ≡ 0
      → (b : ℕ) → k.round_of b ≡ r → IsNotarised k v b → b ≡ k.own_block h r
  alone h r hh p top first b e n =
      let x = signer k L v timing blocks.few b n in
      blocks.led h x.0 b hh x.3 (omega (arith, e)) (omega (arith, e)) x.2 (subst (λ y. k.rank_of (k.own_block h y) ≡ 0) (sym e) first)
      ∙ ap (k.own_block h) e

pub every_view_run : EveryViewRun
every_view_run k L o opened v w r q =
    let x = invariants_kept k L o (opened_invariants k L o opened) v r in
    let y = invariants_kept k L v x w q in
    record {
      agreed = record { one_per_round = one_per_round k L w y.timing y.blocks; follows = follows k L w y.timing y.blocks };
      led = λ h r hh p top first. record {
        alone = alone k L w y.timing y.blocks h r hh p top first;
        final = λ i hi lt. y.progress.final_led i h r hi hh p lt first;
      };
      short_stays = y.progress.stay;
      past_stays = past_stay k L o w opened (run_then r q);
      keeps_final = run_final k L v w x q;
    }
