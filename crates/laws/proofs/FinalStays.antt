-- Over a step: what is final stays final, and when the block of an honest first-ranked seat becomes final.
use Rattle.std.proofs.Common.{◌≡◌, ℕ, suc, ◌≤◌, T, ◌⊎◌, ap, inl, inr, ⊎_elim, arith}
use native.Mathlib.Decide.{ℕ_discrete}
use Rattle.laws.proofs.Counts.{holds}
use Rattle.laws.proofs.Chains.{On, on_trans}
use Rattle.laws.proofs.Trees.{Final, on_older}
use Rattle.laws.proofs.View.{Terms, LawfulTerms, View, FinalAt, PastWait}
use Rattle.laws.proofs.Discipline.{EndsWait, Step}
use Rattle.laws.proofs.Invariants.{Timing, Blocks}
use Rattle.laws.proofs.StepFacts.{moved}
use Rattle.laws.proofs.Facts.{signer}
use Rattle.laws.proofs.HeadsKept.{on_stays, headed_stays}
use Rattle.laws.proofs.Heads.{tree, lawful_tree, headed_final, head_final, head_made, parent_notarised}

-- the wait of a seat in a round was over before, or it ends now
pub past_wait_or : (k : Terms) (v w : View) → Step k v w → (i r : ℕ) → T (w.honest i) → PastWait k w i r
    → PastWait k v i r ⊎ (EndsWait k v w i × (r ≡ w.round i))
past_wait_or k v w s i r hi (inl lt) = ⊎_elim (λ q. inl (inl q)) (λ d. inl (inr (omega (arith, d.1), d.0.waited))) (moved k v w s i (suc r) hi lt)
past_wait_or k v w s i r hi (inr x) = ⊎_elim same (λ d. absurd (x.1 d.0.waiting)) (moved k v w s i r hi (omega (arith, x.0)))
  where
    same : r ≤ v.round i → PastWait k v i r ⊎ (EndsWait k v w i × (r ≡ w.round i))
    same q = ⊎_elim (λ t. inr (s.ends_wait i hi t x.1, x.0)) (λ n. inl (inr (omega (arith, x.0, s.round_le i), n))) (holds (v.waiting i))

module _ (k : Terms) (L : LawfulTerms k) (v w : View) (timing : Timing k v) (blocks : Blocks k v) (s : Step k v w)
    (timing' : Timing k w) (blocks' : Blocks k w) where
  -- the old head lies on the chain of the new one
  head_climbs : (i : ℕ) → T (w.honest i) → On w.parent k.round_of (v.head i) (w.head i)
  head_climbs i hi = go (ℕ_discrete (w.head i) (v.head i))
    where
      old : Final (tree k w) (v.head i) ⊎ (v.head i ≡ 0)
      old = ⊎_elim inr
          (λ h. inl (headed_final k L w timing' blocks' i (v.head i) hi (headed_stays k L v w timing blocks s timing' i (v.head i) hi h)))
          (blocks.head i (s.honest_was i hi))

      go : Dec (w.head i ≡ v.head i) → On w.parent k.round_of (v.head i) (w.head i)
      go (yes e) = record { back = 0; rounds = omega (arith, ap k.round_of e); there = e }
      go (no n) = on_older (tree k w) (lawful_tree k L w timing' blocks') (v.head i) (w.head i) old (head_final k L w timing' blocks' i hi)
          (s.heads i hi n).not_older

  pub final_stays : (i b : ℕ) → T (w.honest i) → FinalAt k v i b → FinalAt k w i b
  final_stays i b hi o = on_trans w.parent k.round_of b (v.head i) (w.head i)
      (on_stays k v w blocks s b (v.head i) (head_made k L v timing blocks i (s.honest_was i hi)) o) (head_climbs i hi)

  -- if honest seats have signed no other block of round r than x, then x is final where the wait in round r + 2 ends
  pub led_final : (x r : ℕ) → 1 ≤ r → ((j b : ℕ) → T (w.honest j) → T (w.signed j b) → k.round_of b ≡ r → b ≡ x)
      → (i : ℕ) → T (w.honest i) → EndsWait k v w i → suc (suc r) ≡ w.round i → FinalAt k w i x
  led_final x r p alone i hi d e = d.head_set (omega (arith, e)) x each
    where
      each : (c : ℕ) → T (w.held i c) → T (w.valid c) → suc (k.round_of c) ≡ w.round i → w.parent c ≡ x
      each c t ok q =
          let made = (timing'.holding i c hi t).made in
          let y = signer k L w timing' s.few (w.parent c) (parent_notarised k L w timing' blocks' c made (omega (arith, e))) in
          alone y.0 (w.parent c) y.3 y.2 (omega (arith, blocks'.parent_round c made (omega (arith, e)), e))
