-- Seats may turn Byzantine in a run. That a seat leads a round is then a law of the run: it holds if the seat was honest as long as
-- some honest seat had yet to leave that round.
use Rattle.std.proofs.Common.{◌≡◌, ℕ, suc, ◌<◌, ◌≤◌, T, ◌⊎◌, sym, ap, ◌∙◌, subst, ⊎_elim, arith}
use Rattle.laws.proofs.Counts.{holds}
use Rattle.laws.proofs.View.{Terms, LawfulTerms, View, FinalAt, PastWait}
use Rattle.laws.proofs.Discipline.{Step}
use Rattle.laws.proofs.Invariants.{Invariants}
use Rattle.laws.proofs.Facts.{signer}
use Rattle.laws.proofs.FinalStays.{past_wait_or, final_stays, led_final}
use Rattle.laws.proofs.Opened.{Opened, opened_invariants}
use Rattle.laws.proofs.Runs.{step_kept}
use Rattle.laws.proofs.ViewLaws.{LedBy}

-- seat h is honest, or all honest seats have left round r
abbrev pub LeadsOn : ℕ → ℕ → View → Type 0
LeadsOn h r v = T (v.honest h) ⊎ ((i : ℕ) → T (v.honest i) → r < v.round i)

-- A run in which that holds of every view.
pub data LedRun (k : Terms) (h r : ℕ) (o : View) : View → Type 0 where
  led_start : LeadsOn h r o → LedRun k h r o o
  led_next : {v w : View} → LedRun k h r o v → Step k v w → LeadsOn h r w → LedRun k h r o w

abbrev pub EveryLedRun : Type 0
EveryLedRun = (k : Terms) → LawfulTerms k → (h r : ℕ) → 1 ≤ r → r ≤ k.rounds → k.rank_of (k.own_block h r) ≡ 0
    → (o : View) → Opened k o → (w : View) → LedRun k h r o w → LedBy k h r w

-- What lasts over such a run.
record Leading (k : Terms) (h r : ℕ) (v : View) : Type 0 where
  -- honest seats have signed no block of the round but that of seat h
  signed : (j b : ℕ) → T (v.honest j) → T (v.signed j b) → k.round_of b ≡ r → b ≡ k.own_block h r
  final : (i : ℕ) → T (v.honest i) → r < k.rounds → PastWait k v i (suc (suc r)) → FinalAt k v i (k.own_block h r)

module _ (k : Terms) (L : LawfulTerms k) (h r : ℕ) (p : 1 ≤ r) (top : r ≤ k.rounds) (first : k.rank_of (k.own_block h r) ≡ 0) where
  leading : (v w : View) → Invariants k v → Step k v w → Invariants k w → Leading k h r v → LeadsOn h r w → Leading k h r w
  leading v w x s x' d leads = record { signed = signed; final = final }
    where
      signed : (j b : ℕ) → T (w.honest j) → T (w.signed j b) → k.round_of b ≡ r → b ≡ k.own_block h r
      signed j b hj t e = ⊎_elim
          (λ hh. x'.blocks.led h j b hh hj (omega arith) (omega arith) t (subst (λ y. k.rank_of (k.own_block h y) ≡ 0) (sym e) first)
          ∙ ap (k.own_block h) e)
          (λ gone. ⊎_elim (λ q. d.signed j b (s.honest_was j hj) q e)
          (λ n. let y = s.votes j b hj t n in absurd (omega (arith, y.this_round, y.here, gone j hj)))
          (holds (v.signed j b)))
          leads

      final : (i : ℕ) → T (w.honest i) → r < k.rounds → PastWait k w i (suc (suc r)) → FinalAt k w i (k.own_block h r)
      final i hi lt o = ⊎_elim
          (λ q. final_stays k L v w x.timing x.blocks s x'.timing x'.blocks i (k.own_block h r) hi (d.final i (s.honest_was i hi) lt q))
          (λ y. led_final k L v w x.timing x.blocks s x'.timing x'.blocks (k.own_block h r) r p signed i hi y.0 y.1)
          (past_wait_or k v w s i (suc (suc r)) hi o)

  led_kept : (o : View) → Opened k o → (w : View) → LedRun k h r o w → Invariants k w × Leading k h r w
  led_kept o x w (led_start leads) = (
    opened_invariants k L o x,
    record {
      signed = λ j b hj t. absurd (x.unsigned j b t);
      final = λ i hi lt over. absurd (⊎_elim (λ lt. omega (arith, x.rounds i hi)) (λ y. omega (arith, x.rounds i hi, y.0)) over);
    },
  )
  led_kept o x w (led_next {v = v} q s leads) =
      let a = led_kept o x v q in
      let b = step_kept k L v w a.0 s in
      (b, leading v w a.0 s b a.1 leads)

pub led_run_law : EveryLedRun
led_run_law k L h r p top first o x w q =
    let a = led_kept k L h r p top first o x w q in
    record {
      alone = λ b e n. let y = signer k L w a.0.timing a.0.blocks.few b n in a.1.signed y.0 b y.3 y.2 e;
      final = a.1.final;
    }
