-- Over a whole run: the invariants hold, what is there stays, and no stay in a round was long.
use Rattle.std.proofs.Common.{◌≡◌, ℕ, suc, ◌+◌, ◌*◌, ◌<◌, ◌≤◌, T, ◌⊎◌, refl, ap, ◌∙◌, inl, inr, le_trans, arith}
use Rattle.laws.proofs.Counts.{count_mono}
use Rattle.laws.proofs.View.{Terms, LawfulTerms, View, NotarisedAt, FinalAt}
use Rattle.laws.proofs.Discipline.{Step, Run}
use Rattle.laws.proofs.Discipline.Run.{start, next}
use Rattle.laws.proofs.Invariants.{Invariants}
use Rattle.laws.proofs.StepFacts.{Enters, moved}
use Rattle.laws.proofs.TimingKept.{timing_kept}
use Rattle.laws.proofs.BlocksKept.{blocks_kept}
use Rattle.laws.proofs.FinalStays.{final_stays}
use Rattle.laws.proofs.ProgressKept.{progress_kept}
use Rattle.laws.proofs.Opened.{Opened, opened_invariants}

-- one run after another
pub run_then : {k : Terms} {u v w : View} → Run k u v → Run k v w → Run k u w
run_then r start = r
run_then r (next q s) = next (run_then r q) s

-- The invariants, over a step and over a run.
pub step_kept : (k : Terms) → LawfulTerms k → (v w : View) → Invariants k v → Step k v w → Invariants k w
step_kept k L v w x s =
    let timing' = timing_kept k L.delay_pos v w x.timing s in
    let blocks' = blocks_kept k L v w x.timing x.blocks s timing' in
    record { timing = timing'; blocks = blocks'; progress = progress_kept k L v w x.timing x.blocks x.progress s timing' blocks' }

pub invariants_kept : (k : Terms) → LawfulTerms k → (o : View) → Invariants k o → (v : View) → Run k o v → Invariants k v
invariants_kept k L o x v start = x
invariants_kept k L o x w (next {v = v} r s) = step_kept k L v w (invariants_kept k L o x v r) s

-- What is there stays.
pub run_made : {k : Terms} {v w : View} → Run k v w → (b : ℕ) → T (v.made b) → T (w.made b)
run_made start b t = t
run_made (next r s) b t = s.made_stays b (run_made r b t)

pub run_valid : {k : Terms} {v w : View} → Run k v w → (b : ℕ) → T (v.made b) → w.valid b ≡ v.valid b
run_valid start b t = refl
run_valid (next r s) b t = s.valid_same b (run_made r b t) ∙ run_valid r b t

pub run_parent : {k : Terms} {v w : View} → Run k v w → (b : ℕ) → T (v.made b) → w.parent b ≡ v.parent b
run_parent start b t = refl
run_parent (next r s) b t = s.parent_same b (run_made r b t) ∙ run_parent r b t

pub run_signed : {k : Terms} {v w : View} → Run k v w → (i b : ℕ) → T (v.signed i b) → T (w.signed i b)
run_signed start i b t = t
run_signed (next r s) i b t = s.signed_stays i b (run_signed r i b t)

pub run_held : {k : Terms} {v w : View} → Run k v w → (i b : ℕ) → T (v.held i b) → T (w.held i b)
run_held start i b t = t
run_held (next r s) i b t = s.held_stays i b (run_held r i b t)

pub run_received : {k : Terms} {v w : View} → Run k v w → (i b x : ℕ) → T (v.received i b x) → T (w.received i b x)
run_received start i b x t = t
run_received (next r s) i b x t = s.received_stays i b x (run_received r i b x t)

pub run_notarisation : (k : Terms) (v w : View) → Run k v w → (i b : ℕ) → NotarisedAt k v i b → NotarisedAt k w i b
run_notarisation k v w r i b n = le_trans n (count_mono k.seats (v.received i b) (w.received i b) (λ x t. run_received r i b x t))

pub run_final : (k : Terms) → LawfulTerms k → (v w : View) → Invariants k v → Run k v w → (i b : ℕ) → T (w.honest i) → FinalAt k v i b → FinalAt k w i b
run_final k L v w x start i b h f = f
run_final k L v w x (next {v = u} r s) i b h f =
    let y = invariants_kept k L v x u r in
    let z = step_kept k L u w y s in
    final_stays k L u w y.timing y.blocks s z.timing z.blocks i b h (run_final k L v u x r i b (s.honest_was i h) f)

-- a round that a seat has left had not lasted longer than (f + 6) Δ
pub past_stay : (k : Terms) → LawfulTerms k → (o v : View) → Opened k o → Run k o v → (i r : ℕ) → T (v.honest i) → 1 ≤ r → r < v.round i
    → v.entered_at i (suc r) ≤ v.entered_at i r + (k.byzantine + 6) * k.delay
past_stay k L o v x start i r h p l = absurd (omega (arith, x.rounds i h))
past_stay k L o w x (next {v = v} q s) i r h p l = go (past_stay k L o v x q i r) (moved k v w s i (suc r) h l)
  where
    y : Invariants k v
    y = invariants_kept k L o (opened_invariants k L o x) v q

    go : (T (v.honest i) → 1 ≤ r → r < v.round i → v.entered_at i (suc r) ≤ v.entered_at i r + (k.byzantine + 6) * k.delay)
        → (suc r ≤ v.round i) ⊎ Enters k v w i (suc r)
        → w.entered_at i (suc r) ≤ w.entered_at i r + (k.byzantine + 6) * k.delay
    go ih (inl le) = omega (arith, s.entered_at_same i (suc r) h le, s.entered_at_same i r h (omega arith), ih (s.honest_was i h) p le)
    go ih (inr z) =
        let e : r ≡ v.round i = omega (arith, z.1) in
        omega (
          arith,
          ap (λ (n : ℕ). w.entered_at i (suc n)) e,
          z.0.now,
          s.entered_at_same i r h (omega (arith, e)),
          ap (v.entered_at i) e,
          y.progress.stay i (s.honest_was i h) z.0.below,
        )
