-- What a final head rests on lasts over a step, and a new head has it: every honestly signed block of the basis has the head
-- on its chain. When the head is set the seat has seen all these blocks, and no honest seat signs another one later.
use Rattle.std.proofs.Common.{◌≡◌, ℕ, zero, suc, ◌-◌, ◌≤◌, T, refl, ap, ◌∙◌, ⊎_elim, le_trans, arith}
use Rattle.rules.specs.Chains.{ancestor}
use Rattle.laws.proofs.Chains.{On}
use Rattle.laws.proofs.Counts.{holds}
use Rattle.laws.proofs.View.{Terms, LawfulTerms, View}
use Rattle.laws.proofs.Discipline.{Heads, Step}
use Rattle.laws.proofs.Invariants.{Timing, Headed, Blocks}
use Rattle.laws.proofs.Facts.{seen}

-- the chain of a made block stays as it is
module _ (k : Terms) (v w : View) (blocks : Blocks k v) (s : Step k v w) where
  ancestor_same : (x b : ℕ) → T (v.made b) → x ≤ k.round_of b → ancestor w.parent x b ≡ ancestor v.parent x b
  ancestor_same zero b t le = refl
  ancestor_same (suc x) b t le =
      ap (ancestor w.parent x) (s.parent_same b t)
      ∙ ancestor_same x (v.parent b) (blocks.parent_made b t (omega arith)) (omega (arith, blocks.parent_round b t (omega arith)))

  pub on_stays : (a c : ℕ) → T (v.made c) → On v.parent k.round_of a c → On w.parent k.round_of a c
  on_stays a c t o = record {
    back = o.back;
    rounds = o.rounds;
    there = ancestor_same o.back c t (omega (arith, o.rounds)) ∙ o.there;
  }

module _ (k : Terms) (L : LawfulTerms k) (v w : View) (timing : Timing k v) (blocks : Blocks k v) (s : Step k v w) (timing' : Timing k w) where
  pub headed_stays : (i h : ℕ) → T (w.honest i) → Headed k v i h → Headed k w i h
  headed_stays i h hi d = record {
    basis = d.basis;
    basis_pos = d.basis_pos;
    entered = le_trans d.entered (s.round_le i);
    over = omega (arith, e, d.over, s.clock_le);
    only = only;
  }
    where
      e : w.entered_at i (suc d.basis) ≡ v.entered_at i (suc d.basis)
      e = s.entered_at_same i (suc d.basis) hi d.entered

      only : (j c : ℕ) → T (w.honest j) → T (w.signed j c) → k.round_of c ≡ d.basis → On w.parent k.round_of h c
      only j c hj t q = ⊎_elim old new (holds (v.signed j c))
        where
          uj : T (v.honest j)
          uj = s.honest_was j hj

          old : T (v.signed j c) → On w.parent k.round_of h c
          old t = on_stays k v w blocks s h c (timing.holding j c uj (timing.voted j c uj t).held).made (d.only j c uj t q)

          new : (T (v.signed j c) → ⊥) → On w.parent k.round_of h c
          new no_t =
              let x = s.votes j c hj t no_t in
              let late = timing'.no_late_vote i j c hi hj t (omega (arith, q, d.entered, s.round_le i)) (omega (arith, q, d.basis_pos)) in
              absurd (omega (arith, x.tick, late, ap (λ y. w.entered_at i (suc y)) q, e, d.over))

  pub headed_new : (i : ℕ) → T (w.honest i) → Heads k v w i → Headed k w i (w.head i)
  headed_new i hi d = record {
    basis = w.round i - 1;
    basis_pos = omega (arith, d.second);
    entered = omega (arith, d.second);
    over = omega (arith, ap (w.entered_at i) r, d.over);
    only = λ j b hj t q. d.common b
        (seen k L w timing' s.few i j b hi hj t (omega (arith, d.second)) (omega (arith, d.second))
        (omega (arith, ap (w.entered_at i) (ap suc q ∙ r), d.over)))
        (timing'.voted j b hj t).valid (ap suc q ∙ r);
  }
    where
      r : suc (w.round i - 1) ≡ w.round i
      r = omega (arith, d.second)
