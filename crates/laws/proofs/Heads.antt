-- Of one view: its blocks are a lawful tree, and the head of an honest seat is a final head of it.
use Rattle.std.proofs.Common.{◌≡◌, ℕ, zero, suc, ◌<◌, ◌≤◌, T, ◌⊎◌, inl, inr, ⊎_elim, le_trans, arith}
use Rattle.rules.specs.Chains.{ancestor}
use Rattle.laws.proofs.Counts.{count_mono}
use Rattle.laws.proofs.Trees.{Tree, LawfulTree, Final, final_made}
use Rattle.laws.proofs.View.{Terms, LawfulTerms, View, IsNotarised}
use Rattle.laws.proofs.Invariants.{Timing, Headed, Blocks}
use Rattle.laws.proofs.Facts.{signer, notarised_valid, notarisation_real}

abbrev pub tree : Terms → View → Tree
tree k v = record {
  parent = v.parent;
  round_of = k.round_of;
  Made = λ b. T (v.made b);
  Notarised = λ b. IsNotarised k v b;
  Signed = λ b. (j : ℕ) × T (v.honest j) × T (v.signed j b);
}

module _ (k : Terms) (L : LawfulTerms k) (v : View) (timing : Timing k v) (blocks : Blocks k v) where
  pub parent_notarised : (b : ℕ) → T (v.made b) → 2 ≤ k.round_of b → IsNotarised k v (v.parent b)
  parent_notarised b t p = le_trans (blocks.carried_quorum b t p)
      (count_mono k.seats (v.carried b) (λ i. v.signed i (v.parent b)) (λ i c. blocks.carried_signed b i t (omega arith) c))

  -- the ancestors of a notarised block are notarised, block 0 apart
  pub ancestor_notarised : (x b : ℕ) → IsNotarised k v b → x < k.round_of b → IsNotarised k v (ancestor v.parent x b)
  ancestor_notarised zero b n lt = n
  ancestor_notarised (suc x) b n lt =
      let made = (notarised_valid k L v timing blocks.few b n).0 in
      ancestor_notarised x (v.parent b) (parent_notarised b made (omega arith)) (omega (arith, blocks.parent_round b made (omega arith)))

  pub lawful_tree : LawfulTree (tree k v)
  lawful_tree = record {
    parent_made = blocks.parent_made;
    parent_round = blocks.parent_round;
    parent_notarised = parent_notarised;
    notarised_made = λ b n. (notarised_valid k L v timing blocks.few b n).0;
    notarised_signed = λ b n p. let x = signer k L v timing blocks.few b n in (x.0, x.3, x.2);
    root = λ b t e. L.root b e;
    root_made = blocks.root_made;
    root_round = L.root_round;
  }

  -- a block that was set as a head is a final head; its tip is the block by which the seat left the basis
  pub headed_final : (i h : ℕ) → T (v.honest i) → Headed k v i h → Final (tree k v) h
  headed_final i h hi d =
      let x = timing.past i d.basis hi d.basis_pos d.entered in
      record {
        basis = d.basis;
        basis_pos = d.basis_pos;
        only = λ c q e. d.only q.0 c q.1 q.2 e;
        tip = v.left_by i d.basis;
        tip_notarised = notarisation_real k L v timing blocks.few i (v.left_by i d.basis) hi x.left_by_notarised;
        tip_round = x.left_by_round;
      }

  pub head_final : (i : ℕ) → T (v.honest i) → Final (tree k v) (v.head i) ⊎ (v.head i ≡ 0)
  head_final i hi = ⊎_elim inr (λ d. inl (headed_final i (v.head i) hi d)) (blocks.head i hi)

  pub head_made : (i : ℕ) → T (v.honest i) → T (v.made (v.head i))
  head_made i hi = final_made (tree k v) lawful_tree (v.head i) (head_final i hi)
