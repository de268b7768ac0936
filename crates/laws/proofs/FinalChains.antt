-- Blocks on a final chain: by the number of steps up from the head, and by the rounds in between.
use Rattle.std.proofs.Common.{◌≡◌, ℕ, zero, suc, ◌≤◌, T, ltb, ap, subst, le_trans, arith, lt→ltb}
use Rattle.records.specs.Kind.{IdleFollows, Kind}
use Rattle.rules.specs.Counting.{count}
use Rattle.rules.specs.Chains.{ancestor}
use Rattle.rules.specs.Setup.{Setup, block_round, honest}
use Rattle.rules.specs.Tables.{Tables, block_at, seat_at, vote_at, has_signed}
use Rattle.laws.proofs.Chains.{On}
use Rattle.laws.proofs.Counts.{count_mono_below}
use Rattle.laws.proofs.View.{FinalAt, IsNotarised}
use Rattle.laws.proofs.Heads.{head_made}
use Rattle.laws.proofs.Tests.{both}
use Rattle.laws.proofs.BenchView.{Proper, terms_of, view}
use Rattle.laws.proofs.Numbering.{round_above}
use Rattle.laws.proofs.LawfulTerms.{lawful}
use Rattle.laws.proofs.Sound.{Sound, blocks_of, root_parent, timing_of}

module _ {A : Type 0} (s : Setup) (K : Kind A) (P : Proper s) (idles : IdleFollows K) (t : Tables A) (f : Sound s K P idles t) where
  abbrev parent : ℕ → ℕ
  parent x = (block_at t x).parent

  -- an ancestor lies on the chain
  ancestor_on : (d c b : ℕ) → T (block_at t c).made → ancestor parent d c ≡ b → On parent (block_round s) b c
  ancestor_on zero c b made e = record { back = 0; rounds = omega (arith, ap (block_round s) e); there = e }
  ancestor_on (suc d) zero b made e = ancestor_on d 0 b made (subst (λ (x : ℕ). ancestor parent d x ≡ b) (root_parent s K P idles t f) e)
  ancestor_on (suc d) (suc c) b made e =
      let m = blocks_of s K P idles t f in
      let pos = round_above s (suc c) (omega arith) in
      let y = ancestor_on d (parent (suc c)) b (m.parent_made (suc c) made pos) e in
      let z = m.parent_round (suc c) made pos in
      record { back = suc y.back; rounds = omega (arith, y.rounds, z); there = y.there }

  -- a final block, as the laws over views have it, and back
  pub final_on : (i b : ℕ) → T (honest s i) → (d : ℕ) × (ancestor parent d (seat_at t i).head ≡ b) → FinalAt (terms_of s) (view s K t) i b
  final_on i b h x = ancestor_on x.0 (seat_at t i).head b
      (head_made (terms_of s) (lawful s P) (view s K t) (timing_of s K P idles t f) (blocks_of s K P idles t f) i h) x.1

  pub final_in : (i b : ℕ) → FinalAt (terms_of s) (view s K t) i b → (d : ℕ) × (ancestor parent d (seat_at t i).head ≡ b)
  final_in i b x = (x.back, x.there)

  -- a block that a quorum has signed
  pub notarised_on : (b : ℕ) → s.quorum ≤ count s.n (λ i. has_signed (vote_at s t i b)) → IsNotarised (terms_of s) (view s K t) b
  notarised_on b n = le_trans n (count_mono_below s.n (λ i. has_signed (vote_at s t i b)) (λ i. (view s K t).signed i b)
      (λ i l q. both (ltb i s.n) (has_signed (vote_at s t i b)) (lt→ltb i s.n l) q))
