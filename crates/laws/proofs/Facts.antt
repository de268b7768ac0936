-- Of one view with its timing in order: what a signature and a notarisation tell.
use Rattle.std.proofs.Common.{ℕ, suc, ◌+◌, ◌*◌, ◌<◌, ◌≤◌, T, le_trans, arith}
use Rattle.laws.proofs.Counts.{count_mono, meets}
use Rattle.laws.proofs.View.{Terms, LawfulTerms, View, NotarisedAt, IsNotarised, FewByzantine}
use Rattle.laws.proofs.Invariants.{Timing}

module _ (k : Terms) (L : LawfulTerms k) (v : View) (timing : Timing k v) (few : FewByzantine k v) where
  -- an honest seat has signed a notarised block
  pub signer : (b : ℕ) → IsNotarised k v b → (i : ℕ) × (i < k.seats) × T (v.signed i b) × T (v.honest i)
  signer b h = meets k.seats (λ i. v.signed i b) v.honest (omega (arith, L.some_honest))

  -- so it is made and valid
  pub notarised_valid : (b : ℕ) → IsNotarised k v b → T (v.made b) × T (v.valid b)
  notarised_valid b n =
      let x = signer b n in
      let y = timing.voted x.0 b x.3 x.2 in
      ((timing.holding x.0 b x.3 y.held).made, y.valid)

  -- a block of which a seat holds a notarisation is notarised
  pub notarisation_real : (i b : ℕ) → T (v.honest i) → NotarisedAt k v i b → IsNotarised k v b
  notarisation_real i b h n = le_trans n (count_mono k.seats (v.received i b) (λ j. v.signed j b) (λ j t. (timing.received i b j h t).0))

  -- and the seat holds that block
  pub notarisation_held : (i b : ℕ) → T (v.honest i) → NotarisedAt k v i b → T (v.held i b)
  notarisation_held i b h n =
      let x = meets k.seats (v.received i b) v.honest (omega (arith, L.some_honest)) in
      (timing.received i b x.0 h x.2).1

  -- a seat whose wait is over holds every block of the round before that an honest seat has signed
  pub seen : (i j b : ℕ) → T (v.honest i) → T (v.honest j) → T (v.signed j b) → 1 ≤ k.round_of b → k.round_of b < v.round i
      → v.entered_at i (suc (k.round_of b)) + 2 * k.delay ≤ v.clock → T (v.held i b)
  seen i j b hi hj t p le over = (timing.votes_due j b hj t (omega (arith, timing.no_late_vote i j b hi hj t le p)) i hi).0
