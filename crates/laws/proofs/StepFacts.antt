-- Of one step: a round is old or newly entered, the clock stands or ticks, and what lasts over it.
use Rattle.std.proofs.Common.{◌≡◌, ℕ, suc, ◌≤◌, T, ◌⊎◌, inl, inr, le_trans, arith}
use native.Mathlib.Decide.{dec_le}
use Rattle.laws.proofs.Counts.{count_mono}
use Rattle.laws.proofs.View.{Terms, View, NotarisedAt}
use Rattle.laws.proofs.Discipline.{Leaves, Ticks, Step}

-- seat i enters round r with this step
abbrev pub Enters : Terms → View → View → ℕ → ℕ → Type 0
Enters k v w i r = Leaves k v w i × (r ≡ suc (v.round i))

module _ (k : Terms) (v w : View) (s : Step k v w) where
  pub notarisation_stays : (i b : ℕ) → NotarisedAt k v i b → NotarisedAt k w i b
  notarisation_stays i b h = le_trans h (count_mono k.seats (v.received i b) (w.received i b) (s.received_stays i b))

  -- a round that a seat has entered it had entered before, or it enters it now
  pub moved : (i r : ℕ) → T (w.honest i) → r ≤ w.round i → (r ≤ v.round i) ⊎ Enters k v w i r
  moved i r h le = go (dec_le r (v.round i))
    where
      go : Dec (r ≤ v.round i) → (r ≤ v.round i) ⊎ Enters k v w i r
      go (yes p) = inl p
      go (no p) = let d = s.leaves i h (omega arith) in inr (d, omega (arith, d.one))

  -- the clock stands, or ticks
  pub tick_or : (w.clock ≡ v.clock) ⊎ Ticks k v w
  tick_or = go (dec_le w.clock v.clock)
    where
      go : Dec (w.clock ≤ v.clock) → (w.clock ≡ v.clock) ⊎ Ticks k v w
      go (yes p) = inl (omega (arith, s.clock_le))
      go (no p) = inr (s.ticks (omega arith))
