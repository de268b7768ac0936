-- Over every list of calls from settled tables the tables stay settled, and are reached by a run of steps.
use Rattle.std.proofs.Common.{◌≡◌, List, [], ◌∷◌, sym, ap, ◌∙◌, subst}
use Rattle.records.specs.Kind.{IdleFollows, Kind}
use Rattle.rules.specs.Setup.{Bench, Setup, setup_with}
use Rattle.rules.specs.Tables.{Tables, setup_at}
use Rattle.rules.specs.Runs.{Call, after, call, call_with}
use Rattle.rules.specs.Runs.Call.{block_call, certificate_call, offer_call, plant_call, sign_call, tick_call, vote_call}
use Rattle.laws.proofs.Runs.{run_then}
use Rattle.laws.proofs.BenchView.{Proper}
use Rattle.laws.proofs.Settled.{Settled, Settles, same}
use Rattle.laws.proofs.Ticking.{tick_settles}
use Rattle.laws.proofs.Delivering.{block_settles, certificate_settles, offer_settles, vote_settles}
use Rattle.laws.proofs.Planting.{plant_settles}
use Rattle.laws.proofs.SigningCalls.{sign_settles}
use Rattle.laws.proofs.OrderRows.{orders_stay}

module _ {A : Type 0} (s : Setup) (K : Kind A) (P : Proper s) (idles : IdleFollows K) where
  -- one call
  pub call_settles : (c : Call A) (t : Tables A) → Settled s K P idles t → Settles s K P idles t (call_with s K c t).tables
  call_settles tick_call t z = tick_settles s K P idles t z
  call_settles (offer_call i d) t z = offer_settles s K P idles i d t z
  call_settles (block_call j b) t z = block_settles s K P idles j b t z
  call_settles (vote_call i j b) t z = vote_settles s K P idles i j b t z
  call_settles (certificate_call i j r) t z = certificate_settles s K P idles i j r t z
  call_settles (plant_call i r e p x) t z = plant_settles s K P idles i r e p x t z
  call_settles (sign_call i b) t z = sign_settles s K P idles i b t z

  -- the setup of bench b is s before every call, since no call changes the order rows
  pub after_settles : (b : Bench) (cs : List (Call A)) (t : Tables A) → setup_at b t ≡ s → Settled s K P idles t
      → Settles s K P idles t (after b K cs t) × (setup_at b (after b K cs t) ≡ s)
  unfolding after
  after_settles b [] t e z = (same s K P idles z, e)
  after_settles b (c ∷ cs) t e z =
      let u = (call b K c t).tables in
      let a : Settles s K P idles t u = subst (λ (x : Setup). Settles s K P idles t (call_with x K c t).tables) (sym e) (call_settles c t z) in
      let f : setup_at b u ≡ s = ap (setup_with b) (orders_stay (setup_at b t) K c t) ∙ e in
      let r = after_settles b cs u f a.settled in
      (record { settled = r.0.settled; run = run_then a.run r.0.run }, r.1)
