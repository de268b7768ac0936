-- A call that is refused leaves the tables as they were.
use Rattle.std.proofs.Common.{◌≡◌, Ok, Err, Result, refl, subst}
use Rattle.records.specs.Kind.{Kind}
use Rattle.rules.specs.declared.fault.BenchFault.{BenchFault}
use Rattle.rules.specs.Setup.{Setup}
use Rattle.rules.specs.Tables.{Tables}
use Rattle.rules.specs.Calls.{Outcome, refused}
use Rattle.rules.specs.Runs.{Call, call_with}
use Rattle.rules.specs.Runs.Call.{block_call, certificate_call, offer_call, plant_call, sign_call, tick_call, vote_call}
use Rattle.laws.proofs.Outcomes.{block_outcome, certificate_outcome, offer_outcome, plant_outcome, sign_outcome, tick_outcome, vote_outcome}

accepted_not_refused : {f : BenchFault} → ◌≡◌ {A = Result (Unit {0}) BenchFault} (Ok tt) (Err f) → ⊥
accepted_not_refused e = subst IsOk e tt
  where
    IsOk : Result (Unit {0}) BenchFault → Type 0
    IsOk (Ok u) = Unit {0}
    IsOk (Err g) = ⊥

module _ {A : Type 0} (s : Setup) (K : Kind A) where
  -- whatever the call
  pub refused_kept : (c : Call A) (t : Tables A) (f : BenchFault) → (call_with s K c t).answer ≡ Err f → (call_with s K c t).tables ≡ t
  refused_kept c t f = go c
    where
      Q : Outcome A → Type 0
      Q o = o.answer ≡ Err f → o.tables ≡ t

      no : (g : BenchFault) → Q (refused g t)
      no g e = refl

      go : (c : Call A) → Q (call_with s K c t)
      go tick_call = tick_outcome s K t Q no (λ e. absurd (accepted_not_refused e))
      go (offer_call i d) = offer_outcome s K t Q no i d (λ e. absurd (accepted_not_refused e))
      go (block_call j b) = block_outcome s K t Q no j b (λ e. absurd (accepted_not_refused e))
      go (vote_call i j b) = vote_outcome s K t Q no i j b (λ e. absurd (accepted_not_refused e))
      go (certificate_call i j r) = certificate_outcome s K t Q no i j r (λ e. absurd (accepted_not_refused e))
      go (plant_call i r e p x) = plant_outcome s K t Q no i r e p x (λ e. absurd (accepted_not_refused e))
      go (sign_call i b) = sign_outcome s K t Q no i b (λ e. absurd (accepted_not_refused e))
