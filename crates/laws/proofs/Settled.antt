-- Between calls: the tables are sound, and no honest seat has anything left to do.
use Rattle.std.proofs.Common.{◌≡◌, ℕ, Bool, true, false, cond, T, refl}
use Rattle.records.specs.Kind.{IdleFollows, Kind}
use Rattle.rules.specs.Setup.{Setup, honest}
use Rattle.rules.specs.Tables.{Tables}
use Rattle.rules.specs.Calls.{Outcome}
use Rattle.laws.proofs.Discipline.{Calm, Run}
use Rattle.laws.proofs.Discipline.Run.{start}
use Rattle.laws.proofs.BenchView.{Proper, terms_of, view}
use Rattle.laws.proofs.Sound.{Sound}

module _ {A : Type 0} (s : Setup) (K : Kind A) (P : Proper s) (idles : IdleFollows K) where
  -- what holds between the calls
  pub record Settled (t : Tables A) : Type 0 where
    pub sound : Sound s K P idles t
    pub calm : (j : ℕ) → T (honest s j) → Calm (terms_of s) (view s K t) j

  -- after a call
  pub record Settles (t u : Tables A) : Type 0 where
    pub settled : Settled u
    pub run : Run (terms_of s) (view s K t) (view s K u)

  -- nothing happens
  pub same : {t : Tables A} → Settled t → Settles t t
  same z = record { settled = z; run = start }

  -- a test of a call
  pub either : (Q : Outcome A → Type 0) (b : Bool) (x y : Outcome A) → (b ≡ true → Q x) → (b ≡ false → Q y) → Q (cond b x y)
  either Q true x y p q = p refl
  either Q false x y p q = q refl
