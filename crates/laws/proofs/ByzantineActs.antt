-- A Byzantine seat acts: no honest seat has anything more to do.
use Rattle.std.proofs.Common.{ℕ, T, subst}
use Rattle.records.specs.Kind.{IdleFollows, Kind}
use Rattle.rules.specs.Setup.{Setup, honest}
use Rattle.rules.specs.Tables.{Tables}
use Rattle.laws.proofs.Moves.{still_calm}
use Rattle.laws.proofs.BenchView.{Proper, terms_of, view}
use Rattle.laws.proofs.Acting.{Acts, others_untouched}
use Rattle.laws.proofs.Settled.{Settled, Settles}

module _ {A : Type 0} (s : Setup) (K : Kind A) (P : Proper s) (idles : IdleFollows K) where
  -- a Byzantine seat acts
  pub outside : (i : ℕ) (t u : Tables A) → Settled s K P idles t → (T (honest s i) → ⊥) → Acts s K P idles i t u → Settles s K P idles t u
  outside i t u z bad g = record {
    run = g.run;
    settled = record {
      sound = g.sound;
      calm = λ j h. still_calm (terms_of s) (view s K t) (view s K u) j (others_untouched s K P idles i t u z.sound g j h
          (λ e. bad (subst (λ (y : ℕ). T (honest s y)) e h))) (z.calm j h);
    };
  }
