-- A reaction: the seat leaves, or votes and then leaves if it can; after it the seat is calm.
use Rattle.std.proofs.Common.{◌≡◌, ℕ, suc, ◌+◌, ◌-◌, ◌*◌, ◌<◌, ◌≤◌, T, get_or, Some, None, Option, sym, refl, ap, ◌∙◌, subst, arith}
use Rattle.records.specs.Kind.{IdleFollows, Kind}
use Rattle.rules.specs.declared.rows.Phase.{Phase}
use Rattle.rules.specs.declared.rows.Phase.TheVariants.{Resting, Voting, Waiting}
use Rattle.rules.specs.Setup.{Setup, honest}
use Rattle.rules.specs.Tables.{Tables, entered_at, is_waiting, no_seat, seat_at}
use Rattle.rules.specs.Holding.{lowest_notarised}
use Rattle.rules.specs.Seat.{leave_by, react, react_as, react_in, vote}
use Rattle.laws.proofs.Discipline.{Calm}
use Rattle.laws.proofs.BenchView.{Proper, terms_of, view}
use Rattle.laws.proofs.Sound.{PhaseFits, Sound, lowest_none, lowest_some, timing_of}
use Rattle.laws.proofs.Acting.{Acts, acts_none, acts_then}
use Rattle.laws.proofs.Leaving.{leave_acts}
use Rattle.laws.proofs.VotesOfReaction.{VotesAct, votes_act}

module _ {A : Type 0} (s : Setup) (K : Kind A) (P : Proper s) (idles : IdleFollows K) where
  -- a voting seat reacts
  reacts_in : (t : Tables A) → Sound s K P idles t → (i : ℕ) → T (honest s i) → (r : ℕ) → (seat_at t i).round ≡ suc r → suc r ≤ s.rounds → (T ((view s K t).waiting i) → ⊥)
      → Acts s K P idles i t (react_in s K t i r) × Calm (terms_of s) (view s K (react_in s K t i r)) i
  unfolding react_in
  reacts_in t f i h r at_r top awake = first (lowest_notarised s t i (suc r)) refl
    where
      u : Tables A
      u = vote s K t i (suc r)

      Both : Tables A → Type 0
      Both w = Acts s K P idles i t w × Calm (terms_of s) (view s K w) i

      second : VotesAct s K P idles i r t u → (x : Option ℕ) → lowest_notarised s u i (suc r) ≡ x → Both (leave_by s K u i r x u)
      second v x e = go x e
        where
          fu : Sound s K P idles u
          fu = v.acts.sound

          at_u : seat_at u i ≡ seat_at t i
          at_u = ap (λ z. get_or z i no_seat) v.seats

          round_u : (seat_at u i).round ≡ suc r
          round_u = ap (λ a. a.round) at_u ∙ at_r

          awake_u : T ((view s K u).waiting i) → ⊥
          awake_u q = awake (subst (λ a. T (is_waiting a.phase)) at_u q)

          go : (x : Option ℕ) → lowest_notarised s u i (suc r) ≡ x → Both (leave_by s K u i r x u)
          go None e = (
            v.acts,
            record {
              waiting = λ q. absurd (awake_u q);
              voting = λ q le c e' n. lowest_none s K P idles u fu i r h e c (e' ∙ round_u) n;
              done = λ q le c e' hc vc. v.done c (e' ∙ round_u) hc vc;
            },
          )
          go (Some c) e =
              let z = lowest_some s K P idles u fu i r c h e in
              let y = leave_acts s K P idles u fu i h r round_u top awake_u c z.0 z.1 in
              (acts_then s K P idles v.acts y.0, y.1)

      first : (x : Option ℕ) → lowest_notarised s t i (suc r) ≡ x → Both (leave_by s K t i r x (leave_by s K u i r (lowest_notarised s u i (suc r)) u))
      first None e = second (votes_act s K P idles t f i h r at_r top awake (λ c q n. lowest_none s K P idles t f i r h e c q n)) (lowest_notarised s u i (suc r)) refl
      first (Some c) e = let z = lowest_some s K P idles t f i r c h e in leave_acts s K P idles t f i h r at_r top awake c z.0 z.1

  -- a seat reacts, whatever its phase
  pub react_acts : (t : Tables A) → Sound s K P idles t → (i : ℕ) → T (honest s i)
      → (T ((view s K t).waiting i) → t.clock < entered_at s t i (seat_at t i).round + 2 * s.delay)
      → Acts s K P idles i t (react s K t i) × Calm (terms_of s) (view s K (react s K t i)) i
  unfolding react
  react_acts t f i h waits = go (seat_at t i).phase refl (f.phase i h)
    where
      go : (x : Phase) → (seat_at t i).phase ≡ x → PhaseFits s x (seat_at t i).round
          → Acts s K P idles i t (react_as s K t i x) × Calm (terms_of s) (view s K (react_as s K t i x)) i
      go Waiting e fit = (
        acts_none s K P idles f,
        record {
          waiting = waits;
          voting = λ q. absurd (q (subst (λ y. T (is_waiting y)) (sym e) tt));
          done = λ q. absurd (q (subst (λ y. T (is_waiting y)) (sym e) tt));
        },
      )
      go Voting e fit =
          let z : (seat_at t i).round ≡ suc ((seat_at t i).round - 1) = omega (arith, (timing_of s K P idles t f).round_pos i h) in
          reacts_in t f i h ((seat_at t i).round - 1) z (omega (arith, z, fit)) (λ q. subst (λ y. T (is_waiting y)) e q)
      go Resting e fit = (
        acts_none s K P idles f,
        record {
          waiting = waits;
          voting = λ q le. absurd (omega (arith, fit, le));
          done = λ q le. absurd (omega (arith, fit, le));
        },
      )
