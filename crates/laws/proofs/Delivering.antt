-- Offers and deliveries: an honest seat takes something in, and reacts.
use Rattle.std.proofs.Common.{◌≡◌, ℕ, suc, ◌-◌, ◌^◌, ◌<◌, false, cond, T, ltb, leb, List, set, Some, sym, subst, arith, ltb→lt, length-set}
use native.Mathlib.Decide.{ℕ_discrete}
use Rattle.records.specs.Kind.{IdleFollows, Kind}
use Rattle.rules.specs.declared.fault.BenchFault.TheVariants.{NeverSent, NoSuchBlock, NoSuchSeat, NothingNew, SeatIsByzantine, TableLength}
use Rattle.rules.specs.declared.rows.ReceivedRow.{ReceivedRow}
use Rattle.rules.specs.Sets.{bit}
use Rattle.rules.specs.Setup.{Setup, honest}
use Rattle.rules.specs.Tables.{Tables, block_at, certificate_at, fits, received_at, seat_at, vote_at, with_drafts, with_received, has_signed}
use Rattle.rules.specs.Holding.{has_certificate, has_vote, receives, takes_in}
use Rattle.rules.specs.Seat.{react}
use Rattle.rules.specs.Overdue.{certificate_sent}
use Rattle.rules.specs.Calls.{Outcome, deliver_block, deliver_certificate, deliver_sent, deliver_vote, done, offer, refused}
use Rattle.laws.proofs.Sets.{bit_other}
use Rattle.laws.proofs.Discipline.{Calm}
use Rattle.laws.proofs.Discipline.Run.{start}
use Rattle.laws.proofs.Facts.{notarisation_held}
use Rattle.laws.proofs.Moves.{still_calm}
use Rattle.laws.proofs.Tests.{both, both_l, both_r, yes_T}
use Rattle.laws.proofs.BenchView.{Proper, terms_of, view}
use Rattle.laws.proofs.Seats.{few, honest_below}
use Rattle.laws.proofs.LawfulTerms.{lawful}
use Rattle.laws.proofs.Sound.{Sound, timing_of}
use Rattle.laws.proofs.Acting.{Acts, acts_then, others_untouched, receive_acts, sound_drafts, take_acts, taken}
use Rattle.laws.proofs.Reacting.{react_acts}
use Rattle.laws.proofs.Settled.{Settled, Settles, either, same}

module _ {A : Type 0} (s : Setup) (K : Kind A) (P : Proper s) (idles : IdleFollows K) where
  -- an honest seat has taken something in, and reacts
  reacts : (j : ℕ) (t : Tables A) (h : List ReceivedRow) → Settled s K P idles t → T (honest s j) → Acts s K P idles j t (with_received t h)
      → Settles s K P idles t (react s K (with_received t h) j)
  reacts j t h z hj g =
      let r = react_acts s K P idles (with_received t h) g.sound j hj (z.calm j hj).waiting in
      let all = acts_then s K P idles g r.0 in
      record { settled = record { sound = r.0.sound; calm = λ i hi. each i hi all r.1 (ℕ_discrete i j) }; run = all.run }
    where
      u : Tables A
      u = react s K (with_received t h) j

      each : (i : ℕ) → T (honest s i) → Acts s K P idles j t u → Calm (terms_of s) (view s K u) j → Dec (i ≡ j) → Calm (terms_of s) (view s K u) i
      each i hi all c (yes e) = subst (Calm (terms_of s) (view s K u)) (sym e) c
      each i hi all c (no e) = still_calm (terms_of s) (view s K t) (view s K u) i (others_untouched s K P idles j t u z.sound all i hi e) (z.calm i hi)

  -- an offer
  pub offer_settles : (i : ℕ) (d : A) (t : Tables A) → Settled s K P idles t → Settles s K P idles t (offer s K i d t).tables
  unfolding offer
  offer_settles i d t z =
      let x3 = done (with_drafts t (set t.drafts i (Some d))) in
      let x2 = cond (fits s t) x3 (refused TableLength t) in
      let x1 = cond (honest s i) x2 (refused SeatIsByzantine t) in
      either s K P idles Q (ltb i s.n) x1 (refused NoSuchSeat t)
      (λ e. either s K P idles Q (honest s i) x2 (refused SeatIsByzantine t)
      (λ e. either s K P idles Q (fits s t) x3 (refused TableLength t)
      (λ e. record {
        run = start;
        settled = record {
          sound = sound_drafts s K P idles t z.sound (set t.drafts i (Some d))
              (length-set t.drafts i (Some d));
          calm = λ j h. record { waiting = (z.calm j h).waiting; voting = (z.calm j h).voting; done = (z.calm j h).done };
        };
      })
      (λ e. same s K P idles z)) (λ e. same s K P idles z)) (λ e. same s K P idles z)
    where
      Q : Outcome A → Type 0
      Q o = Settles s K P idles t o.tables

  -- a block
  pub block_settles : (j b : ℕ) (t : Tables A) → Settled s K P idles t → Settles s K P idles t (deliver_block s K j b t).tables
  unfolding deliver_block
  block_settles j b t z =
      let x5 = done (react s K (takes_in s t j b) j) in
      let x4 = cond (received_at s t j b).held (refused NothingNew t) x5 in
      let x3 = cond (block_at t b).made x4 (refused NoSuchBlock t) in
      let x2 = cond (fits s t) x3 (refused TableLength t) in
      let x1 = cond (honest s j) x2 (refused SeatIsByzantine t) in
      either s K P idles Q (ltb j s.n) x1 (refused NoSuchSeat t)
      (λ l. either s K P idles Q (honest s j) x2 (refused SeatIsByzantine t)
      (λ h. either s K P idles Q (fits s t) x3 (refused TableLength t)
      (λ e. either s K P idles Q (block_at t b).made x4 (refused NoSuchBlock t)
      (λ m. either s K P idles Q (received_at s t j b).held (refused NothingNew t) x5 (λ e. same s K P idles z)
      (λ e. reacts j t (takes_in s t j b).received z (yes_T h) (take_acts s K P idles t z.sound j b (honest_below s j (yes_T h)) (yes_T m))))
      (λ e. same s K P idles z)) (λ e. same s K P idles z)) (λ e. same s K P idles z)) (λ e. same s K P idles z)
    where
      Q : Outcome A → Type 0
      Q o = Settles s K P idles t o.tables

  -- taking in a block and receiving signatures on it
  pub hold_receive : (j b m : ℕ) (t : Tables A) → Sound s K P idles t → j < s.n → T ((view s K t).made b) → ((x : ℕ) → T (bit m x) → T ((view s K t).signed x b))
      → Acts s K P idles j t (receives s (takes_in s t j b) j b m)
  hold_receive j b m t f l made signed_there =
      let a = take_acts s K P idles t f j b l made in
      acts_then s K P idles a (receive_acts s K P idles (takes_in s t j b) a.sound j b m l made (taken s K P idles t f j b l made).held signed_there)

  -- a vote
  pub vote_settles : (i j b : ℕ) (t : Tables A) → Settled s K P idles t → Settles s K P idles t (deliver_vote s K i j b t).tables
  unfolding deliver_vote
  vote_settles i j b t z =
      let x7 = done (react s K (receives s (takes_in s t j b) j b (2 ^ i)) j) in
      let x6 = cond (has_vote s t i b j) (refused NothingNew t) x7 in
      let x5 = cond (has_signed (vote_at s t i b)) x6 (refused NeverSent t) in
      let x4 = cond (block_at t b).made x5 (refused NoSuchBlock t) in
      let x3 = cond (fits s t) x4 (refused TableLength t) in
      let x2 = cond (honest s j) x3 (refused SeatIsByzantine t) in
      let x1 = cond (ltb j s.n) x2 (refused NoSuchSeat t) in
      either s K P idles Q (ltb i s.n) x1 (refused NoSuchSeat t)
      (λ li. either s K P idles Q (ltb j s.n) x2 (refused NoSuchSeat t)
      (λ lj. either s K P idles Q (honest s j) x3 (refused SeatIsByzantine t)
      (λ h. either s K P idles Q (fits s t) x4 (refused TableLength t)
      (λ e. either s K P idles Q (block_at t b).made x5 (refused NoSuchBlock t)
      (λ m. either s K P idles Q (has_signed (vote_at s t i b)) x6 (refused NeverSent t)
      (λ v. either s K P idles Q (has_vote s t i b j) (refused NothingNew t) x7 (λ e. same s K P idles z)
      (λ e. reacts j t (receives s (takes_in s t j b) j b (2 ^ i)).received z (yes_T h) (hold_receive j b (2 ^ i) t z.sound (honest_below s j (yes_T h)) (yes_T m)
      (λ x q. subst (λ (y : ℕ). T ((view s K t).signed y b)) (sym (bit_other i x q)) (both (ltb i s.n) (has_signed (vote_at s t i b)) (yes_T li) (yes_T v))))))
      (λ e. same s K P idles z)) (λ e. same s K P idles z)) (λ e. same s K P idles z)) (λ e. same s K P idles z)) (λ e. same s K P idles z)) (λ e. same s K P idles z)
    where
      Q : Outcome A → Type 0
      Q o = Settles s K P idles t o.tables

  -- a certificate that was sent
  sent_settles : (i j r : ℕ) (t : Tables A) → Settled s K P idles t → T (honest s j) → Settles s K P idles t (deliver_sent s K i j r t).tables
  sent_settles i j r t z h =
      let x2 = done (react s K (receives s (takes_in s t j c) j c m) j) in
      let x1 = cond (has_certificate s t c m j) (refused NothingNew t) x2 in
      either s K P idles Q (certificate_sent s t i r) x1 (refused NeverSent t)
      (λ e. either s K P idles Q (has_certificate s t c m j) (refused NothingNew t) x2 (λ e. same s K P idles z)
      (λ d.
      let hi = both_l (honest s i) (ltb (suc r) (seat_at t i).round) (yes_T e) in
      let lt = ltb→lt (suc r) (seat_at t i).round (both_r (honest s i) (ltb (suc r) (seat_at t i).round) (yes_T e)) in
      let g = timing_of s K P idles t z.sound in
      let held = notarisation_held (terms_of s) (lawful s P) (view s K t) g (few s P) i c hi (g.past i (suc r) hi (omega arith) lt).left_by_notarised in
      reacts j t (receives s (takes_in s t j c) j c m).received z h (hold_receive j c m t z.sound (honest_below s j h) (g.holding i c hi held).made
      (z.sound.sealed i r hi lt).signed)))
      (λ e. same s K P idles z)
    where
      c : ℕ
      c = (certificate_at s t i (suc r)).block

      m : ℕ
      m = (certificate_at s t i (suc r)).signers

      Q : Outcome A → Type 0
      Q o = Settles s K P idles t o.tables

  -- a certificate
  pub certificate_settles : (i j r : ℕ) (t : Tables A) → Settled s K P idles t → Settles s K P idles t (deliver_certificate s K i j r t).tables
  unfolding deliver_certificate
  certificate_settles i j r t z =
      let x5 = deliver_sent s K i j (r - 1) t in
      let x4 = cond (cond (ltb 0 r) (leb r s.rounds) false) x5 (refused NeverSent t) in
      let x3 = cond (fits s t) x4 (refused TableLength t) in
      let x2 = cond (honest s j) x3 (refused SeatIsByzantine t) in
      let x1 = cond (ltb j s.n) x2 (refused NoSuchSeat t) in
      either s K P idles Q (ltb i s.n) x1 (refused NoSuchSeat t)
      (λ li. either s K P idles Q (ltb j s.n) x2 (refused NoSuchSeat t)
      (λ lj. either s K P idles Q (honest s j) x3 (refused SeatIsByzantine t)
      (λ h. either s K P idles Q (fits s t) x4 (refused TableLength t)
      (λ e. either s K P idles Q (cond (ltb 0 r) (leb r s.rounds) false) x5 (refused NeverSent t)
      (λ e. sent_settles i j (r - 1) t z (yes_T h)) (λ e. same s K P idles z)) (λ e. same s K P idles z)) (λ e. same s K P idles z)) (λ e. same s K P idles z))
      (λ e. same s K P idles z)
    where
      Q : Outcome A → Type 0
      Q o = Settles s K P idles t o.tables
