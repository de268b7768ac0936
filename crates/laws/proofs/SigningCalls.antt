-- Signing a block.
use Rattle.std.proofs.Common.{ℕ, Some, ◌+◌, ◌*◌, ◌^◌, ◌<◌, false, cond, T, ltb, length, set, sym, refl, subst, arith, ltb→lt, lt→ltb, length-set}
use Rattle.std.proofs.lemmas.List.{get_or-set_same}
use Rattle.records.specs.Kind.{IdleFollows, Kind}
use Rattle.rules.specs.declared.fault.BenchFault.TheVariants.{NoSuchBlock, NoSuchSeat, NothingNew, SeatIsHonest, TableLength}
use Rattle.rules.specs.declared.rows.VoteRow.{VoteRow}
use Rattle.rules.specs.Setup.{Setup, honest}
use Rattle.rules.specs.Tables.{Tables, block_at, fits, no_vote, vote_at, with_votes, has_signed}
use Rattle.rules.specs.Holding.{receives, takes_in}
use Rattle.rules.specs.Calls.{Outcome, done, refused, sign}
use Rattle.laws.proofs.Sets.{bit_other}
use Rattle.laws.proofs.Discipline.{Step}
use Rattle.laws.proofs.Discipline.Run.{next, start}
use Rattle.laws.proofs.Tests.{both, both_r, no_T, yes_T}
use Rattle.laws.proofs.BenchView.{Proper, terms_of, view}
use Rattle.laws.proofs.Numbering.{row_room}
use Rattle.laws.proofs.Signing.{signs}
use Rattle.laws.proofs.Sound.{Sound, made_room}
use Rattle.laws.proofs.Acting.{Acts, acts_then, sound_votes}
use Rattle.laws.proofs.Settled.{Settled, Settles, either, same}
use Rattle.laws.proofs.Delivering.{hold_receive}
use Rattle.laws.proofs.ByzantineActs.{outside}

module _ {A : Type 0} (s : Setup) (K : Kind A) (P : Proper s) (idles : IdleFollows K) where
  -- a Byzantine seat signs
  signs_settle : (t : Tables A) → Settled s K P idles t → (i b : ℕ) → i < s.n → (T (honest s i) → ⊥) → T (block_at t b).made → (T (has_signed (vote_at s t i b)) → ⊥)
      → Settles s K P idles t (receives s (takes_in s (with_votes t (set t.votes (b * s.n + i) (record { sent = Some t.clock })) t.received) i b) i b (2 ^ i))
  signs_settle t z i b li bad made fresh = outside s K P idles i t (receives s (takes_in s t1 i b) i b (2 ^ i)) z bad (acts_then s K P idles g1
      (hold_receive s K P idles i b (2 ^ i) t1 g1.sound li made (λ x q. subst (λ (y : ℕ). T ((view s K t1).signed y b)) (sym (bit_other i x q))
      (both (ltb i s.n) (has_signed (vote_at s t1 i b)) (lt→ltb i s.n li) (subst (λ a. T (has_signed a)) (sym (get_or-set_same t.votes (b * s.n + i) new no_vote len)) tt)))))
    where
      f : Sound s K P idles t
      f = z.sound

      new : VoteRow
      new = record { sent = Some t.clock }

      t1 : Tables A
      t1 = with_votes t (set t.votes (b * s.n + i) (record { sent = Some t.clock })) t.received

      len : b * s.n + i < length t.votes
      len = omega (arith, f.sized.votes, row_room s P b i (made_room s K P idles t f b made) li)

      st : Step (terms_of s) (view s K t) (view s K t1)
      st = signs s K P t i b li bad len fresh

      g1 : Acts s K P idles i t t1
      g1 = record {
        sound = sound_votes s K P idles t f t1.votes t.received (length-set t.votes (b * s.n + i) new) refl st;
        run = next start st;
        only = record { clock = refl; received = λ j c l n. refl; seats = λ j n. refl; certificates = λ j q l w n. refl };
      }

  -- the call
  pub sign_settles : (i b : ℕ) (t : Tables A) → Settled s K P idles t → Settles s K P idles t (sign s K i b t).tables
  unfolding sign
  sign_settles i b t z =
      let x5 = done (receives s (takes_in s (with_votes t (set t.votes (b * s.n + i) (record { sent = Some t.clock })) t.received) i b) i b (2 ^ i)) in
      let x4 = cond (has_signed (vote_at s t i b)) (refused NothingNew t) x5 in
      let x3 = cond (cond (ltb 0 b) (block_at t b).made false) x4 (refused NoSuchBlock t) in
      let x2 = cond (fits s t) x3 (refused TableLength t) in
      let x1 = cond (honest s i) (refused SeatIsHonest t) x2 in
      either s K P idles Q (ltb i s.n) x1 (refused NoSuchSeat t)
      (λ l. either s K P idles Q (honest s i) (refused SeatIsHonest t) x2 (λ h. same s K P idles z)
      (λ h. either s K P idles Q (fits s t) x3 (refused TableLength t)
      (λ e. either s K P idles Q (cond (ltb 0 b) (block_at t b).made false) x4 (refused NoSuchBlock t)
      (λ m. either s K P idles Q (has_signed (vote_at s t i b)) (refused NothingNew t) x5 (λ e. same s K P idles z)
      (λ v. signs_settle t z i b (ltb→lt i s.n (yes_T l)) (no_T h) (both_r (ltb 0 b) (block_at t b).made (yes_T m)) (no_T v)))
      (λ e. same s K P idles z)) (λ e. same s K P idles z))) (λ e. same s K P idles z)
    where
      Q : Outcome A → Type 0
      Q o = Settles s K P idles t o.tables
