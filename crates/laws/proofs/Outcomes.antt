-- The outcome of a call is a refusal, which changes nothing, or the one accepted outcome.
use Rattle.std.proofs.Common.{ℕ, suc, ◌+◌, ◌-◌, ◌*◌, ◌^◌, Bool, true, false, cond, eqb, ltb, leb, set, Some}
use lib.Count.{ones}
use Rattle.numbers.specs.Numbering.{number_of}
use Rattle.records.specs.Kind.{Kind}
use Rattle.rules.specs.declared.fault.BenchFault.{BenchFault}
use Rattle.rules.specs.declared.fault.BenchFault.TheVariants.{ClockStopped, EditionOutOfRange, MessageOverdue, NeverSent, NoSuchBlock, NoSuchSeat, NothingNew, RoundOutOfRange, SeatIsByzantine, SeatIsHonest, TableLength, WrongParent}
use Rattle.rules.specs.Loops.{upto}
use Rattle.rules.specs.Setup.{Setup, block_round, honest}
use Rattle.rules.specs.Tables.{Tables, block_at, certificate_at, fits, next_tick, received_at, vote_at, with_drafts, with_votes, has_signed}
use Rattle.rules.specs.Holding.{has_certificate, has_vote, receives, signers, takes_in}
use Rattle.rules.specs.Seat.{react, with_block}
use Rattle.rules.specs.Overdue.{certificate_sent, overdue}
use Rattle.rules.specs.Calls.{Outcome, deliver_block, deliver_certificate, deliver_sent, deliver_vote, done, end_due, offer, plant, refused, sign, tick}

test : {A : Type 0} (Q : Outcome A → Type 0) (b : Bool) (x y : Outcome A) → Q x → Q y → Q (cond b x y)
test Q true x y p q = p
test Q false x y p q = q

-- what holds of every refusal and of the accepted outcome holds of the call
module _ {A : Type 0} (s : Setup) (K : Kind A) (t : Tables A) (Q : Outcome A → Type 0) (no : (f : BenchFault) → Q (refused f t)) where
  pub tick_outcome : Q (done (upto (end_due s K) (next_tick t) s.n)) → Q (tick s K t)
  unfolding tick
  tick_outcome ok =
      let w = upto (end_due s K) (next_tick t) s.n in
      test Q (fits s t) (cond (overdue s t) (refused MessageOverdue t) (cond (ltb t.clock 8000000) (done w) (refused ClockStopped t))) (refused TableLength t)
      (test Q (overdue s t) (refused MessageOverdue t) (cond (ltb t.clock 8000000) (done w) (refused ClockStopped t)) (no MessageOverdue)
      (test Q (ltb t.clock 8000000) (done w) (refused ClockStopped t) ok (no ClockStopped)))
      (no TableLength)

  pub offer_outcome : (i : ℕ) (d : A) → Q (done (with_drafts t (set t.drafts i (Some d)))) → Q (offer s K i d t)
  unfolding offer
  offer_outcome i d ok =
      let w = with_drafts t (set t.drafts i (Some d)) in
      test Q (ltb i s.n) (cond (honest s i) (cond (fits s t) (done w) (refused TableLength t)) (refused SeatIsByzantine t)) (refused NoSuchSeat t)
      (test Q (honest s i) (cond (fits s t) (done w) (refused TableLength t)) (refused SeatIsByzantine t)
      (test Q (fits s t) (done w) (refused TableLength t) ok (no TableLength)) (no SeatIsByzantine))
      (no NoSuchSeat)

  pub block_outcome : (j b : ℕ) → Q (done (react s K (takes_in s t j b) j)) → Q (deliver_block s K j b t)
  unfolding deliver_block
  block_outcome j b ok =
      let w = react s K (takes_in s t j b) j in
      let x4 = cond (received_at s t j b).held (refused NothingNew t) (done w) in
      let x3 = cond (block_at t b).made x4 (refused NoSuchBlock t) in
      let x2 = cond (fits s t) x3 (refused TableLength t) in
      test Q (ltb j s.n) (cond (honest s j) x2 (refused SeatIsByzantine t)) (refused NoSuchSeat t)
      (test Q (honest s j) x2 (refused SeatIsByzantine t) (test Q (fits s t) x3 (refused TableLength t) (test Q (block_at t b).made x4 (refused NoSuchBlock t)
      (test Q (received_at s t j b).held (refused NothingNew t) (done w) (no NothingNew) ok) (no NoSuchBlock)) (no TableLength)) (no SeatIsByzantine))
      (no NoSuchSeat)

  pub vote_outcome : (i j b : ℕ) → Q (done (react s K (receives s (takes_in s t j b) j b (2 ^ i)) j)) → Q (deliver_vote s K i j b t)
  unfolding deliver_vote
  vote_outcome i j b ok =
      let w = react s K (receives s (takes_in s t j b) j b (2 ^ i)) j in
      let x6 = cond (has_vote s t i b j) (refused NothingNew t) (done w) in
      let x5 = cond (has_signed (vote_at s t i b)) x6 (refused NeverSent t) in
      let x4 = cond (block_at t b).made x5 (refused NoSuchBlock t) in
      let x3 = cond (fits s t) x4 (refused TableLength t) in
      let x2 = cond (honest s j) x3 (refused SeatIsByzantine t) in
      test Q (ltb i s.n) (cond (ltb j s.n) x2 (refused NoSuchSeat t)) (refused NoSuchSeat t)
      (test Q (ltb j s.n) x2 (refused NoSuchSeat t) (test Q (honest s j) x3 (refused SeatIsByzantine t)
      (test Q (fits s t) x4 (refused TableLength t) (test Q (block_at t b).made x5 (refused NoSuchBlock t)
      (test Q (has_signed (vote_at s t i b)) x6 (refused NeverSent t) (test Q (has_vote s t i b j) (refused NothingNew t) (done w) (no NothingNew) ok) (no NeverSent))
      (no NoSuchBlock)) (no TableLength)) (no SeatIsByzantine)) (no NoSuchSeat))
      (no NoSuchSeat)

  pub sent_outcome : (i j r : ℕ) → Q (done (react s K (receives s (takes_in s t j (certificate_at s t i (suc r)).block) j (certificate_at s t i (suc r)).block
      (certificate_at s t i (suc r)).signers) j)) → Q (deliver_sent s K i j r t)
  sent_outcome i j r ok =
      let c = (certificate_at s t i (suc r)).block in
      let m = (certificate_at s t i (suc r)).signers in
      let w = react s K (receives s (takes_in s t j c) j c m) j in
      let x1 = cond (has_certificate s t c m j) (refused NothingNew t) (done w) in
      test Q (certificate_sent s t i r) x1 (refused NeverSent t) (test Q (has_certificate s t c m j) (refused NothingNew t) (done w) (no NothingNew) ok) (no NeverSent)

  pub certificate_outcome : (i j r : ℕ) → Q (done (react s K (receives s (takes_in s t j (certificate_at s t i (suc (r - 1))).block) j
      (certificate_at s t i (suc (r - 1))).block (certificate_at s t i (suc (r - 1))).signers) j)) → Q (deliver_certificate s K i j r t)
  unfolding deliver_certificate
  certificate_outcome i j r ok =
      let x5 = deliver_sent s K i j (r - 1) t in
      let x4 = cond (cond (ltb 0 r) (leb r s.rounds) false) x5 (refused NeverSent t) in
      let x3 = cond (fits s t) x4 (refused TableLength t) in
      let x2 = cond (honest s j) x3 (refused SeatIsByzantine t) in
      test Q (ltb i s.n) (cond (ltb j s.n) x2 (refused NoSuchSeat t)) (refused NoSuchSeat t)
      (test Q (ltb j s.n) x2 (refused NoSuchSeat t) (test Q (honest s j) x3 (refused SeatIsByzantine t) (test Q (fits s t) x4 (refused TableLength t)
      (test Q (cond (ltb 0 r) (leb r s.rounds) false) x5 (refused NeverSent t) (sent_outcome i j (r - 1) ok) (no NeverSent)) (no TableLength))
      (no SeatIsByzantine)) (no NoSuchSeat))
      (no NoSuchSeat)

  pub plant_outcome : (i r e p : ℕ) (x : A) → Q (done (takes_in s (with_block t (number_of s.n s.editions r i e) p (signers s t p) x) i
      (number_of s.n s.editions r i e))) → Q (plant s K i r e p x t)
  unfolding plant
  plant_outcome i r e p x ok =
      let b = number_of s.n s.editions r i e in
      let stands = cond (eqb (suc (block_round s p)) r) (cond (eqb p 0) true (leb s.quorum (ones (signers s t p)))) false in
      let w = takes_in s (with_block t b p (signers s t p) x) i b in
      let x7 = cond stands (done w) (refused WrongParent t) in
      let x6 = cond (block_at t b).made (refused NothingNew t) x7 in
      let x5 = cond (block_at t p).made x6 (refused NoSuchBlock t) in
      let x4 = cond (fits s t) x5 (refused TableLength t) in
      let x3 = cond (ltb e s.editions) x4 (refused EditionOutOfRange t) in
      let x2 = cond (cond (ltb 0 r) (leb r s.rounds) false) x3 (refused RoundOutOfRange t) in
      test Q (ltb i s.n) (cond (honest s i) (refused SeatIsHonest t) x2) (refused NoSuchSeat t)
      (test Q (honest s i) (refused SeatIsHonest t) x2 (no SeatIsHonest) (test Q (cond (ltb 0 r) (leb r s.rounds) false) x3 (refused RoundOutOfRange t)
      (test Q (ltb e s.editions) x4 (refused EditionOutOfRange t) (test Q (fits s t) x5 (refused TableLength t)
      (test Q (block_at t p).made x6 (refused NoSuchBlock t) (test Q (block_at t b).made (refused NothingNew t) x7 (no NothingNew)
      (test Q stands (done w) (refused WrongParent t) ok (no WrongParent))) (no NoSuchBlock)) (no TableLength)) (no EditionOutOfRange))
      (no RoundOutOfRange)))
      (no NoSuchSeat)

  pub sign_outcome : (i b : ℕ) → Q (done (receives s (takes_in s (with_votes t (set t.votes (b * s.n + i) (record { sent = Some t.clock }))
      t.received) i b) i b (2 ^ i))) → Q (sign s K i b t)
  unfolding sign
  sign_outcome i b ok =
      let w = receives s (takes_in s (with_votes t (set t.votes (b * s.n + i) (record { sent = Some t.clock })) t.received) i b) i b (2 ^ i) in
      let x4 = cond (has_signed (vote_at s t i b)) (refused NothingNew t) (done w) in
      let x3 = cond (cond (ltb 0 b) (block_at t b).made false) x4 (refused NoSuchBlock t) in
      let x2 = cond (fits s t) x3 (refused TableLength t) in
      test Q (ltb i s.n) (cond (honest s i) (refused SeatIsHonest t) x2) (refused NoSuchSeat t)
      (test Q (honest s i) (refused SeatIsHonest t) x2 (no SeatIsHonest) (test Q (fits s t) x3 (refused TableLength t)
      (test Q (cond (ltb 0 b) (block_at t b).made false) x4 (refused NoSuchBlock t)
      (test Q (has_signed (vote_at s t i b)) (refused NothingNew t) (done w) (no NothingNew) ok) (no NoSuchBlock)) (no TableLength)))
      (no NoSuchSeat)
