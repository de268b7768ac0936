-- A call is its check, and then its work.
use Rattle.std.proofs.Common.{◌≡◌, ℕ, zero, suc, ◌+◌, ◌-◌, ◌*◌, ◌%◌, ◌^◌, ◌<◌, ◌≤◌, Bool, true, false, cond, eqb, ltb, leb, List, length, get_or, set, length-set, Some, Ok, Err, sym, refl, ap, ◌∙◌, arith}
use Rattle.std.proofs.Math.Pow.{shl_exact}
use Rattle.std.proofs.lemmas.Bool.Decides.{nat_tests}
use lib.Count.{ones}
use Rattle.numbers.specs.Numbering.{number_of}
use Rattle.records.specs.Kind.{Kind}
use Rattle.rules.specs.declared.fault.BenchFault.{BenchFault}
use Rattle.rules.specs.declared.fault.BenchFault.TheVariants.{NoSuchSeat, SeatIsByzantine, SeatIsHonest, RoundOutOfRange, EditionOutOfRange, TableLength, NoSuchBlock, NeverSent, NothingNew, WrongParent}
use Rattle.rules.specs.declared.rows.BlockRow.{BlockRow}
use Rattle.rules.specs.declared.rows.ReceivedRow.{ReceivedRow}
use Rattle.rules.specs.Setup.{Setup, honest, block_round, block_rows}
use Rattle.rules.specs.Tables.{Tables, has_signed, no_block, nothing_received, block_at, received_at, vote_at, certificate_at, fits}
use Rattle.rules.specs.Holding.{take_in, receive_row, hold_row, takes_in, receives, has_vote, has_certificate, signers}
use Rattle.rules.specs.Seat.{react}
use Rattle.rules.specs.Overdue.{certificate_sent}
use Rattle.rules.specs.Calls.{Outcome, done, refused, offer, deliver_block, deliver_vote, deliver_certificate, plant, sign}
use Rattle.writing.specs.Writes.{with_draft}
use Rattle.reacting.proofs.PastTheRounds.{seat_on_fitting}
use Rattle.checking.specs.Checks.{Answer, and_then, seat_check, honest_check, block_check, vote_check, certificate_check, plant_check, sign_check}
use Rattle.acting.specs.Effects.{block_taken, message_taken, planted, signed}

-- the outcome of a call with this answer
abbrev outcome_by : {A : Type 0} → Answer → Tables A → Tables A → Outcome A
outcome_by (Ok u) new old = done new
outcome_by (Err f) new old = refused f old

-- .. where the new tables are those of the rules if the answer accepts
same_if_ok : {A : Type 0} (q : Answer) (x y old : Tables A) → (q ≡ Ok tt → x ≡ y) → outcome_by q x old ≡ outcome_by q y old
same_if_ok (Ok u) x y old f = ap (λ (z : Tables _). done z) (f refl)
same_if_ok (Err e) x y old f = refl

first_ok : (p q : Answer) → and_then p q ≡ Ok tt → p ≡ Ok tt
first_ok (Ok u) q e = refl
first_ok (Err f) q e = e

second_ok : (p q : Answer) → and_then p q ≡ Ok tt → q ≡ Ok tt
second_ok (Ok u) q e = e
second_ok (Err f) q e = absurd (cc)

test_ok : (b : Bool) (p : Answer) (f : BenchFault) → cond b p (Err f) ≡ Ok tt → p ≡ Ok tt
test_ok true p f e = e
test_ok false p f e = absurd (cc)

test_passed : (b : Bool) (f : BenchFault) → ◌≡◌ {A = Answer} (cond b (Ok tt) (Err f)) (Ok tt) → b ≡ true
test_passed true f e = refl
test_passed false f e = absurd (cc)

-- taking blocks in leaves the rows as many
take_in_long : (n m : ℕ) (bs : List BlockRow) (h : List ReceivedRow) (j b : ℕ) → length (take_in n m bs h j b) ≡ length h
unfolding take_in
take_in_long n zero bs h j b = refl
take_in_long n (suc m) bs h j b =
    let p = (get_or bs b no_block).parent in
    let u = take_in n m bs h j p in
    let y = receive_row (get_or bs b no_block).carried (get_or u (p * n + j) nothing_received) in
    let x = set u (p * n + j) y in
    let z = hold_row (get_or x (b * n + j) nothing_received) in
    let l : length (set x (b * n + j) z) ≡ length h = length-set x (b * n + j) z ∙ length-set u (p * n + j) y ∙ take_in_long n m bs h j p in
    either_long (get_or h (b * n + j) nothing_received).held (set x (b * n + j) z) l
  where
    either_long : (q : Bool) (v : List ReceivedRow) → length v ≡ length h → length (cond q h v) ≡ length h
    either_long true v e = refl
    either_long false v e = e

-- the tests that every call on an honest seat begins with: there is such a seat, it is honest, the tables fit
abbrev tested : Bool → Bool → Bool → Answer
tested a h f = and_then (cond a (Ok tt) (Err NoSuchSeat)) (cond h (cond f (Ok tt) (Err TableLength)) (Err SeatIsByzantine))

-- an offer
offer_tests : {A : Type 0} (x t : Tables A) (a h f : Bool) → outcome_by (tested a h f) x t
    ≡ cond a (cond h (cond f (done x) (refused TableLength t)) (refused SeatIsByzantine t)) (refused NoSuchSeat t)
offer_tests x t false h f = refl
offer_tests x t true false f = refl
offer_tests x t true true false = refl
offer_tests x t true true true = refl

-- a block
block_tests : {A : Type 0} (x t : Tables A) (a h f m e : Bool) → outcome_by (and_then (tested a h f) (cond m (cond e (Err NothingNew) (Ok tt)) (Err NoSuchBlock))) x t
    ≡ cond a (cond h (cond f (cond m (cond e (refused NothingNew t) (done x)) (refused NoSuchBlock t)) (refused TableLength t)) (refused SeatIsByzantine t)) (refused NoSuchSeat t)
block_tests x t false h f m e = refl
block_tests x t true false f m e = refl
block_tests x t true true false m e = refl
block_tests x t true true true false e = refl
block_tests x t true true true true true = refl
block_tests x t true true true true false = refl

-- a vote
vote_tests : {A : Type 0} (x t : Tables A) (v a h f m q e : Bool) → outcome_by (and_then (cond v (Ok tt) (Err NoSuchSeat)) (and_then (tested a h f) (cond m (cond q (cond e (Err NothingNew) (Ok tt)) (Err NeverSent)) (Err NoSuchBlock)))) x t
    ≡ cond v (cond a (cond h (cond f (cond m (cond q (cond e (refused NothingNew t) (done x)) (refused NeverSent t)) (refused NoSuchBlock t)) (refused TableLength t)) (refused SeatIsByzantine t)) (refused NoSuchSeat t)) (refused NoSuchSeat t)
vote_tests x t false a h f m q e = refl
vote_tests x t true false h f m q e = refl
vote_tests x t true true false f m q e = refl
vote_tests x t true true true false m q e = refl
vote_tests x t true true true true false q e = refl
vote_tests x t true true true true true false e = refl
vote_tests x t true true true true true true true = refl
vote_tests x t true true true true true true false = refl

-- a certificate
certificate_tests : {A : Type 0} (x t : Tables A) (v a h f m q e : Bool) → outcome_by (and_then (cond v (Ok tt) (Err NoSuchSeat)) (and_then (tested a h f) (cond m (cond q (cond e (Err NothingNew) (Ok tt)) (Err NeverSent)) (Err NeverSent)))) x t
    ≡ cond v (cond a (cond h (cond f (cond m (cond q (cond e (refused NothingNew t) (done x)) (refused NeverSent t)) (refused NeverSent t)) (refused TableLength t)) (refused SeatIsByzantine t)) (refused NoSuchSeat t)) (refused NoSuchSeat t)
certificate_tests x t false a h f m q e = refl
certificate_tests x t true false h f m q e = refl
certificate_tests x t true true false f m q e = refl
certificate_tests x t true true true false m q e = refl
certificate_tests x t true true true true false q e = refl
certificate_tests x t true true true true true false e = refl
certificate_tests x t true true true true true true true = refl
certificate_tests x t true true true true true true false = refl

-- a Byzantine seat's block
plant_tests : {A : Type 0} (x t : Tables A) (a h r e f m q p : Bool) → outcome_by (and_then (and_then (cond a (Ok tt) (Err NoSuchSeat)) (cond h (Err SeatIsHonest) (Ok tt))) (and_then (cond r (cond e (Ok tt) (Err EditionOutOfRange)) (Err RoundOutOfRange)) (and_then (cond f (Ok tt) (Err TableLength)) (cond m (cond q (Err NothingNew) (cond p (Ok tt) (Err WrongParent))) (Err NoSuchBlock))))) x t
    ≡ cond a (cond h (refused SeatIsHonest t) (cond r (cond e (cond f (cond m (cond q (refused NothingNew t) (cond p (done x) (refused WrongParent t))) (refused NoSuchBlock t)) (refused TableLength t)) (refused EditionOutOfRange t)) (refused RoundOutOfRange t))) (refused NoSuchSeat t)
plant_tests x t false h r e f m q p = refl
plant_tests x t true true r e f m q p = refl
plant_tests x t true false false e f m q p = refl
plant_tests x t true false true false f m q p = refl
plant_tests x t true false true true false m q p = refl
plant_tests x t true false true true true false q p = refl
plant_tests x t true false true true true true true p = refl
plant_tests x t true false true true true true false false = refl
plant_tests x t true false true true true true false true = refl

-- a Byzantine seat's signature
sign_tests : {A : Type 0} (x t : Tables A) (a h f m q : Bool) → outcome_by (and_then (and_then (cond a (Ok tt) (Err NoSuchSeat)) (cond h (Err SeatIsHonest) (Ok tt))) (and_then (cond f (Ok tt) (Err TableLength)) (cond m (cond q (Err NothingNew) (Ok tt)) (Err NoSuchBlock)))) x t
    ≡ cond a (cond h (refused SeatIsHonest t) (cond f (cond m (cond q (refused NothingNew t) (done x)) (refused NoSuchBlock t)) (refused TableLength t))) (refused NoSuchSeat t)
sign_tests x t false h f m q = refl
sign_tests x t true true f m q = refl
sign_tests x t true false false m q = refl
sign_tests x t true false true false q = refl
sign_tests x t true false true true true = refl
sign_tests x t true false true true false = refl

module _ {A : Type 0} (s : Setup) (t : Tables A) where
  received_long : fits s t ≡ true → length t.received ≡ block_rows s * s.n
  unfolding fits
  received_long e = grind (arith, nat_tests)

  seat_if_ok : (j : ℕ) → honest_check s t j ≡ Ok tt → ltb j s.n ≡ true
  seat_if_ok j e = test_passed (ltb j s.n) NoSuchSeat (first_ok (seat_check s.n j) _ e)

  fits_if_ok : (j : ℕ) → honest_check s t j ≡ Ok tt → fits s t ≡ true
  fits_if_ok j e = test_passed (fits s t) TableLength (test_ok (honest s j) _ SeatIsByzantine (second_ok (seat_check s.n j) _ e))

module _ {A : Type 0} (s : Setup) (K : Kind A) (t : Tables A) (some : 1 ≤ s.quorum) (j b : ℕ) (ok : honest_check s t j ≡ Ok tt) where
  -- on tables that fit, the seat reacts as the rules say
  block_by_rules : block_taken s K t j b ≡ react s K (takes_in s t j b) j
  block_by_rules =
      let e = received_long s t (fits_if_ok s t j ok) in
      let l = take_in_long s.n (block_round s b) t.blocks t.received j b in
      seat_on_fitting s K (takes_in s t j b) j (seat_if_ok s t j ok) some (omega arith)

  message_by_rules : (m : ℕ) → message_taken s K t j b m ≡ react s K (receives s (takes_in s t j b) j b m) j
  message_by_rules m =
      let e = received_long s t (fits_if_ok s t j ok) in
      let l = take_in_long s.n (block_round s b) t.blocks t.received j b in
      let k = length-set (takes_in s t j b).received (b * s.n + j) (receive_row m (received_at s (takes_in s t j b) j b)) in
      seat_on_fitting s K (receives s (takes_in s t j b) j b m) j (seat_if_ok s t j ok) some (omega arith)

-- the signature of seat i alone, as a set
pub one_signer : (i : ℕ) → i < 16 → (1 * 2 ^ i) % 65536 ≡ 2 ^ i
one_signer i h = shl_exact {a = 1} 1 i 16 (omega arith) (omega arith) ∙ omega arith

module _ {A : Type 0} (s : Setup) (K : Kind A) (t : Tables A) where
  pub offer_by_check : (i : ℕ) (d : A) → offer s K i d t ≡ outcome_by (honest_check s t i) (with_draft t i (Some d)) t
  unfolding offer
  offer_by_check i d = sym (offer_tests (with_draft t i (Some d)) t (ltb i s.n) (honest s i) (fits s t))

  pub block_by_check : 1 ≤ s.quorum → (j b : ℕ) → deliver_block s K j b t ≡ outcome_by (block_check s t j b) (block_taken s K t j b) t
  unfolding deliver_block
  block_by_check some j b =
      let new = react s K (takes_in s t j b) j in
      sym (same_if_ok (block_check s t j b) (block_taken s K t j b) new t
      (λ ok. block_by_rules s K t some j b (first_ok (honest_check s t j) _ ok))
      ∙ block_tests new t (ltb j s.n) (honest s j) (fits s t) (block_at t b).made (received_at s t j b).held)

  pub vote_by_check : 1 ≤ s.quorum → (i j b : ℕ) → deliver_vote s K i j b t ≡ outcome_by (vote_check s t i j b) (message_taken s K t j b (2 ^ i)) t
  unfolding deliver_vote
  vote_by_check some i j b =
      let new = react s K (receives s (takes_in s t j b) j b (2 ^ i)) j in
      sym (same_if_ok (vote_check s t i j b) (message_taken s K t j b (2 ^ i)) new t
      (λ ok. message_by_rules s K t some j b (first_ok (honest_check s t j) _ (second_ok (seat_check s.n i) _ ok)) (2 ^ i))
      ∙ vote_tests new t (ltb i s.n) (ltb j s.n) (honest s j) (fits s t) (block_at t b).made (has_signed (vote_at s t i b)) (has_vote s t i b j))

  pub certificate_by_check : 1 ≤ s.quorum → (i j k : ℕ) → deliver_certificate s K i j k t
      ≡ outcome_by (certificate_check s t i j k) (message_taken s K t j (certificate_at s t i (suc (k - 1))).block (certificate_at s t i (suc (k - 1))).signers) t
  unfolding deliver_certificate
  certificate_by_check some i j k =
      let c = certificate_at s t i (suc (k - 1)) in
      let new = react s K (receives s (takes_in s t j c.block) j c.block c.signers) j in
      sym (same_if_ok (certificate_check s t i j k) (message_taken s K t j c.block c.signers) new t
      (λ ok. message_by_rules s K t some j c.block (first_ok (honest_check s t j) _ (second_ok (seat_check s.n i) _ ok)) c.signers)
      ∙ certificate_tests new t (ltb i s.n) (ltb j s.n) (honest s j) (fits s t) (cond (ltb 0 k) (leb k s.rounds) false)
      (certificate_sent s t i (k - 1)) (has_certificate s t c.block c.signers j))

  pub plant_by_check : (i k e p : ℕ) (x : A) → plant s K i k e p x t ≡ outcome_by (plant_check s t i k e p) (planted s t i (number_of s.n s.editions k i e) p x) t
  unfolding plant
  plant_by_check i k e p x =
      let b = number_of s.n s.editions k i e in
      sym (plant_tests (planted s t i b p x) t (ltb i s.n) (honest s i) (cond (ltb 0 k) (leb k s.rounds) false) (ltb e s.editions) (fits s t) (block_at t p).made (block_at t b).made
      (cond (eqb (suc (block_round s p)) k) (cond (eqb p 0) true (leb s.quorum (ones (signers s t p)))) false))

  pub sign_by_check : (i b : ℕ) → sign s K i b t ≡ outcome_by (sign_check s t i b) (signed s t i b) t
  unfolding sign
  sign_by_check i b =
      sym (sign_tests (signed s t i b) t (ltb i s.n) (honest s i) (fits s t) (cond (ltb 0 b) (block_at t b).made false) (has_signed (vote_at s t i b)))
