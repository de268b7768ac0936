-- The refusals of each call, in the order of their numbers.
use Rattle.std.specs.Prelude.{ℕ, suc, ◌-◌, true, false, cond, Ok, Err, Result, ◌==◌, count_ones, nat_le, nat_lt}
use Rattle.numbers.specs.Numbering.{number_of}
use Rattle.roster.specs.Marks.{is_honest}
use Rattle.rules.specs.declared.fault.BenchFault.{BenchFault}
use Rattle.rules.specs.declared.fault.BenchFault.TheVariants.{NoSuchSeat, SeatIsByzantine, SeatIsHonest, RoundOutOfRange, EditionOutOfRange, TableLength, NoSuchBlock, NeverSent, NothingNew, WrongParent}
use Rattle.rules.specs.Setup.{Setup, honest, block_round}
use Rattle.rules.specs.Tables.{Tables, has_signed, block_at, received_at, vote_at, certificate_at, fits}
use Rattle.rules.specs.Holding.{has_vote, has_certificate, signers}
use Rattle.rules.specs.Overdue.{certificate_sent}

abbrev pub Answer : Type 0
Answer = Result (Unit {0}) BenchFault

-- one check, and then another
abbrev pub and_then : Answer → Answer → Answer
and_then (Ok u) q = q
and_then (Err f) q = Err f

abbrev pub seat_check : ℕ → ℕ → Answer
seat_check n i = cond (nat_lt i n) (Ok tt) (Err NoSuchSeat)

abbrev pub byzantine_check : ℕ → ℕ → ℕ → Answer
byzantine_check n marks i = and_then (seat_check n i) (cond (is_honest n marks i) (Err SeatIsHonest) (Ok tt))

abbrev pub place_check : ℕ → ℕ → ℕ → ℕ → Answer
place_check R E r e =
    cond (cond (nat_lt 0 r) (nat_le r R) false) (
    cond (nat_lt e E) (Ok tt)
    (Err EditionOutOfRange)) (Err RoundOutOfRange)

module _ {A : Type 0} (s : Setup) (t : Tables A) where
  abbrev pub tables_check : Answer
  tables_check = cond (fits s t) (Ok tt) (Err TableLength)

  abbrev pub honest_check : ℕ → Answer
  honest_check i = and_then (seat_check s.n i) (cond (honest s i) tables_check (Err SeatIsByzantine))

  -- block b to seat j
  abbrev pub block_check : ℕ → ℕ → Answer
  block_check j b = and_then (honest_check j) (
      cond (block_at t b).made (
      cond (received_at s t j b).held (Err NothingNew) (Ok tt))
      (Err NoSuchBlock))

  -- the vote of seat i for block b, to seat j
  abbrev pub vote_check : ℕ → ℕ → ℕ → Answer
  vote_check i j b = and_then (seat_check s.n i) (and_then (honest_check j) (
      cond (block_at t b).made (
      cond (has_signed (vote_at s t i b)) (
      cond (has_vote s t i b j) (Err NothingNew) (Ok tt))
      (Err NeverSent)) (Err NoSuchBlock)))

  -- the certificate of seat i for round r, to seat j
  abbrev pub certificate_check : ℕ → ℕ → ℕ → Answer
  certificate_check i j r = and_then (seat_check s.n i) (and_then (honest_check j) (
      cond (cond (nat_lt 0 r) (nat_le r s.rounds) false) (
      cond (certificate_sent s t i (r - 1)) (
      cond (has_certificate s t (certificate_at s t i (suc (r - 1))).block (certificate_at s t i (suc (r - 1))).signers j) (Err NothingNew) (Ok tt))
      (Err NeverSent)) (Err NeverSent)))

  -- p can be the parent of a block of round r
  abbrev pub parent_check : ℕ → ℕ → Answer
  parent_check r p =
      cond (cond (suc (block_round s p) == r) (cond (p == 0) true (nat_le s.quorum (count_ones (signers s t p)))) false) (Ok tt) (Err WrongParent)

  -- the block of seat i, round r and edition e on p
  abbrev pub plant_check : ℕ → ℕ → ℕ → ℕ → Answer
  plant_check i r e p = and_then (byzantine_check s.n s.marks i) (and_then (place_check s.rounds s.editions r e) (and_then tables_check (
      cond (block_at t p).made (
      cond (block_at t (number_of s.n s.editions r i e)).made (Err NothingNew) (parent_check r p))
      (Err NoSuchBlock))))

  -- the signature of seat i on block b
  abbrev pub sign_check : ℕ → ℕ → Answer
  sign_check i b = and_then (byzantine_check s.n s.marks i) (and_then tables_check (
      cond (cond (nat_lt 0 b) (block_at t b).made false) (
      cond (has_signed (vote_at s t i b)) (Err NothingNew) (Ok tt))
      (Err NoSuchBlock)))
