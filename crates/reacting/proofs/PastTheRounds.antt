-- A reaction past the last round changes nothing, on tables that fit.
use Rattle.std.proofs.Common.{◌≡◌, count_ones, ℕ, zero, suc, ◌+◌, ◌-◌, ◌*◌, ◌<◌, ◌≤◌, Bool, true, false, cond, ltb, leb, Some, None, Option, length, sym, refl, ap, ◌∙◌, mul_assoc, arith}
use native.Mathlib.Nat.{mul-le-mul}
use Rattle.std.proofs.lemmas.Bool.{leb-false, lt-leb, le-leb}
use Rattle.records.specs.Kind.{Kind}
use Rattle.rules.specs.declared.rows.Phase.{Phase}
use Rattle.rules.specs.declared.rows.Phase.TheVariants.{Waiting, Voting, Resting}
use Rattle.rules.specs.declared.rows.ReceivedRow.{ReceivedRow}
use Rattle.rules.specs.Loops.{first_from}
use Rattle.rules.specs.Setup.{Setup, block_rows, round_start, round_width}
use Rattle.rules.specs.Tables.{Tables, seat_at, received_at, nothing_received, valid}
use Rattle.rules.specs.Holding.{holds_notarisation, lowest_notarised}
use Rattle.rules.specs.VotingChoice.{holds_valid}
use Rattle.rules.specs.Seat.{vote, vote_from, leave_by, react_in, react_as, react}
use Rattle.tables.proofs.PastTheEnd.{past_end}
use Rattle.reacting.specs.Parts.{reacted_as, reacts, seat_reacts}

first_none : (p : ℕ → Bool) (k m : ℕ) → ((x : ℕ) → k ≤ x → p x ≡ false) → first_from p k m ≡ None
unfolding first_from
first_none p k zero none = refl
first_none p k (suc m) none =
    ap (λ (b : Bool). cond b (Some k) (first_from p (suc k) m)) (none k (omega arith))
    ∙ first_none p (suc k) m (λ x h. none x (omega arith))

-- the blocks of a round past the last one lie past the table
past_rows : (n E R r : ℕ) → R ≤ r → 1 + R * n * E ≤ suc (r * (n * E))
past_rows n E R r le =
    let a : R * (n * E) ≤ r * (n * E) = mul-le-mul le (omega arith) in
    let e : R * n * E ≡ R * (n * E) = mul_assoc R n E in
    omega arith

module _ {A : Type 0} (s : Setup) (K : Kind A) (t : Tables A) (i : ℕ) where
  -- what lies past the table is blank
  blank : length t.received ≤ block_rows s * s.n → (b : ℕ) → block_rows s ≤ b → received_at s t i b ≡ nothing_received
  blank fit b past =
      let a : block_rows s * s.n ≤ b * s.n = mul-le-mul past (omega arith) in
      past_end t.received (b * s.n + i) nothing_received (omega arith)

  not_notarised : 1 ≤ s.quorum → (b : ℕ) → received_at s t i b ≡ nothing_received → holds_notarisation s t i b ≡ false
  unfolding lib.Count.ones
  not_notarised some b e =
      ap (λ (a : ReceivedRow). leb s.quorum (count_ones a.signers)) e ∙ lt-leb s.quorum 0 some

  not_held : (b : ℕ) → received_at s t i b ≡ nothing_received → holds_valid s K t i b ≡ false
  not_held b e = ap (λ (a : ReceivedRow). cond a.held (valid K t b) false) e

  -- a reaction in round r + 1, past the last one
  pub past_reaction : 1 ≤ s.quorum → length t.received ≤ block_rows s * s.n → (r : ℕ) → s.rounds ≤ r → react_in s K t i r ≡ t
  unfolding react_in vote
  past_reaction some fit r past =
      let far : block_rows s ≤ round_start s (suc r) = past_rows s.n s.editions s.rounds r past in
      let none : lowest_notarised s t i (suc r) ≡ None =
      first_none (holds_notarisation s t i) (round_start s (suc r)) (round_width s) (λ x h. not_notarised some x (blank fit x (omega arith))) in
      let unheld : first_from (holds_valid s K t i) (round_start s (suc r)) (round_width s) ≡ None =
      first_none (holds_valid s K t i) (round_start s (suc r)) (round_width s) (λ x h. not_held x (blank fit x (omega arith))) in
      let still : vote s K t i (suc r) ≡ t = ap (vote_from s K t i (suc r)) unheld in
      ap (λ (u : Tables A). leave_by s K t i r (lowest_notarised s t i (suc r)) (leave_by s K u i r (lowest_notarised s u i (suc r)) u)) still
      ∙ ap (λ (o : Option ℕ). leave_by s K t i r o (leave_by s K t i r o t)) none

  -- a number that is a seat of the bench
  pub of_seat : ltb i s.n ≡ true → seat_reacts s K t i ≡ reacts s K t i
  of_seat in_bench = ap (λ (b : Bool). cond b (reacts s K t i) t) in_bench

  -- a reaction of a seat that, if it votes, votes in one of the rounds
  pub in_rounds : ((seat_at t i).phase ≡ Voting → (seat_at t i).round ≤ s.rounds) → reacts s K t i ≡ react s K t i
  unfolding reacts react
  in_rounds within = go (seat_at t i).phase within
    where
      go : (x : Phase) → (x ≡ Voting → (seat_at t i).round ≤ s.rounds) → reacted_as s K t i x ≡ react_as s K t i x
      go Waiting f = refl
      go Voting f = ap (λ (b : Bool). cond b (react_in s K t i ((seat_at t i).round - 1)) t) (le-leb (seat_at t i).round s.rounds (f refl))
      go Resting f = refl

  -- a reaction on tables that fit
  pub on_fitting : 1 ≤ s.quorum → length t.received ≤ block_rows s * s.n → reacts s K t i ≡ react s K t i
  unfolding reacts react
  on_fitting some fit = go (seat_at t i).phase
    where
      by : (b : Bool) → leb (seat_at t i).round s.rounds ≡ b
          → cond b (react_in s K t i ((seat_at t i).round - 1)) t ≡ react_in s K t i ((seat_at t i).round - 1)
      by true e = refl
      by false e =
          let more : s.rounds < (seat_at t i).round = leb-false (seat_at t i).round s.rounds e in
          sym (past_reaction some fit ((seat_at t i).round - 1) (omega arith))

      go : (x : Phase) → reacted_as s K t i x ≡ react_as s K t i x
      go Waiting = refl
      go Voting = by (leb (seat_at t i).round s.rounds) refl
      go Resting = refl

  -- .. of a number that is a seat of the bench
  pub seat_on_fitting : ltb i s.n ≡ true → 1 ≤ s.quorum → length t.received ≤ block_rows s * s.n → seat_reacts s K t i ≡ react s K t i
  seat_on_fitting in_bench some fit = of_seat in_bench ∙ on_fitting some fit
