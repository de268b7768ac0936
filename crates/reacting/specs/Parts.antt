-- Proposing, leaving and reacting in parts: those that the code has, and those that its proofs go by.
use Rattle.std.specs.Prelude.{ℕ, ◌+◌, ◌-◌, cond, nat_le, nat_lt}
use Rattle.records.specs.Kind.{Kind}
use Rattle.rules.specs.declared.rows.Phase.{Phase}
use Rattle.rules.specs.declared.rows.Phase.TheVariants.{Waiting, Voting, Resting}
use Rattle.rules.specs.Setup.{Setup}
use Rattle.rules.specs.Tables.{Tables, seat_at, received_at}
use Rattle.rules.specs.Holding.{lowest_notarised}
use Rattle.rules.specs.ParentChoice.{parent_choice}
use Rattle.rules.specs.Seat.{propose, moves_on, vote, leave_by, react_in}

module _ {A : Type 0} (s : Setup) (K : Kind A) where
  -- seat i, which leaves round r + 1 by block c, has proposed for round r + 2, unless that is past the last
  abbrev pub proposed : Tables A → ℕ → ℕ → ℕ → Tables A
  proposed t i r c = cond (nat_le (r + 2) s.rounds) (propose s K t i (r + 2) (parent_choice s t i (r + 1) c)) t

  -- .. and has entered round r + 2
  abbrev pub moved_on : Tables A → ℕ → ℕ → ℕ → Tables A
  moved_on t i r c = moves_on s (proposed t i r c) i r c (received_at s t i c).signers

  -- seat i has reacted in round r + 1
  abbrev pub reacted_in : Tables A → ℕ → ℕ → Tables A
  reacted_in t i r =
      let u = vote s K t i (r + 1) in
      leave_by s K t i r (lowest_notarised s t i (r + 1)) (leave_by s K u i r (lowest_notarised s u i (r + 1)) u)

  -- seat i, in this phase, has reacted: only one that votes in one of the R rounds does
  abbrev pub reacted_as : Tables A → ℕ → Phase → Tables A
  reacted_as t i Waiting = t
  reacted_as t i Voting = cond (nat_le (seat_at t i).round s.rounds) (react_in s K t i ((seat_at t i).round - 1)) t
  reacted_as t i Resting = t

  abbrev pub reacted : Tables A → ℕ → Tables A
  reacted t i = reacted_as t i (seat_at t i).phase

  -- Seat i reacts, if it votes in one of the R rounds. The rules leave out this limit: on tables that fit, a seat past the
  -- last round holds no block of its round, so that its reaction changes nothing.
  unfoldable pub reacts : Tables A → ℕ → Tables A
  reacts t i = reacted t i

  -- The same for any number: one that is no seat of the bench does nothing.
  abbrev pub seat_reacts : Tables A → ℕ → Tables A
  seat_reacts t i = cond (nat_lt i s.n) (reacts t i) t
