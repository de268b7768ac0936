-- One seat's round: it enters and proposes, waits, votes and leaves.
use Rattle.std.specs.Prelude.{ℕ, suc, ◌+◌, ◌-◌, ◌*◌, ◌^◌, true, if◌then◌else◌, Some, None, Option, nat_le, slice_set, unwrap_or}
use Rattle.records.specs.Kind.{Kind}
use Rattle.rules.specs.declared.rows.Phase.{Phase}
use Rattle.rules.specs.declared.rows.Phase.TheVariants.{Waiting, Voting, Resting}
use Rattle.rules.specs.declared.rows.VoteRow.{VoteRow}
use Rattle.rules.specs.Loops.{upto, first_from}
use Rattle.rules.specs.Setup.{Setup, own_block, round_start, round_width}
use Rattle.rules.specs.Tables.{Tables, record_at, draft_at, seat_at, received_at, vote_at, with_blocks, with_drafts, with_seats, with_votes}
use Rattle.rules.specs.Holding.{receive_row, takes_in, lowest_notarised}
use Rattle.rules.specs.ParentChoice.{parent_choice}
use Rattle.rules.specs.VotingChoice.{holds_valid, lowest_rank, voting_choice}
use Rattle.rules.specs.HeadChoice.{next_head}

-- a vote at this tick, if there is none yet
abbrev pub vote_row : ℕ → VoteRow → VoteRow
vote_row clock a = record { sent = Some (unwrap_or a.sent clock) }

-- the record of a proposal on a block with record p: the draft if there is one that follows, else the idle record
abbrev pub proposed_record : {A : Type 0} → Kind A → Option A → A → A
proposed_record K None p = K.idle p
proposed_record K (Some d) p = if K.follows d p then d else K.idle p

-- what is left of the draft: one that was used is cleared
abbrev pub draft_left : {A : Type 0} → Kind A → Option A → A → Option A
draft_left K None p = None
draft_left K (Some d) p = if K.follows d p then None else Some d

-- block b is made, on the parent p, with the signatures m on p and the record x
abbrev pub with_block : {A : Type 0} → Tables A → ℕ → ℕ → ℕ → A → Tables A
with_block t b p m x = with_blocks t (slice_set t.blocks b (record { made = true; parent = p; carried = m })) (slice_set t.records b x)

module _ {A : Type 0} (s : Setup) where
  -- seat i votes for block b, if it has not, and receives its own signature
  abbrev pub vote_for : ℕ → Tables A → ℕ → Tables A
  vote_for i t b = with_votes t
      (slice_set t.votes (b * s.n + i) (vote_row t.clock (vote_at s t i b)))
      (slice_set t.received (b * s.n + i) (receive_row (2 ^ i) (received_at s t i b)))

  -- seat i sends the certificate of round r + 1, for block c with the signatures m, and enters round r + 2
  abbrev pub moves_on : Tables A → ℕ → ℕ → ℕ → ℕ → Tables A
  moves_on t i r c m = record t {
    seats = slice_set t.seats i (record { round = suc (suc r); phase = Waiting; head = (seat_at t i).head });
    certificates = slice_set t.certificates (i * s.rounds + r) (record { block = c; signers = m; tick = t.clock });
  }

module _ {A : Type 0} (s : Setup) (K : Kind A) where
  -- seat i makes its block of round r on p, with the signatures on p that it has received, and holds it
  unfoldable pub propose : Tables A → ℕ → ℕ → ℕ → Tables A
  propose t i r p =
      let u = with_block t (own_block s i r) p (received_at s t i p).signers (proposed_record K (draft_at t i) (record_at K t p)) in
      with_drafts (takes_in s u i (own_block s i r)) (slice_set t.drafts i (draft_left K (draft_at t i) (record_at K t p)))

  -- Seat i votes for the blocks of round r that have the rank `low`.
  unfoldable pub vote_at_rank : Tables A → ℕ → ℕ → ℕ → Tables A
  vote_at_rank t i r low =
      upto (λ x u. if voting_choice s K u i low (round_start s r + x) then vote_for s i u (round_start s r + x) else u) t (round_width s)

  -- c is the first valid block that it holds, if it holds one
  abbrev pub vote_from : Tables A → ℕ → ℕ → Option ℕ → Tables A
  vote_from t i r None = t
  vote_from t i r (Some c) = vote_at_rank t i r (lowest_rank s K t i r c)

  -- all votes of one reaction
  unfoldable pub vote : Tables A → ℕ → ℕ → Tables A
  vote t i r = vote_from t i r (first_from (holds_valid s K t i) (round_start s r) (round_width s))

  -- Seat i leaves round r + 1 by block c, the lowest-numbered whose notarisation it holds. Unless round r + 2 is past the
  -- last it proposes.
  unfoldable pub leave : Tables A → ℕ → ℕ → ℕ → Tables A
  leave t i r c = moves_on s
      (if nat_le (suc (suc r)) s.rounds then propose t i (suc (suc r)) (parent_choice s t i (suc r) c) else t)
      i r c (received_at s t i c).signers

  -- .. if there is such a block, else the tables u
  abbrev pub leave_by : Tables A → ℕ → ℕ → Option ℕ → Tables A → Tables A
  leave_by t i r None u = u
  leave_by t i r (Some c) u = leave t i r c

  -- Seat i, voting in round r + 1, reacts: if it holds a notarisation of the round it leaves. Otherwise it votes, and leaves
  -- if it now holds one.
  unfoldable pub react_in : Tables A → ℕ → ℕ → Tables A
  react_in t i r =
      let u = vote t i (suc r) in
      leave_by t i r (lowest_notarised s t i (suc r)) (leave_by u i r (lowest_notarised s u i (suc r)) u)

  -- only a voting seat reacts
  abbrev pub react_as : Tables A → ℕ → Phase → Tables A
  react_as t i Waiting = t
  react_as t i Voting = react_in t i ((seat_at t i).round - 1)
  react_as t i Resting = t

  unfoldable pub react : Tables A → ℕ → Tables A
  react t i = react_as t i (seat_at t i).phase

  -- the wait of seat i is over: it looks for its final head, and then votes, or rests if it is past the last round
  abbrev pub wakes : Tables A → ℕ → Tables A
  wakes t i = with_seats t (slice_set t.seats i (record {
    round = (seat_at t i).round;
    phase = if nat_le (seat_at t i).round s.rounds then Voting else Resting;
    head = next_head s K t i;
  }))

  unfoldable pub end_wait : Tables A → ℕ → Tables A
  end_wait t i = react (wakes t i) i
