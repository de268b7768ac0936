-- What is seen of the tables of a bench, and what the laws ask of its setup.
use Rattle.std.proofs.Common.{ℕ, ◌+◌, ◌^◌, ◌<◌, ◌≤◌, false, cond, ltb}
use lib.Count.{ones}
use Rattle.orders.specs.Ranking.{Order, seat_of_rank}
use Rattle.records.specs.Kind.{Kind}
use Rattle.rules.specs.Sets.{bit}
use Rattle.rules.specs.Setup.{Setup, honest, block_round, block_owner, own_block}
use Rattle.rules.specs.Ranks.{rank_at, rank}
use Rattle.rules.specs.Tables.{Tables, is_waiting, block_at, seat_at, valid, received_at, vote_at, certificate_at, entered_at, has_signed, signing_tick}
use Rattle.laws.proofs.View.{Terms, View}

-- what an accepted opening gives; f is `ones s.marks`
pub record Proper (s : Setup) : Type 0 where
  pub seats : 1 ≤ s.n
  pub marks : s.marks < 2 ^ s.n
  pub delay : 1 ≤ s.delay
  pub rounds : 1 ≤ s.rounds
  pub editions : 1 ≤ s.editions
  pub some_honest : ones s.marks < s.quorum
  pub honest_enough : s.quorum + ones s.marks ≤ s.n
  pub orders : (r : ℕ) → 1 ≤ r → r ≤ s.rounds → Order s.n (rank_at s r)

-- the terms that the laws over views speak of
abbrev pub terms_of : Setup → Terms
terms_of s = record {
  seats = s.n;
  delay = s.delay;
  rounds = s.rounds;
  quorum = s.quorum;
  byzantine = ones s.marks;
  round_of = block_round s;
  rank_of = rank s;
  owner_of = block_owner s;
  own_block = own_block s;
  seat_of_rank = λ r m. seat_of_rank s.n (rank_at s r) m;
}

-- the tables, seen: each function of the view reads one row
abbrev pub view : {A : Type 0} → Setup → Kind A → Tables A → View
view s K t = record {
  clock = t.clock;
  honest = honest s;
  made = λ b. (block_at t b).made;
  valid = valid K t;
  parent = λ b. (block_at t b).parent;
  signed = λ i b. cond (ltb i s.n) (has_signed (vote_at s t i b)) false;
  signed_at = λ i b. signing_tick (vote_at s t i b);
  held = λ i b. (received_at s t i b).held;
  received = λ i b x. bit (received_at s t i b).signers x;
  carried = λ b x. bit (block_at t b).carried x;
  round = λ i. (seat_at t i).round;
  waiting = λ i. is_waiting (seat_at t i).phase;
  entered_at = entered_at s t;
  left_by = λ i r. (certificate_at s t i r).block;
  head = λ i. (seat_at t i).head;
}
