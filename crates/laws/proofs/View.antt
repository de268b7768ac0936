-- What can be seen of a bench: its terms, which stay, and its state at one moment, as functions of seats, rounds and blocks.
-- A view names no table and no row. The laws are proved of views; the tables give theirs through one definition.
use Rattle.std.proofs.Common.{◌≡◌, ℕ, ◌+◌, ◌<◌, ◌≤◌, Bool, not, T, ◌⊎◌}
use Rattle.rules.specs.Counting.{count}
use Rattle.laws.proofs.Chains.{On}

-- What stays from the opening on.
pub record Terms : Type 0 where
  pub seats : ℕ  -- n
  pub delay : ℕ  -- Δ: so many ticks after it was sent an honest message has reached every honest seat
  pub rounds : ℕ  -- R, the last round
  pub quorum : ℕ  -- so many signatures on a block notarise it
  pub byzantine : ℕ  -- f: no more seats than these are Byzantine
  pub round_of : ℕ → ℕ  -- the round of a block
  pub rank_of : ℕ → ℕ  -- the rank that the owner of a block has in the round of that block
  pub owner_of : ℕ → ℕ  -- the owner of a block
  pub own_block : ℕ → ℕ → ℕ  -- seat, round: the one block that the seat proposes in the round as long as it is honest
  pub seat_of_rank : ℕ → ℕ → ℕ  -- round, rank: the seat that has the rank in the round

-- What the numbering of the blocks, the order of the seats and the opening give.
pub record LawfulTerms (k : Terms) : Type 0 where
  -- a message takes a tick at least
  pub delay_pos : 1 ≤ k.delay
  -- a quorum has an honest seat
  pub some_honest : k.byzantine < k.quorum
  -- the honest seats are a quorum
  pub honest_enough : k.quorum + k.byzantine ≤ k.seats
  -- the own block of a seat is of that round and of that seat
  pub own_round : (i r : ℕ) → i < k.seats → 1 ≤ r → k.round_of (k.own_block i r) ≡ r
  pub own_owner : (i r : ℕ) → i < k.seats → 1 ≤ r → k.owner_of (k.own_block i r) ≡ i
  -- block 0 is the one block of round 0
  pub root : (b : ℕ) → k.round_of b ≡ 0 → b ≡ 0
  pub root_round : k.round_of 0 ≡ 0
  -- blocks of one round and one rank have one owner
  pub rank_owner : (b c : ℕ) → k.round_of b ≡ k.round_of c → k.rank_of b ≡ k.rank_of c → 1 ≤ k.round_of b → k.round_of b ≤ k.rounds
      → k.owner_of b ≡ k.owner_of c
  -- each rank below n is that of a seat
  pub ranked : (r m : ℕ) → 1 ≤ r → r ≤ k.rounds → m < k.seats
      → (k.seat_of_rank r m < k.seats) × (k.rank_of (k.own_block (k.seat_of_rank r m) r) ≡ m)

-- The state at one moment. Blocks, signatures, holdings and what was received only grow, so that the past is in it.
pub record View : Type 0 where
  pub clock : ℕ  -- the tick
  pub honest : ℕ → Bool  -- seat
  pub made : ℕ → Bool  -- block
  pub valid : ℕ → Bool  -- block: its record follows that of its parent
  pub parent : ℕ → ℕ  -- block
  pub signed : ℕ → ℕ → Bool  -- seat, block
  pub signed_at : ℕ → ℕ → ℕ  -- seat, block: the tick of that signature
  pub held : ℕ → ℕ → Bool  -- seat, block
  pub received : ℕ → ℕ → ℕ → Bool  -- seat, block, signer
  pub carried : ℕ → ℕ → Bool  -- block, signer: the block carries that signature on its parent
  pub round : ℕ → ℕ  -- seat: the round that it is in
  pub waiting : ℕ → Bool  -- seat: it waits in its round
  pub entered_at : ℕ → ℕ → ℕ  -- seat, round: the tick at which it entered the round
  pub left_by : ℕ → ℕ → ℕ  -- seat, round: the notarised block by which it left the round
  pub head : ℕ → ℕ  -- seat: its final head

module _ (k : Terms) where
  -- no more than f seats are Byzantine
  abbrev pub FewByzantine : View → Type 0
  FewByzantine v = count k.seats (λ i. not (v.honest i)) ≤ k.byzantine

  -- block b is notarised: a quorum has signed it
  abbrev pub IsNotarised : View → ℕ → Type 0
  IsNotarised v b = k.quorum ≤ count k.seats (λ i. v.signed i b)

  -- seat i holds a notarisation of block b: it has received the signatures of a quorum
  abbrev pub NotarisedAt : View → ℕ → ℕ → Type 0
  NotarisedAt v i b = k.quorum ≤ count k.seats (v.received i b)

  -- block b is final at seat i: it is the final head of the seat, or lies below it
  abbrev pub FinalAt : View → ℕ → ℕ → Type 0
  FinalAt v i b = On v.parent k.round_of b (v.head i)

  -- the wait of seat i in round r is over
  abbrev pub PastWait : View → ℕ → ℕ → Type 0
  PastWait v i r = (r < v.round i) ⊎ ((r ≡ v.round i) × (T (v.waiting i) → ⊥))
