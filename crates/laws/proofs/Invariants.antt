-- What holds of every view that a run reaches. i and j are honest seats throughout.
use Rattle.std.proofs.Common.{◌≡◌, ℕ, suc, ◌+◌, ◌*◌, ◌<◌, ◌≤◌, T, ◌⊎◌}
use Rattle.rules.specs.Counting.{count}
use Rattle.laws.proofs.Chains.{On}
use Rattle.laws.proofs.View.{Terms, View, NotarisedAt, FewByzantine, FinalAt, PastWait}
use Rattle.laws.proofs.Discipline.{Holding}

module _ (k : Terms) where
  -- Seat i has voted for block b.
  pub record Voted (v : View) (i b : ℕ) : Type 0 where
    -- the block is valid, and the seat holds it
    pub valid : T (v.valid b)
    pub held : T (v.held i b)
    -- the seat has entered the round of the block, and voted when its wait there was over
    pub entered : k.round_of b ≤ v.round i
    pub over : v.entered_at i (k.round_of b) + 2 * k.delay ≤ v.signed_at i b
    -- the vote is not of a tick to come
    pub past : v.signed_at i b ≤ v.clock

  -- Seat i has left round r.
  pub record Past (v : View) (i r : ℕ) : Type 0 where
    -- 2 Δ after it entered it, or later
    pub over : v.entered_at i r + 2 * k.delay ≤ v.entered_at i (suc r)
    -- by a block of the round, of which it holds a notarisation
    pub left_by_round : k.round_of (v.left_by i r) ≡ r
    pub left_by_notarised : NotarisedAt k v i (v.left_by i r)

  -- Rounds and messages: what a seat has was sent, and it came in time; the seats go through the rounds together.
  pub record Timing (v : View) : Type 0 where
    -- a received signature was made, and its block is held
    pub received : (j b s : ℕ) → T (v.honest j) → T (v.received j b s) → T (v.signed s b) × T (v.held j b)
    -- who holds a block holds it whole
    pub holding : (j b : ℕ) → T (v.honest j) → T (v.held j b) → Holding k v j b
    -- what an honest signature says
    pub voted : (i b : ℕ) → T (v.honest i) → T (v.signed i b) → Voted v i b
    -- no round was entered at a tick to come
    pub entered : (i r : ℕ) → T (v.honest i) → r ≤ v.round i → v.entered_at i r ≤ v.clock
    -- what is known of a round that was left
    pub past : (i r : ℕ) → T (v.honest i) → 1 ≤ r → r < v.round i → Past v i r
    -- a seat is in one of the rounds 1 .. R + 1
    pub round_pos : (i : ℕ) → T (v.honest i) → 1 ≤ v.round i
    pub round_top : (i : ℕ) → T (v.honest i) → v.round i ≤ suc k.rounds
    -- an honest vote, with its block, has reached all after Δ
    pub votes_due : (i b : ℕ) → T (v.honest i) → T (v.signed i b) → v.signed_at i b + k.delay ≤ v.clock
        → (j : ℕ) → T (v.honest j) → T (v.held j b) × T (v.received j b i)
    -- so has the certificate by which an honest seat left a round
    pub certificates_due : (i r : ℕ) → T (v.honest i) → r < v.round i → 1 ≤ r → v.entered_at i (suc r) + k.delay ≤ v.clock
        → (j : ℕ) → T (v.honest j) → NotarisedAt k v j (v.left_by i r)
    -- Δ after one has entered a round all have
    pub all_enter : (i r : ℕ) → T (v.honest i) → 1 ≤ r → r ≤ v.round i → v.entered_at i r + k.delay ≤ v.clock
        → (j : ℕ) → T (v.honest j) → r ≤ v.round j
    -- entries of one round lie less than Δ apart
    pub skew : (i j r : ℕ) → T (v.honest i) → T (v.honest j) → 1 ≤ r → r ≤ v.round i → r ≤ v.round j
        → v.entered_at j r < v.entered_at i r + k.delay
    -- no vote for a block of a round comes as late as Δ after somebody left that round
    pub no_late_vote : (i j b : ℕ) → T (v.honest i) → T (v.honest j) → T (v.signed j b) → k.round_of b < v.round i → 1 ≤ k.round_of b
        → v.signed_at j b < v.entered_at i (suc (k.round_of b)) + k.delay

  -- Block h was set as the final head of seat i.
  pub record Headed (v : View) (i h : ℕ) : Type 0 where
    -- by the blocks of this round
    pub basis : ℕ
    pub basis_pos : 1 ≤ basis
    -- in the round after it, when the wait there was over
    pub entered : suc basis ≤ v.round i
    pub over : v.entered_at i (suc basis) + 2 * k.delay ≤ v.clock
    -- every block of the basis with an honest signature has h on its chain
    pub only : (j c : ℕ) → T (v.honest j) → T (v.signed j c) → k.round_of c ≡ basis → On v.parent k.round_of h c

  -- Blocks and signatures: how blocks hang together, which of them honest seats make and sign, and what a final head rests on.
  pub record Blocks (v : View) : Type 0 where
    -- honest seats are seats, and all others are few
    pub below : (i : ℕ) → T (v.honest i) → i < k.seats
    pub few : FewByzantine k v
    -- block 0 is made; so is the parent of a made block, one round before it
    pub root_made : T (v.made 0)
    pub parent_made : (b : ℕ) → T (v.made b) → 1 ≤ k.round_of b → T (v.made (v.parent b))
    pub parent_round : (b : ℕ) → T (v.made b) → 1 ≤ k.round_of b → suc (k.round_of (v.parent b)) ≡ k.round_of b
    -- from round 2 on a block carries a quorum of signatures on its parent, and all that it carries was signed
    pub carried_quorum : (b : ℕ) → T (v.made b) → 2 ≤ k.round_of b → k.quorum ≤ count k.seats (v.carried b)
    pub carried_signed : (b i : ℕ) → T (v.made b) → 1 ≤ k.round_of b → T (v.carried b i) → T (v.signed i (v.parent b))
    -- an honest seat makes its own block of a round and no other, and this is valid
    pub honest_own : (b : ℕ) → T (v.made b) → 1 ≤ k.round_of b → T (v.honest (k.owner_of b))
        → (b ≡ k.own_block (k.owner_of b) (k.round_of b)) × T (v.valid b)
    -- it has made it for each round that it entered
    pub proposed : (i r : ℕ) → T (v.honest i) → 1 ≤ r → r ≤ v.round i → r ≤ k.rounds → T (v.made (k.own_block i r))
    -- and Δ after it entered the round all hold it
    pub blocks_due : (i r : ℕ) → T (v.honest i) → 1 ≤ r → r ≤ v.round i → r ≤ k.rounds → v.entered_at i r + k.delay ≤ v.clock
        → (j : ℕ) → T (v.honest j) → T (v.held j (k.own_block i r))
    -- of a round whose first-ranked seat is honest, honest seats sign the own block of that seat alone
    pub led : (i j b : ℕ) → T (v.honest i) → T (v.honest j) → 1 ≤ k.round_of b → k.round_of b ≤ k.rounds → T (v.signed j b)
        → k.rank_of (k.own_block i (k.round_of b)) ≡ 0 → b ≡ k.own_block i (k.round_of b)
    -- a final head is block 0, or was set
    pub head : (i : ℕ) → T (v.honest i) → (v.head i ≡ 0) ⊎ Headed v i (v.head i)

  -- By tick d seat j has signed block c, or a block of the same round and lower rank: its answer to c.
  abbrev pub Answer : View → ℕ → ℕ → ℕ → Type 0
  Answer v j c d = (b : ℕ) × T (v.signed j b) × (k.round_of b ≡ k.round_of c) × (v.signed_at j b ≤ d) × ((b ≡ c) ⊎ (k.rank_of b < k.rank_of c))

  -- At tick d, which is past, seat j was in round r and its wait there was over.
  pub record VotingAt (v : View) (j r d : ℕ) : Type 0 where
    pub entered : r ≤ v.round j
    pub over : v.entered_at j r + 2 * k.delay ≤ d
    pub stays : r < v.round j → d < v.entered_at j (suc r)
    pub past : d < v.clock

  -- Answers and stays: the seats answer one another, so that no stay is long; and the block of an honest first seat becomes final.
  pub record Progress (v : View) : Type 0 where
    -- who does not wait has waited 2 Δ
    pub awake : (i : ℕ) → T (v.honest i) → (T (v.waiting i) → ⊥) → v.entered_at i (v.round i) + 2 * k.delay ≤ v.clock
    -- the own block of an honest first-ranked seat is final where the wait two rounds later is over
    pub final_led : (i h r : ℕ) → T (v.honest i) → T (v.honest h) → 1 ≤ r → r < k.rounds → k.rank_of (k.own_block h r) ≡ 0
        → PastWait k v i (suc (suc r)) → FinalAt k v i (k.own_block h r)
    -- an honest vote is answered by all who vote in that round Δ later
    pub answered : (i j b d : ℕ) → T (v.honest i) → T (v.honest j) → T (v.signed i b) → k.round_of b ≤ k.rounds → v.signed_at i b + k.delay ≤ d
        → VotingAt v j (k.round_of b) d → Answer v j b d
    -- so is the own block of an honest seat
    pub answered_block : (i j r d : ℕ) → T (v.honest i) → T (v.honest j) → 1 ≤ r → r ≤ k.rounds → r ≤ v.round i → v.entered_at i r + k.delay ≤ d
        → VotingAt v j r d → Answer v j (k.own_block i r) d
    -- nobody has been in its round for more than (f + 6) Δ
    pub stay : (j : ℕ) → T (v.honest j) → v.round j ≤ k.rounds → v.clock ≤ v.entered_at j (v.round j) + (k.byzantine + 6) * k.delay

  pub record Invariants (v : View) : Type 0 where
    pub timing : Timing v
    pub blocks : Blocks v
    pub progress : Progress v
