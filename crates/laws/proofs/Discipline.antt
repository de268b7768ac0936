-- What the calls of a bench may do: after a step nothing is lost, and whatever is new has its ground.
-- What a Byzantine seat does needs no ground, save that a new block of its own has one like any other block.
-- A step is a part of a call, and one step may do much: all votes of one reaction are a single step, since the seat holds no
-- notarisation of its round before the first of them, and may hold one after it.
use Rattle.std.proofs.Common.{◌≡◌, ℕ, suc, ◌+◌, ◌*◌, ◌<◌, ◌≤◌, T, ◌⊎◌}
use Rattle.rules.specs.Counting.{count}
use Rattle.laws.proofs.Chains.{On}
use Rattle.laws.proofs.View.{Terms, View, NotarisedAt, FewByzantine}

module _ (k : Terms) where
  -- Seat i has nothing left to do at this tick.
  pub record Calm (v : View) (i : ℕ) : Type 0 where
    -- if it waits, then its wait is not yet over
    pub waiting : T (v.waiting i) → v.clock < v.entered_at i (v.round i) + 2 * k.delay
    -- if it votes, then it holds no notarisation of a block of its round
    pub voting : (T (v.waiting i) → ⊥) → v.round i ≤ k.rounds → (c : ℕ) → k.round_of c ≡ v.round i → NotarisedAt k v i c → ⊥
    -- if it votes, then of each valid block of its round that it holds it has signed that one, or one of lower rank
    pub done : (T (v.waiting i) → ⊥) → v.round i ≤ k.rounds → (c : ℕ) → k.round_of c ≡ v.round i → T (v.held i c) → T (v.valid c)
        → (b : ℕ) × T (v.signed i b) × (k.round_of b ≡ k.round_of c) × ((b ≡ c) ⊎ (k.rank_of b < k.rank_of c))

  -- Seat j holds block b whole.
  pub record Holding (v : View) (j b : ℕ) : Type 0 where
    -- the block is made
    pub made : T (v.made b)
    -- the seat holds its parent too
    pub parent : 1 ≤ k.round_of b → T (v.held j (v.parent b))
    -- and has received the signatures that it carries
    pub carried : (s : ℕ) → T (v.carried b s) → T (v.received j (v.parent b) s)

  -- Seat i leaves its round.
  pub record Leaves (v w : View) (i : ℕ) : Type 0 where
    -- the clock stands
    pub still : w.clock ≡ v.clock
    -- it enters the next round, at this tick
    pub one : w.round i ≡ suc (v.round i)
    pub now : w.entered_at i (suc (v.round i)) ≡ v.clock
    -- its wait was over
    pub over : v.entered_at i (v.round i) + 2 * k.delay ≤ v.clock
    pub waited : T (v.waiting i) → ⊥
    -- the round was not past the last
    pub below : v.round i ≤ k.rounds
    -- it holds a notarisation of the block by which it leaves, and this is of the round
    pub certified : NotarisedAt k w i (w.left_by i (v.round i))
    pub left_by_round : k.round_of (w.left_by i (v.round i)) ≡ v.round i
    -- it waits again
    pub waiting : T (w.waiting i)
    -- unless the new round is past the last, its own block of it is made
    pub proposes : suc (v.round i) ≤ k.rounds → T (w.made (k.own_block i (suc (v.round i))))

  -- Block b is new.
  pub record Makes (v w : View) (b : ℕ) : Type 0 where
    -- it is not block 0
    pub round_pos : 1 ≤ k.round_of b
    -- its parent was there, and is of the round before
    pub parent_made : T (v.made (w.parent b))
    pub parent_round : suc (k.round_of (w.parent b)) ≡ k.round_of b
    -- from round 2 on it carries a quorum of signatures on its parent
    pub carried_quorum : 2 ≤ k.round_of b → k.quorum ≤ count k.seats (w.carried b)
    -- all that it carries was signed
    pub carried_signed : (s : ℕ) → T (w.carried b s) → T (v.signed s (w.parent b))
    -- if its owner is honest, then it is the own block of that seat, and valid
    pub honest_own : T (w.honest (k.owner_of b)) → (b ≡ k.own_block (k.owner_of b) (k.round_of b)) × T (w.valid b)

  -- Seat i has another final head.
  pub record Heads (v w : View) (i : ℕ) : Type 0 where
    -- the seat is past round 1, and its wait is over
    pub second : 2 ≤ w.round i
    pub over : w.entered_at i (w.round i) + 2 * k.delay ≤ w.clock
    -- the new head lies on the chain of each valid block of the round before that the seat holds
    pub common : (c : ℕ) → T (w.held i c) → T (w.valid c) → suc (k.round_of c) ≡ w.round i → On w.parent k.round_of (w.head i) c
    -- and is of no earlier round than the old one
    pub not_older : k.round_of (v.head i) ≤ k.round_of (w.head i)

  -- The wait of seat i ends.
  pub record EndsWait (v w : View) (i : ℕ) : Type 0 where
    -- 2 Δ after the seat entered its round, or later
    pub over : w.entered_at i (w.round i) + 2 * k.delay ≤ w.clock
    -- from round 3 on: a block that is the parent of each valid block of the round before that the seat holds is now final
    pub head_set : 3 ≤ w.round i → (p : ℕ) → ((c : ℕ) → T (w.held i c) → T (w.valid c) → suc (k.round_of c) ≡ w.round i → w.parent c ≡ p)
        → On w.parent k.round_of p (w.head i)

  -- Seat i votes for block b.
  pub record Votes (v w : View) (i b : ℕ) : Type 0 where
    -- the clock stands, the seat stays in its round, and the vote has this tick
    pub still : w.clock ≡ v.clock
    pub here : w.round i ≡ v.round i
    pub tick : w.signed_at i b ≡ v.clock
    -- its wait is over
    pub over : v.entered_at i (v.round i) + 2 * k.delay ≤ v.clock
    -- the block is of its round, held and valid
    pub this_round : k.round_of b ≡ v.round i
    pub holds : T (v.held i b)
    pub valid : T (v.valid b)
    -- it holds no valid block of the round of lower rank
    pub lowest : (c : ℕ) → T (v.held i c) → T (v.valid c) → k.round_of c ≡ v.round i → k.rank_of b ≤ k.rank_of c
    -- and held no notarisation of the round
    pub without : (c : ℕ) → k.round_of c ≡ v.round i → NotarisedAt k v i c → ⊥

  -- The clock moves on.
  pub record Ticks (v w : View) : Type 0 where
    -- by one tick
    pub one : w.clock ≡ suc v.clock
    -- no honest seat had anything left to do
    pub calm : (i : ℕ) → T (v.honest i) → Calm v i
    -- nothing is overdue at the new tick: an honest vote, with its block, ..
    pub votes_due : (i b : ℕ) → T (v.honest i) → T (v.signed i b) → v.signed_at i b + k.delay ≤ suc v.clock
        → (j : ℕ) → T (v.honest j) → T (v.held j b) × T (v.received j b i)
    -- .. the certificate by which an honest seat left a round, ..
    pub certificates_due : (i r : ℕ) → T (v.honest i) → r < v.round i → 1 ≤ r → v.entered_at i (suc r) + k.delay ≤ suc v.clock
        → (j : ℕ) → T (v.honest j) → NotarisedAt k v j (v.left_by i r)
    -- .. the block that an honest seat proposed when it entered a round
    pub blocks_due : (i r : ℕ) → T (v.honest i) → 1 ≤ r → r ≤ v.round i → r ≤ k.rounds → v.entered_at i r + k.delay ≤ suc v.clock
        → (j : ℕ) → T (v.honest j) → T (v.held j (k.own_block i r))

  -- A step from v to w.
  pub record Step (v w : View) : Type 0 where
    -- the clock does not go back, and no Byzantine seat becomes honest
    pub clock_le : v.clock ≤ w.clock
    pub honest_was : (i : ℕ) → T (w.honest i) → T (v.honest i)
    -- no seat goes back to an earlier round; when and by which block it came so far stays
    pub round_le : (i : ℕ) → v.round i ≤ w.round i
    pub entered_at_same : (i r : ℕ) → T (w.honest i) → r ≤ v.round i → w.entered_at i r ≡ v.entered_at i r
    pub left_by_same : (i r : ℕ) → T (w.honest i) → r < v.round i → w.left_by i r ≡ v.left_by i r
    -- a made block stays as it is
    pub made_stays : (b : ℕ) → T (v.made b) → T (w.made b)
    pub valid_same : (b : ℕ) → T (v.made b) → w.valid b ≡ v.valid b
    pub parent_same : (b : ℕ) → T (v.made b) → w.parent b ≡ v.parent b
    pub carried_same : (b s : ℕ) → T (v.made b) → w.carried b s ≡ v.carried b s
    -- signatures, holdings and what was received stay
    pub signed_stays : (i b : ℕ) → T (v.signed i b) → T (w.signed i b)
    pub signed_at_same : (i b : ℕ) → T (v.signed i b) → w.signed_at i b ≡ v.signed_at i b
    pub held_stays : (i b : ℕ) → T (v.held i b) → T (w.held i b)
    pub received_stays : (i b s : ℕ) → T (v.received i b s) → T (w.received i b s)
    -- what is new, and on what ground: another round, a signature, a held block, a received signature, ..
    pub leaves : (i : ℕ) → T (w.honest i) → v.round i < w.round i → Leaves v w i
    pub votes : (i b : ℕ) → T (w.honest i) → T (w.signed i b) → (T (v.signed i b) → ⊥) → Votes v w i b
    pub gets : (j b : ℕ) → T (w.honest j) → T (w.held j b) → (T (v.held j b) → ⊥) → Holding w j b
    pub receives : (j b s : ℕ) → T (w.honest j) → T (w.received j b s) → (T (v.received j b s) → ⊥) → T (w.signed s b) × T (w.held j b)
    -- .. a later tick, a block, a final head, the end of a wait
    pub ticks : v.clock < w.clock → Ticks v w
    pub makes : (b : ℕ) → T (w.made b) → (T (v.made b) → ⊥) → Makes v w b
    pub heads : (i : ℕ) → T (w.honest i) → (w.head i ≡ v.head i → ⊥) → Heads v w i
    pub ends_wait : (i : ℕ) → T (w.honest i) → T (v.waiting i) → (T (w.waiting i) → ⊥) → EndsWait v w i
    -- still no more than f seats are Byzantine
    pub few : FewByzantine k w

  -- Any number of steps, one after the other.
  pub data Run (from : View) : View → Type 0 where
    start : Run from from
    next : {v w : View} → Run from v → Step v w → Run from w
