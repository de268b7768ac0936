-- What a seat has: blocks it holds, signatures it has received, notarisations.
use Rattle.std.specs.Prelude.{ℕ, zero, suc, ◌+◌, ◌*◌, ◌^◌, Bool, true, false, if◌then◌else◌, List, Option, ◌==◌, bit_or, count_ones, nat_le, slice_index_or, slice_set}
use Rattle.rules.specs.declared.rows.BlockRow.{BlockRow}
use Rattle.rules.specs.declared.rows.ReceivedRow.{ReceivedRow}
use Rattle.rules.specs.Loops.{upto, first_from}
use Rattle.rules.specs.Sets.{bit}
use Rattle.rules.specs.Setup.{Setup, block_round, round_start, round_width}
use Rattle.rules.specs.Tables.{Tables, no_block, nothing_received, has_signed, received_at, vote_at, with_received}

-- a row that holds the block too
abbrev pub hold_row : ReceivedRow → ReceivedRow
hold_row a = record { held = true; signers = a.signers }

-- a row with the signatures m too
abbrev pub receive_row : ℕ → ReceivedRow → ReceivedRow
receive_row m a = record { held = a.held; signers = bit_or a.signers m }

-- The rows after seat j of n has taken in block b. A block that it holds brings nothing new. Of any other it takes in
-- the parent first, then receives the signatures on the parent that b carries, and then holds b. `depth` is b's round:
-- the walk ends at block 0, which all hold.
unfoldable pub take_in : ℕ → ℕ → List BlockRow → List ReceivedRow → ℕ → ℕ → List ReceivedRow
take_in n zero bs h j b = h
take_in n (suc depth) bs h j b =
    let p = (slice_index_or bs b no_block).parent in
    let u = take_in n depth bs h j p in
    let x = slice_set u (p * n + j) (receive_row (slice_index_or bs b no_block).carried (slice_index_or u (p * n + j) nothing_received)) in
    if (slice_index_or h (b * n + j) nothing_received).held then h else slice_set x (b * n + j) (hold_row (slice_index_or x (b * n + j) nothing_received))

module _ {A : Type 0} (s : Setup) where
  -- seat j takes in block b
  abbrev pub takes_in : Tables A → ℕ → ℕ → Tables A
  takes_in t j b = with_received t (take_in s.n (block_round s b) t.blocks t.received j b)

  -- seat j receives the signatures m on block b
  abbrev pub receives : Tables A → ℕ → ℕ → ℕ → Tables A
  receives t j b m = with_received t (slice_set t.received (b * s.n + j) (receive_row m (received_at s t j b)))

  -- seat i holds a notarisation of block b: it has received a quorum of signatures on it
  abbrev pub holds_notarisation : Tables A → ℕ → ℕ → Bool
  holds_notarisation t i b = nat_le s.quorum (count_ones (received_at s t i b).signers)

  -- the lowest-numbered block of round r whose notarisation seat i holds
  abbrev pub lowest_notarised : Tables A → ℕ → ℕ → Option ℕ
  lowest_notarised t i r = first_from (holds_notarisation t i) (round_start s r) (round_width s)

  -- seat j has all that a vote of seat i for block b says: the block and that signature
  abbrev pub has_vote : Tables A → ℕ → ℕ → ℕ → Bool
  has_vote t i b j = if (received_at s t j b).held then bit (received_at s t j b).signers i else false

  -- seat j has all that a certificate with block c and the signatures m says
  abbrev pub has_certificate : Tables A → ℕ → ℕ → ℕ → Bool
  has_certificate t c m j =
      if (received_at s t j c).held then bit_or (received_at s t j c).signers m == (received_at s t j c).signers else false

  -- the signatures that exist on block b, received or not
  unfoldable pub signers : Tables A → ℕ → ℕ
  signers t b = upto (λ i m. if has_signed (vote_at s t i b) then bit_or m (2 ^ i) else m) 0 s.n
