-- What can be read of a seat: where it stands, and its final chain.
use Rattle.std.specs.Prelude.{ℕ, zero, suc, cond, List, [], ◌∷◌, ◌++◌, Ok, Err, Result, drop, nat_lt, slice_index_or}
use Rattle.rules.specs.declared.fault.BenchFault.{BenchFault}
use Rattle.rules.specs.declared.fault.BenchFault.TheVariants.{ShortBuffer}
use Rattle.rules.specs.declared.rows.BlockRow.{BlockRow}
use Rattle.rules.specs.declared.rows.SeatRow.{SeatRow}
use Rattle.rules.specs.Setup.{Setup, block_round}
use Rattle.rules.specs.Tables.{Tables, no_block, seat_at}
use Rattle.checking.specs.Checks.{Answer, honest_check}

-- an answer with a value, unless the check refuses
abbrev pub then_value : {V : Type 0} → Answer → Result V BenchFault → Result V BenchFault
then_value (Ok u) next = next
then_value (Err f) next = Err f

-- so many blocks, of which b is the newest; its parent comes before it, and so on
unfoldable pub chain_of : List BlockRow → ℕ → ℕ → List ℕ
chain_of blocks zero b = []
chain_of blocks (suc k) b = chain_of blocks k (slice_index_or blocks b no_block).parent ++ b ∷ []

-- a buffer is filled, but a refusal leaves it as it was
abbrev pub buffer_by : Result ℕ BenchFault → List ℕ → List ℕ → List ℕ
buffer_by (Ok k) filled old = filled
buffer_by (Err f) filled old = old

module _ {A : Type 0} (s : Setup) (t : Tables A) where
  -- where seat i stands: its round, its phase and its final head
  abbrev pub status_answer : ℕ → Result SeatRow BenchFault
  status_answer i = then_value (honest_check s t i) (Ok (seat_at t i))

  -- how many blocks the final chain of seat i has: one for each round from 0 to that of the head
  abbrev pub chain_length : ℕ → ℕ
  chain_length i = suc (block_round s (seat_at t i).head)

  -- the final chain of seat i, the oldest block first
  abbrev pub final_chain : ℕ → List ℕ
  final_chain i = chain_of t.blocks (chain_length i) (seat_at t i).head

  -- how many blocks are listed, into a buffer with so many places
  abbrev pub chain_answer : ℕ → ℕ → Result ℕ BenchFault
  chain_answer i room = then_value (honest_check s t i) (cond (nat_lt room (chain_length i)) (Err ShortBuffer) (Ok (chain_length i)))

  -- the buffer after a listing of seat i that answered r: its final chain, and past that what was there
  abbrev pub buffer_after : ℕ → Result ℕ BenchFault → List ℕ → List ℕ
  buffer_after i r old = buffer_by r (final_chain i ++ drop (chain_length i) old) old
