-- The weight of a chain.
use Rattle.std.specs.Prelude.{ℕ, zero, suc, ◌+◌, List, slice_index_or}
use Rattle.numbers.specs.Quorum.{weight_of_rank}
use Rattle.rules.specs.declared.rows.BlockRow.{BlockRow}
use Rattle.rules.specs.Setup.{Setup, block_round}
use Rattle.rules.specs.Ranks.{rank}
use Rattle.rules.specs.Tables.{Tables, no_block}

-- block b and those below it: the sum of the weights of `depth` blocks
unfoldable pub chain_weight : Setup → ℕ → List BlockRow → ℕ → ℕ
chain_weight s zero bs b = 0
chain_weight s (suc depth) bs b = weight_of_rank (rank s b) + chain_weight s depth bs (slice_index_or bs b no_block).parent

-- the weight of the chain of block b, down to block 0, which weighs nothing
abbrev pub weight_of : {A : Type 0} → Setup → Tables A → ℕ → ℕ
weight_of s t b = chain_weight s (block_round s b) t.blocks b
