use Rattle.std.proofs.Common.{◌≡◌, ◌-◌, ◌++◌, length, take, reverse}
use Rattle.reading.specs.Reading.{chain_of}
use Rattle.reading.proofs.write_chain.Given as goal

-- the chain is what is left to write, and what is written, turned round
abbrev pub invariant-loop-place : goal.invariant-loop-place
invariant-loop-place g l =
    chain_of l.t.blocks.now (length l.chain) l.head
    ≡ chain_of l.t.blocks.now (length l.chain - l.place-index) l.block ++ reverse (take l.place-index l.chain)
