use Rattle.std.proofs.Common.{rules, arith}
use Rattle.reading.proofs.Chain.{chain_step}
use Rattle.reading.proofs.write_chain.Goals as goal

pub loop-place-preserved : goal.loop-place-preserved
loop-place-preserved g c =
    let step = chain_step c.args.t.now.blocks.now c.loop-place.block c.loop-place.place-index c.loop-place.chain (omega arith) in
    search rules
