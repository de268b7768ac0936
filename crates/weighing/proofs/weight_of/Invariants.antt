use mathlib.Core.Path.{◌≡◌}
use Prim.Native.Nat.{◌+◌, ◌-◌, ◌*◌, ◌≤◌}
use Rattle.rules.specs.Weights.{chain_weight}
use Rattle.tables.specs.View.{setup_of}
use Rattle.weighing.proofs.weight_of.Given as goal

abbrev pub invariant-loop : goal.invariant-loop
invariant-loop g l =
    let s = setup_of l.terms l.t in
    (chain_weight s l.end l.t.blocks.now l.block ≡ l.sum + chain_weight s (l.end - l.counter) l.t.blocks.now l.at)
    × (l.sum ≤ l.counter * 65536)
