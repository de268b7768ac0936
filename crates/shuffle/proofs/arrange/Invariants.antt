use Rattle.std.proofs.Common.{◌≡◌, ◌-◌, ◌≤◌, length, take}
use Rattle.shuffle.specs.SplitMix.{draws}
use Rattle.shuffle.specs.Shuffle.{arrangement, shuffled}
use Rattle.shuffle.proofs.arrange.Given as goal

abbrev pub invariant-loop-m : goal.invariant-loop-m
invariant-loop-m l =
    (arrangement l.n l.start ≡ shuffled (l.m - 1) (draws (l.m - 1) l.source.state) (take l.n l.places))
    × (length l.places ≡ 16)
    × (l.m ≤ 1 → take l.n l.places ≡ arrangement l.n l.start)
