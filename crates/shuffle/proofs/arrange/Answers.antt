use Rattle.std.proofs.Common.{◌≡◌, ◌+◌, ◌-◌, ◌%◌, ◌<◌, take, mod-lt, arith, rules}
use Rattle.shuffle.specs.SplitMix.{advanced, drawn, draws}
use Rattle.shuffle.specs.Shuffle.{arrangement, shuffled}
use Rattle.shuffle.specs.ShuffleOrder.{start_list, take_exchanged, shuffled_step, shuffled_done, sixteen}
use Rattle.shuffle.proofs.arrange.Goals as goal

pub loop-m-init : goal.loop-m-init
loop-m-init c =
    let n = c.args.n in
    let t = start_list n (search rules) in
    let left : arrangement n c.args.start ≡ shuffled (n - 1) (draws (n - 1) c.new-source.result.state) (take n sixteen) = search rules in
    (left, search rules, shuffled_done _ _ _ _ left)

pub loop-m-preserved : goal.loop-m-preserved
loop-m-preserved c =
    let m = c.loop-m.m - 1 in
    let xs = c.loop-m.places in
    let k = drawn (advanced c.loop-m.source.state) % (m + 1) in
    let lt : m < c.args.n = omega arith in
    let low : k < m + 1 = mod-lt (drawn (advanced c.loop-m.source.state)) (omega arith) in
    let step = shuffled_step m c.loop-m.source.state (take c.args.n xs) (omega arith) in
    let front = take_exchanged c.args.n m k xs lt (omega arith) in
    let left : arrangement c.args.n c.args.start
    ≡ shuffled (m - 1) (draws (m - 1) c.exchange.new.source.state) (take c.args.n c.exchange.new.places) = search rules in
    (left, search rules, shuffled_done _ _ _ _ left)
