use Rattle.std.proofs.Common.{◌∙◌, rules, tests}
use Rattle.std.proofs.lemmas.Iterator.Consumers.{YieldsList-at, YieldsList-from_filter, count_from_yields_List}
use Rattle.drawing.specs.Leaders.{honest_leads}
use Rattle.drawing.proofs.Counting.{numbers_of_range, led_by_filter}
use Rattle.drawing.proofs.leaders.honest_rounds.Goals as goal

-- the rounds that pass the filter, counted
pub returns : goal.returns
returns g c =
    let n = c.args.roster.now.n in
    let marks = c.args.roster.now.marks in
    let m = g.B.Beacon.ranking c.args.beacon.now in
    let all = YieldsList-at c.filter.ensures.source (numbers_of_range c.new.result c.args.rounds c.new.ensures.start c.new.ensures.end c.new.ensures.exhausted) in
    count_from_yields_List _ c.count.result c.count.ensures.ran (YieldsList-from_filter _ (honest_leads n marks m) all c.filter.ensures.closure (λ x r q k. search (rules, tests)))
    ∙ led_by_filter n marks m c.args.rounds
