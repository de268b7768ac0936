use Rattle.std.proofs.Common.{refl}
use lib.Count.{ones}
use Rattle.shuffle.specs.SplitMix.{draws}
use Rattle.shuffle.specs.Shuffle.{shuffled, place}
use Rattle.orders.specs.Rows.{numbers}
use Rattle.worked_cases.proofs.worked_cases.Goals as goal

pub returns-clause-each_holds : goal.returns-clause-each_holds
unfolding draws numbers shuffled place ones
returns-clause-each_holds c = (refl, (refl, (refl, (refl, (refl, (refl, (refl, (refl, (refl, (refl, (refl, tt)))))))))))

pub returns-clause-large_volume : goal.returns-clause-large_volume
returns-clause-large_volume c = λ p value total. refl
