-- What a deadline promises: over every run of every bench with this roster and this delay.
use Rattle.std.specs.Prelude.{◌≡◌, ℕ, ◌+◌, ◌<◌, ◌≤◌, cond, ◌||◌, List, Some, None, Ok, Option, ◌==◌, count_ones, nat_lt}
use Rattle.orders.specs.Ranking.{Ranking, Lawful}
use Rattle.records.specs.Kind.{Kind}
use Rattle.roster.specs.declared.roster.Roster.{Roster}
use Rattle.rules.specs.declared.fault.BenchFault.{BenchFault}
use Rattle.rules.specs.declared.fault.BenchFault.TheVariants.{DelayOutOfRange, RoundOutOfRange}
use Rattle.rules.specs.Setup.{Bench}
use Rattle.rules.specs.Tables.{Tables, seat_at}
use Rattle.rules.specs.Opening.{bench_of, open_answer, opened}
use Rattle.rules.specs.Runs.{Call, after}
use Rattle.laws.specs.Laws.{Honest, Final, block_of}

-- P holds of the tables after every run of every bench that is opened with this roster and delay; a bench needs a quorum q
-- such that f < q and q + f ≤ n, which the majority is
abbrev pub InEveryRun : {A : Type 0} → Kind A → Roster → ℕ → (Bench → Ranking → Tables A → Type 0) → Type 0
InEveryRun {A} K ro delay P =
    (m : Ranking) (rounds editions q : ℕ) (lent : Tables A)
    → Lawful m → count_ones ro.marks < q → q + count_ones ro.marks ≤ ro.n
    → open_answer (bench_of ro delay rounds editions q) m lent ≡ Ok tt
    → (calls : List (Call A))
    → P (bench_of ro delay rounds editions q) m (after (bench_of ro delay rounds editions q) K calls (opened (bench_of ro delay rounds editions q) m K))

-- once the clock is past the tick, every honest seat is past round r
abbrev pub RoundOverAfter : {A : Type 0} → Kind A → Roster → ℕ → ℕ → ℕ → Type 0
RoundOverAfter K ro delay r tick = InEveryRun K ro delay (λ b m t.
    (i : ℕ) → Honest b i → r ≤ b.rounds → tick < t.clock → r < (seat_at t i).round)

-- from the tick on, if the first-ranked seat h of round r is honest and r is not the last round, h's block is final at every
-- honest seat
abbrev pub LeaderFinalBy : {A : Type 0} → Kind A → Roster → ℕ → ℕ → ℕ → Type 0
LeaderFinalBy K ro delay r tick = InEveryRun K ro delay (λ b m t.
    (h i : ℕ) → Honest b h → Honest b i → 1 ≤ r → r < b.rounds → m.rank r h ≡ 0 → tick ≤ t.clock → Final b t i (block_of b h r))

-- why there is no deadline: no bench has this delay or this round
abbrev pub deadline_refusal : ℕ → ℕ → Option BenchFault
deadline_refusal delay r =
    cond (delay == 0 || nat_lt 1000 delay) (Some DelayOutOfRange) (
    cond (r == 0 || nat_lt 256 r) (Some RoundOutOfRange) None)
