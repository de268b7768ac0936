-- By which tick something must have happened; these follow from the laws.
use Rattle.std.specs.Prelude.{◌≡◌, ℕ, suc, ◌+◌, ◌*◌, ◌<◌, ◌≤◌, List, Ok, count_ones}
use Rattle.orders.specs.Ranking.{Ranking, Lawful}
use Rattle.records.specs.Kind.{Kind}
use Rattle.roster.specs.declared.roster.Roster.{Roster}
use Rattle.rules.specs.declared.rows.Phase.TheVariants.{Waiting}
use Rattle.rules.specs.Setup.{Bench}
use Rattle.rules.specs.Tables.{Tables, seat_at}
use Rattle.rules.specs.Opening.{bench_of, open_answer, opened}
use Rattle.rules.specs.Runs.{Call, after}
use Rattle.laws.specs.Laws.{Honest, Final, block_of, longest_stay, entry}

-- the last tick at which an honest seat can be in round r: r times the longest stay
abbrev pub last_tick_in : Bench → ℕ → ℕ
last_tick_in b r = r * longest_stay b

-- the tick at which the block of an honest first seat of round r is final everywhere: the wait of round r + 2 is over
abbrev pub final_tick_of : Bench → ℕ → ℕ
final_tick_of b r = last_tick_in b (suc r) + 2 * b.delay

pub record InTime {A : Type 0} (b : Bench) (m : Ranking) (t : Tables A) : Type 0 where
  -- an honest seat that waits has been in its round for less than 2 Δ ticks
  pub waits_end : (i : ℕ) → Honest b i → (seat_at t i).phase ≡ Waiting → t.clock < entry b t i (seat_at t i).round + 2 * b.delay
  -- after the last tick of round r every honest seat is past it
  pub rounds_end : (i r : ℕ) → Honest b i → r ≤ b.rounds → last_tick_in b r < t.clock → r < (seat_at t i).round
  -- the block of an honest first seat of round r, which is not the last, is final at every honest seat
  pub first_final : (h i r : ℕ) → Honest b h → Honest b i → 1 ≤ r → r < b.rounds → m.rank r h ≡ 0 → final_tick_of b r ≤ t.clock → Final b t i (block_of b h r)

-- for the same benches and runs as the laws
abbrev pub EveryRunIsInTime : {A : Type 0} → Kind A → Type 0
EveryRunIsInTime {A} K =
    (ro : Roster) (m : Ranking) (delay rounds editions q : ℕ) (lent : Tables A)
    → Lawful m → count_ones ro.marks < q → q + count_ones ro.marks ≤ ro.n
    → open_answer (bench_of ro delay rounds editions q) m lent ≡ Ok tt
    → (cs : List (Call A)) → InTime (bench_of ro delay rounds editions q) m (after (bench_of ro delay rounds editions q) K cs (opened (bench_of ro delay rounds editions q) m K))
