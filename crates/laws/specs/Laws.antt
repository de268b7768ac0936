-- The laws of a bench: what holds over every run of its calls, whatever they are.
use Rattle.std.specs.Prelude.{◌≡◌, ℕ, suc, ◌+◌, ◌*◌, ◌<◌, ◌≤◌, true, ◌⊎◌, List, Ok, Err, ◌≢◌, count_ones}
use Rattle.numbers.specs.Numbering.{round_of, number_of}
use Rattle.numbers.specs.Quorum.{majority_of}
use Rattle.orders.specs.Ranking.{Ranking, Lawful}
use Rattle.records.specs.Kind.{Kind}
use Rattle.roster.specs.declared.roster.Roster.{Roster}
use Rattle.roster.specs.Marks.{is_honest}
use Rattle.rules.specs.declared.fault.BenchFault.{BenchFault}
use Rattle.rules.specs.declared.rows.Phase.TheVariants.{Waiting}
use Rattle.rules.specs.Chains.{ancestor}
use Rattle.rules.specs.Counting.{count}
use Rattle.rules.specs.Setup.{Bench}
use Rattle.rules.specs.Tables.{Tables, setup_at, block_at, seat_at, vote_at, entered_at, valid, has_signed}
use Rattle.rules.specs.Opening.{bench_of, open_answer, opened}
use Rattle.rules.specs.Runs.{Call, call, after}

-- Of a bench.
module _ (b : Bench) where
  -- Seat i is honest: one of the bench's, and not marked Byzantine.
  abbrev pub Honest : ℕ → Type 0
  Honest i = is_honest b.n b.marks i ≡ true

  -- f, how many seats are Byzantine
  abbrev pub byzantine_count : ℕ
  byzantine_count = count_ones b.marks

  -- the round of block c
  abbrev pub round : ℕ → ℕ
  round c = round_of b.n b.editions c

  -- the block that seat h makes in round r if it is honest: its first edition
  abbrev pub block_of : ℕ → ℕ → ℕ
  block_of h r = number_of b.n b.editions r h 0

  -- the longest time in a round: (f + 6) Δ ticks
  abbrev pub longest_stay : ℕ
  longest_stay = (byzantine_count + 6) * b.delay

-- Of a bench with the tables t, between two calls.
module _ {A : Type 0} (b : Bench) (t : Tables A) where
  -- Block c is final at seat i: it is the final head of the seat, or an ancestor of it.
  abbrev pub Final : ℕ → ℕ → Type 0
  Final i c = (k : ℕ) × (ancestor (λ x. (block_at t x).parent) k (seat_at t i).head ≡ c)

  -- Block c is notarised: a quorum of the seats has signed it.
  abbrev pub Notarised : ℕ → Type 0
  Notarised c = b.quorum ≤ count b.n (λ i. has_signed (vote_at (setup_at b t) t i c))

  -- The wait of seat i in round r is over: the seat is past r, or in r and no longer waiting.
  abbrev pub WaitOver : ℕ → ℕ → Type 0
  WaitOver i r = (r < (seat_at t i).round) ⊎ ((r ≡ (seat_at t i).round) × ((seat_at t i).phase ≢ Waiting))

  -- the tick at which seat i entered round r
  abbrev pub entry : ℕ → ℕ → ℕ
  entry i r = entered_at (setup_at b t) t i r

  -- No two honest seats have different final blocks of one round.
  abbrev pub OneFinalBlockARound : Type 0
  OneFinalBlockARound = (i j c d : ℕ) → Honest b i → Honest b j → Final i c → Final j d → round b c ≡ round b d → c ≡ d

  -- Every final block but block 0 has a record that follows its parent's.
  abbrev pub FinalRecordsFollow : Kind A → Type 0
  FinalRecordsFollow K = (i c : ℕ) → Honest b i → Final i c → (c ≢ 0) → valid K t c ≡ true

  -- No block of round r but that of seat h is notarised.
  abbrev pub AloneNotarised : ℕ → ℕ → Type 0
  AloneNotarised h r = (c : ℕ) → round b c ≡ r → Notarised c → c ≡ block_of b h r

  -- The block of seat h in round r is final at every honest seat whose wait two rounds later is over.
  abbrev pub FinalTwoRoundsLater : ℕ → ℕ → Type 0
  FinalTwoRoundsLater h r = (i : ℕ) → Honest b i → WaitOver i (suc (suc r)) → Final i (block_of b h r)

  -- No honest seat has been in one of the R rounds for more than (f + 6) Δ ticks ..
  abbrev pub NoLongStay : Type 0
  NoLongStay = (i : ℕ) → Honest b i → (seat_at t i).round ≤ b.rounds → t.clock ≤ entry i (seat_at t i).round + longest_stay b

  -- .. nor was in one that it has left.
  abbrev pub NoLongStayBefore : Type 0
  NoLongStayBefore = (i r : ℕ) → Honest b i → 1 ≤ r → r < (seat_at t i).round → entry i (suc r) ≤ entry i r + longest_stay b

-- Whatever was final at an honest seat with the tables t is final there still with the tables u.
abbrev pub FinalStaysFinal : {A : Type 0} → Bench → Tables A → Tables A → Type 0
FinalStaysFinal b t u = (i c : ℕ) → Honest b i → Final b t i c → Final b u i c

-- The laws, for the tables u at some point of a run, and t at any earlier point. m is what the beacon means: in round r the
-- seat h with `m.rank r h ≡ 0` is first.
pub record Laws {A : Type 0} (b : Bench) (m : Ranking) (K : Kind A) (t u : Tables A) : Type 0 where
  pub one_final_block_a_round : OneFinalBlockARound b u
  pub final_stays_final : FinalStaysFinal b t u
  pub final_records_follow : FinalRecordsFollow b u K
  pub first_alone_notarised : (h r : ℕ) → 1 ≤ r → r ≤ b.rounds → m.rank r h ≡ 0 → Honest b h → AloneNotarised b u h r
  pub first_final_two_rounds_later : (h r : ℕ) → 1 ≤ r → r < b.rounds → m.rank r h ≡ 0 → Honest b h → FinalTwoRoundsLater b u h r
  pub no_long_stay : NoLongStay b u
  pub no_long_stay_before : NoLongStayBefore b u

-- after the calls cs from the opening, and after the calls ds from there
abbrev pub LawsAfter : {A : Type 0} → Bench → Ranking → Kind A → List (Call A) → List (Call A) → Type 0
LawsAfter b m K cs ds = Laws b m K (after b K cs (opened b m K)) (after b K ds (after b K cs (opened b m K)))

-- K is the meaning of a record type: a type that is a `Record`, so that the idle record of every p follows p. Then for
-- every roster, every beacon that gives an order of the seats, and every accepted opening with a quorum q such that f < q and
-- q + f ≤ n, the laws hold over every list of calls, accepted or refused, before the first call and after each.
abbrev pub NoRunSplitsTheRecord : {A : Type 0} → Kind A → Type 0
NoRunSplitsTheRecord {A} K =
    (ro : Roster) (m : Ranking) (delay rounds editions q : ℕ) (lent : Tables A)
    → Lawful m → count_ones ro.marks < q → q + count_ones ro.marks ≤ ro.n
    → open_answer (bench_of ro delay rounds editions q) m lent ≡ Ok tt
    → (cs ds : List (Call A)) → LawsAfter (bench_of ro delay rounds editions q) m K cs ds

-- The quorum of a bench is the majority of its seats, which is such a q.
abbrev pub NoMajorityRunSplitsTheRecord : {A : Type 0} → Kind A → Type 0
NoMajorityRunSplitsTheRecord {A} K =
    (ro : Roster) (m : Ranking) (delay rounds editions : ℕ) (lent : Tables A)
    → Lawful m
    → open_answer (bench_of ro delay rounds editions (majority_of ro.n)) m lent ≡ Ok tt
    → (cs ds : List (Call A)) → LawsAfter (bench_of ro delay rounds editions (majority_of ro.n)) m K cs ds

-- A refused call changes nothing: of any bench, on any tables.
abbrev pub RefusalsChangeNothing : {A : Type 0} → Kind A → Type 0
RefusalsChangeNothing {A} K = (b : Bench) (c : Call A) (t : Tables A) (f : BenchFault) → (call b K c t).answer ≡ Err f → (call b K c t).tables ≡ t

-- No call changes the order rows: they stay as the opening copied them out.
abbrev pub OrderRowsStay : {A : Type 0} → Kind A → Type 0
OrderRowsStay {A} K = (b : Bench) (c : Call A) (t : Tables A) → (call b K c t).tables.orders ≡ t.orders
