-- The run behind a bench: how it came to its tables, and what a call promises of that.
use Rattle.std.specs.Prelude.{◌≡◌, ℕ, List, [], ◌∷◌, ◌++◌, Ok, Result}
use Rattle.numbers.specs.Quorum.{majority_of}
use Rattle.orders.specs.Ranking.{Ranking, Lawful}
use Rattle.records.specs.Kind.{Kind}
use Rattle.roster.specs.declared.roster.Roster.{Roster}
use Rattle.rules.specs.declared.fault.BenchFault.{BenchFault}
use Rattle.rules.specs.Setup.{Bench}
use Rattle.rules.specs.Tables.{Tables, setup_at}
use Rattle.rules.specs.Opening.{bench_of, open_answer, opened}
use Rattle.rules.specs.Runs.{Call, after}
use Rattle.tables.specs.View.{view}
use Rattle.tables.specs.declared.lent.Tables as lent_tables
use Rattle.terms.specs.Numbers.{bench_of_terms}
use Rattle.terms.specs.declared.terms.Terms.{Terms}
use Rattle.laws.specs.Laws.{Laws, Honest}
use Rattle.acting.specs.Calls.{ByTheRules}
use Rattle.reading.specs.Reading.{final_chain}
use Rattle.reading.specs.Listed.{ListsFinal}

-- A run led from an opening to the tables t of bench b: the bench was opened with some roster, a beacon that gives orders, and
-- tables that were accepted, and then the calls were made, accepted or refused.
pub record RunTo {A : Type 0} (K : Kind A) (b : Bench) (t : Tables A) : Type 0 where
  pub roster : Roster
  pub ranking : Ranking
  pub lawful : Lawful ranking
  pub lent : Tables A
  pub is_bench : b ≡ bench_of roster b.delay b.rounds b.editions (majority_of roster.n)
  pub accepted : open_answer b ranking lent ≡ Ok tt
  pub calls : List (Call A)
  pub is_after : t ≡ after b K calls (opened b ranking K)

-- The call c extends the run to the tables u, and the laws hold there: agreement, with what was final after any earlier calls
-- cs of the run still final; the leader's block; and the time in a round.
pub record Extends {A : Type 0} (K : Kind A) (b : Bench) (t : Tables A) (run : RunTo K b t) (c : Call A) (u : Tables A) : Type 0 where
  pub is_after : u ≡ after b K (run.calls ++ c ∷ []) (opened b run.ranking K)
  pub laws : (cs ds : List (Call A)) → cs ++ ds ≡ run.calls ++ c ∷ [] → Laws b run.ranking K (after b K cs (opened b run.ranking K)) u

-- whatever run led to the tables t, the call c extends it to u, and the laws hold
abbrev pub LawsHoldAfter : {A : Type 0} → Kind A → Bench → Tables A → Call A → Tables A → Type 0
LawsHoldAfter K b t c u = (run : RunTo K b t) → Extends K b t run c u

-- What a call c promises: with the numbers that the bench had before it, and on the tables old, it answers r, and leaves the numbers
-- after it and the tables new.
pub record Plays {A : Type 0} (K : Kind A) (c : Call A) (r : Result (Unit {0}) BenchFault) (before after : Terms) (old new : lent_tables.Tables A) : Type 0 where
  pub rules : ByTheRules K c r before after old new
  -- whatever run led to the old tables
  pub laws : LawsHoldAfter K (bench_of_terms before) (view before old) c (view after new)

-- an opening: the tables are those of a new run, and the laws hold at once
pub record RunBegins {A : Type 0} (K : Kind A) (b : Bench) (m : Ranking) (t : Tables A) : Type 0 where
  pub is_opened : t ≡ opened b m K
  pub run : RunTo K b t
  pub laws : Laws b m K t t

-- whatever run led to the tables t, what is listed of an honest seat are its final blocks, all of them and no other
abbrev pub ShowsFinalBlocks : {A : Type 0} → Kind A → Bench → Tables A → ℕ → Type 0
ShowsFinalBlocks K b t i = RunTo K b t → Honest b i → ListsFinal b t i (final_chain (setup_at b t) t i)
