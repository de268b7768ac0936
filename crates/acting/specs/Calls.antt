-- What a call promises of the rules.
use Rattle.std.specs.Prelude.{◌≡◌, Result}
use Rattle.records.specs.Kind.{Kind}
use Rattle.rules.specs.declared.fault.BenchFault.{BenchFault}
use Rattle.rules.specs.Calls.{Outcome}
use Rattle.rules.specs.Runs.{Call, call}
use Rattle.tables.specs.View.{view, SameMemory}
use Rattle.tables.specs.declared.lent.Tables.{Tables}
use Rattle.terms.specs.Numbers.{bench_of_terms}
use Rattle.terms.specs.declared.terms.Terms.{Terms}

-- With the numbers before it and on the tables old, a call c answers r, and leaves the numbers after it and the tables new.
pub record ByTheRules {A : Type 0} (K : Kind A) (c : Call A) (r : Result (Unit {0}) BenchFault) (before after : Terms) (old new : Tables A) : Type 0 where
  -- the answer and the tables are those of the rules
  pub is : ◌≡◌ {A = Outcome A} (record { answer = r; tables = view after new }) (call (bench_of_terms before) K c (view before old))
  -- of the numbers none but the clock moves
  pub bench : bench_of_terms after ≡ bench_of_terms before
  -- the tables stay in their memory, and the order rows stay as they were
  pub same : SameMemory new old
