-- An accepted opening begins a run.
use Rattle.std.proofs.Common.{◌≡◌, ℕ, Ok, Result, sym, ap, ◌∙◌, subst}
use Rattle.numbers.specs.Quorum.{majority_of}
use Rattle.orders.specs.Ranking.{Ranking, Lawful}
use Rattle.records.specs.Kind.{Kind, IdleFollows}
use Rattle.roster.specs.declared.roster.Roster.{Roster}
use Rattle.rules.specs.declared.fault.BenchFault.{BenchFault}
use Rattle.rules.specs.Setup.{Bench}
use Rattle.rules.specs.Tables.{Tables}
use Rattle.rules.specs.Calls.{Outcome}
use Rattle.rules.specs.Opening.{bench_of, open_answer, opened, tables_by, opening}
use Rattle.tables.specs.View.{view, view_at, rows_of}
use Rattle.tables.specs.declared.lent.Tables as lent_tables
use Rattle.terms.specs.Numbers.{bench_of_terms}
use Rattle.terms.specs.declared.terms.Terms.{Terms}
use Rattle.opening.specs.declared.plan.Plan.{Plan}
use Rattle.opening.specs.Plans.{planned}
use Rattle.bench.specs.Runs.{RunBegins}
use Rattle.bench.proofs.Promises.{run_begins}

-- the tables after an accepted opening
filled : {A : Type 0} (a : Result (Unit {0}) BenchFault) (new old : Tables A) → a ≡ Ok tt → tables_by a new old ≡ new
filled a new old e = ap (λ (x : Result (Unit {0}) BenchFault). tables_by x new old) e

pub begins : {A : Type 0} (K : Kind A) → IdleFollows K → (ro : Roster) (plan : Plan) (m : Ranking) → Lawful m
    → (before : Tables A) (t : lent_tables.Tables A) (b : Terms)
    → ◌≡◌ {A = Outcome A} (record { answer = Ok tt; tables = rows_of t }) (opening (planned ro plan) m K before)
    → (bench_of_terms b ≡ planned ro plan) × (b.clock ≡ 0) → RunBegins K (bench_of_terms b) m (view b t)
begins K idles ro plan m law before t b is holds =
    let x = bench_of_terms b in
    let e : x ≡ planned ro plan = holds.0 in
    let ok : open_answer (planned ro plan) m before ≡ Ok tt = sym (ap (λ (o : Outcome _). o.answer) is) in
    let new : rows_of t ≡ opened (planned ro plan) m K =
    ap (λ (o : Outcome _). o.tables) is ∙ filled (open_answer (planned ro plan) m before) (opened (planned ro plan) m K) before ok in
    run_begins K idles x ro m before (view b t) law
    (e ∙ ap (λ (y : Bench). bench_of ro y.delay y.rounds y.editions (majority_of ro.n)) (sym e))
    (subst (λ (y : Bench). open_answer y m before ≡ Ok tt) (sym e) ok)
    (ap (λ (k : ℕ). view_at k t) holds.1 ∙ new ∙ ap (λ (y : Bench). opened y m K) (sym e))
