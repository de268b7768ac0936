-- Every call extends the run behind its bench, and the laws hold after it.
use Rattle.std.proofs.Common.{◌≡◌, List, [], ◌∷◌, ◌++◌, Ok, Result, sym, refl, ap, ◌∙◌, subst}
use Rattle.numbers.specs.Quorum.{majority_of}
use Rattle.orders.specs.Ranking.{Ranking, Lawful}
use Rattle.records.specs.Kind.{Kind, IdleFollows}
use Rattle.roster.specs.declared.roster.Roster.{Roster}
use Rattle.rules.specs.declared.fault.BenchFault.{BenchFault}
use Rattle.rules.specs.Setup.{Bench}
use Rattle.rules.specs.Tables.{Tables}
use Rattle.rules.specs.Calls.{Outcome}
use Rattle.rules.specs.Opening.{bench_of, open_answer, opened}
use Rattle.rules.specs.Runs.{Call, call, after}
use Rattle.tables.specs.View.{view}
use Rattle.tables.specs.declared.lent.Tables as lent_tables
use Rattle.terms.specs.Numbers.{bench_of_terms}
use Rattle.terms.specs.declared.terms.Terms.{Terms}
use Rattle.laws.specs.Laws.{Laws, LawsAfter}
use Rattle.laws.proofs.EveryRun.{no_majority_run_splits_the_record}
use Rattle.acting.specs.Calls.{ByTheRules}
use Rattle.bench.specs.Runs.{RunTo, LawsHoldAfter, Plays, RunBegins}

module _ {A : Type 0} (K : Kind A) (b : Bench) where
  -- one list of calls after another
  after_both : (cs ds : List (Call A)) (t : Tables A) → after b K (cs ++ ds) t ≡ after b K ds (after b K cs t)
  unfolding after
  after_both [] ds t = refl
  after_both (c ∷ cs) ds t = after_both cs ds (call b K c t).tables

  after_one : (c : Call A) (t : Tables A) → after b K (c ∷ []) t ≡ (call b K c t).tables
  unfolding after
  after_one c t = refl

-- the laws, of the run behind a bench
run_laws : {A : Type 0} (K : Kind A) → IdleFollows K → (b : Bench) (t : Tables A) (run : RunTo K b t) (cs ds : List (Call A)) → LawsAfter b run.ranking K cs ds
run_laws K idles b t run cs ds =
    subst (λ (x : Bench). LawsAfter x run.ranking K cs ds) (sym run.is_bench)
    (no_majority_run_splits_the_record K idles run.roster run.ranking b.delay b.rounds b.editions run.lent run.lawful
    (subst (λ (x : Bench). open_answer x run.ranking run.lent ≡ Ok tt) run.is_bench run.accepted) cs ds)

pub laws_hold_after : {A : Type 0} (K : Kind A) → IdleFollows K → (b : Bench) (t : Tables A) (c : Call A) (u : Tables A) {r : Result (Unit {0}) BenchFault}
    → ◌≡◌ {A = Outcome A} (record { answer = r; tables = u }) (call b K c t) → LawsHoldAfter K b t c u
laws_hold_after K idles b t c u is run =
    let o = opened b run.ranking K in
    let led : u ≡ after b K (run.calls ++ c ∷ []) o =
    ap (λ (x : Outcome _). x.tables) is ∙ ap (λ (x : Tables _). (call b K c x).tables) run.is_after
    ∙ sym (after_one K b c (after b K run.calls o)) ∙ sym (after_both K b run.calls (c ∷ []) o) in
    record {
      is_after = led;
      laws = λ cs ds e. subst (λ (x : Tables _). Laws b run.ranking K (after b K cs o) x)
          (sym (after_both K b cs ds o) ∙ ap (λ (x : List _). after b K x o) e ∙ sym led)
          (run_laws K idles b t run cs ds);
    }

pub plays : {A : Type 0} {K : Kind A} → IdleFollows K → {c : Call A} {r : Result (Unit {0}) BenchFault} {before after : Terms} {old new : lent_tables.Tables A}
    → ByTheRules K c r before after old new → Plays K c r before after old new
plays {K = K} idles {c = c} {before = before} {after = after} {old = old} {new = new} by =
    record { rules = by; laws = laws_hold_after K idles (bench_of_terms before) (view before old) c (view after new) by.is }

-- a run that begins
pub run_begins : {A : Type 0} (K : Kind A) → IdleFollows K → (b : Bench) (ro : Roster) (m : Ranking) (lent t : Tables A) → Lawful m
    → b ≡ bench_of ro b.delay b.rounds b.editions (majority_of ro.n) → open_answer b m lent ≡ Ok tt → t ≡ opened b m K → RunBegins K b m t
unfolding after
run_begins K idles b ro m lent t law is_bench ok is =
    let run : RunTo K b t = record {
      roster = ro;
      ranking = m;
      lawful = law;
      lent = lent;
      is_bench = is_bench;
      accepted = ok;
      calls = [];
      is_after = is;
    } in
    record {
      is_opened = is;
      run = run;
      laws = subst (λ (x : Tables _). Laws b m K x x) (sym is) (run_laws K idles b t run [] []);
    }
