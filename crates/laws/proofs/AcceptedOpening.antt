-- An accepted opening gives a proper setup, whose ranks are those that the beacon means.
use Rattle.std.proofs.Common.{◌≡◌, ℕ, ◌+◌, ◌-◌, ◌<◌, ◌≤◌, Bool, true, false, cond, ◌&&◌, T, eqb, ltb, leb, List, [], length, get_or, Ok, Err, Result, refl, ap, ◌∙◌, subst, le_trans, arith, le→leb, eqb→eq, ltb→lt, leb→le}
use lib.Count.{ones}
use Rattle.std.proofs.lemmas.List.{get_or-map}
use Rattle.orders.specs.Ranking.{Order, Ranking, Lawful, covers}
use Rattle.orders.specs.Rows.{numbers, order_row, order_rows}
use Rattle.orders.proofs.Orders.{order_same}
use Rattle.orders.proofs.Rows.{length_numbers, get_or-numbers, order_row_at}
use Rattle.roster.specs.declared.roster.Roster.{Roster}
use Rattle.rules.specs.declared.fault.BenchFault.{BenchFault}
use Rattle.rules.specs.declared.fault.BenchFault.TheVariants.{DelayOutOfRange, RoundOutOfRange, EditionOutOfRange, TableLength}
use Rattle.rules.specs.Setup.{Bench, setup_with}
use Rattle.rules.specs.Ranks.{rank_at}
use Rattle.rules.specs.Tables.{Tables, setup_at, fits}
use Rattle.rules.specs.Opening.{bench_of, within, serves, open_answer}
use Rattle.laws.proofs.Tests.{both_l, both_r}
use Rattle.laws.proofs.BenchView.{Proper}

-- a test that was passed on the way to an acceptance
passed : (b : Bool) (x : Result (Unit {0}) BenchFault) (f : BenchFault) → cond b x (Err f) ≡ Ok tt → T b × (x ≡ Ok tt)
passed true x f e = (tt, e)
passed false x f e = absurd (subst IsErr e tt)
  where
    IsErr : Result (Unit {0}) BenchFault → Type 0
    IsErr (Ok u) = ⊥
    IsErr (Err g) = Unit {0}

-- what was tested
pub record Accepted (b : Bench) (m : Ranking) : Type 0 where
  pub delay : 1 ≤ b.delay
  pub rounds : 1 ≤ b.rounds
  pub editions : 1 ≤ b.editions
  pub seats : m.seats ≡ b.n
  pub covered : b.rounds ≤ m.rounds

-- by the tests of an opening, one after the other
pub accepted : {A : Type 0} (b : Bench) (m : Ranking) (t : Tables A) → open_answer b m t ≡ Ok tt → Accepted b m
unfolding open_answer
accepted b m t e = record {
  delay = pos b.delay 1000 d.0;
  rounds = pos b.rounds 256 (both_l (within b.rounds 256) (serves m b) r.0);
  editions = pos b.editions 8 ed.0;
  seats = eqb→eq m.seats b.n (both_l (eqb m.seats b.n) (leb b.rounds m.rounds) served);
  covered = leb→le b.rounds m.rounds (both_r (eqb m.seats b.n) (leb b.rounds m.rounds) served);
}
  where
    pos : (y limit : ℕ) → T (within y limit) → 1 ≤ y
    pos y limit q = ltb→lt 0 y (both_l (ltb 0 y) (leb y limit) q)

    x3 : Result (Unit {0}) BenchFault
    x3 = cond (fits (setup_at b t) t) (Ok tt) (Err TableLength)

    x2 : Result (Unit {0}) BenchFault
    x2 = cond (within b.editions 8) x3 (Err EditionOutOfRange)

    x1 : Result (Unit {0}) BenchFault
    x1 = cond (cond (within b.rounds 256) (serves m b) false) x2 (Err RoundOutOfRange)

    d : T (within b.delay 1000) × (x1 ≡ Ok tt)
    d = passed (within b.delay 1000) x1 DelayOutOfRange e

    r : T (cond (within b.rounds 256) (serves m b) false) × (x2 ≡ Ok tt)
    r = passed (cond (within b.rounds 256) (serves m b) false) x2 RoundOutOfRange d.1

    ed : T (within b.editions 8) × (x3 ≡ Ok tt)
    ed = passed (within b.editions 8) x3 EditionOutOfRange r.1

    served : T (serves m b)
    served = both_r (within b.rounds 256) (serves m b) r.0

-- the ranks in the order rows are those that the beacon means
pub rank_is : (b : Bench) (m : Ranking) → Lawful m → Accepted b m → (r i : ℕ) → 1 ≤ r → r ≤ b.rounds → i < b.n
    → rank_at (setup_with b (order_rows m b.rounds)) r i ≡ m.rank r i
rank_is b m law a r i p top li =
    let x : r - 1 < b.rounds = omega arith in
    let ls : r - 1 < length (numbers 1 b.rounds) = omega (arith, length_numbers 1 b.rounds) in
    let e : 1 + (r - 1) ≡ r = omega arith in
    let row : get_or (order_rows m b.rounds) (r - 1) [] ≡ order_row m r =
    get_or-map (order_row m) (numbers 1 b.rounds) (r - 1) 0 [] ls ∙ ap (order_row m) (get_or-numbers 1 b.rounds (r - 1) x ∙ e) in
    ap (λ (y : List ℕ). get_or y i 0) row ∙ order_row_at m r i law.sixteen covered (omega (arith, a.seats))
  where
    covered : covers m r ≡ true
    covered = go (leb 1 r) (leb r m.rounds) (le→leb 1 r p) (le→leb r m.rounds (le_trans top a.covered))
      where
        go : (x y : Bool) → T x → T y → (x && y) ≡ true
        go true true p q = refl
        go true false p q = absurd q
        go false y p q = absurd p

-- with a roster and a lawful beacon the setup is proper
pub proper : (ro : Roster) (m : Ranking) (delay rounds editions q : ℕ) → Lawful m → ones ro.marks < q → q + ones ro.marks ≤ ro.n
    → Accepted (bench_of ro delay rounds editions q) m → Proper (setup_with (bench_of ro delay rounds editions q) (order_rows m rounds))
proper ro m delay rounds editions q law some enough a = record {
  seats = omega (arith, some, enough);
  marks = ro.seats_only;
  delay = a.delay;
  rounds = a.rounds;
  editions = a.editions;
  some_honest = some;
  honest_enough = enough;
  orders = λ r p top.
      let o = subst (λ (n : ℕ). Order n (m.rank r)) a.seats (law.orders r p (le_trans top a.covered)) in
      order_same ro.n (m.rank r) (rank_at (setup_with (bench_of ro delay rounds editions q) (order_rows m rounds)) r) o
      (λ i li. rank_is (bench_of ro delay rounds editions q) m law a r i p top li);
}
