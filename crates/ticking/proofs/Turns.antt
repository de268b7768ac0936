-- A wait that is due, one turn of the loop over the seats, and a tick by its answer.
use Rattle.std.proofs.Common.{◌≡◌, ℕ, ◌+◌, ◌*◌, Bool, true, false, cond, ltb, leb, Ok, Err, Result, sym, refl, ap, ◌∙◌, add-one}
use Rattle.records.specs.Kind.{Kind}
use Rattle.rules.specs.declared.fault.BenchFault.{BenchFault}
use Rattle.rules.specs.declared.fault.BenchFault.TheVariants.{TableLength, MessageOverdue, ClockStopped}
use Rattle.rules.specs.declared.rows.Phase.{Phase}
use Rattle.rules.specs.declared.rows.Phase.TheVariants.{Waiting, Voting, Resting}
use Rattle.rules.specs.Loops.{upto}
use Rattle.rules.specs.Setup.{Setup, honest}
use Rattle.rules.specs.Tables.{Tables, seat_at, entered_at, is_waiting, fits, next_tick}
use Rattle.rules.specs.Overdue.{overdue}
use Rattle.rules.specs.Calls.{Outcome, refused, done, wait_due, end_due, tick}
use Rattle.tables.proofs.Loops.{upto_more}

both_l : (x y : Bool) → cond x y false ≡ true → x ≡ true
both_l true y e = refl
both_l false y e = e

both_r : (x y : Bool) → cond x y false ≡ true → y ≡ true
both_r true y e = e
both_r false y e = ap (λ (b : Bool). cond b true y) e

waiting : (p : Phase) → is_waiting p ≡ true → p ≡ Waiting
waiting Waiting e = refl
waiting Voting e = ap (λ (b : Bool). cond b Waiting Voting) e
waiting Resting e = ap (λ (b : Bool). cond b Waiting Resting) e

-- the answer to a tick, by its three tests
abbrev pub answer : Bool → Bool → Bool → Result (Unit {0}) BenchFault
answer x y z = cond x (cond y (Err MessageOverdue) (cond z (Ok tt) (Err ClockStopped))) (Err TableLength)

module _ {A : Type 0} (s : Setup) (t : Tables A) where
  -- a seat whose wait is due waits
  pub due_waits : (i : ℕ) → wait_due s t i ≡ true → (seat_at t i).phase ≡ Waiting
  due_waits i h =
      let over = leb (entered_at s t i (seat_at t i).round + 2 * s.delay) t.clock in
      waiting (seat_at t i).phase (both_l (is_waiting (seat_at t i).phase) over (both_r (honest s i) (cond (is_waiting (seat_at t i).phase) over false) h))

  -- .. and is a seat of the bench
  pub due_seat : (i : ℕ) → wait_due s t i ≡ true → ltb i s.n ≡ true
  due_seat i h = both_l (ltb i s.n) _ (both_l (honest s i) _ h)

-- the setup is read from the tables each time, and stays
pub ended_more : {A : Type 0} (s d : Setup) (K : Kind A) (t u v : Tables A) (k : ℕ) → d ≡ s → u ≡ upto (end_due s K) t k
    → v ≡ end_due d K k u → v ≡ upto (end_due s K) t (k + 1)
ended_more s d K t u v k same so turn =
    turn ∙ ap (λ (q : Setup). end_due q K k u) same ∙ ap (end_due s K k) so ∙ sym (upto_more (end_due s K) t k)

-- the clock one tick later, as the code has it
abbrev pub later : {A : Type 0} → Tables A → Tables A
later t = record {
  clock = t.clock + 1;
  blocks = t.blocks;
  records = t.records;
  orders = t.orders;
  drafts = t.drafts;
  seats = t.seats;
  received = t.received;
  votes = t.votes;
  certificates = t.certificates;
}

-- what a tick leads to, by its answer
abbrev pub led : {A : Type 0} → Result (Unit {0}) BenchFault → Tables A → Tables A → Outcome A
led (Ok u) new old = done new
led (Err f) new old = refused f old

pub tick_is : {A : Type 0} (s : Setup) (K : Kind A) (t : Tables A)
    → tick s K t ≡ led (answer (fits s t) (overdue s t) (ltb t.clock 8000000)) (upto (end_due s K) (later t) s.n) t
unfolding tick
tick_is s K t = rw add-one (go (fits s t) (overdue s t) (ltb t.clock 8000000))
  where
    go : (x y z : Bool) → cond x (cond y (refused MessageOverdue t) (cond z (done (upto (end_due s K) (next_tick t) s.n)) (refused ClockStopped t))) (refused TableLength t)
        ≡ led (answer x y z) (upto (end_due s K) (next_tick t) s.n) t
    go true true z = refl
    go true false true = refl
    go true false false = refl
    go false y z = refl
