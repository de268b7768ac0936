-- Deadlines: from the laws, and from what holds of a seat that waits.
use Rattle.std.proofs.Common.{◌≡◌, ℕ, zero, suc, ◌+◌, ◌*◌, ◌<◌, ◌≤◌, T, [], sym, refl, ap, subst, inl, inr, mul-le-mul_right, arith}
use native.Mathlib.Decide.{dec_le, ℕ_discrete}
use Rattle.orders.specs.Ranking.{Lawful, Ranking}
use Rattle.orders.specs.Rows.{order_rows}
use Rattle.records.specs.Kind.{IdleFollows, Kind}
use Rattle.rules.specs.declared.rows.Phase.{Phase}
use Rattle.rules.specs.declared.rows.Phase.TheVariants.{Waiting}
use Rattle.rules.specs.Setup.{Bench, Setup, setup_with}
use Rattle.rules.specs.Tables.{Tables, entered_at, is_waiting, seat_at}
use Rattle.rules.specs.Overdue.{late}
use Rattle.rules.specs.Opening.{bench_of, opened}
use Rattle.rules.specs.Runs.{after}
use Rattle.laws.proofs.Tests.{yes_T}
use Rattle.laws.proofs.BenchView.{Proper}
use Rattle.laws.proofs.Sound.{timing_of}
use Rattle.laws.proofs.AcceptedOpening.{Accepted, accepted, proper}
use Rattle.laws.proofs.EveryRun.{Reached, after_reached, laws_after, opened_reached}
use Rattle.laws.specs.Laws.{Honest, WaitOver, entry, longest_stay, NoLongStay, NoLongStayBefore, Laws}
use Rattle.laws.specs.Deadlines.{last_tick_in, final_tick_of, InTime, EveryRunIsInTime}

-- from the laws of the stay, for one seat
module _ {A : Type 0} (b : Bench) (t : Tables A) (now : NoLongStay b t) (before : NoLongStayBefore b t) (i : ℕ) (h : Honest b i) where
  -- round r + 1 was entered by the last tick of round r
  entered_by : (r : ℕ) → suc r ≤ (seat_at t i).round → entry b t i (suc r) ≤ last_tick_in b r
  entered_by zero l = omega arith
  entered_by (suc r) l = omega (arith, entered_by r (omega arith), before i (suc r) h (omega arith) l)

  -- after the last tick of round r the seat is past it
  pub past_by : (r : ℕ) → r ≤ b.rounds → last_tick_in b r < t.clock → 1 ≤ (seat_at t i).round → r < (seat_at t i).round
  past_by r top late pos = go (dec_le (suc r) (seat_at t i).round)
    where
      go : Dec (suc r ≤ (seat_at t i).round) → r < (seat_at t i).round
      go (yes l) = l
      go (no n) = absurd (at (seat_at t i).round refl)
        where
          at : (x : ℕ) → (seat_at t i).round ≡ x → ⊥
          at zero e = omega (arith, pos, e)
          at (suc x) e =
              let stay = now i h (omega (arith, n, top)) in
              let ent = entered_by x (omega (arith, e)) in
              let same = ap (entry b t i) e in
              omega (arith, stay, ent, same, late, mul-le-mul_right (longest_stay b) (le x e))
            where
              le : (x : ℕ) → (seat_at t i).round ≡ suc x → suc x ≤ r
              le x e = omega (arith, n, e)

-- at the end of every call, of an honest seat that waits
module _ {A : Type 0} (b : Bench) (m : Ranking) (K : Kind A) (idles : IdleFollows K) (law : Lawful m) (a : Accepted b m)
    (P : Proper (setup_with b (order_rows m b.rounds))) (t : Tables A) (r : Reached b m K idles law a P t) where
  abbrev s : Setup
  s = setup_with b (order_rows m b.rounds)

  pub waits_end : (i : ℕ) → Honest b i → (seat_at t i).phase ≡ Waiting → t.clock < entry b t i (seat_at t i).round + 2 * b.delay
  waits_end i h w =
      let calm = r.settled.calm i (yes_T h) in
      let same = ap (λ (y : Setup). entered_at y t i (seat_at t i).round) r.setup in
      omega (arith, same, calm.waiting (subst (λ (p : Phase). T (is_waiting p)) (sym w) tt))

  -- all deadlines
  pub in_time : Laws b m K t t → InTime b m t
  in_time x = record {
    waits_end = waits_end;
    rounds_end = λ i r h top late. past i r h top late;
    first_final = λ h i r hh hi p lt first by.
        x.first_final_two_rounds_later h r p lt first hh i hi (over i (suc (suc r)) hi (past i (suc r) hi lt (omega (arith, by, a.delay))) (past_wait i r hi by));
  }
    where
      past : (i r : ℕ) → Honest b i → r ≤ b.rounds → last_tick_in b r < t.clock → r < (seat_at t i).round
      past i q h top late = past_by b t x.no_long_stay x.no_long_stay_before i h q top late ((timing_of s K P idles t r.settled.sound).round_pos i (yes_T h))

      past_wait : (i q : ℕ) → Honest b i → final_tick_of b q ≤ t.clock → suc (suc q) ≡ (seat_at t i).round → (seat_at t i).phase ≡ Waiting → ⊥
      past_wait i q h by e w =
          let ent = entered_by b t x.no_long_stay x.no_long_stay_before i h (suc q) (omega (arith, e)) in
          omega (arith, ent, ap (entry b t i) e, by, waits_end i h w)

      over : (i q : ℕ) → Honest b i → q ≤ (seat_at t i).round → (q ≡ (seat_at t i).round → (seat_at t i).phase ≡ Waiting → ⊥) → WaitOver b t i q
      over i q h l n = go (ℕ_discrete q (seat_at t i).round)
        where
          go : Dec (q ≡ (seat_at t i).round) → WaitOver b t i q
          go (yes e) = inr (e, n e)
          go (no d) = inl (omega (arith, d))

-- in every run
pub every_run_is_in_time : {A : Type 0} (K : Kind A) → IdleFollows K → EveryRunIsInTime K
unfolding after
every_run_is_in_time K idles ro m delay rounds editions q lent law some enough ok cs =
    let b = bench_of ro delay rounds editions q in
    let a = accepted b m lent ok in
    let P = proper ro m delay rounds editions q law some enough a in
    let r = after_reached b m K idles law a P cs (opened b m K) (opened_reached b m K idles law a P) in
    in_time b m K idles law a P (after b K cs (opened b m K)) r (laws_after b m K idles law a P cs [])
