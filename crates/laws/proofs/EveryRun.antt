-- The laws over every run of calls.
use Rattle.std.proofs.Common.{◌≡◌, ℕ, zero, suc, ◌≤◌, T, List, refl, ap, ◌∙◌, inl, inr, arith}
use Rattle.numbers.specs.Quorum.{majority_of}
use Rattle.orders.specs.Ranking.{Lawful, Ranking}
use Rattle.orders.specs.Rows.{order_rows}
use Rattle.records.specs.Kind.{IdleFollows, Kind}
use Rattle.rules.specs.declared.rows.Phase.{Phase}
use Rattle.rules.specs.declared.rows.Phase.TheVariants.{Resting, Voting, Waiting}
use Rattle.rules.specs.Setup.{Bench, Setup, block_owner, own_block, setup_with}
use Rattle.rules.specs.Ranks.{rank_at}
use Rattle.rules.specs.Tables.{Tables, entered_at, is_waiting, seat_at, setup_at, valid}
use Rattle.rules.specs.Opening.{bench_of, opened, opened_tables}
use Rattle.rules.specs.Runs.{Call, after}
use Rattle.laws.proofs.View.{PastWait}
use Rattle.laws.proofs.Discipline.{Run}
use Rattle.laws.proofs.ViewLaws.{LedBy, ViewLaws, every_view_run}
use Rattle.laws.proofs.Tests.{T_yes, yes_T}
use Rattle.laws.proofs.BenchView.{Proper, terms_of, view}
use Rattle.laws.proofs.Numbering.{own_owner, own_round, round_above}
use Rattle.laws.proofs.Seats.{honest_below}
use Rattle.laws.proofs.LawfulTerms.{lawful}
use Rattle.laws.proofs.OpenedTables.{is_opened}
use Rattle.laws.proofs.Sound.{Sound}
use Rattle.laws.proofs.Settled.{Settled}
use Rattle.laws.proofs.OpenedSettled.{opened_settled}
use Rattle.laws.proofs.OrderRows.{opened_orders}
use Rattle.laws.proofs.AcceptedOpening.{Accepted, accepted, proper, rank_is}
use Rattle.laws.proofs.RunsSettled.{after_settles}
use Rattle.laws.proofs.FinalChains.{final_in, final_on, notarised_on}
use Rattle.laws.specs.Laws.{Honest, WaitOver, Laws, LawsAfter, NoRunSplitsTheRecord, NoMajorityRunSplitsTheRecord}

waiting_is : (p : Phase) → T (is_waiting p) → p ≡ Waiting
waiting_is Waiting q = refl
waiting_is Voting q = absurd q
waiting_is Resting q = absurd q

module _ {A : Type 0} (b : Bench) (m : Ranking) (K : Kind A) (idles : IdleFollows K) (law : Lawful m) (a : Accepted b m)
    (P : Proper (setup_with b (order_rows m b.rounds))) where
  abbrev s : Setup
  s = setup_with b (order_rows m b.rounds)

  -- at two points of a run
  laws_at : (t u : Tables A) → Sound s K P idles t → Sound s K P idles u → Run (terms_of s) (view s K t) (view s K u) → setup_at b u ≡ s → Laws b m K t u
  laws_at t u ft fu run e = record {
    one_final_block_a_round = λ i j c d hi hj fi fj r.
        x.agreed.one_per_round i j c d (yes_T hi) (yes_T hj) (final_on s K P idles u fu i c (yes_T hi) fi) (final_on s K P idles u fu j d (yes_T hj) fj) r;
    final_stays_final = λ i c h fi. final_in s K P idles u fu i c (x.keeps_final i c (yes_T h) (final_on s K P idles t ft i c (yes_T h) fi));
    final_records_follow = λ i c h fi n.
        T_yes (valid K u c) (x.agreed.follows i c (yes_T h) (final_on s K P idles u fu i c (yes_T h) fi) (round_above s c (above c n)));
    first_alone_notarised = λ h r p top first hh c rc n.
        (led h r p top first hh).alone c rc (notarised_on s K P idles u fu c n);
    first_final_two_rounds_later = λ h r p lt first hh i hi over.
        final_in s K P idles u fu i (own_block s h r) ((led h r p (omega arith) first hh).final i (yes_T hi) lt (past_wait i (suc (suc r)) over));
    no_long_stay = λ i h l. omega (arith, entry_is i (seat_at u i).round, x.short_stays i (yes_T h) l);
    no_long_stay_before = λ i r h p l. omega (arith, entry_is i r, entry_is i (suc r), x.past_stays i r (yes_T h) p l);
  }
    where
      x : ViewLaws (terms_of s) (view s K t) (view s K u)
      x = every_view_run (terms_of s) (lawful s P) (view s K (opened_tables s K)) (is_opened s K P idles) (view s K t) (view s K u) ft.run run

      above : (c : ℕ) → (c ≡ 0 → ⊥) → 1 ≤ c
      above zero n = absurd (n refl)
      above (suc c) n = omega arith

      entry_is : (i r : ℕ) → entered_at (setup_at b u) u i r ≡ entered_at s u i r
      entry_is i r = ap (λ (y : Setup). entered_at y u i r) e

      past_wait : (i r : ℕ) → WaitOver b u i r → PastWait (terms_of s) (view s K u) i r
      past_wait i r (inl l) = inl l
      past_wait i r (inr q) = inr (q.0, λ w. q.1 (waiting_is (seat_at u i).phase w))

      led : (h r : ℕ) → 1 ≤ r → r ≤ b.rounds → m.rank r h ≡ 0 → Honest b h → LedBy (terms_of s) h r (view s K u)
      led h r p top first hh =
          let lh = honest_below s h (yes_T hh) in
          x.led h r (yes_T hh) p top (ap (λ (y : ℕ). rank_at s y (block_owner s (own_block s h r))) (own_round s P h r lh p)
          ∙ ap (rank_at s r) (own_owner s P h r lh p) ∙ rank_is b m law a r h p top lh ∙ first)

  -- what a list of calls from the opening leads to
  pub record Reached (t : Tables A) : Type 0 where
    pub settled : Settled s K P idles t
    pub setup : setup_at b t ≡ s

  -- the opening itself
  pub opened_reached : Reached (opened b m K)
  opened_reached = record { settled = opened_settled s K P idles; setup = ap (setup_with b) orders }
    where
      orders : (opened_tables s K).orders ≡ order_rows m b.rounds
      orders = opened_orders s K

  -- any calls after it
  pub after_reached : (cs : List (Call A)) (t : Tables A) → Reached t → Reached (after b K cs t)
  after_reached cs t r = let q = after_settles s K P idles b cs t r.setup r.settled in record { settled = q.0.settled; setup = q.1 }

  -- the laws, over any calls and any further calls
  pub laws_after : (cs ds : List (Call A)) → LawsAfter b m K cs ds
  laws_after cs ds =
      let t = after b K cs (opened b m K) in
      let rt = after_reached cs (opened b m K) opened_reached in
      let q = after_settles s K P idles b ds t rt.setup rt.settled in
      laws_at t (after b K ds t) rt.settled.sound q.0.settled.sound q.0.run q.1

-- The theorem.
pub no_run_splits_the_record : {A : Type 0} (K : Kind A) → IdleFollows K → NoRunSplitsTheRecord K
no_run_splits_the_record K idles ro m delay rounds editions q lent law some enough ok cs ds =
    let b = bench_of ro delay rounds editions q in
    let a = accepted b m lent ok in
    laws_after b m K idles law a (proper ro m delay rounds editions q law some enough a) cs ds

-- fewer than half of the seats are Byzantine: the majority is such a quorum
pub no_majority_run_splits_the_record : {A : Type 0} (K : Kind A) → IdleFollows K → NoMajorityRunSplitsTheRecord K
no_majority_run_splits_the_record K idles ro m delay rounds editions lent law ok cs ds =
    no_run_splits_the_record K idles ro m delay rounds editions (majority_of ro.n) lent law
    (omega (arith, ro.fewer_than_half)) (omega (arith, ro.fewer_than_half)) ok cs ds
