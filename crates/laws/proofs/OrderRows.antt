-- No call changes the order rows: they stay as the opening copied them out.
use Rattle.std.proofs.Common.{◌≡◌, ℕ, suc, ◌+◌, ◌-◌, ◌^◌, Bool, true, false, cond, leb, Some, None, Option, refl, ◌∙◌}
use Rattle.records.specs.Kind.{Kind}
use Rattle.rules.specs.declared.rows.Phase.{Phase}
use Rattle.rules.specs.declared.rows.Phase.TheVariants.{Resting, Voting, Waiting}
use Rattle.rules.specs.Loops.{first_from, upto}
use Rattle.rules.specs.Setup.{Setup, round_start, round_width}
use Rattle.rules.specs.Tables.{Tables, certificate_at, next_tick, seat_at}
use Rattle.rules.specs.Holding.{lowest_notarised, receives, takes_in}
use Rattle.rules.specs.ParentChoice.{parent_choice}
use Rattle.rules.specs.VotingChoice.{holds_valid, lowest_rank, voting_choice}
use Rattle.rules.specs.Seat.{end_wait, leave, leave_by, propose, react, react_as, react_in, vote, vote_at_rank, vote_for, vote_from, wakes}
use Rattle.rules.specs.Calls.{end_due, wait_due}
use Rattle.rules.specs.Opening.{opened_tables}
use Rattle.rules.specs.Runs.{Call, call_with}
use Rattle.rules.specs.Runs.Call.{block_call, certificate_call, offer_call, plant_call, sign_call, tick_call, vote_call}
use Rattle.laws.proofs.Loops.{upto_keeps}
use Rattle.laws.proofs.Outcomes.{block_outcome, certificate_outcome, offer_outcome, plant_outcome, sign_outcome, tick_outcome, vote_outcome}

either : {A : Type 0} (o : Tables A) (b : Bool) (x y : Tables A) → x.orders ≡ o.orders → y.orders ≡ o.orders → (cond b x y).orders ≡ o.orders
either o true x y p q = p
either o false x y p q = q

-- an opening copies them out
pub opened_orders : {A : Type 0} (s : Setup) (K : Kind A) → (opened_tables s K).orders ≡ s.orders
unfolding opened_tables
opened_orders s K = refl

module _ {A : Type 0} (s : Setup) (K : Kind A) where
  propose_orders : (t : Tables A) (i r p : ℕ) → (propose s K t i r p).orders ≡ t.orders
  unfolding propose
  propose_orders t i r p = refl

  vote_at_rank_orders : (t : Tables A) (i r low : ℕ) → (vote_at_rank s K t i r low).orders ≡ t.orders
  unfolding vote_at_rank
  vote_at_rank_orders t i r low = upto_keeps (λ (u : Tables A). u.orders ≡ t.orders)
      (λ x u. cond (voting_choice s K u i low (round_start s r + x)) (vote_for s i u (round_start s r + x)) u) t (round_width s) refl
      (λ x u l e. either u (voting_choice s K u i low (round_start s r + x)) (vote_for s i u (round_start s r + x)) u refl refl ∙ e)

  vote_orders : (t : Tables A) (i r : ℕ) → (vote s K t i r).orders ≡ t.orders
  unfolding vote
  vote_orders t i r = go (first_from (holds_valid s K t i) (round_start s r) (round_width s))
    where
      go : (x : Option ℕ) → (vote_from s K t i r x).orders ≡ t.orders
      go None = refl
      go (Some c) = vote_at_rank_orders t i r (lowest_rank s K t i r c)

  leave_orders : (t : Tables A) (i r c : ℕ) → (leave s K t i r c).orders ≡ t.orders
  unfolding leave
  leave_orders t i r c = either t (leb (suc (suc r)) s.rounds) (propose s K t i (suc (suc r)) (parent_choice s t i (suc r) c)) t
      (propose_orders t i (suc (suc r)) (parent_choice s t i (suc r) c)) refl

  react_in_orders : (t : Tables A) (i r : ℕ) → (react_in s K t i r).orders ≡ t.orders
  unfolding react_in
  react_in_orders t i r = go (lowest_notarised s t i (suc r)) (lowest_notarised s u i (suc r))
    where
      u : Tables A
      u = vote s K t i (suc r)

      go : (x y : Option ℕ) → (leave_by s K t i r x (leave_by s K u i r y u)).orders ≡ t.orders
      go (Some c) y = leave_orders t i r c
      go None (Some c) = leave_orders u i r c ∙ vote_orders t i (suc r)
      go None None = vote_orders t i (suc r)

  react_orders : (t : Tables A) (i : ℕ) → (react s K t i).orders ≡ t.orders
  unfolding react
  react_orders t i = go (seat_at t i).phase
    where
      go : (x : Phase) → (react_as s K t i x).orders ≡ t.orders
      go Waiting = refl
      go Voting = react_in_orders t i ((seat_at t i).round - 1)
      go Resting = refl

  end_wait_orders : (t : Tables A) (i : ℕ) → (end_wait s K t i).orders ≡ t.orders
  unfolding end_wait
  end_wait_orders t i = react_orders (wakes s K t i) i

  ticked_orders : (t : Tables A) → (upto (end_due s K) (next_tick t) s.n).orders ≡ t.orders
  ticked_orders t = upto_keeps (λ (u : Tables A). u.orders ≡ t.orders) (end_due s K) (next_tick t) s.n refl
      (λ x u l e. either u (wait_due s u x) (end_wait s K u x) u (end_wait_orders u x) refl ∙ e)

  -- whatever the call
  pub orders_stay : (c : Call A) (t : Tables A) → (call_with s K c t).tables.orders ≡ t.orders
  orders_stay tick_call t = tick_outcome s K t (λ o. o.tables.orders ≡ t.orders) (λ f. refl) (ticked_orders t)
  orders_stay (offer_call i d) t = offer_outcome s K t (λ o. o.tables.orders ≡ t.orders) (λ f. refl) i d refl
  orders_stay (block_call j b) t = block_outcome s K t (λ o. o.tables.orders ≡ t.orders) (λ f. refl) j b (react_orders (takes_in s t j b) j)
  orders_stay (vote_call i j b) t = vote_outcome s K t (λ o. o.tables.orders ≡ t.orders) (λ f. refl) i j b
      (react_orders (receives s (takes_in s t j b) j b (2 ^ i)) j)
  orders_stay (certificate_call i j r) t =
      let row = certificate_at s t i (suc (r - 1)) in
      certificate_outcome s K t (λ o. o.tables.orders ≡ t.orders) (λ f. refl) i j r
      (react_orders (receives s (takes_in s t j row.block) j row.block row.signers) j)
  orders_stay (plant_call i r e p x) t = plant_outcome s K t (λ o. o.tables.orders ≡ t.orders) (λ f. refl) i r e p x refl
  orders_stay (sign_call i b) t = sign_outcome s K t (λ o. o.tables.orders ≡ t.orders) (λ f. refl) i b refl
