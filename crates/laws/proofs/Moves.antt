-- Steps by what they change: messages alone, or the clock alone. And a seat that did not act stays calm.
use Rattle.std.proofs.Common.{◌≡◌, ℕ, suc, Bool, T, sym, refl, ap, ◌∙◌, subst, le_trans, le_refl, arith}
use Rattle.laws.proofs.Counts.{count_mono}
use Rattle.laws.proofs.View.{Terms, View, FewByzantine}
use Rattle.laws.proofs.Discipline.{Calm, Holding, Votes, Ticks, Step}

-- view v with other signatures, holdings and received signatures
abbrev pub with_messages : View → (ℕ → ℕ → Bool) → (ℕ → ℕ → ℕ) → (ℕ → ℕ → Bool) → (ℕ → ℕ → ℕ → Bool) → View
with_messages v signed signed_at held received = record v { signed = signed; signed_at = signed_at; held = held; received = received }

-- What is asked of these for a step: what was there stays, and what is new has its ground.
pub record NewMessages (k : Terms) (v w : View) : Type 0 where
  pub signed_stays : (i b : ℕ) → T (v.signed i b) → T (w.signed i b)
  pub signed_at_same : (i b : ℕ) → T (v.signed i b) → w.signed_at i b ≡ v.signed_at i b
  pub held_stays : (i b : ℕ) → T (v.held i b) → T (w.held i b)
  pub received_stays : (i b s : ℕ) → T (v.received i b s) → T (w.received i b s)
  pub votes : (i b : ℕ) → T (w.honest i) → T (w.signed i b) → (T (v.signed i b) → ⊥) → Votes k v w i b
  pub gets : (j b : ℕ) → T (w.honest j) → T (w.held j b) → (T (v.held j b) → ⊥) → Holding k w j b
  pub receives : (j b s : ℕ) → T (w.honest j) → T (w.received j b s) → (T (v.received j b s) → ⊥) → T (w.signed s b) × T (w.held j b)

pub messages_step : (k : Terms) (v : View) (signed : ℕ → ℕ → Bool) (signed_at : ℕ → ℕ → ℕ) (held : ℕ → ℕ → Bool) (received : ℕ → ℕ → ℕ → Bool)
    → FewByzantine k v → NewMessages k v (with_messages v signed signed_at held received) → Step k v (with_messages v signed signed_at held received)
messages_step k v signed signed_at held received few d = record {
  clock_le = le_refl v.clock;
  honest_was = λ i h. h;
  round_le = λ i. le_refl (v.round i);
  entered_at_same = λ i r h l. refl;
  left_by_same = λ i r h l. refl;
  made_stays = λ b t. t;
  valid_same = λ b t. refl;
  parent_same = λ b t. refl;
  carried_same = λ b s t. refl;
  signed_stays = d.signed_stays;
  signed_at_same = d.signed_at_same;
  held_stays = d.held_stays;
  received_stays = d.received_stays;
  leaves = λ i h l. absurd (omega arith);
  votes = d.votes;
  gets = d.gets;
  receives = d.receives;
  ticks = λ l. absurd (omega arith);
  makes = λ b t n. absurd (n t);
  heads = λ i h n. absurd (n refl);
  ends_wait = λ i h t n. absurd (n t);
  few = few;
}

-- view v a tick later
abbrev pub later : View → View
later v = record v { clock = suc v.clock }

pub tick_step : (k : Terms) (v : View) → FewByzantine k v → Ticks k v (later v) → Step k v (later v)
tick_step k v few d = record {
  clock_le = omega arith;
  honest_was = λ i h. h;
  round_le = λ i. le_refl (v.round i);
  entered_at_same = λ i r h l. refl;
  left_by_same = λ i r h l. refl;
  made_stays = λ b t. t;
  valid_same = λ b t. refl;
  parent_same = λ b t. refl;
  carried_same = λ b s t. refl;
  signed_stays = λ i b t. t;
  signed_at_same = λ i b t. refl;
  held_stays = λ i b t. t;
  received_stays = λ i b s t. t;
  leaves = λ i h l. absurd (omega arith);
  votes = λ i b h t n. absurd (n t);
  gets = λ i b h t n. absurd (n t);
  receives = λ i b s h t n. absurd (n t);
  ticks = λ l. d;
  makes = λ b t n. absurd (n t);
  heads = λ i h n. absurd (n refl);
  ends_wait = λ i h t n. absurd (n t);
  few = few;
}

-- Seat j did not act: its round, its wait, its holdings and what it received are as before, and its signatures are still there.
pub record Untouched (k : Terms) (v w : View) (j : ℕ) : Type 0 where
  pub clock : w.clock ≡ v.clock
  pub waiting : w.waiting j ≡ v.waiting j
  pub round : w.round j ≡ v.round j
  pub entered_at : w.entered_at j (v.round j) ≡ v.entered_at j (v.round j)
  pub received : (c s : ℕ) → T (w.received j c s) → T (v.received j c s)
  pub held : (c : ℕ) → T (w.held j c) → T (w.valid c) → T (v.held j c) × T (v.valid c)
  pub signed : (b : ℕ) → T (v.signed j b) → T (w.signed j b)

pub still_calm : (k : Terms) (v w : View) (j : ℕ) → Untouched k v w j → Calm k v j → Calm k w j
still_calm k v w j u c = record {
  waiting = λ t. omega (arith, c.waiting (subst T u.waiting t), u.clock, u.entered_at, ap (w.entered_at j) u.round);
  voting = λ n l b e h. c.voting (λ t. n (subst T (sym u.waiting) t)) (omega (arith, u.round)) b (e ∙ u.round)
      (le_trans h (count_mono k.seats (w.received j b) (v.received j b) (u.received b)));
  done = λ n l b e h ok.
      let q = u.held b h ok in
      let a = c.done (λ t. n (subst T (sym u.waiting) t)) (omega (arith, u.round)) b (e ∙ u.round) q.0 q.1 in
      (a.0, u.signed a.0 a.1, a.2, a.3);
}
