-- All votes of one reaction are one step: a loop that writes, for each block chosen, the vote and the own signature.
use Rattle.std.proofs.Common.{◌≡◌, ℕ, Some, None, is_some, unwrap_or, zero, suc, ◌+◌, ◌-◌, ◌*◌, ◌^◌, ◌<◌, ◌≤◌, Bool, true, false, cond, T, ltb, ◌⊎◌, length, get_or, set, sym, refl, ap, ◌∙◌, subst, ⊎_elim, le_refl, arith, lt→ltb}
use Rattle.records.specs.Kind.{Kind}
use Rattle.rules.specs.declared.rows.VoteRow.{VoteRow}
use Rattle.rules.specs.Loops.{upto, writes}
use Rattle.rules.specs.Sets.{bit}
use Rattle.rules.specs.Setup.{Setup, block_round, block_rows, round_start, round_width}
use Rattle.rules.specs.Ranks.{rank}
use Rattle.rules.specs.Tables.{Tables, no_vote, nothing_received, received_at, valid, with_votes, has_signed, signing_tick}
use Rattle.rules.specs.Holding.{receive_row}
use Rattle.rules.specs.VotingChoice.{holds_valid, voting_choice}
use Rattle.rules.specs.Seat.{vote_at_rank, vote_for, vote_row}
use Rattle.laws.proofs.Sets.{bit-bit_or, bit_other}
use Rattle.laws.proofs.View.{NotarisedAt, Terms, View}
use Rattle.laws.proofs.Discipline.{Step, Votes}
use Rattle.laws.proofs.Moves.{messages_step}
use Rattle.laws.proofs.Tests.{both, both_l, both_r, or_case, or_l}
use Rattle.laws.proofs.Rows.{row_one}
use Rattle.laws.proofs.Writes.{writes_cases, writes_done, writes_keep, writes_length}
use Rattle.laws.proofs.BenchView.{Proper, terms_of, view}
use Rattle.laws.proofs.Numbering.{in_round, round_in, round_room, row_room}
use Rattle.laws.proofs.Seats.{few, honest_below}
use Rattle.laws.proofs.VotingChoice.{choice_held, choice_same}

-- a signed row stays ..
vote_kept : (clock : ℕ) (a : VoteRow) → T (has_signed a) → vote_row clock a ≡ a
vote_kept clock a = elim a.sent as (λ x. T (is_some x) → vote_row clock (record { sent = x }) ≡ record { sent = x }) [ Some x ↦ λ t. refl | None ↦ λ t. absurd t ]

-- .. and any other gets this tick
vote_new : (clock : ℕ) (a : VoteRow) → (T (has_signed a) → ⊥) → signing_tick (vote_row clock a) ≡ clock
vote_new clock a = elim a.sent as (λ x. (T (is_some x) → ⊥) → unwrap_or x clock ≡ clock) [ Some x ↦ λ n. absurd (n tt) | None ↦ λ n. refl ]

module _ {A : Type 0} (s : Setup) (K : Kind A) (P : Proper s) (t : Tables A) (i r low : ℕ) (li : i < s.n) (top : suc r ≤ s.rounds)
    (len_v : length t.votes ≡ block_rows s * s.n) (len_h : length t.received ≡ block_rows s * s.n) where
  abbrev start : ℕ
  start = round_start s (suc r)

  abbrev chosen : ℕ → Bool
  chosen x = voting_choice s K t i low (start + x)

  abbrev rows : ℕ → ℕ
  rows x = (start + x) * s.n + i

  -- the tables after the votes: each row that is to be written is written once
  unfoldable pub voted : Tables A
  voted = with_votes t (writes chosen rows (vote_row t.clock) no_vote t.votes (round_width s))
      (writes chosen rows (receive_row (2 ^ i)) nothing_received t.received (round_width s))

  apart : (x y : ℕ) → T (chosen x) → T (chosen y) → rows x ≡ rows y → x ≡ y
  apart x y p q e = omega (arith, (row_one s.n (start + x) (start + y) i i li li e).0)

  round_at : (x : ℕ) → x < round_width s → block_round s (start + x) ≡ suc r
  round_at x l = round_in s P r (start + x) (omega arith) (omega arith)

  room : (x : ℕ) → x < round_width s → T (chosen x) → rows x < block_rows s * s.n
  room x l q = row_room s P (start + x) i (round_room s P r (start + x) (round_at x l) top) li

  vote_case : (y : ℕ) → (get_or voted.votes y no_vote ≡ get_or t.votes y no_vote)
      ⊎ ((x : ℕ) × (x < round_width s) × T (chosen x) × (y ≡ rows x) × (get_or voted.votes y no_vote ≡ vote_row t.clock (get_or t.votes y no_vote)))
  unfolding voted
  vote_case y = writes_cases chosen rows (vote_row t.clock) no_vote t.votes apart (round_width s) (λ x l q. omega (arith, len_v, room x l q)) y

  received_case : (y : ℕ) → (get_or voted.received y nothing_received ≡ get_or t.received y nothing_received)
      ⊎ ((x : ℕ) × (x < round_width s) × T (chosen x) × (y ≡ rows x) × (get_or voted.received y nothing_received ≡ receive_row (2 ^ i) (get_or t.received y nothing_received)))
  unfolding voted
  received_case y = writes_cases chosen rows (receive_row (2 ^ i)) nothing_received t.received apart (round_width s) (λ x l q. omega (arith, len_h, room x l q)) y

  sent_at : (x : ℕ) → x < round_width s → T (chosen x) → T (has_signed (get_or voted.votes (rows x) no_vote))
  unfolding voted
  sent_at x l q = subst (λ y. T (has_signed y)) (sym (writes_done chosen rows (vote_row t.clock) no_vote t.votes apart (round_width s)
      (λ x l q. omega (arith, len_v, room x l q)) x l q)) tt

  -- the tables keep their lengths
  pub votes_size : length voted.votes ≡ length t.votes
  unfolding voted
  votes_size = writes_length chosen rows (vote_row t.clock) no_vote t.votes (round_width s)

  pub received_size : length voted.received ≡ length t.received
  unfolding voted
  received_size = writes_length chosen rows (receive_row (2 ^ i)) nothing_received t.received (round_width s)

  -- the rows of other seats stay
  pub received_other : (j c : ℕ) → j < s.n → (j ≡ i → ⊥) → get_or voted.received (c * s.n + j) nothing_received ≡ get_or t.received (c * s.n + j) nothing_received
  received_other j c l n = ⊎_elim (λ e. e) (λ u. absurd (n (row_one s.n c (start + u.0) j i l li u.3).1)) (received_case (c * s.n + j))

  -- nothing more is held
  pub held_same : (y : ℕ) → (get_or voted.received y nothing_received).held ≡ (get_or t.received y nothing_received).held
  held_same y = ⊎_elim (λ e. ap (λ a. a.held) e) (λ u. ap (λ a. a.held) u.4) (received_case y)

  -- what was chosen is signed
  pub signed : (c : ℕ) → block_round s c ≡ suc r → T (voting_choice s K t i low c) → T ((view s K voted).signed i c)
  signed c e g =
      let o = in_round s P r c e in
      let x = c - start in
      let f : start + x ≡ c = omega (arith, o.0) in
      both (ltb i s.n) (has_signed (get_or voted.votes (c * s.n + i) no_vote)) (lt→ltb i s.n li)
      (subst (λ (y : ℕ). T (has_signed (get_or voted.votes (y * s.n + i) no_vote))) f
      (sent_at x (omega (arith, o.1, o.0)) (subst (λ y. T (voting_choice s K t i low y)) (sym f) g)))

  abbrev k : Terms
  k = terms_of s

  abbrev see : Tables A → View
  see = view s K

  -- the tables but for votes and holdings
  shape : voted ≡ with_votes t voted.votes voted.received
  unfolding voted
  shape = refl

  module _ (at_r : (see t).round i ≡ suc r) (lowest : (b c : ℕ) → T (voting_choice s K t i low b) → block_round s c ≡ suc r → T (holds_valid s K t i c) → rank s b ≤ rank s c)
      (over : (see t).entered_at i ((see t).round i) + 2 * s.delay ≤ t.clock)
      (without : (c : ℕ) → block_round s c ≡ (see t).round i → NotarisedAt k (see t) i c → ⊥) where
    abbrev w : Tables A
    w = with_votes t voted.votes voted.received

    on_vote : (y : ℕ) → T (has_signed (get_or t.votes y no_vote)) → get_or voted.votes y no_vote ≡ get_or t.votes y no_vote
    on_vote y q = ⊎_elim (λ e. e) (λ u. u.4 ∙ vote_kept t.clock (get_or t.votes y no_vote) q) (vote_case y)

    received_stays : (y x : ℕ) → T (bit (get_or t.received y nothing_received).signers x) → T (bit (get_or voted.received y nothing_received).signers x)
    received_stays y x q = ⊎_elim (λ e. subst (λ a. T (bit a.signers x)) (sym e) q)
        (λ u. subst (λ a. T (bit a.signers x)) (sym u.4) (subst T (sym (bit-bit_or (get_or t.received y nothing_received).signers (2 ^ i) x))
        (or_l (bit (get_or t.received y nothing_received).signers x) (bit (2 ^ i) x) q)))
        (received_case y)

    record Chosen (j c : ℕ) : Type 0 where
      x : ℕ
      below : x < round_width s
      passes : T (chosen x)
      block : c ≡ start + x
      seat : j ≡ i

    chosen_of : (j c : ℕ) → j < s.n → (u : (x : ℕ) × (x < round_width s) × T (chosen x) × (c * s.n + j ≡ rows x)) → Chosen j c
    chosen_of j c l u = let o = row_one s.n c (start + u.0) j i l li u.3 in record { x = u.0; below = u.1; passes = u.2; block = o.0; seat = o.1 }

    signed_here : (j c : ℕ) → (h : Chosen j c) → T ((see w).signed j c)
    signed_here j c h = subst (λ (y : ℕ). T ((see w).signed y c)) (sym h.seat) (subst (λ (y : ℕ). T ((see w).signed i y)) (sym h.block)
        (both (ltb i s.n) (has_signed (get_or voted.votes (rows h.x) no_vote)) (lt→ltb i s.n li) (sent_at h.x h.below h.passes)))

    held_here : (c : ℕ) → (h : Chosen i c) → T (holds_valid s K t i c)
    held_here c h = subst (λ y. T (holds_valid s K t i y)) (sym h.block) (choice_held s K t i low (start + h.x) h.passes)

    votes : (j c : ℕ) → (h : Chosen j c) → signing_tick (get_or voted.votes (c * s.n + j) no_vote) ≡ t.clock → Votes k (see t) (see w) j c
    votes j c h now = subst (λ y. Votes k (see t) (see w) y c) (sym h.seat) (record {
      still = refl;
      here = refl;
      tick = subst (λ (y : ℕ). (signing_tick (get_or voted.votes (c * s.n + y) no_vote)) ≡ t.clock) h.seat now;
      this_round = round_is ∙ sym at_r;
      over = over;
      holds = both_l (received_at s t i c).held (valid K t c) g;
      valid = both_r (received_at s t i c).held (valid K t c) g;
      lowest = λ b hb vb e. lowest c b is_chosen (e ∙ at_r) (both (received_at s t i b).held (valid K t b) hb vb);
      without = without;
    })
      where
        h' : Chosen i c
        h' = record { x = h.x; below = h.below; passes = h.passes; block = h.block; seat = refl }

        g : T (holds_valid s K t i c)
        g = held_here c h'

        round_is : block_round s c ≡ suc r
        round_is = ap (block_round s) h.block ∙ round_at h.x h.below

        is_chosen : T (voting_choice s K t i low c)
        is_chosen = subst (λ y. T (voting_choice s K t i low y)) (sym h.block) h.passes

    step_w : Step k (see t) (see w)
    step_w = messages_step k (see t) (see w).signed (see w).signed_at (see w).held (see w).received (few s P) (record {
      signed_stays = λ j c q. both (ltb j s.n) (has_signed (get_or voted.votes (c * s.n + j) no_vote)) (both_l (ltb j s.n) (has_signed (get_or t.votes (c * s.n + j) no_vote)) q)
          (let q' = both_r (ltb j s.n) (has_signed (get_or t.votes (c * s.n + j) no_vote)) q in subst (λ a. T (has_signed a)) (sym (on_vote (c * s.n + j) q')) q');
      signed_at_same = λ j c q. ap (λ a. signing_tick a) (on_vote (c * s.n + j) (both_r (ltb j s.n) (has_signed (get_or t.votes (c * s.n + j) no_vote)) q));
      held_stays = λ j c q. subst T (sym (held_same (c * s.n + j))) q;
      received_stays = λ j c x q. received_stays (c * s.n + j) x q;
      votes = λ j c h q no_q. ⊎_elim
          (λ e. absurd (no_q (both (ltb j s.n) (has_signed (get_or t.votes (c * s.n + j) no_vote)) (both_l (ltb j s.n) (has_signed (get_or voted.votes (c * s.n + j) no_vote)) q)
          (subst (λ a. T (has_signed a)) e (both_r (ltb j s.n) (has_signed (get_or voted.votes (c * s.n + j) no_vote)) q)))))
          (λ u. votes j c (chosen_of j c (honest_below s j h) (u.0, u.1, u.2, u.3))
          (ap (λ a. signing_tick a) u.4 ∙ vote_new t.clock (get_or t.votes (c * s.n + j) no_vote)
          (λ z. no_q (both (ltb j s.n) (has_signed (get_or t.votes (c * s.n + j) no_vote)) (both_l (ltb j s.n) (has_signed (get_or voted.votes (c * s.n + j) no_vote)) q) z))))
          (vote_case (c * s.n + j));
      gets = λ j c h q no_q. absurd (no_q (subst T (held_same (c * s.n + j)) q));
      receives = λ j c x h q no_q. ⊎_elim
          (λ e. absurd (no_q (subst (λ a. T (bit a.signers x)) e q)))
          (λ u.
          let o = chosen_of j c (honest_below s j h) (u.0, u.1, u.2, u.3) in
          ⊎_elim
          (λ z. absurd (no_q z))
          (λ z. (
            subst (λ (y : ℕ). T ((see w).signed y c)) (o.seat ∙ sym (bit_other i x z)) (signed_here j c o),
            subst T (sym (held_same (c * s.n + j))) (subst (λ (y : ℕ). T (received_at s t y c).held) (sym o.seat)
                (both_l (received_at s t i c).held (valid K t c) (held_here c (record { x = o.x; below = o.below; passes = o.passes; block = o.block; seat = refl })))),
          ))
          (or_case (bit (get_or t.received (c * s.n + j) nothing_received).signers x) (bit (2 ^ i) x)
          (subst T (bit-bit_or (get_or t.received (c * s.n + j) nothing_received).signers (2 ^ i) x) (subst (λ a. T (bit a.signers x)) u.4 q))))
          (received_case (c * s.n + j));
    })

    pub step : Step k (see t) (see voted)
    step = subst (λ y. Step k (see t) (see y)) (sym shape) step_w

  -- the loop gives them
  after_turns : ℕ → Tables A
  after_turns m = with_votes t (writes chosen rows (vote_row t.clock) no_vote t.votes m) (writes chosen rows (receive_row (2 ^ i)) nothing_received t.received m)

  turns : (m : ℕ) → m ≤ round_width s → upto (λ x u. cond (voting_choice s K u i low (start + x)) (vote_for s i u (start + x)) u) t m ≡ after_turns m
  unfolding upto writes after_turns
  turns zero l = refl
  turns (suc m) l = ap (λ (u : Tables A). cond (voting_choice s K u i low (start + m)) (vote_for s i u (start + m)) u) (turns m (omega arith)) ∙ go (chosen m) test
    where
      w : Tables A
      w = after_turns m

      test : voting_choice s K w i low (start + m) ≡ chosen m
      test = choice_same s K t w i low (start + m)
          (writes_keep chosen rows (receive_row (2 ^ i)) nothing_received t.received (λ a. a.held) (λ a. refl) m
          (λ x l' q. omega (arith, len_h, room x (omega arith) q)) (rows m)) refl

      go : (b : Bool) → voting_choice s K w i low (start + m) ≡ b
          → cond (voting_choice s K w i low (start + m)) (vote_for s i w (start + m)) w
          ≡ with_votes t (cond b (set w.votes (rows m) (vote_row t.clock (get_or w.votes (rows m) no_vote))) w.votes)
          (cond b (set w.received (rows m) (receive_row (2 ^ i) (get_or w.received (rows m) nothing_received))) w.received)
      go true e = ap (λ (b : Bool). cond b (vote_for s i w (start + m)) w) e
      go false e = ap (λ (b : Bool). cond b (vote_for s i w (start + m)) w) e

  pub loop_is : vote_at_rank s K t i (suc r) low ≡ voted
  unfolding vote_at_rank voted after_turns
  loop_is = turns (round_width s) (le_refl (round_width s))

  pub voted_shape : voted ≡ with_votes t voted.votes voted.received
  voted_shape = shape
