-- Taking in a block with its ancestors and all that they carry is a run of steps.
use Rattle.std.proofs.Common.{◌≡◌, ℕ, zero, suc, ◌+◌, ◌*◌, ◌<◌, ◌≤◌, Bool, true, false, cond, T, ◌⊎◌, List, length, get_or, set, sym, refl, ◌∙◌, subst, ⊎_elim, arith, length-set}
use Rattle.std.proofs.lemmas.List.{get_or-set_same, get_or-set_other}
use Rattle.records.specs.Kind.{Kind}
use Rattle.rules.specs.declared.rows.ReceivedRow.{ReceivedRow}
use Rattle.rules.specs.Sets.{bit}
use Rattle.rules.specs.Setup.{Setup}
use Rattle.rules.specs.Tables.{Tables, no_block, nothing_received, received_at, with_received}
use Rattle.rules.specs.Holding.{hold_row, receive_row, receives, take_in}
use Rattle.laws.proofs.Sets.{bit-bit_or}
use Rattle.laws.proofs.View.{Terms, View}
use Rattle.laws.proofs.Discipline.{Holding, Run, Step}
use Rattle.laws.proofs.Discipline.Run.{next, start}
use Rattle.laws.proofs.Moves.{messages_step}
use Rattle.laws.proofs.Tests.{or_case, or_l, or_r}
use Rattle.laws.proofs.Rows.{row_one, set_cases}
use Rattle.laws.proofs.BenchView.{Proper, terms_of, view}
use Rattle.laws.proofs.Numbering.{root_only}
use Rattle.laws.proofs.Seats.{few, honest_below}

module _ {A : Type 0} (s : Setup) (K : Kind A) (P : Proper s) where
  abbrev k : Terms
  k = terms_of s

  abbrev see : Tables A → View
  see = view s K

  -- seat j, which holds block b, receives signatures on it
  pub receiving : (t : Tables A) (j b m : ℕ) → j < s.n → b * s.n + j < length t.received → T (received_at s t j b).held
      → ((x : ℕ) → T (bit m x) → T ((see t).signed x b)) → Step k (see t) (see (receives s t j b m))
  receiving t j b m lj len has sent = messages_step k (see t) (see w).signed (see w).signed_at (see w).held (see w).received (few s P) (record {
    signed_stays = λ i c q. q;
    signed_at_same = λ i c q. refl;
    held_stays = λ i c q. ⊎_elim (λ e. subst (λ y. T y.held) (sym e.1) has) (λ e. subst (λ y. T y.held) (sym e) q) (cases (c * n + i));
    received_stays = λ i c x q. ⊎_elim
        (λ e. subst (λ y. T (bit y.signers x)) (sym e.1) (subst T (sym (bit-bit_or old m x))
        (or_l (bit old x) (bit m x) (subst (λ y. T (bit (get_or t.received y nothing_received).signers x)) e.0 q))))
        (λ e. subst (λ y. T (bit y.signers x)) (sym e) q) (cases (c * n + i));
    votes = λ i c h q no_q. absurd (no_q q);
    gets = λ i c h q no_q. absurd (⊎_elim
        (λ e. no_q (subst (λ y. T (get_or t.received y nothing_received).held) (sym e.0) has))
        (λ e. no_q (subst (λ y. T y.held) e q)) (cases (c * n + i)));
    receives = λ i c x h q no_q. ⊎_elim
        (λ e.
        let o = row_one n c b i j (honest_below s i h) lj e.0 in
        let q' = subst T (bit-bit_or old m x) (subst (λ y. T (bit y.signers x)) e.1 q) in (
          ⊎_elim
              (λ a. absurd (no_q (subst (λ y. T (bit (get_or t.received y nothing_received).signers x)) (sym e.0) a)))
              (λ a. subst (λ y. T ((see t).signed x y)) (sym o.0) (sent x a))
              (or_case (bit old x) (bit m x) q'),
          subst (λ y. T y.held) (sym e.1) has,
        ))
        (λ e. absurd (no_q (subst (λ y. T (bit y.signers x)) e q))) (cases (c * n + i));
  })
    where
      n : ℕ
      n = s.n

      w : Tables A
      w = receives s t j b m

      old : ℕ
      old = (received_at s t j b).signers

      cases : (x : ℕ) → ((x ≡ b * n + j) × (get_or w.received x nothing_received ≡ receive_row m (received_at s t j b)))
          ⊎ (get_or w.received x nothing_received ≡ get_or t.received x nothing_received)
      cases x = set_cases t.received (b * n + j) (receive_row m (received_at s t j b)) nothing_received len x

  -- seat j holds block b, whose parent it holds, with all that b carries
  pub holding : (t : Tables A) (j b : ℕ) → j < s.n → b * s.n + j < length t.received → T ((see t).made b) → T ((see t).held j ((see t).parent b))
      → ((x : ℕ) → T ((see t).carried b x) → T ((see t).received j ((see t).parent b) x))
      → Step k (see t) (see (with_received t (set t.received (b * s.n + j) (hold_row (received_at s t j b)))))
  holding t j b lj len made has carried = messages_step k (see t) (see w).signed (see w).signed_at (see w).held (see w).received (few s P) (record {
    signed_stays = λ i c q. q;
    signed_at_same = λ i c q. refl;
    held_stays = λ i c q. held_stays (c * n + i) q;
    received_stays = λ i c x q. received_stays (c * n + i) x q;
    votes = λ i c h q no_q. absurd (no_q q);
    gets = λ i c h q no_q. ⊎_elim
        (λ e.
        let o = row_one n c b i j (honest_below s i h) lj e.0 in
        subst (λ y. Holding k (see w) y c) (sym o.1) (subst (Holding k (see w) j) (sym o.0) (record {
          made = made;
          parent = λ p. held_stays ((see t).parent b * n + j) has;
          carried = λ x y. received_stays ((see t).parent b * n + j) x (carried x y);
        })))
        (λ e. absurd (no_q (subst (λ y. T y.held) e q))) (cases (c * n + i));
    receives = λ i c x h q no_q. absurd (no_q (received_was (c * n + i) x q));
  })
    where
      n : ℕ
      n = s.n

      w : Tables A
      w = with_received t (set t.received (b * s.n + j) (hold_row (received_at s t j b)))

      cases : (x : ℕ) → ((x ≡ b * n + j) × (get_or w.received x nothing_received ≡ hold_row (received_at s t j b)))
          ⊎ (get_or w.received x nothing_received ≡ get_or t.received x nothing_received)
      cases x = set_cases t.received (b * n + j) (hold_row (received_at s t j b)) nothing_received len x

      held_stays : (y : ℕ) → T (get_or t.received y nothing_received).held → T (get_or w.received y nothing_received).held
      held_stays y q = ⊎_elim (λ e. subst (λ z. T z.held) (sym e.1) tt) (λ e. subst (λ z. T z.held) (sym e) q) (cases y)

      received_stays : (y x : ℕ) → T (bit (get_or t.received y nothing_received).signers x) → T (bit (get_or w.received y nothing_received).signers x)
      received_stays y x q = ⊎_elim (λ e. subst (λ z. T (bit z.signers x)) (sym e.1)
          (subst (λ z. T (bit (get_or t.received z nothing_received).signers x)) e.0 q)) (λ e. subst (λ z. T (bit z.signers x)) (sym e) q) (cases y)

      received_was : (y x : ℕ) → T (bit (get_or w.received y nothing_received).signers x) → T (bit (get_or t.received y nothing_received).signers x)
      received_was y x q = ⊎_elim (λ e. subst (λ z. T (bit (get_or t.received z nothing_received).signers x)) (sym e.0)
          (subst (λ z. T (bit z.signers x)) e.1 q)) (λ e. subst (λ z. T (bit z.signers x)) e q) (cases y)

  -- what taking in gives
  pub record Taken (t : Tables A) (h u : List ReceivedRow) (j b : ℕ) : Type 0 where
    pub run : Run k (see (with_received t h)) (see (with_received t u))
    pub held : T (get_or u (b * s.n + j) nothing_received).held
    pub size : length u ≡ length h
    pub other : (i c : ℕ) → i < s.n → (i ≡ j → ⊥) → get_or u (c * s.n + i) nothing_received ≡ get_or h (c * s.n + i) nothing_received

  module _ (t : Tables A)
      (parent_made : (b : ℕ) → T ((see t).made b) → 1 ≤ k.round_of b → T ((see t).made ((see t).parent b)))
      (parent_round : (b : ℕ) → T ((see t).made b) → 1 ≤ k.round_of b → suc (k.round_of ((see t).parent b)) ≡ k.round_of b)
      (carried_signed : (b x : ℕ) → T ((see t).made b) → 1 ≤ k.round_of b → T ((see t).carried b x) → T ((see t).signed x ((see t).parent b)))
      (j : ℕ) (lj : j < s.n) (room : (b : ℕ) → T ((see t).made b) → b * s.n + j < length t.received) where
    pub takes : (d : ℕ) (h : List ReceivedRow) (b : ℕ) → length h ≡ length t.received → T (get_or h j nothing_received).held → T ((see t).made b) → k.round_of b ≡ d
        → Taken t h (take_in s.n d t.blocks h j b) j b
    unfolding take_in
    takes zero h b len base made e = record {
      run = start;
      held = subst (λ y. T (get_or h (y * s.n + j) nothing_received).held) (sym (root_only s b e)) (subst (λ y. T (get_or h y nothing_received).held) (omega arith) base);
      size = refl;
      other = λ i c l n. refl;
    }
    takes (suc d) h b len base made e = go (takes d h p len base (parent_made b made (omega arith)) (omega (arith, parent_round b made (omega arith))))
        (get_or h (b * s.n + j) nothing_received).held refl
      where
        p : ℕ
        p = (get_or t.blocks b no_block).parent

        u : List ReceivedRow
        u = take_in s.n d t.blocks h j p

        m : ℕ
        m = (get_or t.blocks b no_block).carried

        v : Tables A
        v = with_received t u

        x : List ReceivedRow
        x = (receives s v j p m).received

        y : List ReceivedRow
        y = set x (b * s.n + j) (hold_row (get_or x (b * s.n + j) nothing_received))

        go : Taken t h u j p → (q : Bool) → (get_or h (b * s.n + j) nothing_received).held ≡ q → Taken t h (cond (get_or h (b * s.n + j) nothing_received).held h y) j b
        go ih true q = subst (λ z. Taken t h (cond z h y) j b) (sym q) (record { run = start; held = subst T (sym q) tt; size = refl; other = λ i c l n. refl })
        go ih false q = subst (λ z. Taken t h (cond z h y) j b) (sym q) (record {
          run = next (next ih.run s1) s2;
          held = subst (λ z. T z.held) (sym (get_or-set_same x (b * s.n + j) (hold_row (get_or x (b * s.n + j) nothing_received)) nothing_received room_x)) tt;
          size = length-set x (b * s.n + j) (hold_row (get_or x (b * s.n + j) nothing_received)) ∙ size_x ∙ ih.size;
          other = λ i c l n.
              get_or-set_other x (b * s.n + j) (c * s.n + i) (hold_row (get_or x (b * s.n + j) nothing_received)) nothing_received (λ q. n (row_one s.n c b i j l lj q).1)
              ∙ get_or-set_other u (p * s.n + j) (c * s.n + i) (receive_row m (get_or u (p * s.n + j) nothing_received)) nothing_received
              (λ q. n (row_one s.n c p i j l lj q).1)
              ∙ ih.other i c l n;
        })
          where
            size_x : length x ≡ length u
            size_x = length-set u (p * s.n + j) (receive_row m (get_or u (p * s.n + j) nothing_received))

            room_u : p * s.n + j < length u
            room_u = omega (arith, ih.size, len, room p (parent_made b made (omega arith)))

            room_x : b * s.n + j < length x
            room_x = omega (arith, ih.size, len, size_x, room b made)

            s1 : Step k (see v) (see (with_received t x))
            s1 = receiving v j p m lj room_u ih.held (λ z c. carried_signed b z made (omega arith) c)

            at_p : get_or x (p * s.n + j) nothing_received ≡ receive_row m (get_or u (p * s.n + j) nothing_received)
            at_p = get_or-set_same u (p * s.n + j) (receive_row m (get_or u (p * s.n + j) nothing_received)) nothing_received room_u

            s2 : Step k (see (with_received t x)) (see (with_received t y))
            s2 = holding (with_received t x) j b lj room_x made
                (subst (λ z. T z.held) (sym at_p) ih.held)
                (λ z c. subst (λ r. T (bit r.signers z)) (sym at_p) (subst T (sym (bit-bit_or (get_or u (p * s.n + j) nothing_received).signers m z))
                (or_r (bit (get_or u (p * s.n + j) nothing_received).signers z) (bit m z) c)))
