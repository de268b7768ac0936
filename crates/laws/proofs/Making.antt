-- A new block is a step.
use Rattle.std.proofs.Common.{◌≡◌, ℕ, suc, ◌<◌, ◌≤◌, true, T, ◌⊎◌, length, sym, refl, ap, ◌∙◌, subst, ⊎_elim, le_refl, arith}
use Rattle.std.proofs.lemmas.List.{get_or-set_same}
use Rattle.records.specs.Kind.{Kind}
use Rattle.rules.specs.declared.rows.BlockRow.{BlockRow}
use Rattle.rules.specs.Sets.{bit}
use Rattle.rules.specs.Counting.{count}
use Rattle.rules.specs.Setup.{Setup, block_owner, block_round, honest, own_block}
use Rattle.rules.specs.Tables.{Tables, block_at, no_block, record_at}
use Rattle.rules.specs.Seat.{with_block}
use Rattle.laws.proofs.View.{Terms, View}
use Rattle.laws.proofs.Discipline.{Makes, Step}
use Rattle.laws.proofs.Rows.{set_cases}
use Rattle.laws.proofs.BenchView.{Proper, terms_of, view}
use Rattle.laws.proofs.Seats.{few}

module _ {A : Type 0} (s : Setup) (K : Kind A) (P : Proper s) where
  abbrev k : Terms
  k = terms_of s

  abbrev see : Tables A → View
  see = view s K

  -- a new block
  pub making : (t : Tables A) (b p m : ℕ) (x : A) → b < length t.blocks → b < length t.records → (T ((see t).made b) → ⊥)
      → ((c : ℕ) → T ((see t).made c) → T ((see t).made ((see t).parent c)))
      → 1 ≤ block_round s b → T ((see t).made p) → suc (block_round s p) ≡ block_round s b
      → (2 ≤ block_round s b → s.quorum ≤ count s.n (bit m)) → ((y : ℕ) → T (bit m y) → T ((see t).signed y p))
      → (T (honest s (block_owner s b)) → (b ≡ own_block s (block_owner s b) (block_round s b)) × T (K.follows x (record_at K t p)))
      → Step k (see t) (see (with_block t b p m x))
  making t b p m x len_b len_r fresh parents pos made round_is quorum sigs own = record {
    clock_le = le_refl t.clock;
    honest_was = λ j h. h;
    round_le = λ j. le_refl ((see t).round j);
    entered_at_same = λ j r h l. refl;
    left_by_same = λ j r h l. refl;
    made_stays = λ c q. subst (λ y. T y.made) (sym (same c q)) q;
    valid_same = λ c q. ap (λ y. K.follows (record_at K w c) (record_at K w y.parent)) (same c q)
        ∙ ap (λ y. K.follows y (record_at K w ((see t).parent c))) (same_record c q) ∙ ap (K.follows (record_at K t c)) (same_record ((see t).parent c) (parents c q));
    parent_same = λ c q. ap (λ y. y.parent) (same c q);
    carried_same = λ c z q. ap (λ y. bit y.carried z) (same c q);
    signed_stays = λ j c q. q;
    signed_at_same = λ j c q. refl;
    held_stays = λ j c q. q;
    received_stays = λ j c z q. q;
    leaves = λ j h lt. absurd (omega arith);
    votes = λ j c h q no_q. absurd (no_q q);
    gets = λ j c h q no_q. absurd (no_q q);
    receives = λ j c z h q no_q. absurd (no_q q);
    ticks = λ l. absurd (omega arith);
    makes = λ c q no_q. ⊎_elim
        (λ e. subst (Makes k (see t) (see w)) (sym e.0) it)
        (λ e. absurd (no_q (subst (λ y. T y.made) e q))) (cases c);
    heads = λ j h no_q. absurd (no_q refl);
    ends_wait = λ j h q no_q. absurd (no_q q);
    few = few s P;
  }
    where
      row : BlockRow
      row = record { made = true; parent = p; carried = m }

      w : Tables A
      w = with_block t b p m x

      cases : (c : ℕ) → ((c ≡ b) × (block_at w c ≡ row)) ⊎ (block_at w c ≡ block_at t c)
      cases c = set_cases t.blocks b row no_block len_b c

      same : (c : ℕ) → T ((see t).made c) → block_at w c ≡ block_at t c
      same c q = ⊎_elim (λ e. absurd (fresh (subst (λ y. T ((see t).made y)) e.0 q))) (λ e. e) (cases c)

      same_record : (c : ℕ) → T ((see t).made c) → record_at K w c ≡ record_at K t c
      same_record c q = ⊎_elim (λ e. absurd (fresh (subst (λ y. T ((see t).made y)) e.0 q))) (λ e. e) (set_cases t.records b x K.first len_r c)

      here : block_at w b ≡ row
      here = get_or-set_same t.blocks b row no_block len_b

      new_record : record_at K w b ≡ x
      new_record = get_or-set_same t.records b x K.first len_r

      by : (see w).parent b ≡ p
      by = ap (λ y. y.parent) here

      it : Makes k (see t) (see w) b
      it = record {
        round_pos = pos;
        parent_made = subst (λ y. T ((see t).made y)) (sym by) made;
        parent_round = ap (λ y. suc (block_round s y)) by ∙ round_is;
        carried_quorum = λ l. subst (λ y. s.quorum ≤ count s.n (bit y.carried)) (sym here) (quorum l);
        carried_signed = λ y q. subst (λ z. T ((see t).signed y z)) (sym by) (sigs y (subst (λ z. T (bit z.carried y)) here q));
        honest_own = λ h. let o = own h in (
          o.0,
          subst (λ y. T (K.follows y (record_at K w ((see w).parent b)))) (sym new_record)
              (subst (λ y. T (K.follows x y)) (sym (ap (record_at K w) by ∙ same_record p made)) o.1),
        );
      }
