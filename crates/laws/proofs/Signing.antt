-- A signature of a Byzantine seat is a step.
use Rattle.std.proofs.Common.{◌≡◌, ℕ, ◌+◌, ◌*◌, ◌<◌, T, Some, ltb, ◌⊎◌, length, get_or, set, sym, ap, subst, ⊎_elim}
use Rattle.records.specs.Kind.{Kind}
use Rattle.rules.specs.declared.rows.VoteRow.{VoteRow}
use Rattle.rules.specs.Setup.{Setup, honest}
use Rattle.rules.specs.Tables.{Tables, no_vote, vote_at, with_votes, has_signed, signing_tick}
use Rattle.laws.proofs.View.{Terms, View}
use Rattle.laws.proofs.Discipline.{Step}
use Rattle.laws.proofs.Moves.{messages_step}
use Rattle.laws.proofs.Tests.{both, both_l, both_r}
use Rattle.laws.proofs.Rows.{row_one, set_cases}
use Rattle.laws.proofs.BenchView.{Proper, terms_of, view}
use Rattle.laws.proofs.Seats.{few, honest_below}

module _ {A : Type 0} (s : Setup) (K : Kind A) (P : Proper s) where
  abbrev k : Terms
  k = terms_of s

  abbrev see : Tables A → View
  see = view s K

  -- a Byzantine seat signs
  pub signs : (t : Tables A) (i b : ℕ) → i < s.n → (T (honest s i) → ⊥) → b * s.n + i < length t.votes → (T (has_signed (vote_at s t i b)) → ⊥)
      → Step k (see t) (see (with_votes t (set t.votes (b * s.n + i) (record { sent = Some t.clock })) t.received))
  signs t i b li bad len fresh = messages_step k (see t) (see w).signed (see w).signed_at (see w).held (see w).received (few s P) (record {
    signed_stays = λ j c q. both (ltb j n) (has_signed (get_or w.votes (c * n + j) no_vote)) (both_l (ltb j n) (has_signed (get_or t.votes (c * n + j) no_vote)) q)
        (on (c * n + j) (both_r (ltb j n) (has_signed (get_or t.votes (c * n + j) no_vote)) q));
    signed_at_same = λ j c q. keep (c * n + j) (both_r (ltb j n) (has_signed (get_or t.votes (c * n + j) no_vote)) q);
    held_stays = λ j c q. q;
    received_stays = λ j c x q. q;
    votes = λ j c h q no_q. absurd (⊎_elim
        (λ e. bad (subst (λ y. T (honest s y)) (row_one n c b j i (honest_below s j h) li e.0).1 h))
        (λ e. no_q (both (ltb j n) (has_signed (get_or t.votes (c * n + j) no_vote)) (both_l (ltb j n) (has_signed (get_or w.votes (c * n + j) no_vote)) q)
        (subst (λ y. T (has_signed y)) e (both_r (ltb j n) (has_signed (get_or w.votes (c * n + j) no_vote)) q))))
        (cases (c * n + j)));
    gets = λ j c h q no_q. absurd (no_q q);
    receives = λ j c x h q no_q. absurd (no_q q);
  })
    where
      n : ℕ
      n = s.n

      new : VoteRow
      new = record { sent = Some t.clock }

      w : Tables A
      w = with_votes t (set t.votes (b * s.n + i) (record { sent = Some t.clock })) t.received

      cases : (x : ℕ) → ((x ≡ b * n + i) × (get_or w.votes x no_vote ≡ new)) ⊎ (get_or w.votes x no_vote ≡ get_or t.votes x no_vote)
      cases x = set_cases t.votes (b * n + i) new no_vote len x

      on : (x : ℕ) → T (has_signed (get_or t.votes x no_vote)) → T (has_signed (get_or w.votes x no_vote))
      on x q = ⊎_elim (λ e. subst (λ y. T (has_signed y)) (sym e.1) tt) (λ e. subst (λ y. T (has_signed y)) (sym e) q) (cases x)

      keep : (x : ℕ) → T (has_signed (get_or t.votes x no_vote)) → signing_tick (get_or w.votes x no_vote) ≡ signing_tick (get_or t.votes x no_vote)
      keep x q = ⊎_elim (λ e. absurd (fresh (subst (λ y. T (has_signed (get_or t.votes y no_vote))) e.0 q))) (λ e. ap (λ y. signing_tick y) e) (cases x)
