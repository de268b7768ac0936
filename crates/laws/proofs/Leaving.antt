-- Leaving a round: the proposal, the certificate, the seat's row.
use Rattle.std.proofs.Common.{◌≡◌, ℕ, zero, suc, ◌+◌, ◌*◌, ◌<◌, ◌≤◌, false, cond, T, ltb, leb, ◌⊎◌, length, get_or, sym, refl, ap, ◌∙◌, subst, inl, inr, ⊎_elim, arith, length-set}
use native.Mathlib.Decide.{ℕ_discrete}
use Rattle.std.proofs.lemmas.List.{get_or-set_same, get_or-set_other}
use Rattle.records.specs.Kind.{IdleFollows, Kind}
use Rattle.rules.specs.declared.rows.CertificateRow.{CertificateRow}
use Rattle.rules.specs.declared.rows.Phase.TheVariants.{Waiting}
use Rattle.rules.specs.declared.rows.SeatRow.{SeatRow}
use Rattle.rules.specs.Sets.{bit}
use Rattle.rules.specs.Counting.{count}
use Rattle.rules.specs.Setup.{Setup, block_round, honest, own_block}
use Rattle.rules.specs.Tables.{Tables, block_at, certificate_at, entered_at, is_waiting, no_certificate, no_seat, no_vote, received_at, seat_at, has_signed}
use Rattle.rules.specs.ParentChoice.{parent_choice}
use Rattle.rules.specs.Seat.{leave, moves_on, propose}
use Rattle.laws.proofs.View.{NotarisedAt, View}
use Rattle.laws.proofs.Discipline.{Calm, Step}
use Rattle.laws.proofs.Discipline.Run.{next}
use Rattle.laws.proofs.Runs.{run_notarisation, run_then}
use Rattle.laws.proofs.Rows.{row_one, set_cases}
use Rattle.laws.proofs.BenchView.{Proper, terms_of, view}
use Rattle.laws.proofs.Numbering.{certificate_room}
use Rattle.laws.proofs.Seats.{honest_below}
use Rattle.laws.proofs.MovingOn.{moving}
use Rattle.laws.proofs.ParentChoice.{parent_fits}
use Rattle.laws.proofs.Sound.{PhaseFits, Sealed, Sound, notarisation_in, notarisation_out, progress_of, timing_of}
use Rattle.laws.proofs.Acting.{Acts}
use Rattle.laws.proofs.Proposing.{Ready, ready}

module _ {A : Type 0} (s : Setup) (K : Kind A) (P : Proper s) (idles : IdleFollows K) where
  module _ (t : Tables A) (f : Sound s K P idles t) (i : ℕ) (h : T (honest s i)) (r : ℕ) (at_r : (seat_at t i).round ≡ suc r) where
    abbrev v : View
    v = view s K t

    -- the parent is a block of the round whose notarisation the seat holds
    parent_notarised : (c : ℕ) → NotarisedAt (terms_of s) v i c → block_round s c ≡ suc r
        → NotarisedAt (terms_of s) v i (parent_choice s t i (suc r) c) × (block_round s (parent_choice s t i (suc r) c) ≡ suc r)
    parent_notarised c n e =
        let p = parent_fits s P t i r c (notarisation_out s K P idles t f i c h n, e) in
        (notarisation_in s K P idles t f i (parent_choice s t i (suc r) c) h p.0, p.1)

    module _ (top : suc r ≤ s.rounds) (awake : T (v.waiting i) → ⊥) (c : ℕ) (n : NotarisedAt (terms_of s) v i c) (round_c : block_round s c ≡ suc r)
        (u : Tables A) (y : Ready s K P idles t i (suc (suc r)) u) where
      abbrev m : ℕ
      m = (received_at s t i c).signers

      abbrev w : Tables A
      w = moves_on s u i r c m

      srow : SeatRow
      srow = record { round = suc (suc r); phase = Waiting; head = (seat_at u i).head }

      crow : CertificateRow
      crow = record { block = c; signers = m; tick = u.clock }

      li : i < s.n
      li = honest_below s i h

      seat_u : (j : ℕ) → seat_at u j ≡ seat_at t j
      seat_u j = ap (λ z. get_or z j no_seat) y.seats

      len_s : i < length u.seats
      len_s = omega (arith, y.sized.seats, li)

      len_c : i * s.rounds + r < length u.certificates
      len_c = omega (arith, y.sized.certificates, certificate_room s P i r li top)

      tops : (j : ℕ) → T (honest s j) → (seat_at u j).round ≤ suc s.rounds
      tops j hj = omega (arith, ap (λ a. a.round) (seat_u j), (timing_of s K P idles t f).round_top j hj)

      entry_u : (j x : ℕ) → entered_at s u j x ≡ entered_at s t j x
      entry_u j zero = refl
      entry_u j (suc zero) = refl
      entry_u j (suc (suc x)) = ap (λ z. (get_or z (j * s.rounds + x) no_certificate).tick) y.certificates

      st : Step (terms_of s) (view s K u) (view s K w)
      st = moving s K P u i r c m li len_s len_c (ap (λ a. a.round) (seat_u i) ∙ at_r) top tops
          (λ q. awake (subst (λ a. T (is_waiting a.phase)) (seat_u i) q))
          (omega (arith, entry_u i (suc r), y.clock, ap (entered_at s t i) at_r, (progress_of s K P idles t f).awake i h awake))
          (run_notarisation (terms_of s) v (view s K u) y.run i c n) round_c (λ l. y.made l)

      seat_case : (j : ℕ) → ((j ≡ i) × (seat_at w j ≡ srow)) ⊎ (seat_at w j ≡ seat_at t j)
      unfolding srow
      seat_case j = ⊎_elim inl (λ e. inr (e ∙ seat_u j)) (set_cases u.seats i srow no_seat len_s j)

      seat_other : (j : ℕ) → (j ≡ i → ⊥) → seat_at w j ≡ seat_at t j
      seat_other j d = ⊎_elim (λ e. absurd (d e.0)) (λ e. e) (seat_case j)

      mine : seat_at w i ≡ srow
      unfolding srow
      mine = get_or-set_same u.seats i srow no_seat len_s

      certificate_new : get_or w.certificates (i * s.rounds + r) no_certificate ≡ crow
      unfolding crow
      certificate_new = get_or-set_same u.certificates (i * s.rounds + r) crow no_certificate len_c

      -- a row of another seat, or of another round
      certificate_other : (j x : ℕ) → j < s.n → x < s.rounds → ((j ≡ i) → (x ≡ r) → ⊥)
          → get_or w.certificates (j * s.rounds + x) no_certificate ≡ get_or t.certificates (j * s.rounds + x) no_certificate
      unfolding crow
      certificate_other j x lj lx d = get_or-set_other u.certificates (i * s.rounds + r) (j * s.rounds + x) crow no_certificate
          (λ e. let o = row_one s.rounds j i x r lx top e in d o.0 o.1) ∙ ap (λ z. get_or z (j * s.rounds + x) no_certificate) y.certificates

      signed_w : (x d : ℕ) → T (v.signed x d) → T ((view s K w).signed x d)
      signed_w x d q = subst (λ z. T (cond (ltb x s.n) (has_signed (get_or z (d * s.n + x) no_vote)) false)) (sym y.votes) q

      sealed_new : Sealed s K P idles w i r
      unfolding crow
      sealed_new = record {
        signed = λ x q. subst (λ a. T ((view s K w).signed x a.block)) (sym certificate_new) (is_c x (subst (λ a. T (bit a.signers x)) certificate_new q));
        quorum = subst (λ a. s.quorum ≤ count s.n (bit a.signers)) (sym certificate_new) has;
      }
        where
          is_c : (x : ℕ) → T (bit crow.signers x) → T ((view s K w).signed x crow.block)
          is_c x q = signed_w x c ((timing_of s K P idles t f).received i c x h q).0

          has : s.quorum ≤ count s.n (bit crow.signers)
          has = n

      sealed_old : (j x : ℕ) → T (honest s j) → suc x < (seat_at t j).round → ((j ≡ i) → (x ≡ r) → ⊥) → Sealed s K P idles w j x
      sealed_old j x hj l d =
          let e = certificate_other j x (honest_below s j hj) (omega (arith, (timing_of s K P idles t f).round_top j hj)) d in
          let old = f.sealed j x hj l in
          record {
            signed = λ z q. subst (λ a. T ((view s K w).signed z a.block)) (sym e)
                (signed_w z (certificate_at s t j (suc x)).block (old.signed z (subst (λ a. T (bit a.signers z)) e q)));
            quorum = subst (λ a. s.quorum ≤ count s.n (bit a.signers)) (sym e) old.quorum;
          }

      round_new : (seat_at w i).round ≡ suc (suc r)
      unfolding srow
      round_new = ap (λ a. a.round) mine

      head_new : (seat_at w i).head ≡ (seat_at t i).head
      unfolding srow
      head_new = ap (λ a. a.head) mine ∙ ap (λ a. a.head) (seat_u i)

      waiting_new : T (is_waiting (seat_at w i).phase)
      unfolding srow
      waiting_new = subst (λ a. T (is_waiting a.phase)) (sym mine) tt

      entered_new : entered_at s w i (suc (suc r)) ≡ w.clock
      unfolding crow
      entered_new = ap (λ a. a.tick) certificate_new

      phase_new : PhaseFits s (seat_at w i).phase (seat_at w i).round
      unfolding srow
      phase_new = subst (λ a. PhaseFits s a.phase a.round) (sym mine) tt

      sound_w : Sound s K P idles w
      sound_w = record {
        run = next (run_then f.run y.run) st;
        sized = record {
          blocks = y.sized.blocks;
          records = y.sized.records;
          drafts = y.sized.drafts;
          seats = length-set u.seats i (record { round = suc (suc r); phase = Waiting; head = (seat_at u i).head }) ∙ y.sized.seats;
          received = y.sized.received;
          votes = y.sized.votes;
          certificates = length-set u.certificates (i * s.rounds + r) (record { block = c; signers = m; tick = u.clock }) ∙ y.sized.certificates;
        };
        phase = λ j hj. phase j hj (ℕ_discrete j i);
        low = λ j hj. low j hj (ℕ_discrete j i);
        sealed = λ j x hj. sealed j x hj (ℕ_discrete j i);
        ahead = λ j x hj lt le made. ahead j x hj lt le made (ℕ_discrete j i);
      }
        where
          phase : (j : ℕ) → T (honest s j) → Dec (j ≡ i) → PhaseFits s (seat_at w j).phase (seat_at w j).round
          phase j hj (yes e) = subst (λ z. PhaseFits s (seat_at w z).phase (seat_at w z).round) (sym e) phase_new
          phase j hj (no d) = subst (λ a. PhaseFits s a.phase a.round) (sym (seat_other j d)) (f.phase j hj)

          low : (j : ℕ) → T (honest s j) → Dec (j ≡ i) → 1 ≤ block_round s (seat_at w j).head → block_round s (seat_at w j).head + 2 ≤ (seat_at w j).round
          low j hj (yes e) = subst (λ z. 1 ≤ block_round s (seat_at w z).head → block_round s (seat_at w z).head + 2 ≤ (seat_at w z).round) (sym e)
              (λ l. let z = ap (block_round s) head_new in omega (arith, z, round_new, at_r, f.low i h (omega (arith, z))))
          low j hj (no d) = subst (λ a. 1 ≤ block_round s a.head → block_round s a.head + 2 ≤ a.round) (sym (seat_other j d)) (f.low j hj)

          sealed : (j x : ℕ) → T (honest s j) → Dec (j ≡ i) → suc x < (seat_at w j).round → Sealed s K P idles w j x
          sealed j x hj (no d) l = sealed_old j x hj (subst (λ a. suc x < a.round) (seat_other j d) l) (λ e. absurd (d e))
          sealed j x hj (yes e) l = go (ℕ_discrete x r)
            where
              l' : suc x < suc (suc r)
              l' = omega (arith, l, ap (λ z. (seat_at w z).round) e, round_new)

              go : Dec (x ≡ r) → Sealed s K P idles w j x
              go (yes q) = subst (λ z. Sealed s K P idles w z x) (sym e) (subst (Sealed s K P idles w i) (sym q) sealed_new)
              go (no q) = sealed_old j x hj (omega (arith, l', q, at_r, ap (λ z. (seat_at t z).round) e)) (λ z. q)

          ahead : (j x : ℕ) → T (honest s j) → (seat_at w j).round < x → x ≤ s.rounds → T (block_at w (own_block s j x)).made → Dec (j ≡ i) → ⊥
          ahead j x hj lt le made (no d) = ⊎_elim
              (λ q. f.ahead j x hj (subst (λ a. a.round < x) (seat_other j d) lt) le q)
              (λ q. d q.0) (y.ahead j x hj (omega arith) made)
          ahead j x hj lt le made (yes e) =
              let g = ap (λ z. (seat_at w z).round) e in
              ⊎_elim
              (λ q. f.ahead j x hj (omega (arith, lt, g, round_new, at_r, ap (λ z. (seat_at t z).round) e)) le q)
              (λ q. omega (arith, lt, g, round_new, q.1)) (y.ahead j x hj (omega arith) made)

      acts_w : Acts s K P idles i t w
      acts_w = record {
        sound = sound_w;
        run = next y.run st;
        only = record {
          clock = y.clock;
          received = y.received;
          seats = λ j d. seat_other j d;
          certificates = λ j x lj lx d. certificate_other j x lj lx (λ e. absurd (d e));
        };
      }

      calm_w : Calm (terms_of s) (view s K w) i
      calm_w = record {
        waiting = λ q. omega (arith, ap (entered_at s w i) round_new, entered_new, P.delay);
        voting = λ q. absurd (q waiting_new);
        done = λ q. absurd (q waiting_new);
      }

  -- an honest voting seat that holds a notarisation of its round leaves it
  pub leave_acts : (t : Tables A) → Sound s K P idles t → (i : ℕ) → T (honest s i) → (r : ℕ) → (seat_at t i).round ≡ suc r → suc r ≤ s.rounds → (T ((view s K t).waiting i) → ⊥)
      → (c : ℕ) → NotarisedAt (terms_of s) (view s K t) i c → block_round s c ≡ suc r
      → Acts s K P idles i t (leave s K t i r c) × Calm (terms_of s) (view s K (leave s K t i r c)) i
  unfolding leave
  leave_acts t f i h r at_r top awake c n e =
      let p = parent_notarised t f i h r at_r c n e in
      let y = ready s K P idles t f i h r at_r (parent_choice s t i (suc r) c) p.0 p.1 in
      let u = cond (leb (suc (suc r)) s.rounds) (propose s K t i (suc (suc r)) (parent_choice s t i (suc r) c)) t in
      (acts_w t f i h r at_r top awake c n e u y, calm_w t f i h r at_r top awake c n e u y)
