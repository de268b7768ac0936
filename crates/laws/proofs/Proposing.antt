-- An honest seat proposes: its block of the next round is made and held.
use Rattle.std.proofs.Common.{◌≡◌, ℕ, suc, ◌<◌, ◌≤◌, Bool, true, false, cond, T, leb, ◌⊎◌, length, Some, None, Option, sym, refl, ap, ◌∙◌, subst, inl, inr, ⊎_elim, arith, le→leb, leb→le, length-set}
use Rattle.std.proofs.lemmas.List.{get_or-set_same}
use Rattle.records.specs.Kind.{IdleFollows, Kind}
use Rattle.rules.specs.declared.rows.BlockRow.{BlockRow}
use Rattle.rules.specs.Setup.{Setup, block_owner, block_round, block_rows, honest, own_block}
use Rattle.rules.specs.Tables.{Tables, block_at, draft_at, no_block, received_at, record_at, seat_at}
use Rattle.rules.specs.Holding.{take_in}
use Rattle.rules.specs.Seat.{draft_left, propose, proposed_record, with_block}
use Rattle.laws.proofs.View.{NotarisedAt, View}
use Rattle.laws.proofs.Discipline.{Run, Step}
use Rattle.laws.proofs.Discipline.Run.{next, start}
use Rattle.laws.proofs.Invariants.{Blocks}
use Rattle.laws.proofs.Facts.{notarisation_held}
use Rattle.laws.proofs.Runs.{run_then}
use Rattle.laws.proofs.Tests.{no_T, yes_T}
use Rattle.laws.proofs.Rows.{set_cases}
use Rattle.laws.proofs.BenchView.{Proper, terms_of, view}
use Rattle.laws.proofs.Numbering.{own_owner, own_round, round_room, row_room}
use Rattle.laws.proofs.Seats.{few, honest_below}
use Rattle.laws.proofs.LawfulTerms.{lawful}
use Rattle.laws.proofs.TakingIn.{Taken, takes}
use Rattle.laws.proofs.Making.{making}
use Rattle.laws.proofs.Sound.{Sized, Sound, lasting, made_fits, parents, root_held, timing_of}

module _ {A : Type 0} (s : Setup) (K : Kind A) (P : Proper s) (idles : IdleFollows K) where
  -- the record of a proposal follows that of its parent
  pub proposed_follows : (d : Option A) (p : A) → T (K.follows (proposed_record K d p) p)
  proposed_follows None p = yes_T (idles p)
  proposed_follows (Some d) p = go (K.follows d p) refl
    where
      go : (q : Bool) → K.follows d p ≡ q → T (K.follows (cond q d (K.idle p)) p)
      go true e = yes_T e
      go false e = yes_T (idles p)

  -- what the tables are when the seat's block of the next round is made
  pub record Ready (t : Tables A) (i r2 : ℕ) (u : Tables A) : Type 0 where
    pub run : Run (terms_of s) (view s K t) (view s K u)
    pub clock : u.clock ≡ t.clock
    pub seats : u.seats ≡ t.seats
    pub certificates : u.certificates ≡ t.certificates
    pub votes : u.votes ≡ t.votes
    pub sized : Sized s K P idles u
    pub received : (j c : ℕ) → j < s.n → (j ≡ i → ⊥) → received_at s u j c ≡ received_at s t j c
    pub ahead : (j r : ℕ) → T (honest s j) → 1 ≤ r → T (block_at u (own_block s j r)).made → T (block_at t (own_block s j r)).made ⊎ ((j ≡ i) × (r ≡ r2))
    pub made : r2 ≤ s.rounds → T (block_at u (own_block s i r2)).made

  module _ (t : Tables A) (f : Sound s K P idles t) (i : ℕ) (h : T (honest s i)) (r : ℕ) (at_r : (seat_at t i).round ≡ suc r) where
    abbrev v : View
    v = view s K t

    abbrev b : ℕ
    b = own_block s i (suc (suc r))

    proposing : (p : ℕ) → suc (suc r) ≤ s.rounds → NotarisedAt (terms_of s) v i p → block_round s p ≡ suc r → Ready t i (suc (suc r)) (propose s K t i (suc (suc r)) p)
    unfolding propose
    proposing p top n e = record {
      run = run_then (next start st) tk.run;
      clock = refl;
      seats = refl;
      certificates = refl;
      votes = refl;
      sized = record {
        blocks = length-set t.blocks b row ∙ f.sized.blocks;
        records = length-set t.records b x ∙ f.sized.records;
        drafts = length-set t.drafts i (draft_left K (draft_at t i) (record_at K t p)) ∙ f.sized.drafts;
        seats = f.sized.seats;
        received = tk.size ∙ f.sized.received;
        votes = f.sized.votes;
        certificates = f.sized.certificates;
      };
      received = λ j c l d. tk.other j c l d;
      ahead = λ j q hj pos made. ⊎_elim
          (λ z. inr (
            sym (own_owner s P j q (honest_below s j hj) pos) ∙ ap (block_owner s) z.0 ∙ own_owner s P i (suc (suc r)) li (omega arith),
            sym (own_round s P j q (honest_below s j hj) pos) ∙ ap (block_round s) z.0 ∙ round_b,
          ))
          (λ z. inl (subst (λ a. T a.made) z made))
          (set_cases t.blocks b row no_block len_b (own_block s j q));
      made = λ l. subst (λ a. T a.made) (sym (get_or-set_same t.blocks b row no_block len_b)) tt;
    }
      where
        li : i < s.n
        li = honest_below s i h

        m : ℕ
        m = (received_at s t i p).signers

        x : A
        x = proposed_record K (draft_at t i) (record_at K t p)

        row : BlockRow
        row = record { made = true; parent = p; carried = m }

        t1 : Tables A
        t1 = with_block t b p m x

        round_b : block_round s b ≡ suc (suc r)
        round_b = own_round s P i (suc (suc r)) li (omega arith)

        own_b : block_owner s b ≡ i
        own_b = own_owner s P i (suc (suc r)) li (omega arith)

        len_b : b < length t.blocks
        len_b = omega (arith, f.sized.blocks, round_room s P (suc r) b round_b top)

        made_p : T (v.made p)
        made_p = ((timing_of s K P idles t f).holding i p h (notarisation_held (terms_of s) (lawful s P) v (timing_of s K P idles t f) (few s P) i p h n)).made

        st : Step (terms_of s) v (view s K t1)
        st = making s K P t b p m x len_b (omega (arith, f.sized.records, f.sized.blocks, len_b)) (f.ahead i (suc (suc r)) h (omega (arith, at_r)) top)
            (parents s K P idles t f)
            (omega (arith, round_b)) made_p (omega (arith, e, round_b)) (λ l. n) (λ y q. ((timing_of s K P idles t f).received i p y h q).0)
            (λ hb. (sym (ap (λ (y : ℕ). own_block s y (block_round s b)) own_b ∙ ap (own_block s i) round_b), proposed_follows (draft_at t i) (record_at K t p)))

        m1 : Blocks (terms_of s) (view s K t1)
        m1 = (lasting s K P idles (view s K t1) (next f.run st)).blocks

        len1 : length t1.blocks ≡ block_rows s
        len1 = length-set t.blocks b row ∙ f.sized.blocks

        tk : Taken s K P t1 t.received (take_in s.n (block_round s b) t1.blocks t.received i b) i b
        tk = takes s K P t1 m1.parent_made m1.parent_round (λ c y. m1.carried_signed c y) i li
            (λ c q. omega (arith, f.sized.received, row_room s P c i (made_fits s t1 len1 c q) li)) (block_round s b) t.received b refl (root_held s K P idles t f i li)
            (subst (λ a. T a.made) (sym (get_or-set_same t.blocks b row no_block len_b)) tt) refl

    -- .. or is not, past the last round
    pub ready : (p : ℕ) → NotarisedAt (terms_of s) v i p → block_round s p ≡ suc r
        → Ready t i (suc (suc r)) (cond (leb (suc (suc r)) s.rounds) (propose s K t i (suc (suc r)) p) t)
    ready p n e = go (leb (suc (suc r)) s.rounds) refl
      where
        go : (q : Bool) → leb (suc (suc r)) s.rounds ≡ q → Ready t i (suc (suc r)) (cond q (propose s K t i (suc (suc r)) p) t)
        go true q = proposing p (leb→le (suc (suc r)) s.rounds (yes_T q)) n e
        go false q = record {
          run = start;
          clock = refl;
          seats = refl;
          certificates = refl;
          votes = refl;
          sized = f.sized;
          received = λ j c l d. refl;
          ahead = λ j q hj pos made. inl made;
          made = λ l. absurd (no_T q (le→leb (suc (suc r)) s.rounds l));
        }
