-- The tables that an opening gives, seen: a bench as the discipline starts from.
use Rattle.std.proofs.Common.{◌≡◌, ℕ, zero, suc, ◌+◌, ◌*◌, ◌<◌, true, T, ltb, ◌⊎◌, List, ◌∷◌, length, get_or, replicate, None, sym, refl, ap, ◌∙◌, subst, inl, inr, ⊎_elim, arith}
use lib.ListN.{length-replicate, get_or-replicate}
use Rattle.records.specs.Kind.{IdleFollows, Kind}
use Rattle.rules.specs.declared.rows.BlockRow.{BlockRow}
use Rattle.rules.specs.declared.rows.Phase.TheVariants.{Waiting}
use Rattle.rules.specs.declared.rows.ReceivedRow.{ReceivedRow}
use Rattle.rules.specs.Loops.{writes}
use Rattle.rules.specs.Sets.{bit}
use Rattle.rules.specs.Setup.{Setup, block_owner, block_round, block_rows, honest, own_block}
use Rattle.rules.specs.Tables.{entered_at, is_waiting, no_block, no_certificate, no_seat, no_vote, nothing_received, record_at, valid, has_signed}
use Rattle.rules.specs.Holding.{hold_row}
use Rattle.rules.specs.Opening.{first_block, opened_tables}
use Rattle.laws.proofs.Sets.{bit_none}
use Rattle.laws.proofs.Opened.{Opened}
use Rattle.laws.proofs.Tests.{both_r, yes_T}
use Rattle.laws.proofs.Rows.{all_same, row_one}
use Rattle.laws.proofs.Writes.{writes_cases, writes_done, writes_length}
use Rattle.laws.proofs.BenchView.{Proper, terms_of, view}
use Rattle.laws.proofs.Numbering.{number_room, own_owner, own_round, row_room}
use Rattle.laws.proofs.Seats.{few, honest_below}

module _ {A : Type 0} (s : Setup) (K : Kind A) (P : Proper s) (idles : IdleFollows K) where
  abbrev own1 : ℕ → ℕ
  own1 i = own_block s i 1

  apart : (x y : ℕ) → T (honest s x) → T (honest s y) → own1 x ≡ own1 y → x ≡ y
  apart x y hx hy e =
      sym (own_owner s P x 1 (honest_below s x hx) (omega arith)) ∙ ap (block_owner s) e
      ∙ own_owner s P y 1 (honest_below s y hy) (omega arith)

  own1_room : (x : ℕ) → T (honest s x) → own1 x < block_rows s
  own1_room x h = omega (arith, number_room s P x 1 0 (honest_below s x h) (omega arith) P.editions P.rounds)

  own1_round : (x : ℕ) → T (honest s x) → block_round s (own1 x) ≡ 1
  own1_round x h = own_round s P x 1 (honest_below s x h) (omega arith)

  abbrev old_blocks : List BlockRow
  old_blocks = first_block ∷ replicate (s.rounds * s.n * s.editions) no_block

  old_block : (b : ℕ) → (b ≡ 0) ⊎ (get_or old_blocks b no_block ≡ no_block)
  old_block zero = inl refl
  old_block (suc b) = inr (all_same (s.rounds * s.n * s.editions) b no_block)

  room_b : (x : ℕ) → x < s.n → T (honest s x) → own1 x < length old_blocks
  room_b x l h = omega (arith, own1_room x h, length-replicate (s.rounds * s.n * s.editions) no_block)

  block_case : (b : ℕ) → (get_or (opened_tables s K).blocks b no_block ≡ get_or old_blocks b no_block)
      ⊎ ((x : ℕ) × (x < s.n) × T (honest s x) × (b ≡ own1 x) × (get_or (opened_tables s K).blocks b no_block ≡ first_block))
  unfolding opened_tables
  block_case b = writes_cases (honest s) own1 (λ a. first_block) no_block old_blocks apart s.n room_b b

  block_own : (x : ℕ) → T (honest s x) → get_or (opened_tables s K).blocks (own1 x) no_block ≡ first_block
  unfolding opened_tables
  block_own x h = writes_done (honest s) own1 (λ a. first_block) no_block old_blocks apart s.n room_b x (honest_below s x h) h

  -- block 0 is its own parent
  pub root_up : (get_or (opened_tables s K).blocks 0 no_block).parent ≡ 0
  root_up = ⊎_elim (λ e. ap (λ a. a.parent) e) (λ u. ap (λ a. a.parent) u.4) (block_case 0)

  room_r : (x : ℕ) → x < s.n → T (honest s x) → own1 x < length (replicate (block_rows s) K.first)
  room_r x l h = omega (arith, own1_room x h, length-replicate (block_rows s) K.first)

  record_own : (x : ℕ) → T (honest s x) → get_or (opened_tables s K).records (own1 x) K.first ≡ K.idle K.first
  unfolding opened_tables
  record_own x h = writes_done (honest s) own1 (λ a. K.idle K.first) K.first (replicate (block_rows s) K.first) apart s.n room_r x (honest_below s x h) h

  record_root : get_or (opened_tables s K).records 0 K.first ≡ K.first
  unfolding opened_tables
  record_root = ⊎_elim (λ e. e ∙ all_same (block_rows s) 0 K.first)
      (λ u. absurd (omega (arith, u.3)))
      (writes_cases (honest s) own1 (λ a. K.idle K.first) K.first (replicate (block_rows s) K.first) apart s.n room_r 0)

  -- holdings
  abbrev blank : List ReceivedRow
  blank = replicate (block_rows s * s.n) nothing_received

  abbrev rooted : List ReceivedRow
  rooted = writes (λ i. true) (λ i. i) hold_row nothing_received blank s.n

  room_0 : (x : ℕ) → x < s.n → T true → x < length blank
  room_0 x l t = omega (arith, length-replicate (block_rows s * s.n) nothing_received, row_room s P 0 x (omega arith) l)

  abbrev own_row : ℕ → ℕ
  own_row i = own1 i * s.n + i

  apart_h : (x y : ℕ) → T (honest s x) → T (honest s y) → own_row x ≡ own_row y → x ≡ y
  apart_h x y hx hy e = (row_one s.n (own1 x) (own1 y) x y (honest_below s x hx) (honest_below s y hy) e).1

  room_h : (x : ℕ) → x < s.n → T (honest s x) → own_row x < length rooted
  room_h x l h = omega (
    arith,
    writes_length (λ i. true) (λ i. i) hold_row nothing_received blank s.n,
    length-replicate
        (block_rows s * s.n) nothing_received,
    row_room s P (own1 x) x (own1_room x h) l,
  )

  -- a row of the holdings: blank, or held with no signature; and then of the root or of an own block
  record Row (y : ℕ) : Type 0 where
    silent : (get_or (opened_tables s K).received y nothing_received).signers ≡ 0
    why : T (get_or (opened_tables s K).received y nothing_received).held → (y < s.n) ⊎ ((x : ℕ) × T (honest s x) × (y ≡ own_row x))

  received_row : (y : ℕ) → Row y
  unfolding opened_tables
  received_row y = ⊎_elim (λ e. first e) (λ u. record {
    silent = ap (λ a. a.signers) u.4 ∙ ⊎_elim (λ e. ap (λ a. a.signers) (e ∙ all_same (block_rows s * s.n) y nothing_received))
        (λ e. ap (λ a. a.signers) e.4 ∙ ap (λ a. a.signers) (all_same (block_rows s * s.n) y nothing_received)) inner;
    why = λ t. inr (u.0, u.2, u.3);
  }) (writes_cases (honest s) own_row hold_row nothing_received rooted apart_h s.n room_h y)
    where
      inner : (get_or rooted y nothing_received ≡ get_or blank y nothing_received)
          ⊎ ((x : ℕ) × (x < s.n) × T true × (y ≡ x) × (get_or rooted y nothing_received ≡ hold_row (get_or blank y nothing_received)))
      inner = writes_cases (λ i. true) (λ i. i) hold_row nothing_received blank (λ x z p q e. e) s.n room_0 y

      first : get_or (opened_tables s K).received y nothing_received ≡ get_or rooted y nothing_received → Row y
      first e = ⊎_elim
          (λ f. let z = e ∙ f ∙ all_same (block_rows s * s.n) y nothing_received in record {
            silent = ap (λ a. a.signers) z;
            why = λ t. absurd (subst (λ a. T a.held) z t);
          })
          (λ f. record {
            silent = ap (λ a. a.signers) (e ∙ f.4) ∙ ap (λ a. a.signers) (all_same (block_rows s * s.n) y nothing_received);
            why = λ t. inl (omega (arith, f.3, f.1));
          })
          inner

  -- all seats hold block 0
  pub root_row : (i : ℕ) → i < s.n → T (get_or (opened_tables s K).received i nothing_received).held
  unfolding opened_tables
  root_row i l = ⊎_elim
      (λ e. subst (λ a. T a.held) (sym (e ∙ writes_done (λ i. true) (λ i. i) hold_row nothing_received blank (λ x z p q e. e) s.n room_0 i l tt)) tt)
      (λ u. subst (λ a. T a.held) (sym u.4) tt)
      (writes_cases (honest s) own_row hold_row nothing_received rooted apart_h s.n room_h i)

  -- the row of a seat
  pub opened_seat : (i : ℕ) → T (honest s i) → get_or (opened_tables s K).seats i no_seat ≡ record { round = 1; phase = Waiting; head = 0 }
  unfolding opened_tables
  opened_seat i h = get_or-replicate s.n i (record { round = 1; phase = Waiting; head = 0 }) no_seat (honest_below s i h)

  -- nothing is signed, and no certificate sent
  pub no_votes : (y : ℕ) → get_or (opened_tables s K).votes y no_vote ≡ no_vote
  unfolding opened_tables
  no_votes y = all_same (block_rows s * s.n) y no_vote

  pub no_certificates : (y : ℕ) → get_or (opened_tables s K).certificates y no_certificate ≡ no_certificate
  unfolding opened_tables
  no_certificates y = all_same (s.n * s.rounds) y no_certificate

  pub at_zero : (opened_tables s K).clock ≡ 0
  unfolding opened_tables
  at_zero = refl

  -- the tables have the lengths required
  pub record Sizes : Type 0 where
    pub blocks : length (opened_tables s K).blocks ≡ block_rows s
    pub records : length (opened_tables s K).records ≡ block_rows s
    pub drafts : length (opened_tables s K).drafts ≡ s.n
    pub seats : length (opened_tables s K).seats ≡ s.n
    pub received : length (opened_tables s K).received ≡ block_rows s * s.n
    pub votes : length (opened_tables s K).votes ≡ block_rows s * s.n
    pub certificates : length (opened_tables s K).certificates ≡ s.n * s.rounds

  pub opened_sizes : Sizes
  unfolding opened_tables
  opened_sizes = record {
    blocks = writes_length (honest s) own1 (λ a. first_block) no_block old_blocks s.n
        ∙ omega (arith, length-replicate (s.rounds * s.n * s.editions) no_block);
    records = writes_length (honest s) own1 (λ a. K.idle K.first) K.first (replicate (block_rows s) K.first) s.n ∙ length-replicate (block_rows s) K.first;
    drafts = length-replicate s.n None;
    seats = length-replicate s.n (record { round = 1; phase = Waiting; head = 0 });
    received = writes_length (honest s) own_row hold_row nothing_received rooted s.n ∙ writes_length (λ i. true) (λ i. i) hold_row nothing_received blank s.n
        ∙ length-replicate (block_rows s * s.n) nothing_received;
    votes = length-replicate (block_rows s * s.n) no_vote;
    certificates = length-replicate (s.n * s.rounds) no_certificate;
  }

  -- The tables, seen.
  pub is_opened : Opened (terms_of s) (view s K (opened_tables s K))
  is_opened = record {
    clock = at_zero;
    below = λ i h. honest_below s i h;
    few = few s P;
    rounds = λ i h. ap (λ a. a.round) (opened_seat i h);
    entered_at = entered;
    waiting = λ i h. subst (λ a. T (is_waiting a.phase)) (sym (opened_seat i h)) tt;
    unsigned = λ i b t. subst (λ a. T (has_signed a)) (no_votes (b * s.n + i)) (both_r (ltb i s.n) (has_signed (get_or (opened_tables s K).votes (b * s.n + i) no_vote)) t);
    none_received = λ i b x h t. bit_none x (subst (λ (m : ℕ). T (bit m x)) (received_row (b * s.n + i)).silent t);
    none_carried = λ b x t. bit_none x (subst (λ (m : ℕ). T (bit m x)) (no_carried b) t);
    root_made = root_made;
    root_held = λ i h. subst (λ (y : ℕ). T (get_or (opened_tables s K).received y nothing_received).held) (omega arith) (root_row i (honest_below s i h));
    made_only = made_only;
    held_made = λ i b h t. ⊎_elim
        (λ l. subst (λ (y : ℕ). T (get_or (opened_tables s K).blocks y no_block).made)
        (sym (row_one s.n b 0 i (b * s.n + i) (honest_below s i h) l (omega arith)).0) root_made)
        (λ u. subst (λ (y : ℕ). T (get_or (opened_tables s K).blocks y no_block).made)
        (sym (row_one s.n b (own1 u.0) i u.0 (honest_below s i h) (honest_below s u.0 u.1) u.2).0) (own_made u.0 u.1))
        ((received_row (b * s.n + i)).why t);
    proposed = λ i h. own_made i h;
    heads = λ i h. ap (λ a. a.head) (opened_seat i h);
  }
    where
      entered : (i r : ℕ) → entered_at s (opened_tables s K) i r ≡ 0
      entered i zero = refl
      entered i (suc zero) = refl
      entered i (suc (suc r)) = ap (λ a. a.tick) (no_certificates (i * s.rounds + r))

      root_made : T (get_or (opened_tables s K).blocks 0 no_block).made
      root_made = ⊎_elim (λ e. subst (λ a. T a.made) (sym e) tt) (λ u. subst (λ a. T a.made) (sym u.4) tt) (block_case 0)

      own_made : (x : ℕ) → T (honest s x) → T (get_or (opened_tables s K).blocks (own1 x) no_block).made
      own_made x h = subst (λ a. T a.made) (sym (block_own x h)) tt

      no_carried : (b : ℕ) → (get_or (opened_tables s K).blocks b no_block).carried ≡ 0
      no_carried b = ⊎_elim (λ e. ap (λ a. a.carried) e ∙ old b) (λ u. ap (λ a. a.carried) u.4) (block_case b)
        where
          old : (b : ℕ) → (get_or old_blocks b no_block).carried ≡ 0
          old zero = refl
          old (suc b) = ap (λ a. a.carried) (all_same (s.rounds * s.n * s.editions) b no_block)

      made_only : (b : ℕ) → T (get_or (opened_tables s K).blocks b no_block).made
          → (b ≡ 0) ⊎ ((block_round s b ≡ 1) × (b ≡ own_block s (block_owner s b) 1) × T
          (valid K (opened_tables s K) b) × ((get_or (opened_tables s K).blocks b no_block).parent ≡ 0))
      made_only b t = ⊎_elim
          (λ e. ⊎_elim inl (λ f. absurd (subst (λ a. T a.made) (e ∙ f) t)) (old_block b))
          (λ u. inr (
            ap (block_round s) u.3 ∙ own1_round u.0 u.2,
            u.3 ∙ ap own1 (sym (ap (block_owner s) u.3 ∙ own_owner s P u.0 1 (honest_below s u.0 u.2) (omega arith))),
            ok b u.0 u.2 u.3 (ap (λ a. a.parent) u.4),
            ap (λ a. a.parent) u.4,
          ))
          (block_case b)
        where
          ok : (b x : ℕ) → T (honest s x) → b ≡ own1 x → (get_or (opened_tables s K).blocks b no_block).parent ≡ 0 → T (valid K (opened_tables s K) b)
          ok b x h e z =
              let p : record_at K (opened_tables s K) (get_or (opened_tables s K).blocks b no_block).parent ≡ K.first = ap (record_at K (opened_tables s K)) z
              ∙ record_root in
              let c : record_at K (opened_tables s K) b ≡ K.idle K.first = ap (record_at K (opened_tables s K)) e ∙ record_own x h in
              subst (λ x. T (K.follows x (record_at K (opened_tables s K) (get_or (opened_tables s K).blocks b no_block).parent))) (sym c)
              (subst (λ x. T (K.follows (K.idle K.first) x)) (sym p) (yes_T (idles K.first)))
