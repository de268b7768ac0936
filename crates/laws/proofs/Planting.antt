-- Planting a block.
use Rattle.std.proofs.Common.{◌≡◌, ℕ, zero, suc, ◌^◌, ◌<◌, ◌≤◌, Bool, true, false, cond, T, eqb, ltb, leb, ◌⊎◌, length, sym, refl, ap, ◌∙◌, subst, inl, inr, ⊎_elim, arith, eqb→eq, ltb→lt, lt→ltb, leb→le, length-set}
use lib.Count.{ones}
use lib.Bits.{bit_or}
use Rattle.std.proofs.lemmas.List.{get_or-set_same}
use Rattle.numbers.specs.Numbering.{number_of}
use Rattle.records.specs.Kind.{IdleFollows, Kind}
use Rattle.rules.specs.declared.fault.BenchFault.TheVariants.{EditionOutOfRange, NoSuchBlock, NoSuchSeat, NothingNew, RoundOutOfRange, SeatIsHonest, TableLength, WrongParent}
use Rattle.rules.specs.declared.rows.BlockRow.{BlockRow}
use Rattle.rules.specs.Sets.{bit}
use Rattle.rules.specs.Counting.{count}
use Rattle.rules.specs.Setup.{Setup, block_owner, block_round, honest, own_block}
use Rattle.rules.specs.Tables.{Tables, block_at, fits, no_block, vote_at, has_signed}
use Rattle.rules.specs.Holding.{signers, takes_in}
use Rattle.rules.specs.Seat.{with_block}
use Rattle.rules.specs.Calls.{Outcome, done, plant, refused}
use Rattle.laws.proofs.Sets.{bit_none, bit-bit_or, bit_other}
use Rattle.laws.proofs.Discipline.{Step}
use Rattle.laws.proofs.Discipline.Run.{next, start}
use Rattle.laws.proofs.Tests.{both, both_l, both_r, no_T, or_case, yes_T}
use Rattle.laws.proofs.Rows.{set_cases}
use Rattle.laws.proofs.Loops.{upto_keeps}
use Rattle.laws.proofs.BenchView.{Proper, terms_of, view}
use Rattle.laws.proofs.Numbering.{number_owner, number_room, number_round, own_owner}
use Rattle.laws.proofs.Seats.{count_set, honest_below}
use Rattle.laws.proofs.Making.{making}
use Rattle.laws.proofs.Sound.{Sound, parents}
use Rattle.laws.proofs.Acting.{Acts, acts_then, take_acts}
use Rattle.laws.proofs.Settled.{Settled, Settles, either, same}
use Rattle.laws.proofs.ByzantineActs.{outside}

module _ {A : Type 0} (s : Setup) (K : Kind A) (P : Proper s) (idles : IdleFollows K) where
  -- the signatures that exist
  signers_signed : (t : Tables A) (b x : ℕ) → T (bit (signers s t b) x) → T ((view s K t).signed x b)
  unfolding signers
  signers_signed t b = upto_keeps (λ m. (x : ℕ) → T (bit m x) → T ((view s K t).signed x b)) (λ i m. cond (has_signed (vote_at s t i b)) (bit_or m (2 ^ i)) m) 0 s.n
      (λ x q. absurd (bit_none x q)) turn
    where
      turn : (i m : ℕ) → i < s.n → ((x : ℕ) → T (bit m x) → T ((view s K t).signed x b)) → (x : ℕ) → T (bit (cond (has_signed (vote_at s t i b)) (bit_or m (2 ^ i)) m) x)
          → T ((view s K t).signed x b)
      turn i m l p x q = go (has_signed (vote_at s t i b)) refl q
        where
          go : (v : Bool) → has_signed (vote_at s t i b) ≡ v → T (bit (cond v (bit_or m (2 ^ i)) m) x) → T ((view s K t).signed x b)
          go true e q = ⊎_elim (p x)
              (λ y. subst (λ (w : ℕ). T ((view s K t).signed w b)) (sym (bit_other i x y)) (both (ltb i s.n) (has_signed (vote_at s t i b)) (lt→ltb i s.n l) (yes_T e)))
              (or_case (bit m x) (bit (2 ^ i) x) (subst T (bit-bit_or m (2 ^ i) x) q))
          go false e q = p x q

  -- a Byzantine seat's block
  plants : (t : Tables A) → Settled s K P idles t → (i r e p : ℕ) (x : A) → i < s.n → (T (honest s i) → ⊥) → suc r ≤ s.rounds → e < s.editions
      → T (block_at t p).made → (T (block_at t (number_of s.n s.editions (suc r) i e)).made → ⊥) → suc (block_round s p) ≡ suc r
      → (p ≡ 0) ⊎ (s.quorum ≤ ones (signers s t p))
      → Settles s K P idles t (takes_in s (with_block t (number_of s.n s.editions (suc r) i e) p (signers s t p) x) i (number_of s.n s.editions (suc r) i e))
  plants t z i r e p x li bad top le made fresh round_p notarised = outside s K P idles i t (takes_in s t1 i b) z bad
      (acts_then s K P idles g1 (take_acts s K P idles t1 g1.sound i b li made_b))
    where
      f : Sound s K P idles t
      f = z.sound

      b : ℕ
      b = number_of s.n s.editions (suc r) i e

      m : ℕ
      m = signers s t p

      row : BlockRow
      row = record { made = true; parent = p; carried = m }

      t1 : Tables A
      t1 = with_block t b p m x

      round_b : block_round s b ≡ suc r
      round_b = number_round s P i (suc r) e li (omega arith) le

      own_b : block_owner s b ≡ i
      own_b = number_owner s P i (suc r) e li (omega arith) le

      len_b : b < length t.blocks
      len_b = omega (arith, f.sized.blocks, number_room s P i (suc r) e li (omega arith) le top)

      quorum : 2 ≤ block_round s b → s.quorum ≤ count s.n (bit m)
      quorum l = ⊎_elim (λ q. absurd (omega (arith, l, round_b, round_p, ap (block_round s) q)))
          (λ q. omega (arith, q, count_set s.n m (λ y w. ltb→lt y s.n (both_l (ltb y s.n) (has_signed (vote_at s t y p)) (signers_signed t p y w))))) notarised

      st : Step (terms_of s) (view s K t) (view s K t1)
      st = making s K P t b p m x len_b (omega (arith, f.sized.records, f.sized.blocks, len_b)) fresh (parents s K P idles t f) (omega (arith, round_b)) made
          (round_p ∙ sym round_b)
          quorum (signers_signed t p) (λ h. absurd (bad (subst (λ (y : ℕ). T (honest s y)) own_b h)))

      made_b : T (block_at t1 b).made
      made_b = subst (λ a. T a.made) (sym (get_or-set_same t.blocks b row no_block len_b)) tt

      g1 : Acts s K P idles i t t1
      g1 = record {
        sound = record {
          run = next f.run st;
          sized = record {
            blocks = length-set t.blocks b row ∙ f.sized.blocks;
            records = length-set t.records b x ∙ f.sized.records;
            drafts = f.sized.drafts;
            seats = f.sized.seats;
            received = f.sized.received;
            votes = f.sized.votes;
            certificates = f.sized.certificates;
          };
          phase = f.phase;
          low = f.low;
          sealed = λ j q h l. record { signed = (f.sealed j q h l).signed; quorum = (f.sealed j q h l).quorum };
          ahead = λ j q h l tp md. ⊎_elim
              (λ w. bad (subst (λ (y : ℕ). T (honest s y)) (sym (own_owner s P j q (honest_below s j h) (omega arith)) ∙ ap (block_owner s) w.0 ∙ own_b) h))
              (λ w. f.ahead j q h l tp (subst (λ a. T a.made) w md))
              (set_cases t.blocks b row no_block len_b (own_block s j q));
        };
        run = next start st;
        only = record { clock = refl; received = λ j c l n. refl; seats = λ j n. refl; certificates = λ j q l w n. refl };
      }

  -- the call
  pub plant_settles : (i r e p : ℕ) (x : A) (t : Tables A) → Settled s K P idles t → Settles s K P idles t (plant s K i r e p x t).tables
  unfolding plant
  plant_settles i zero e p x t z =
      either s K P idles Q (ltb i s.n) (cond (honest s i) (refused SeatIsHonest t) (refused RoundOutOfRange t)) (refused NoSuchSeat t)
      (λ l. either s K P idles Q (honest s i) (refused SeatIsHonest t) (refused RoundOutOfRange t) (λ h. same s K P idles z) (λ h. same s K P idles z))
      (λ l. same s K P idles z)
    where
      Q : Outcome A → Type 0
      Q o = Settles s K P idles t o.tables
  plant_settles i (suc r) e p x t z =
      let b = number_of s.n s.editions (suc r) i e in
      let notarised = cond (eqb p 0) true (leb s.quorum (ones (signers s t p))) in
      let x8 = done (takes_in s (with_block t b p (signers s t p) x) i b) in
      let x7 = cond (cond (eqb (suc (block_round s p)) (suc r)) notarised false) x8 (refused WrongParent t) in
      let x6 = cond (block_at t b).made (refused NothingNew t) x7 in
      let x5 = cond (block_at t p).made x6 (refused NoSuchBlock t) in
      let x4 = cond (fits s t) x5 (refused TableLength t) in
      let x3 = cond (ltb e s.editions) x4 (refused EditionOutOfRange t) in
      let x2 = cond (cond (ltb 0 (suc r)) (leb (suc r) s.rounds) false) x3 (refused RoundOutOfRange t) in
      let x1 = cond (honest s i) (refused SeatIsHonest t) x2 in
      either s K P idles Q (ltb i s.n) x1 (refused NoSuchSeat t)
      (λ l. either s K P idles Q (honest s i) (refused SeatIsHonest t) x2 (λ h. same s K P idles z)
      (λ h. either s K P idles Q (cond (ltb 0 (suc r)) (leb (suc r) s.rounds) false) x3 (refused RoundOutOfRange t)
      (λ top. either s K P idles Q (ltb e s.editions) x4 (refused EditionOutOfRange t)
      (λ le. either s K P idles Q (fits s t) x5 (refused TableLength t)
      (λ w. either s K P idles Q (block_at t p).made x6 (refused NoSuchBlock t)
      (λ mp. either s K P idles Q (block_at t b).made (refused NothingNew t) x7 (λ w. same s K P idles z)
      (λ mb. either s K P idles Q (cond (eqb (suc (block_round s p)) (suc r)) notarised false) x8 (refused WrongParent t)
      (λ ok. plants t z i r e p x (ltb→lt i s.n (yes_T l)) (no_T h) (leb→le (suc r) s.rounds (both_r (ltb 0 (suc r)) (leb (suc r) s.rounds) (yes_T top)))
      (ltb→lt e s.editions (yes_T le))
      (yes_T mp) (no_T mb) (eqb→eq (suc (block_round s p)) (suc r) (both_l (eqb (suc (block_round s p)) (suc r)) notarised (yes_T ok)))
      (by_quorum (eqb p 0) refl (both_r (eqb (suc (block_round s p)) (suc r)) notarised (yes_T ok))))
      (λ w. same s K P idles z))) (λ w. same s K P idles z)) (λ w. same s K P idles z)) (λ w. same s K P idles z)) (λ w. same s K P idles z))) (λ w. same s K P idles z)
    where
      Q : Outcome A → Type 0
      Q o = Settles s K P idles t o.tables

      by_quorum : (y : Bool) → eqb p 0 ≡ y → T (cond y true (leb s.quorum (ones (signers s t p)))) → (p ≡ 0) ⊎ (s.quorum ≤ ones (signers s t p))
      by_quorum true e q = inl (eqb→eq p 0 (yes_T e))
      by_quorum false e q = inr (leb→le s.quorum (ones (signers s t p)) q)
