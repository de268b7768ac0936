-- The search for an overdue message found none: every message of an honest seat has reached every honest seat in time.
use Rattle.std.proofs.Common.{◌≡◌, ℕ, zero, suc, ◌+◌, ◌<◌, ◌≤◌, Bool, true, false, cond, not, T, eqb, ltb, sym, subst, ⊎_elim, le_trans, arith, le→leb, eqb→eq, lt→ltb}
use lib.Dec.{not_T}
use lib.Bits.{bit_or}
use Rattle.records.specs.Kind.{IdleFollows, Kind}
use Rattle.rules.specs.Loops.{any}
use Rattle.rules.specs.Sets.{bit}
use Rattle.rules.specs.Setup.{Setup, block_owner, block_round, block_rows, honest, own_block}
use Rattle.rules.specs.Tables.{Tables, block_at, certificate_at, entered_at, received_at, seat_at, vote_at, has_signed, signing_tick}
use Rattle.rules.specs.Holding.{has_certificate, has_vote}
use Rattle.rules.specs.Overdue.{block_overdue, certificate_overdue, certificate_sent, lacks_block, late, overdue, vote_overdue}
use Rattle.laws.proofs.Counts.{count_mono, holds}
use Rattle.laws.proofs.Sets.{bit-bit_or}
use Rattle.laws.proofs.View.{NotarisedAt, View}
use Rattle.laws.proofs.Invariants.{Timing}
use Rattle.laws.proofs.Tests.{T_no, both, both_l, both_r, neither, or_r}
use Rattle.laws.proofs.Loops.{any_none}
use Rattle.laws.proofs.BenchView.{Proper, terms_of, view}
use Rattle.laws.proofs.Numbering.{own_owner, own_round}
use Rattle.laws.proofs.Seats.{honest_below}
use Rattle.laws.proofs.Sound.{Sound, blocks_of, made_room, timing_of}

module _ {A : Type 0} (s : Setup) (K : Kind A) (P : Proper s) (idles : IdleFollows K) where
  module _ (t : Tables A) (f : Sound s K P idles t) (quiet : overdue s t ≡ false) where
    abbrev v : View
    v = view s K t

    abbrev g : Timing (terms_of s) v
    g = timing_of s K P idles t f

    no_block_late : any (λ b. block_overdue s t b) (block_rows s) ≡ false
    unfolding overdue
    no_block_late = (neither (any (λ b. block_overdue s t b) (block_rows s))
        (cond (any (λ b. any (vote_overdue s t b) s.n) (block_rows s)) true (any (λ i. any (certificate_overdue s t i) s.rounds) s.n)) quiet).0

    no_rest : cond (any (λ b. any (vote_overdue s t b) s.n) (block_rows s)) true (any (λ i. any (certificate_overdue s t i) s.rounds) s.n) ≡ false
    unfolding overdue
    no_rest = (neither (any (λ b. block_overdue s t b) (block_rows s)) (cond (any (λ b. any (vote_overdue s t b) s.n) (block_rows s)) true
        (any (λ i. any (certificate_overdue s t i) s.rounds) s.n)) quiet).1

    no_vote_late : any (λ b. any (vote_overdue s t b) s.n) (block_rows s) ≡ false
    no_vote_late = (neither (any (λ b. any (vote_overdue s t b) s.n) (block_rows s)) (any (λ i. any (certificate_overdue s t i) s.rounds) s.n) no_rest).0

    no_certificate_late : any (λ i. any (certificate_overdue s t i) s.rounds) s.n ≡ false
    no_certificate_late = (neither (any (λ b. any (vote_overdue s t b) s.n) (block_rows s)) (any (λ i. any (certificate_overdue s t i) s.rounds) s.n) no_rest).1

    -- a test that some honest seat lacks something fails: every honest seat has it
    all_have : (has : ℕ → Bool) → (T (any (λ j. cond (honest s j) (not (has j)) false) s.n) → ⊥) → (j : ℕ) → T (honest s j) → T (has j)
    all_have has n j hj = ⊎_elim (λ q. q)
        (λ q. absurd (any_none (λ j. cond (honest s j) (not (has j)) false) s.n (T_no (any (λ j. cond (honest s j) (not (has j)) false) s.n) n) j (honest_below s j hj)
        (both (honest s j) (not (has j)) hj (not_T (has j) q))))
        (holds (has j))

    -- so a block of an honest seat has reached all in time
    pub blocks_due : (i r : ℕ) → T (honest s i) → 1 ≤ r → r ≤ (seat_at t i).round → r ≤ s.rounds → entered_at s t i r + s.delay ≤ suc t.clock → (j : ℕ)
        → T (honest s j) → T (v.held j (own_block s i r))
    blocks_due i r h pos le top due = all_have (λ j. (received_at s t j b).held) none
      where
        b : ℕ
        b = own_block s i r

        made : T (v.made b)
        made = (blocks_of s K P idles t f).proposed i r h pos le top

        own : block_owner s b ≡ i
        own = own_owner s P i r (honest_below s i h) pos

        round_is : block_round s b ≡ r
        round_is = own_round s P i r (honest_below s i h) pos

        late' : T (late s t (entered_at s t (block_owner s b) (block_round s b)))
        late' = subst (λ (x : ℕ). T (late s t (entered_at s t x (block_round s b)))) (sym own)
            (subst (λ (x : ℕ). T (late s t (entered_at s t i x))) (sym round_is) (le→leb (entered_at s t i r + s.delay) (suc t.clock) due))

        none : T (any (lacks_block s t b) s.n) → ⊥
        none q = any_none (λ b. block_overdue s t b) (block_rows s) no_block_late b (made_room s K P idles t f b made)
            (both (block_at t b).made (cond (honest s (block_owner s b)) (cond (late s t (entered_at s t (block_owner s b) (block_round s b)))
            (any (lacks_block s t b) s.n) false) false) made
            (both (honest s (block_owner s b)) (cond (late s t (entered_at s t (block_owner s b) (block_round s b))) (any (lacks_block s t b) s.n) false)
            (subst (λ (x : ℕ). T (honest s x)) (sym own) h)
            (both (late s t (entered_at s t (block_owner s b) (block_round s b))) (any (lacks_block s t b) s.n) late' q)))

    -- a vote
    pub votes_due : (i b : ℕ) → T (honest s i) → T (v.signed i b) → signing_tick (vote_at s t i b) + s.delay ≤ suc t.clock → (j : ℕ) → T (honest s j)
        → T (v.held j b) × T (v.received j b i)
    votes_due i b h signed_there due j hj =
        let x = all_have (λ j. has_vote s t i b j) none j hj in
        (both_l (received_at s t j b).held (bit (received_at s t j b).signers i) x, both_r (received_at s t j b).held (bit (received_at s t j b).signers i) x)
      where
        lack : Bool
        lack = any (λ j. cond (honest s j) (not (has_vote s t i b j)) false) s.n

        made : T (v.made b)
        made = (g.holding i b h (g.voted i b h signed_there).held).made

        none : T lack → ⊥
        none q =
            let row = any_none (λ b. any (vote_overdue s t b) s.n) (block_rows s) no_vote_late b (made_room s K P idles t f b made) in
            any_none (vote_overdue s t b) s.n (T_no (any (vote_overdue s t b) s.n) row) i (honest_below s i h)
            (both (has_signed (vote_at s t i b)) (cond (honest s i) (cond (late s t (signing_tick (vote_at s t i b))) lack false) false)
            (both_r (ltb i s.n) (has_signed (vote_at s t i b)) signed_there)
            (both (honest s i) (cond (late s t (signing_tick (vote_at s t i b))) lack false) h
            (both (late s t (signing_tick (vote_at s t i b))) lack (le→leb (signing_tick (vote_at s t i b) + s.delay) (suc t.clock) due) q)))

    -- a certificate
    pub certificates_due : (i r : ℕ) → T (honest s i) → r < (seat_at t i).round → 1 ≤ r → entered_at s t i (suc r) + s.delay ≤ suc t.clock → (j : ℕ)
        → T (honest s j) → NotarisedAt (terms_of s) v j (v.left_by i r)
    certificates_due i zero h lt pos due j hj = absurd (omega arith)
    certificates_due i (suc r) h lt pos due j hj = le_trans (f.sealed i r h lt).quorum (count_mono s.n (bit m) (v.received j c) inside)
      where
        c : ℕ
        c = (certificate_at s t i (suc r)).block

        m : ℕ
        m = (certificate_at s t i (suc r)).signers

        lack : Bool
        lack = any (λ j. cond (honest s j) (not (has_certificate s t c m j)) false) s.n

        none : T lack → ⊥
        none q =
            let row = any_none (λ i. any (certificate_overdue s t i) s.rounds) s.n no_certificate_late i (honest_below s i h) in
            any_none (certificate_overdue s t i) s.rounds (T_no (any (certificate_overdue s t i) s.rounds) row) r (omega (arith, g.round_top i h))
            (both (certificate_sent s t i r) (cond (late s t (certificate_at s t i (suc r)).tick) lack false)
            (both (honest s i) (ltb (suc r) (seat_at t i).round) h (lt→ltb (suc r) (seat_at t i).round lt))
            (both (late s t (certificate_at s t i (suc r)).tick) lack (le→leb ((certificate_at s t i (suc r)).tick + s.delay) (suc t.clock) due) q))

        has : T (has_certificate s t c m j)
        has = all_have (λ j. has_certificate s t c m j) none j hj

        mine : ℕ
        mine = (received_at s t j c).signers

        inside : (x : ℕ) → T (bit m x) → T (v.received j c x)
        inside x q =
            let e = eqb→eq (bit_or mine m) mine (both_r (received_at s t j c).held (eqb (bit_or mine m) mine) has) in
            subst (λ (y : ℕ). T (bit y x)) e (subst T (sym (bit-bit_or mine m x)) (or_r (bit mine x) (bit m x) q))
