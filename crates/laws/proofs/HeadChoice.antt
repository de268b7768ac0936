-- The laws of the head choice: of an honest seat whose tables are sound, at the end of its wait.
use Rattle.std.proofs.Common.{is_some, ◌≡◌, ℕ, suc, ◌+◌, ◌-◌, ◌<◌, ◌≤◌, Bool, true, false, cond, not, T, eqb, leb, ◌⊎◌, Some, None, Option, sym, refl, ap, ◌∙◌, subst, inl, inr, ⊎_elim, arith, le→leb, eqb→eq, leb→le, T_not}
use native.Mathlib.Decide.{dec_le}
use lib.Dec.{eqb_refl, not_T}
use Rattle.std.proofs.lemmas.Bool.{cases_Bool}
use Rattle.records.specs.Kind.{IdleFollows, Kind}
use Rattle.rules.specs.Loops.{first_from}
use Rattle.rules.specs.Setup.{Setup, block_round, honest, round_start, round_width}
use Rattle.rules.specs.Tables.{Tables, block_at, received_at, seat_at, valid}
use Rattle.rules.specs.VotingChoice.{holds_valid}
use Rattle.rules.specs.HeadChoice.{head_from, next_head}
use Rattle.laws.proofs.Chains.{On}
use Rattle.laws.proofs.View.{View}
use Rattle.laws.proofs.Facts.{notarisation_held, notarisation_real, notarised_valid}
use Rattle.laws.proofs.Tests.{both, both_l, both_r, no_T, yes_T}
use Rattle.laws.proofs.Loops.{First, first_none, first_some}
use Rattle.laws.proofs.BenchView.{Proper, terms_of, view}
use Rattle.laws.proofs.Numbering.{in_round, round_in}
use Rattle.laws.proofs.Seats.{few}
use Rattle.laws.proofs.LawfulTerms.{lawful}
use Rattle.laws.proofs.Sound.{Sound, blocks_of, timing_of}

module _ {A : Type 0} (s : Setup) (K : Kind A) (P : Proper s) (idles : IdleFollows K) where
  module _ (t : Tables A) (f : Sound s K P idles t) (i : ℕ) (h : T (honest s i)) where
    abbrev v : View
    v = view s K t

    abbrev round : ℕ
    round = (seat_at t i).round

    abbrev parent : ℕ → ℕ
    parent c = (block_at t c).parent

    record Moved (x : ℕ) : Type 0 where
      third : 3 ≤ round
      from : ℕ
      from_round : suc (block_round s from) ≡ round
      from_good : T (holds_valid s K t i from)
      is : x ≡ parent from
      all : (c : ℕ) → T (holds_valid s K t i c) → suc (block_round s c) ≡ round → parent c ≡ parent from

    abbrev Kept : ℕ → Type 0
    Kept x = (x ≡ (seat_at t i).head) × (3 ≤ round → (p : ℕ) → ((c : ℕ) → T (holds_valid s K t i c) → suc (block_round s c) ≡ round → parent c ≡ p) → ⊥)

    -- the block of the certificate by which the seat left the round before
    candidate : 2 ≤ round → (c : ℕ) × (suc (block_round s c) ≡ round) × T (holds_valid s K t i c)
    candidate l =
        let e : round ≡ suc (round - 1) = omega arith in
        let past = (timing_of s K P idles t f).past i (round - 1) h (omega arith) (omega (arith, e)) in
        let c = v.left_by i (round - 1) in
        let held = notarisation_held (terms_of s) (lawful s P) v (timing_of s K P idles t f) (few s P) i c h past.left_by_notarised in
        let ok = (notarised_valid (terms_of s) (lawful s P) v (timing_of s K P idles t f) (few s P) c
        (notarisation_real (terms_of s) (lawful s P) v (timing_of s K P idles t f) (few s P) i c h past.left_by_notarised)).1 in
        (c, omega (arith, e, past.left_by_round), both (received_at s t i c).held (valid K t c) held ok)

    head_choice : Kept (next_head s K t i) ⊎ Moved (next_head s K t i)
    unfolding next_head
    head_choice = go (leb 3 round) refl
      where
        R' : ℕ
        R' = round - 1

        start' : ℕ
        start' = round_start s R'

        range : 3 ≤ round → (c : ℕ) → suc (block_round s c) ≡ round → (start' ≤ c) × (c < start' + round_width s)
        range l c e =
            let z : R' ≡ suc (round - 2) = omega arith in
            subst (λ (y : ℕ). (round_start s y ≤ c) × (c < round_start s y + round_width s)) (sym z) (in_round s P (round - 2) c (omega (arith, e)))

        ranged : 3 ≤ round → (c : ℕ) → start' ≤ c → c < start' + round_width s → suc (block_round s c) ≡ round
        ranged l c a b =
            let z : R' ≡ suc (round - 2) = omega arith in
            let y = round_in s P (round - 2) c (subst (λ (y : ℕ). round_start s y ≤ c) z a) (subst (λ (y : ℕ). c < round_start s y + round_width s) z b) in
            omega (arith, y)

        C : ℕ → Type 0
        C x = Kept x ⊎ Moved x

        other : ℕ → ℕ → Bool
        other c x = cond (holds_valid s K t i x) (not (eqb (parent x) (parent c))) false

        third : 3 ≤ round → (c : ℕ) → First (holds_valid s K t i) start' (round_width s) c → (x : Option ℕ) → first_from (other c) start' (round_width s) ≡ x
            → C (cond (is_some x) (seat_at t i).head (parent c))
        third l c y None e = inr (record {
          third = l;
          from = c;
          from_round = ranged l c y.from y.to;
          from_good = y.passes;
          is = refl;
          all = λ d q round_is. ⊎_elim
              (λ z. eqb→eq (parent d) (parent c) (yes_T z))
              (λ z. let o = range l d round_is in absurd (first_none (other c) start' (round_width s) d e o.0 o.1
              (both (holds_valid s K t i d) (not (eqb (parent d) (parent c))) q (not_T (eqb (parent d) (parent c)) (no_T z)))))
              (cases_Bool (eqb (parent d) (parent c)));
        })
        third l c y (Some d) e =
            let z = first_some (other c) start' (round_width s) d e in
            let q = both_l (holds_valid s K t i d) (not (eqb (parent d) (parent c))) z.passes in
            inl (
              refl,
              λ l' p all. T_not (eqb (parent d) (parent c)) (both_r (holds_valid s K t i d) (not (eqb (parent d) (parent c))) z.passes)
                  (subst (λ (x : ℕ). T (eqb (parent d) x)) (all d q (ranged l d z.from z.to) ∙ sym (all c y.passes (ranged l c y.from y.to)))
                  (eqb_refl (parent d))),
            )

        second : 3 ≤ round → (x : Option ℕ) → first_from (holds_valid s K t i) start' (round_width s) ≡ x → C (head_from s K t i R' (seat_at t i).head x)
        second l None e = let c = candidate (omega arith) in let o = range l c.0 c.1 in absurd
            (first_none (holds_valid s K t i) start' (round_width s) c.0 e o.0 o.1 c.2)
        second l (Some c) e = third l c (first_some (holds_valid s K t i) start' (round_width s) c e) (first_from (other c) start' (round_width s)) refl

        go : (b : Bool) → leb 3 round ≡ b → C (cond b (head_from s K t i R' (seat_at t i).head (first_from (holds_valid s K t i) start' (round_width s))) (seat_at t i).head)
        go true e = second (leb→le 3 round (yes_T e)) (first_from (holds_valid s K t i) start' (round_width s)) refl
        go false e = inl (refl, λ l. absurd (no_T e (le→leb 3 round l)))

    moved_round : Moved (next_head s K t i) → suc (suc (block_round s (next_head s K t i))) ≡ round
    moved_round m =
        let made = ((timing_of s K P idles t f).holding i m.from h (both_l (received_at s t i m.from).held (valid K t m.from) m.from_good)).made in
        let third = m.third in
        let up = (blocks_of s K P idles t f).parent_round m.from made (omega (arith, m.from_round, third)) in
        omega (arith, ap (block_round s) m.is, up, m.from_round)

    -- a new head is chosen in round 2 or later
    pub head_second : (next_head s K t i ≡ (seat_at t i).head → ⊥) → 2 ≤ round
    head_second d = ⊎_elim (λ e. absurd (d e.0)) (λ m. let third = m.third in omega arith) head_choice

    -- it lies on the chain of every valid block of the round before that the seat holds
    pub head_common : (next_head s K t i ≡ (seat_at t i).head → ⊥)
        → (c : ℕ) → T (received_at s t i c).held → T (valid K t c) → suc (block_round s c) ≡ round → On parent (block_round s) (next_head s K t i) c
    head_common d c hc vc e = ⊎_elim (λ o. absurd (d o.0)) (λ m.
        let third = m.third in
        let made = ((timing_of s K P idles t f).holding i c h hc).made in
        let up = (blocks_of s K P idles t f).parent_round c made (omega (arith, e, third)) in
        let is : parent c ≡ next_head s K t i = m.all c (both (received_at s t i c).held (valid K t c) hc vc) e ∙ sym m.is in
        record { back = 1; rounds = omega (arith, ap (block_round s) is, up); there = is }) head_choice

    -- it is two rounds or more below the seat's
    pub head_low : 1 ≤ block_round s (next_head s K t i) → block_round s (next_head s K t i) + 2 ≤ round
    head_low l = ⊎_elim (λ e. let z = ap (block_round s) e.0 in omega (arith, z, f.low i h (omega (arith, l, z)))) (λ m. omega (arith, moved_round m)) head_choice

    -- it is of no earlier round than the old one
    pub head_not_older : block_round s (seat_at t i).head ≤ block_round s (next_head s K t i)
    head_not_older = ⊎_elim (λ e. omega (arith, ap (block_round s) e.0)) (λ m. omega (arith, moved_round m, old (dec_le 1 (block_round s (seat_at t i).head)))) head_choice
      where
        old : Dec (1 ≤ block_round s (seat_at t i).head) → block_round s (seat_at t i).head ≤ round - 2
        old (yes l) = omega (arith, f.low i h l)
        old (no n) = omega (arith, n)

    -- from round 3 on: a block that is the parent of every valid block of the round before that the seat holds is final now
    pub head_final : 3 ≤ round → (p : ℕ) → ((c : ℕ) → T (received_at s t i c).held → T (valid K t c) → suc (block_round s c) ≡ round → parent c ≡ p)
        → On parent (block_round s) p (next_head s K t i)
    head_final l p all = ⊎_elim
        (λ e. absurd (e.1 l p (λ c q round_is. all c (both_l (received_at s t i c).held (valid K t c) q) (both_r (received_at s t i c).held (valid K t c) q) round_is)))
        (λ m.
        let q = m.from_good in
        let is : next_head s K t i ≡ p = m.is ∙ all m.from (both_l (received_at s t i m.from).held (valid K t m.from) q)
        (both_r (received_at s t i m.from).held (valid K t m.from) q) m.from_round in
        record { back = 0; rounds = omega (arith, ap (block_round s) is); there = is })
        head_choice
