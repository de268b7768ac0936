-- A block's number leads back to its round, owner and edition, and these to the number.
use Rattle.std.proofs.Common.{◌≡◌, ℕ, ◌+◌, ◌-◌, ◌*◌, ◌/◌, ◌%◌, ◌<◌, ◌≤◌, Bool, true, false, ◌&&◌, ltb, leb, Some, ap, ◌∙◌, subst, ⊎_elim, arith, rules}
use Rattle.std.proofs.lemmas.Nat.{mul-le, mul-add-lt, div-mul-add, mod-mul-add, div-add-mod', div_below, mod_below}
use Rattle.std.proofs.lemmas.Bool.{cases_Bool, cond-true, cond-false, ne_eqb}
use Rattle.numbers.specs.declared.block_id.BlockId.{BlockId}
use Rattle.numbers.specs.Numbering.{block_count, number_of, round_of, owner_of, edition_of, number_answer, id_answer, NumberLeadsBack, IdLeadsBack}

pub block_count_fits : (n R E : ℕ) → n ≤ 16 → R ≤ 256 → E ≤ 8 → block_count n R E ≤ 32769
block_count_fits n R E a b c = omega (arith, mul-le (R * n) E (256 * 16) 8 (mul-le R n 256 16 b a) c)

-- a block of a bench of this size
abbrev inside : ℕ → ℕ → ℕ → BlockId → Bool
inside n R E p = leb 1 p.round && (leb p.round R && (ltb p.owner n && ltb p.edition E))

abbrev id_of : ℕ → ℕ → ℕ → BlockId
id_of n E b = record { round = round_of n E b; owner = owner_of n E b; edition = edition_of E b }

abbrev number_of_id : ℕ → ℕ → BlockId → ℕ
number_of_id n E p = number_of n E p.round p.owner p.edition

pub record Within (n R E : ℕ) (p : BlockId) : Type 0 where
  pub some : 1 ≤ p.round
  pub rounds : p.round ≤ R
  pub seats : p.owner < n
  pub editions : p.edition < E

within : (n R E : ℕ) (p : BlockId) → inside n R E p ≡ true → Within n R E p
within n R E p h = search rules

from_within : (n R E : ℕ) (p : BlockId) → Within n R E p → inside n R E p ≡ true
from_within n R E p w = search rules

same_id : (p : BlockId) (r s e : ℕ) → r ≡ p.round → s ≡ p.owner → e ≡ p.edition → ◌≡◌ {A = BlockId} (record { round = r; owner = s; edition = e }) p
same_id p r s e a b c = λ i. record { round = a i; owner = b i; edition = c i }

-- the round of a block other than 0
pub round_past_zero : (n E b : ℕ) → 1 ≤ b → round_of n E b ≡ 1 + (b - 1) / E / n
round_past_zero n E b h = cond-false _ _ _ (ne_eqb b 0 (λ e. omega arith))

-- a block of the bench: its number is below the count, and leads back
module _ (n R E : ℕ) (p : BlockId) (w : Within n R E p) where
  number_fits : number_of_id n E p < block_count n R E
  number_fits =
      let rows = w.rounds in
      let some = w.some in
      let x : (p.round - 1) * n + p.owner < n * R = mul-add-lt (p.round - 1) n p.owner R (omega arith) w.seats in
      omega (arith, mul-add-lt ((p.round - 1) * n + p.owner) E p.edition (n * R) x w.editions)

  number_back : id_of n E (number_of_id n E p) ≡ p
  number_back =
      let x = (p.round - 1) * n + p.owner in
      let off : number_of_id n E p - 1 ≡ x * E + p.edition = omega arith in
      let before : (number_of_id n E p - 1) / E ≡ x = ap (λ (y : ℕ). y / E) off ∙ div-mul-add x E p.edition w.editions in
      let some = w.some in
      same_id p _ _ _
      (round_past_zero n E (number_of_id n E p) (omega arith) ∙ ap (λ (y : ℕ). 1 + y / n) before
      ∙ ap (λ (y : ℕ). 1 + y) (div-mul-add (p.round - 1) n p.owner w.seats) ∙ omega arith)
      (ap (λ (y : ℕ). y % n) before ∙ mod-mul-add (p.round - 1) n p.owner w.seats)
      (ap (λ (y : ℕ). y % E) off ∙ mod-mul-add x E p.edition w.editions)

-- a number but 0, below the count: its block is the bench's, and leads back
module _ (n R E b : ℕ) (hn : 1 ≤ n) (he : 1 ≤ E) (some : 1 ≤ b) (few : b < block_count n R E) where
  pub id_within : Within n R E (id_of n E b)
  id_within =
      let q : (b - 1) / E < R * n = div_below (b - 1) E (R * n) he (omega arith) in
      let r : (b - 1) / E / n < R = div_below ((b - 1) / E) n R hn q in
      let e = round_past_zero n E b some in
      record {
        some = omega arith;
        rounds = omega arith;
        seats = mod_below ((b - 1) / E) n hn;
        editions = mod_below (b - 1) E he;
      }

  id_back : number_of_id n E (id_of n E b) ≡ b
  id_back =
      let x = (b - 1) / E in
      let one : round_of n E b - 1 ≡ x / n = omega (arith, round_past_zero n E b some) in
      let before : (round_of n E b - 1) * n + x % n ≡ x = ap (λ (y : ℕ). y * n + x % n) one ∙ div-add-mod' x n in
      ap (λ (y : ℕ). 1 + y * E + (b - 1) % E) before ∙ omega (arith, div-add-mod' (b - 1) E)

pub number_leads_back : NumberLeadsBack
number_leads_back n R E p b e =
    ⊎_elim
    (λ (h : inside n R E p ≡ true).
    let w = within n R E p h in
    let is : number_of_id n E p ≡ b = search rules in
    let fit = number_fits n R E p w in
    let in_rows : (leb 1 (number_of_id n E p) && ltb (number_of_id n E p) (block_count n R E)) ≡ true = search rules in
    subst (λ (y : ℕ). id_answer n R E y ≡ Some p) is (cond-true _ _ _ in_rows ∙ ap Some (number_back n R E p w)))
    (λ (h : inside n R E p ≡ false). search rules)
    (cases_Bool (inside n R E p))

pub id_leads_back : IdLeadsBack
id_leads_back n R E p b hn he e =
    ⊎_elim
    (λ (h : (leb 1 b && ltb b (block_count n R E)) ≡ true).
    let some : 1 ≤ b = search rules in
    let few : b < block_count n R E = search rules in
    let is : id_of n E b ≡ p = search rules in
    let w = from_within n R E (id_of n E b) (id_within n R E b hn he some few) in
    subst (λ (q : BlockId). number_answer n R E q ≡ Some b) is (cond-true _ _ _ w ∙ ap Some (id_back n R E b hn he some few)))
    (λ (h : (leb 1 b && ltb b (block_count n R E)) ≡ false). search rules)
    (cases_Bool (leb 1 b && ltb b (block_count n R E)))
