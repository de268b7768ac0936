-- The rounds that an honest seat leads, counted in the list of the rounds.
use Rattle.std.proofs.Common.{◌≡◌, ℕ, zero, suc, ◌+◌, ◌-◌, Bool, true, false, cond, Some, None, List, [], ◌∷◌, ◌++◌, length, sym, ap, ◌∙◌, subst, refl, add-one, arith, length-append}
use Rattle.std.specs.List.{filter, range_with_len}
use Rattle.std.specs.Range.{range_inclusive_start, range_inclusive_end, range_inclusive_exhausted, range_inclusive_len}
use Rattle.std.specs.declared.ops.RangeInclusive.{RangeInclusive}
use Rattle.std.proofs.iter.runs.Sources.{nat_range_inclusive_steps}
use Rattle.std.proofs.lemmas.Iterator.{YieldsList}
use Rattle.std.proofs.lemmas.Iterator.Consumers.{YieldsList-from_shown}
use Rattle.std.proofs.lemmas.List.Elements.{filter-append}
use Rattle.orders.specs.Ranking.{Ranking}
use Rattle.drawing.specs.Leaders.{honest_leads, honest_led}

-- how many numbers `a..=b` has left, and which
abbrev left : RangeInclusive ℕ → ℕ
left s = range_inclusive_len (λ x y. y - x) (range_inclusive_start s) (range_inclusive_end s) (range_inclusive_exhausted s)

abbrev shown : RangeInclusive ℕ → List ℕ
shown s = range_with_len (range_inclusive_start s) (left s)

none_left : (s t : RangeInclusive ℕ) → nat_range_inclusive_steps s None t → length (shown s) ≡ 0
none_left s t h = ap (λ n. length (range_with_len (range_inclusive_start s) n)) h.1.0

one_more : (s : RangeInclusive ℕ) (x : ℕ) (t : RangeInclusive ℕ) → nat_range_inclusive_steps s (Some x) t → shown s ≡ x ∷ shown t
one_more s x t h = ap (range_with_len (range_inclusive_start s)) (sym h.1.1 ∙ add-one (left t)) ∙ ap (λ (y : ℕ). y ∷ range_with_len (range_inclusive_start s + 1) (left t)) (sym h.1.0) ∙ ap (λ (l : List ℕ). x ∷ l) (rest (range_inclusive_exhausted t) refl)
  where
    rest : (b : Bool) → range_inclusive_exhausted t ≡ b → range_with_len (range_inclusive_start s + 1) (left t) ≡ shown t
    rest true e =
        let none : left t ≡ 0 = ap (range_inclusive_len (λ x y. y - x) (range_inclusive_start t) (range_inclusive_end t)) e in
        ap (range_with_len (range_inclusive_start s + 1)) none ∙ sym (ap (range_with_len (range_inclusive_start t)) none)
    rest false e = ap (λ (k : ℕ). range_with_len k (left t)) (sym (h.1.2 e))

pub numbers_of_range : (s : RangeInclusive ℕ) (b : ℕ) → range_inclusive_start s ≡ 1 → range_inclusive_end s ≡ b → range_inclusive_exhausted s ≡ false → YieldsList nat_range_inclusive_steps (λ x. x) s (range_with_len 1 b)
numbers_of_range s b p q e =
    let many : left s ≡ b = omega (arith, ap (range_inclusive_len (λ x y. y - x) (range_inclusive_start s) (range_inclusive_end s)) e, p, q) in
    let all : shown s ≡ range_with_len 1 b = ap (λ (k : ℕ). range_with_len k (left s)) p ∙ ap (range_with_len 1) many in
    subst (YieldsList nat_range_inclusive_steps (λ x. x) s) all (YieldsList-from_shown nat_range_inclusive_steps (λ x. x) shown none_left one_more s)

-- one more number at the end
one_at_end : (a n : ℕ) → range_with_len a (suc n) ≡ range_with_len a n ++ (a + n) ∷ []
one_at_end a zero = ap (λ (x : ℕ). x ∷ []) (omega arith)
one_at_end a (suc n) = ap (λ (l : List ℕ). a ∷ l) (one_at_end (a + 1) n ∙ ap (λ (x : ℕ). range_with_len (a + 1) n ++ x ∷ []) (omega arith))

counted_one : (b : Bool) (x : ℕ) (rest : List ℕ) → length (rest ++ cond b (x ∷ []) []) ≡ cond b 1 0 + length rest
counted_one true x rest = length-append rest (x ∷ []) ∙ omega arith
counted_one false x rest = length-append rest [] ∙ omega arith

pub led_by_filter : (n marks : ℕ) (m : Ranking) (R : ℕ) → length (filter (honest_leads n marks m) (range_with_len 1 R)) ≡ honest_led n marks m R
unfolding honest_led
led_by_filter n marks m zero = refl
led_by_filter n marks m (suc R) =
    let p : ℕ → Bool = honest_leads n marks m in
    let before : List ℕ = filter p (range_with_len 1 R) in
    ap (λ (l : List ℕ). length (filter p l)) (one_at_end 1 R)
    ∙ ap length (filter-append p (range_with_len 1 R) ((1 + R) ∷ []))
    ∙ counted_one (p (1 + R)) (1 + R) before
    ∙ ap (λ (x : ℕ). cond (p x) 1 0 + length before) (omega arith)
    ∙ ap (λ (k : ℕ). cond (p (suc R)) 1 0 + k) (led_by_filter n marks m R)
