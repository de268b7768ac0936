-- The blocks of a round stand in a row: they are of that round, and a walk over them is a loop of the rules.
use Rattle.std.proofs.Common.{◌≡◌, ℕ, zero, suc, ◌+◌, ◌-◌, ◌*◌, ◌/◌, ◌<◌, ◌≤◌, Bool, true, false, cond, ◌||◌, Option, Some, None, List, [], ◌∷◌, ◌++◌, length, refl, sym, ap, ◌∙◌, mul_comm, add-one, arith}
use denote.Param.Members.{Mut}
use denote.Ref.{Bor}
use native.Mathlib.Nat.{div-div-eq-div-mul}
use Rattle.std.specs.declared.ops.Range.{Range}
use Rattle.std.specs.Fn.{Called, CalledAt}
use Rattle.std.specs.Iterator.{FindsItem, ChecksAny, FoldsItems, Yields}
use Rattle.std.specs.Option.{IfSome, MatchOption, is_some, option_map}
use Rattle.std.specs.List.{find, list_any, range_with_len, fold}
use Rattle.std.proofs.iter.Yields.{nat_range_steps}
use Rattle.std.proofs.lemmas.Fn.{fold_over}
use Rattle.std.proofs.lemmas.Iterator.{YieldsList, YieldsList-from_range, first_from_Range}
use Rattle.std.proofs.lemmas.Iterator.Search.{find_from_yields_List, any_from_yields_List}
use Rattle.std.proofs.lemmas.Iterator.Consumers.{YieldsList-turn, YieldsList-end}
use Rattle.std.proofs.lemmas.List.FromFn.{length-range_with_len, get_or-range_with_len}
use Rattle.std.proofs.lemmas.List.Sums.{fold-append}
use Rattle.std.proofs.lemmas.Nat.{div-mul-add}
use Rattle.numbers.specs.Numbering.{round_of}
use Rattle.numbers.proofs.Numbers.{round_past_zero}
use Rattle.rules.specs.Loops.{upto, first_from}

pub member_round : (n E r x : ℕ) → 1 ≤ r → x < n * E → round_of n E (1 + (r - 1) * (n * E) + x) ≡ r
member_round n E r x some h =
    let b = 1 + (r - 1) * (n * E) + x in
    let off : b - 1 ≡ (r - 1) * (n * E) + x = omega arith in
    let whole : (b - 1) / E / n ≡ r - 1 =
    div-div-eq-div-mul (b - 1) E n ∙ ap (λ (y : ℕ). (b - 1) / y) (mul_comm E n) ∙ ap (λ (y : ℕ). y / (n * E)) off ∙ div-mul-add (r - 1) (n * E) x h in
    round_past_zero n E b (omega arith) ∙ ap (λ (y : ℕ). 1 + y) whole ∙ omega arith

-- the first of these numbers that passes
pub find_is : (p : ℕ → Bool) (k m : ℕ) → find p (range_with_len k m) ≡ first_from p k m
unfolding first_from
find_is p k zero = refl
find_is p k (suc m) = ap (cond (p k) (Some k)) (ap (λ (j : ℕ). find p (range_with_len j m)) (add-one k) ∙ find_is p (suc k) m)

-- whether one of these numbers passes
pub any_is : (p : ℕ → Bool) (k m : ℕ) → list_any p (range_with_len k m) ≡ is_some (first_from p k m)
unfolding first_from
any_is p k zero = refl
any_is p k (suc m) = ap (λ (q : Bool). p k || q) (ap (λ (j : ℕ). list_any p (range_with_len j m)) (add-one k) ∙ any_is p (suc k) m) ∙ go (p k) (first_from p (suc k) m)
  where
    go : (b : Bool) (r : Option ℕ) → b || is_some r ≡ is_some (cond b (Some k) r)
    go true r = refl
    go false r = refl

-- z changed at each of these numbers in turn
pub fold_is : {X : Type 0} (f : ℕ → X → X) (z : X) (k m : ℕ) → fold (λ u b. f b u) z (range_with_len k m) ≡ upto (λ x u. f (k + x) u) z m
unfolding upto
fold_is {X} f z k m =
    let e : k ≡ k + 0 = omega arith in
    let g : 0 + m ≡ m = omega arith in
    ap (λ (j : ℕ). fold walk z (range_with_len j m)) e ∙ go 0 m z refl ∙ ap (upto turn z) g
  where
    walk : X → ℕ → X
    walk u b = f b u

    turn : ℕ → X → X
    turn x u = f (k + x) u

    go : (j m : ℕ) (u : X) → u ≡ upto turn z j → fold walk u (range_with_len (k + j) m) ≡ upto turn z (j + m)
    go j zero u e =
        let h : j ≡ j + 0 = omega arith in
        e ∙ ap (upto turn z) h
    go j (suc m) u e =
        let g : k + j + 1 ≡ k + suc j = omega arith in
        let h : suc j + m ≡ j + suc m = omega arith in
        ap (λ (q : ℕ). fold walk (f (k + j) u) (range_with_len q m)) g ∙ go (suc j) m (f (k + j) u) (ap (f (k + j)) e) ∙ ap (upto turn z) h

-- The same of a walk over a range in the code, where the closure f computes the test or the turn.
module _ (s : Range ℕ) (k w : ℕ) (from : s.start ≡ k) (wide : s.end ≡ s.start + w) where
  numbers : YieldsList nat_range_steps (λ x. x) s (range_with_len k w)
  numbers =
      let long : s.end - s.start ≡ w = omega (arith, wide) in
      YieldsList-from_range k s.end w (λ i. record { start = from i; end = s.end }) (ap (λ (j : ℕ). s.end - j) (sym from) ∙ long)

  pub found_by : {F : Type 0} {g : Mut F (Bor ℕ × Unit {0}) Bool} (p : ℕ → Bool) (f : F) (r : Option ℕ) (u : Range ℕ) → FindsItem nat_range_steps g s f r u
      → ((x : ℕ) (b : Bool) (q : F) → CalledAt g f x b q → (q ≡ f) × (b ≡ p x)) → r ≡ first_from p k w
  found_by p f r u ran test = itself r ∙ find_from_yields_List p u f r ran numbers test ∙ find_is p k w
    where
      itself : (o : Option ℕ) → o ≡ option_map (λ x. x) o
      itself None = refl
      itself (Some x) = refl

  pub any_by : {F : Type 0} {g : Mut F (ℕ × Unit {0}) Bool} (p : ℕ → Bool) (f : F) (r : Bool) (u : Range ℕ) → ChecksAny nat_range_steps g s f r u
      → ((x : ℕ) (b : Bool) (q : F) → Called g f (x, tt) b q → (q ≡ f) × (b ≡ p x)) → r ≡ is_some (first_from p k w)
  any_by p f r u ran test = any_from_yields_List p u f r ran numbers test ∙ any_is p k w

  pub fold_by : {X F : Type 0} {g : Mut F (X × (ℕ × Unit {0})) X} (h : ℕ → X → X) (f : F) (z r : X) → FoldsItems nat_range_steps g s f z r
      → ((a : X) (x : ℕ) (b : X) (q : F) → Called g f (a, (x, tt)) b q → (b ≡ h x a) × (q ≡ f)) → r ≡ upto (λ x u. h (k + x) u) z w
  fold_by {X} {F} {g} h f z r ran turn = fold_over nat_range_steps (λ x. x) g (λ ys a. a ≡ fold walk z ys) f step s (range_with_len k w) z r numbers.runs refl ran ∙ fold_is h z k w
    where
      walk : X → ℕ → X
      walk u x = h x u

      step : (ys : List ℕ) (a : X) (x : ℕ) (b : X) (q : F) → a ≡ fold walk z ys → Called g f (a, (x, tt)) b q → (b ≡ fold walk z (ys ++ (x ∷ []))) × (q ≡ f)
      step ys a x b q so call =
          let t = turn a x b q call in
          (t.0 ∙ ap (h x) so ∙ sym (fold-append walk z ys (x ∷ [])), t.1)

  -- the turn of a `for` over the range, after the turns xs, and its end
  pub number_at : (xs : List ℕ) (t : Range ℕ) → Yields nat_range_steps s xs t → (r : Option ℕ) (u : Range ℕ) (x : ℕ) → r ≡ Some x → nat_range_steps t r u → x ≡ k + length xs
  number_at xs t y r u x e st =
      let n = YieldsList-turn numbers xs t y r u x e st in
      n.1 ∙ get_or-range_with_len k w (length xs) x (omega (arith, n.0, length-range_with_len k w))

  pub numbers_end : (xs : List ℕ) (t : Range ℕ) → Yields nat_range_steps s xs t → (r : Option ℕ) (u : Range ℕ) → r ≡ None → nat_range_steps t r u → length xs ≡ w
  numbers_end xs t y r u e st = (YieldsList-end numbers xs t y r u e st).1 ∙ length-range_with_len k w

-- what `find` finds in a range is in it
pub found_within : {F : Type 0} {g : Mut F (Bor ℕ × Unit {0}) Bool} (s : Range ℕ) (p : ℕ → Bool) (f : F) (r : Option ℕ) (u : Range ℕ) → FindsItem nat_range_steps g s f r u
    → ((x : ℕ) (b : Bool) (q : F) → CalledAt g f x b q → (q ≡ f) × (b ≡ p x)) → IfSome r (λ b. (s.start ≤ b) × (b < s.end))
found_within s p f r u ran test = go r (first_from_Range s u f r (λ _. Unit {0}) (λ _. Unit {0}) ran (λ x q k. tt) (λ x q k. ((test x false q k).0, tt)))
  where
    go : (r : Option ℕ) → MatchOption r ((k : ℕ) → s.start ≤ k → k < s.end → Unit {0}) (λ i. (s.start ≤ i) × (i < s.end) × Unit {0} × ((k : ℕ) → s.start ≤ k → k < i → Unit {0}))
        → IfSome r (λ b. (s.start ≤ b) × (b < s.end))
    go None m = tt
    go (Some b) m = (m.0, m.1)
