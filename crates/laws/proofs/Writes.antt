-- A loop that writes rows of a table.
use Rattle.std.proofs.Common.{◌≡◌, ℕ, zero, suc, ◌<◌, Bool, true, false, cond, T, ◌⊎◌, List, length, get_or, set, sym, refl, ap, ◌∙◌, subst, inl, inr, ⊎_elim, le_refl, arith, length-set}
use native.Mathlib.Decide.{ℕ_discrete}
use Rattle.std.proofs.lemmas.List.{get_or-set_same, get_or-set_other}
use Rattle.rules.specs.Loops.{writes}
use Rattle.laws.proofs.Tests.{no_T, yes_T}
use Rattle.laws.proofs.Rows.{set_cases}

-- rows that are written by a loop: each one once
module _ {A : Type 0} (p : ℕ → Bool) (r : ℕ → ℕ) (f : A → A) (d : A) (xs : List A) where
  -- the list keeps its length
  pub writes_length : (m : ℕ) → length (writes p r f d xs m) ≡ length xs
  unfolding writes
  writes_length zero = refl
  writes_length (suc k) = go (writes_length k) (p k)
    where
      ys : List A
      ys = writes p r f d xs k

      go : length ys ≡ length xs → (b : Bool) → length (cond b (set ys (r k) (f (get_or ys (r k) d))) ys) ≡ length xs
      go ih true = length-set ys (r k) (f (get_or ys (r k) d)) ∙ ih
      go ih false = ih

  -- what a change keeps of a row, all of them keep
  pub writes_keep : {B : Type 0} (g : A → B) → ((a : A) → g (f a) ≡ g a) → (m : ℕ) → ((x : ℕ) → x < m → T (p x) → r x < length xs) → (y : ℕ)
      → g (get_or (writes p r f d xs m) y d) ≡ g (get_or xs y d)
  unfolding writes
  writes_keep g same zero room y = refl
  writes_keep {B} g same (suc k) room y = go (writes_keep g same k (λ x l. room x (omega arith)) y) (p k) refl
    where
      ys : List A
      ys = writes p r f d xs k

      go : g (get_or ys y d) ≡ g (get_or xs y d) → (b : Bool) → p k ≡ b → g (get_or (cond b (set ys (r k) (f (get_or ys (r k) d))) ys) y d) ≡ g (get_or xs y d)
      go ih false q = ih
      go ih true q = ⊎_elim
          (λ e. ap g e.1 ∙ same (get_or ys (r k) d) ∙ ap (λ (z : ℕ). g (get_or ys z d)) (sym e.0) ∙ ih)
          (λ e. ap g e ∙ ih)
          (set_cases ys (r k) (f (get_or ys (r k) d)) d (omega (arith, writes_length k, room k (le_refl (suc k)) (yes_T q))) y)

  module _ (apart : (x y : ℕ) → T (p x) → T (p y) → r x ≡ r y → x ≡ y) where
    -- a row is as it was, or is the row of a turn that passed
    pub writes_cases : (m : ℕ) → ((x : ℕ) → x < m → T (p x) → r x < length xs) → (y : ℕ)
        → (get_or (writes p r f d xs m) y d ≡ get_or xs y d) ⊎ ((x : ℕ) × (x < m) × T (p x) × (y ≡ r x) × (get_or (writes p r f d xs m) y d ≡ f (get_or xs y d)))
    unfolding writes
    writes_cases zero room y = inl refl
    writes_cases (suc k) room y = go (writes_cases k (λ x l. room x (omega arith)) y) (p k) refl
      where
        ys : List A
        ys = writes p r f d xs k

        C : ℕ → List A → Type 0
        C m zs = (get_or zs y d ≡ get_or xs y d) ⊎ ((x : ℕ) × (x < m) × T (p x) × (y ≡ r x) × (get_or zs y d ≡ f (get_or xs y d)))

        wider : C k ys → C (suc k) ys
        wider (inl e) = inl e
        wider (inr q) = inr (q.0, omega (arith, q.1), q.2, q.3, q.4)

        go : C k ys → (b : Bool) → p k ≡ b → C (suc k) (cond b (set ys (r k) (f (get_or ys (r k) d))) ys)
        go ih false q = wider ih
        go ih true q = ⊎_elim
            (λ e. ⊎_elim
            (λ u. inr (k, le_refl (suc k), yes_T q, e.0, e.1 ∙ ap (λ z. f (get_or ys z d)) (sym e.0) ∙ ap f u))
            (λ u. absurd (omega (arith, u.1, apart k u.0 (yes_T q) u.2 (sym e.0 ∙ u.3))))
            ih)
            (λ e. ⊎_elim (λ u. inl (e ∙ u)) (λ u. inr (u.0, omega (arith, u.1), u.2, u.3, e ∙ u.4)) ih)
            (set_cases ys (r k) (f (get_or ys (r k) d)) d (omega (arith, writes_length k, room k (le_refl (suc k)) (yes_T q))) y)

    -- the row of a turn that passed is written
    pub writes_done : (m : ℕ) → ((x : ℕ) → x < m → T (p x) → r x < length xs) → (x : ℕ) → x < m → T (p x) → get_or (writes p r f d xs m) (r x) d ≡ f (get_or xs (r x) d)
    unfolding writes
    writes_done zero room x l t = absurd (omega arith)
    writes_done (suc k) room x l t = go (λ (v : x < k). writes_done k (λ z u. room z (omega arith)) x v t) (p k) refl (ℕ_discrete x k)
      where
        ys : List A
        ys = writes p r f d xs k

        old : T (p k) → get_or ys (r k) d ≡ get_or xs (r k) d
        old q = ⊎_elim (λ e. e) (λ u. absurd (omega (arith, u.1, apart k u.0 q u.2 u.3))) (writes_cases k (λ z u. room z (omega arith)) (r k))

        go : (x < k → get_or ys (r x) d ≡ f (get_or xs (r x) d)) → (b : Bool) → p k ≡ b → Dec (x ≡ k)
            → get_or (cond b (set ys (r k) (f (get_or ys (r k) d))) ys) (r x) d ≡ f (get_or xs (r x) d)
        go ih false q (yes e) = absurd (no_T q (subst (λ z. T (p z)) e t))
        go ih false q (no n) = ih (omega (arith, n))
        go ih true q (yes e) = subst (λ z. get_or (set ys (r k) (f (get_or ys (r k) d))) (r z) d ≡ f (get_or xs (r z) d)) (sym e)
            (get_or-set_same ys (r k) (f (get_or ys (r k) d)) d (omega (arith, writes_length k, room k (le_refl (suc k)) (yes_T q))) ∙ ap f (old (yes_T q)))
        go ih true q (no n) = get_or-set_other ys (r k) (r x) (f (get_or ys (r k) d)) d (λ e. n (apart x k t (yes_T q) e)) ∙ ih (omega (arith, n))
