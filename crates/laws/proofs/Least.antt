-- The least value of those that pass a test.
use Rattle.std.proofs.Common.{◌≡◌, ℕ, zero, suc, ◌<◌, ◌≤◌, Bool, true, false, cond, T, ltb, ◌⊎◌, sym, refl, subst, inl, inr, ⊎_elim, le_refl, arith, ltb→lt}
use native.Mathlib.Decide.{ℕ_discrete}
use lib.Dec.{not_T}
use Rattle.rules.specs.Loops.{upto}
use Rattle.laws.proofs.Tests.{no_T, yes_T}

-- a running minimum
module _ (p : ℕ → Bool) (g : ℕ → ℕ) where
  -- starting from z
  abbrev pub least : ℕ → ℕ → ℕ
  least z m = upto (λ x low. cond (p x) (cond (ltb (g x) low) (g x) low) low) z m

  -- v is the least of z and of the values that pass
  pub record Least (z m v : ℕ) : Type 0 where
    pub start : v ≤ z
    pub below : (x : ℕ) → x < m → T (p x) → v ≤ g x
    pub is : (v ≡ z) ⊎ ((x : ℕ) × (x < m) × T (p x) × (g x ≡ v))

  pub least_is : (z m : ℕ) → Least z m (least z m)
  unfolding upto
  least_is z zero = record { start = le_refl z; below = λ x l. absurd (omega arith); is = inl refl }
  least_is z (suc m) = go (least_is z m) (p m) refl
    where
      v : ℕ
      v = least z m

      wider : Least z m v → (v ≡ z) ⊎ ((x : ℕ) × (x < suc m) × T (p x) × (g x ≡ v))
      wider ih = ⊎_elim inl (λ q. inr (q.0, omega (arith, q.1), q.2, q.3)) ih.is

      pick : Least z m v → T (p m) → (c : Bool) → ltb (g m) v ≡ c → Least z (suc m) (cond c (g m) v)
      pick ih t true e = let l = ltb→lt (g m) v (yes_T e) in record {
        start = omega (arith, ih.start);
        below = λ x u q. below x u q (ℕ_discrete x m);
        is = inr (m, le_refl (suc m), t, refl);
      }
        where
          below : (x : ℕ) → x < suc m → T (p x) → Dec (x ≡ m) → g m ≤ g x
          below x u q (yes o) = subst (λ y. g m ≤ g y) (sym o) (le_refl (g m))
          below x u q (no o) = omega (arith, ih.below x (omega (arith, o)) q, ltb→lt (g m) v (yes_T e))
      pick ih t false e = record {
        start = ih.start;
        below = λ x u q. below x u q (ℕ_discrete x m);
        is = wider ih;
      }
        where
          below : (x : ℕ) → x < suc m → T (p x) → Dec (x ≡ m) → v ≤ g x
          below x u q (yes o) = subst (λ y. v ≤ g y) (sym o) (lib.Dec.nltb→le (g m) v (not_T (ltb (g m) v) (no_T e)))
          below x u q (no o) = ih.below x (omega (arith, o)) q

      go : Least z m v → (b : Bool) → p m ≡ b → Least z (suc m) (cond b (cond (ltb (g m) v) (g m) v) v)
      go ih true q = pick ih (yes_T q) (ltb (g m) v) refl
      go ih false q = record { start = ih.start; below = λ x u t. below x u t (ℕ_discrete x m); is = wider ih }
        where
          below : (x : ℕ) → x < suc m → T (p x) → Dec (x ≡ m) → v ≤ g x
          below x u t (yes o) = absurd (no_T q (subst (λ y. T (p y)) o t))
          below x u t (no o) = ih.below x (omega (arith, o)) t
