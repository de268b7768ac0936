-- Loops and searches: what they give.
use Rattle.std.proofs.Common.{◌≡◌, ℕ, zero, suc, ◌+◌, ◌<◌, ◌≤◌, Bool, true, false, cond, T, Some, None, sym, refl, subst, le_refl, arith}
use native.Mathlib.Decide.{ℕ_discrete}
use Rattle.std.proofs.lemmas.Option.{none-some, same_Some}
use Rattle.rules.specs.Loops.{any, first_from, upto}
use Rattle.laws.proofs.Tests.{no_T, yes_T}

-- what is kept by each turn is kept by all
pub upto_keeps : {A : Type 0} (P : A → Type 0) (f : ℕ → A → A) (z : A) (k : ℕ) → P z → ((x : ℕ) (a : A) → x < k → P a → P (f x a)) → P (upto f z k)
unfolding upto
upto_keeps P f z zero pz st = pz
upto_keeps P f z (suc k) pz st = st k (upto f z k) (le_refl (suc k)) (upto_keeps P f z k pz (λ x a l. st x a (omega arith)))

-- the same, where what is kept depends on the turn
pub upto_step : {A : Type 0} (P : ℕ → A → Type 0) (f : ℕ → A → A) (z : A) (k : ℕ) → P 0 z → ((x : ℕ) (a : A) → x < k → P x a → P (suc x) (f x a)) → P k (upto f z k)
unfolding upto
upto_step P f z zero pz st = pz
upto_step P f z (suc k) pz st = st k (upto f z k) (le_refl (suc k)) (upto_step P f z k pz (λ x a l. st x a (omega arith)))

-- x is one of the m numbers from k on, and passes
pub record First (p : ℕ → Bool) (k m x : ℕ) : Type 0 where
  pub from : k ≤ x
  pub to : x < k + m
  pub passes : T (p x)

-- a search that finds x
pub first_some : (p : ℕ → Bool) (k m x : ℕ) → first_from p k m ≡ Some x → First p k m x
unfolding first_from
first_some p k zero x e = absurd (none-some x e)
first_some p k (suc m) x e = go (λ (q : first_from p (suc k) m ≡ Some x). first_some p (suc k) m x q) (p k) refl e
  where
    go : (first_from p (suc k) m ≡ Some x → First p (suc k) m x) → (b : Bool) → p k ≡ b → cond b (Some k) (first_from p (suc k) m) ≡ Some x → First p k (suc m) x
    go ih true q e = let o = same_Some k x e in record { from = omega (arith, o); to = omega (arith, o); passes = subst (λ y. T (p y)) o (yes_T q) }
    go ih false q e = let r = ih e in record { from = omega (arith, r.from); to = omega (arith, r.to); passes = r.passes }

-- a search that finds nothing
pub first_none : (p : ℕ → Bool) (k m x : ℕ) → first_from p k m ≡ None → k ≤ x → x < k + m → T (p x) → ⊥
unfolding first_from
first_none p k zero x e l u t = omega arith
first_none p k (suc m) x e l u t = go (λ (q : first_from p (suc k) m ≡ None) (v : suc k ≤ x) (w : x < suc k + m). first_none p (suc k) m x q v w t) (p k) refl e
    (ℕ_discrete k x)
  where
    go : (first_from p (suc k) m ≡ None → suc k ≤ x → x < suc k + m → ⊥) → (b : Bool) → p k ≡ b → cond b (Some k) (first_from p (suc k) m) ≡ None → Dec (k ≡ x) → ⊥
    go ih true q e d = none-some k (sym e)
    go ih false q e (yes o) = no_T q (subst (λ y. T (p y)) (sym o) t)
    go ih false q e (no o) = ih e (omega (arith, o)) (omega arith)

-- nothing passes
pub any_none : (p : ℕ → Bool) (m : ℕ) → any p m ≡ false → (x : ℕ) → x < m → T (p x) → ⊥
unfolding any
any_none p zero e x l t = omega arith
any_none p (suc m) e x l t = go (λ (q : any p m ≡ false) (v : x < m). any_none p m q x v t) (p m) refl e (ℕ_discrete m x)
  where
    go : (any p m ≡ false → x < m → ⊥) → (b : Bool) → p m ≡ b → cond b true (any p m) ≡ false → Dec (m ≡ x) → ⊥
    go ih true q e d = no_T e tt
    go ih false q e (yes o) = no_T q (subst (λ y. T (p y)) (sym o) t)
    go ih false q e (no o) = ih e (omega (arith, o))
