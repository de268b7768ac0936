-- How many seats pass a test, and what follows from it.
use Rattle.std.proofs.Common.{◌≡◌, ℕ, zero, suc, ◌+◌, ◌<◌, ◌≤◌, Bool, true, false, cond, not, T, eqb, ◌⊎◌, sym, refl, subst, inl, inr, le_refl, add-le-add, arith, eqb→eq}
use native.Mathlib.Decide.{ℕ_discrete}
use lib.Dec.{eqb_refl}
use Rattle.rules.specs.Counting.{count}

-- a test holds or not
pub holds : (b : Bool) → T b ⊎ (T b → ⊥)
holds true = inl tt
holds false = inr (λ t. t)

one_le : (a b : Bool) → (T a → T b) → cond a 1 0 ≤ cond b 1 0
one_le true true f = omega arith
one_le true false f = absurd (f tt)
one_le false true f = omega arith
one_le false false f = omega arith

-- where all who pass p pass q too, no fewer pass q
pub count_mono_below : (n : ℕ) (p q : ℕ → Bool) → ((i : ℕ) → i < n → T (p i) → T (q i)) → count n p ≤ count n q
count_mono_below zero p q f = omega arith
count_mono_below (suc n) p q f = add-le-add (one_le (p n) (q n) (f n (le_refl (suc n)))) (count_mono_below n p q (λ i l. f i (omega arith)))

pub count_mono : (n : ℕ) (p q : ℕ → Bool) → ((i : ℕ) → T (p i) → T (q i)) → count n p ≤ count n q
count_mono n p q f = count_mono_below n p q (λ i l. f i)

-- those who pass and those who fail are all
pub count_not : (n : ℕ) (p : ℕ → Bool) → count n p + count n (λ i. not (p i)) ≡ n
count_not zero p = refl
count_not (suc n) p = go (count_not n p) (p n) refl
  where
    go : count n p + count n (λ i. not (p i)) ≡ n → (b : Bool) → p n ≡ b → count (suc n) p + count (suc n) (λ i. not (p i)) ≡ suc n
    go ih true e = rw e (omega arith)
    go ih false e = rw e (omega arith)

-- where more pass p than fail q, one passes both
pub meets : (n : ℕ) (p q : ℕ → Bool) → count n (λ i. not (q i)) < count n p → (i : ℕ) × (i < n) × T (p i) × T (q i)
meets zero p q lt = absurd (omega arith)
meets (suc n) p q lt = go (meets n p q) (p n) (q n) refl refl
  where
    IH : Type 0
    IH = count n (λ i. not (q i)) < count n p → (i : ℕ) × (i < n) × T (p i) × T (q i)

    down : IH → count n (λ i. not (q i)) < count n p → (i : ℕ) × (i < suc n) × T (p i) × T (q i)
    down ih l = let m = ih l in (m.0, omega (arith, m.1), m.2, m.3)

    go : IH → (a b : Bool) → p n ≡ a → q n ≡ b → (i : ℕ) × (i < suc n) × T (p i) × T (q i)
    go ih true true ea eb = (n, le_refl (suc n), subst T (sym ea) tt, subst T (sym eb) tt)
    go ih true false ea eb = down ih (omega (arith, rw (ea, eb) at lt))
    go ih false true ea eb = down ih (omega (arith, rw (ea, eb) at lt))
    go ih false false ea eb = down ih (omega (arith, rw (ea, eb) at lt))

-- where each seat is A or B, all are A or some seat is B
pub all_or_one : {A B : ℕ → Type 0} (n : ℕ) → ((i : ℕ) → i < n → A i ⊎ B i) → ((i : ℕ) → i < n → A i) ⊎ ((i : ℕ) × (i < n) × B i)
all_or_one zero f = inl (λ i l. absurd (omega arith))
all_or_one {A} {B} (suc n) f = go (f n (le_refl (suc n))) (all_or_one n (λ i l. f i (omega arith)))
  where
    all : A n → ((i : ℕ) → i < n → A i) → (i : ℕ) → i < suc n → A i
    all a h i l = at (ℕ_discrete i n)
      where
        at : Dec (i ≡ n) → A i
        at (yes e) = subst A (sym e) a
        at (no d) = h i (omega (arith, d))

    go : A n ⊎ B n → ((i : ℕ) → i < n → A i) ⊎ ((i : ℕ) × (i < n) × B i) → ((i : ℕ) → i < suc n → A i) ⊎ ((i : ℕ) × (i < suc n) × B i)
    go (inr b) r = inr (n, le_refl (suc n), b)
    go (inl a) (inl h) = inl (all a h)
    go (inl a) (inr q) = inr (q.0, omega (arith, q.1), q.2)

-- the test p, which a now fails
except : (ℕ → Bool) → ℕ → ℕ → Bool
except p a i = cond (eqb i a) false (p i)

except_was : (p : ℕ → Bool) (a i : ℕ) → T (except p a i) → T (p i)
unfolding except
except_was p a i = go (eqb i a)
  where
    go : (b : Bool) → T (cond b false (p i)) → T (p i)
    go true t = absurd t
    go false t = t

except_is : (p : ℕ → Bool) (a i : ℕ) → (i ≡ a → ⊥) → T (p i) → T (except p a i)
unfolding except
except_is p a i n t = go (eqb i a) refl
  where
    go : (b : Bool) → eqb i a ≡ b → T (cond b false (p i))
    go true e = absurd (n (eqb→eq i a (subst T (sym e) tt)))
    go false e = t

except_gone : (p : ℕ → Bool) (a : ℕ) → T (except p a a) → ⊥
unfolding except
except_gone p a t = go (eqb a a) (eqb_refl a) t
  where
    go : (b : Bool) → T b → T (cond b false (p a)) → ⊥
    go true u t = t
    go false u t = u

-- one fewer passes it
except_less : (n : ℕ) (p : ℕ → Bool) (a : ℕ) → a < n → T (p a) → suc (count n (except p a)) ≤ count n p
except_less zero p a l t = absurd (omega arith)
except_less (suc n) p a l t = go (except_less n p a) (ℕ_discrete n a)
  where
    one : (b : Bool) → T b → ◌≡◌ {A = ℕ} (cond b 1 0) 1
    one true t = refl
    one false t = absurd t

    none : (b : Bool) → (T b → ⊥) → ◌≡◌ {A = ℕ} (cond b 1 0) 0
    none true f = absurd (f tt)
    none false f = refl

    go : (a < n → T (p a) → suc (count n (except p a)) ≤ count n p) → Dec (n ≡ a) → suc (count (suc n) (except p a)) ≤ count (suc n) p
    go ih (yes e) =
        let x = one (p n) (subst (λ y. T (p y)) (sym e) t) in
        let y = none (except p a n) (subst (λ y. T (except p a y) → ⊥) (sym e) (except_gone p a)) in
        omega (arith, x, y, count_mono n (except p a) p (except_was p a))
    go ih (no d) = let x = one_le (except p a n) (p n) (except_was p a n) in omega (arith, x, ih (omega (arith, d)) t)

-- where m different seats g 0 .. g (m - 1) pass, at least m pass
pub count_named : (m n : ℕ) (p : ℕ → Bool) (g : ℕ → ℕ) → ((x : ℕ) → x < m → (g x < n) × T (p (g x)))
    → ((x y : ℕ) → x < m → y < m → g x ≡ g y → x ≡ y) → m ≤ count n p
count_named zero n p g f one = omega arith
count_named (suc m) n p g f one =
    let last = f m (le_refl (suc m)) in
    let ih = count_named m n (except p (g m)) g
    (λ x l. let y = f x (omega arith) in (y.0, except_is p (g m) (g x) (λ e. omega (arith, one x m (omega arith) (le_refl (suc m)) e)) y.1))
    (λ x y l l' e. one x y (omega arith) (omega arith) e) in
    omega (arith, ih, except_less n p (g m) last.0 last.1)
