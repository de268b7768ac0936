-- Tests, and what they tell: `T b` says that the test b passes.
use Rattle.std.proofs.Common.{◌≡◌, Bool, true, false, cond, ◌||◌, T, ◌⊎◌, sym, refl, subst, inl, inr}

-- by equations and by T
pub yes_T : {b : Bool} → b ≡ true → T b
yes_T e = subst T (sym e) tt

pub no_T : {b : Bool} → b ≡ false → T b → ⊥
no_T e t = subst T e t

pub T_yes : (b : Bool) → T b → b ≡ true
T_yes true t = refl
T_yes false t = absurd t

pub T_no : (b : Bool) → (T b → ⊥) → b ≡ false
T_no true n = absurd (n tt)
T_no false n = refl

-- a and then b
pub both : (a b : Bool) → T a → T b → T (cond a b false)
both true b s t = t
both false b s t = s

pub both_l : (a b : Bool) → T (cond a b false) → T a
both_l true b t = tt
both_l false b t = t

pub both_r : (a b : Bool) → T (cond a b false) → T b
both_r true b t = t
both_r false b t = absurd t

-- a or else b
pub neither : (a b : Bool) → cond a true b ≡ false → (a ≡ false) × (b ≡ false)
neither true b e = absurd (no_T e tt)
neither false b e = (refl, e)

pub or_l : (a b : Bool) → T a → T (a || b)
or_l true b t = tt
or_l false b t = absurd t

pub or_r : (a b : Bool) → T b → T (a || b)
or_r true b t = tt
or_r false b t = t

pub or_case : (a b : Bool) → T (a || b) → T a ⊎ T b
or_case true b t = inl tt
or_case false b t = inr t
