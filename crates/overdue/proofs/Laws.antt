-- The search by messages is the search of the rules; what ends it with a hit, and what without.
use Rattle.std.proofs.Common.{◌≡◌, ℕ, zero, suc, ◌<◌, Bool, true, false, cond, not, sym, refl, ap, ◌∙◌, ⊎_elim, arith}
use Rattle.std.proofs.lemmas.Bool.{cases_eq}
use Rattle.rules.specs.Loops.{any}
use Rattle.rules.specs.Setup.{Setup, honest, block_round, block_owner, block_rows}
use Rattle.rules.specs.Tables.{Tables, has_signed, signing_tick, block_at, vote_at, certificate_at, entered_at}
use Rattle.rules.specs.Holding.{has_vote, has_certificate}
use Rattle.rules.specs.Overdue.{late, lacks_block, certificate_sent, block_overdue, vote_overdue, certificate_overdue, overdue}
use Rattle.overdue.specs.Messages.{block_late, vote_late, certificate_late, block_lacking, vote_lacking, certificate_lacking}
use Rattle.overdue.specs.Search.{late_block, late_vote, late_votes, late_certificate, late_certificates, searched}

pub any_hit : (p : ℕ → Bool) (m k : ℕ) → k < m → p k ≡ true → any p m ≡ true
unfolding any
any_hit p zero k l e = absurd (omega arith)
any_hit p (suc m) k l e =
    ⊎_elim
    (λ (q : k ≡ m). ap (λ (x : Bool). cond x true (any p m)) (ap p (sym q) ∙ e))
    (λ (q : k ≡ m → ⊥). go (p m) (any_hit p m k (omega arith) e))
    (cases_eq k m)
  where
    go : (x : Bool) → any p m ≡ true → cond x true (any p m) ≡ true
    go true f = refl
    go false f = f

any_same : (p q : ℕ → Bool) (m : ℕ) → ((k : ℕ) → p k ≡ q k) → any p m ≡ any q m
unfolding any
any_same p q zero h = refl
any_same p q (suc m) h = ap (λ (x : Bool). cond x true (any p m)) (h m) ∙ ap (cond (q m) true) (any_same p q m h)

three : (x y z w : Bool) → cond (cond x (cond y z false) false) w false ≡ cond x (cond y (cond z w false) false) false
three true true z w = refl
three true false z w = refl
three false y z w = refl

two : (x z w : Bool) → cond (cond x z false) w false ≡ cond x (cond z w false) false
two true z w = refl
two false z w = refl

or_first : (x y z : Bool) → x ≡ true → true ≡ cond x true (cond y true z)
or_first x y z e = sym (ap (λ (b : Bool). cond b true (cond y true z)) e)

or_second : (x y z : Bool) → y ≡ true → true ≡ cond x true (cond y true z)
or_second true y z e = refl
or_second false y z e = sym (ap (λ (b : Bool). cond b true z) e)

or_third : (x y z : Bool) → z ≡ true → true ≡ cond x true (cond y true z)
or_third true y z e = refl
or_third false true z e = refl
or_third false false z e = sym e

or_none : (x y z : Bool) → x ≡ false → y ≡ false → z ≡ false → false ≡ cond x true (cond y true z)
or_none x y z e f g = rw (e, f, g)

both : (x y : Bool) → x ≡ true → y ≡ true → cond x y false ≡ true
both x y e f = rw (e, f)

module _ {A : Type 0} (s : Setup) (t : Tables A) where
  block_is : (b : ℕ) → late_block s t b ≡ block_overdue s t b
  block_is b = three (block_at t b).made (honest s (block_owner s b)) (late s t (entered_at s t (block_owner s b) (block_round s b))) (any (lacks_block s t b) s.n)

  vote_is : (b i : ℕ) → late_vote s t b i ≡ vote_overdue s t b i
  vote_is b i = three (has_signed (vote_at s t i b)) (honest s i) (late s t (signing_tick (vote_at s t i b))) (any (λ j. cond (honest s j) (not (has_vote s t i b j)) false) s.n)

  certificate_is : (i r : ℕ) → late_certificate s t i r ≡ certificate_overdue s t i r
  certificate_is i r = two (certificate_sent s t i r) (late s t (certificate_at s t i (suc r)).tick) (any (λ j. cond (honest s j) (not (has_certificate s t (certificate_at s t i (suc r)).block (certificate_at s t i (suc r)).signers j)) false) s.n)

  searched_is : searched s t ≡ overdue s t
  unfolding searched overdue
  searched_is =
      let e = any_same (late_block s t) (λ b. block_overdue s t b) (block_rows s) block_is in
      let f = any_same (late_votes s t) (λ b. any (vote_overdue s t b) s.n) (block_rows s) (λ b. any_same (late_vote s t b) (vote_overdue s t b) s.n (vote_is b)) in
      let g = any_same (late_certificates s t) (λ i. any (certificate_overdue s t i) s.rounds) s.n (λ i. any_same (late_certificate s t i) (certificate_overdue s t i) s.rounds (certificate_is i)) in
      rw (e, f, g)

  abbrev blocks : Bool
  blocks = any (late_block s t) (block_rows s)

  abbrev votes : Bool
  votes = any (late_votes s t) (block_rows s)

  abbrev certificates : Bool
  certificates = any (late_certificates s t) s.n

  pub block_hit : (b j : ℕ) → b < block_rows s → j < s.n → block_late s t b ≡ true → block_lacking s t b j ≡ true → true ≡ overdue s t
  unfolding searched
  block_hit b j l m e f =
      let h = any_hit (block_lacking s t b) s.n j m f in
      or_first blocks votes certificates (any_hit (late_block s t) (block_rows s) b l (both (block_late s t b) (any (block_lacking s t b) s.n) e h)) ∙ searched_is

  pub vote_hit : (b i j : ℕ) → b < block_rows s → i < s.n → j < s.n → vote_late s t b i ≡ true → vote_lacking s t b i j ≡ true → true ≡ overdue s t
  unfolding searched
  vote_hit b i j l k m e f =
      let h = any_hit (vote_lacking s t b i) s.n j m f in
      let v = any_hit (late_vote s t b) s.n i k (both (vote_late s t b i) (any (vote_lacking s t b i) s.n) e h) in
      or_second blocks votes certificates (any_hit (late_votes s t) (block_rows s) b l v) ∙ searched_is

  pub certificate_hit : (i r j : ℕ) → i < s.n → r < s.rounds → j < s.n → certificate_late s t i r ≡ true → certificate_lacking s t i r j ≡ true → true ≡ overdue s t
  unfolding searched
  certificate_hit i r j l k m e f =
      let h = any_hit (certificate_lacking s t i r) s.n j m f in
      let v = any_hit (late_certificate s t i) s.rounds r k (both (certificate_late s t i r) (any (certificate_lacking s t i r) s.n) e h) in
      or_third blocks votes certificates (any_hit (late_certificates s t) s.n i l v) ∙ searched_is

  pub none_found : blocks ≡ false → votes ≡ false → certificates ≡ false → false ≡ overdue s t
  unfolding searched
  none_found e f g = or_none blocks votes certificates e f g ∙ searched_is
