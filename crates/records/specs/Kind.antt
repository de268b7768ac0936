-- What a record type means.
use Rattle.std.specs.Prelude.{Bool, true, ◌≡◌}

-- A chain starts from the first record. `follows c p` says whether a block with record c may stand on a block with
-- record p. The idle record of p is what a seat posts on p when it has nothing to say.
pub record Kind (A : Type 0) : Type 0 where
  pub first : A
  pub follows : A → A → Bool
  pub idle : A → A

-- the law of a record type: the idle record of every p follows p
abbrev pub IdleFollows : {A : Type 0} → Kind A → Type 0
IdleFollows {A} k = (p : A) → k.follows (k.idle p) p ≡ true
