-- One step of taking a block in, and of gathering its signatures.
use Rattle.std.specs.Prelude.{cond, ℕ, ◌^◌}
use Rattle.std.specs.Int.Bits.{bit_or}
use Rattle.rules.specs.Setup.{Setup}
use Rattle.rules.specs.Tables.{Tables, has_signed, vote_at, with_received}
use Rattle.rules.specs.Holding.{take_in}

-- seat j of n has taken in block b, of this round
unfoldable pub taken : {A : Type 0} → ℕ → ℕ → Tables A → ℕ → ℕ → Tables A
taken n round t j b = with_received t (take_in n round t.blocks t.received j b)

-- the signatures m, and that of seat i if it has signed block b
abbrev pub with_signer : {A : Type 0} → Setup → Tables A → ℕ → ℕ → ℕ → ℕ
with_signer s t b i m = cond (has_signed (vote_at s t i b)) (bit_or m (2 ^ i)) m
