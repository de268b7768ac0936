-- The numbers of blocks, with n seats, R rounds and E editions.
use Rattle.std.specs.Prelude.{◌≡◌, ℕ, ◌+◌, ◌-◌, ◌*◌, ◌/◌, ◌%◌, ◌≤◌, Bool, cond, ◌&&◌, Some, None, Option, ◌==◌, nat_le, nat_lt}
use Rattle.numbers.specs.declared.block_id.BlockId.{BlockId}

-- the limits: 1 to 16 seats, 1 to 256 rounds, 1 to 8 editions
abbrev pub within_limits : ℕ → ℕ → ℕ → Bool
within_limits n R E = (nat_le 1 n && nat_le n 16) && ((nat_le 1 R && nat_le R 256) && (nat_le 1 E && nat_le E 8))

-- block 0, and one block for each round, seat and edition
abbrev pub block_count : ℕ → ℕ → ℕ → ℕ
block_count n R E = 1 + R * n * E

-- the number of the block of round r, seat s, edition e
abbrev pub number_of : ℕ → ℕ → ℕ → ℕ → ℕ → ℕ
number_of n E r s e = 1 + ((r - 1) * n + s) * E + e

-- back from a number: block 0 is of round 0, and the rest in rows of n × E to a round
abbrev pub round_of : ℕ → ℕ → ℕ → ℕ
round_of n E b = cond (b == 0) 0 (1 + (b - 1) / E / n)

abbrev pub owner_of : ℕ → ℕ → ℕ → ℕ
owner_of n E b = (b - 1) / E % n

abbrev pub edition_of : ℕ → ℕ → ℕ
edition_of E b = (b - 1) % E

-- the number of a block, if a bench of this size has it
abbrev pub number_answer : ℕ → ℕ → ℕ → BlockId → Option ℕ
number_answer n R E p =
    cond (nat_le 1 p.round && (nat_le p.round R && (nat_lt p.owner n && nat_lt p.edition E)))
    (Some (number_of n E p.round p.owner p.edition)) None

-- the block of a number, if it has round, owner and edition: block 0 has none
abbrev pub id_answer : ℕ → ℕ → ℕ → ℕ → Option BlockId
id_answer n R E b =
    cond (nat_le 1 b && nat_lt b (block_count n R E))
    (Some (record { round = round_of n E b; owner = owner_of n E b; edition = edition_of E b })) None

-- each is the other's inverse
abbrev pub NumberLeadsBack : Type 0
NumberLeadsBack = (n R E : ℕ) (p : BlockId) (b : ℕ) → number_answer n R E p ≡ Some b → id_answer n R E b ≡ Some p

abbrev pub IdLeadsBack : Type 0
IdLeadsBack =
    (n R E : ℕ) (p : BlockId) (b : ℕ) → 1 ≤ n → 1 ≤ E → id_answer n R E b ≡ Some p → number_answer n R E p ≡ Some b
