-- What stays the same from the opening of a bench on, and the numbers of its blocks.
use Rattle.std.specs.Prelude.{ℕ, zero, suc, ◌*◌, Bool, List}
use Rattle.numbers.specs.Numbering.{round_of, owner_of, number_of, block_count}
use Rattle.roster.specs.Marks.{is_honest}

-- the numbers of a bench
pub record Bench : Type 0 where
  pub n : ℕ  -- how many seats there are
  pub marks : ℕ  -- the Byzantine seats: bit s is seat s
  pub delay : ℕ  -- Δ: so many ticks after it was sent an honest seat's message must have reached every honest seat
  pub rounds : ℕ  -- R: the last round
  pub editions : ℕ  -- E: how many blocks a seat can make in a round; an honest one makes only the first
  pub quorum : ℕ  -- so many signatures notarise a block

-- the numbers of a bench, and its order rows: for each round the ranks of the seats
pub record Setup : Type 0 where
  pub n : ℕ
  pub marks : ℕ
  pub delay : ℕ
  pub rounds : ℕ
  pub editions : ℕ
  pub quorum : ℕ
  pub orders : List (List ℕ)

abbrev pub setup_with : Bench → List (List ℕ) → Setup
setup_with b orders = record {
  n = b.n;
  marks = b.marks;
  delay = b.delay;
  rounds = b.rounds;
  editions = b.editions;
  quorum = b.quorum;
  orders = orders;
}

module _ (s : Setup) where
  -- seat i is one of the bench's, and not Byzantine
  abbrev pub honest : ℕ → Bool
  honest i = is_honest s.n s.marks i

  -- the round and the owner of block b
  abbrev pub block_round : ℕ → ℕ
  block_round b = round_of s.n s.editions b

  abbrev pub block_owner : ℕ → ℕ
  block_owner b = owner_of s.n s.editions b

  -- the block that seat i proposes in round r if it is honest: its first edition
  abbrev pub own_block : ℕ → ℕ → ℕ
  own_block i r = number_of s.n s.editions r i 0

  -- the blocks of a round stand in a row: where it begins, and how many there are
  abbrev pub round_start : ℕ → ℕ
  round_start zero = 0
  round_start (suc r) = suc (r * (s.n * s.editions))

  abbrev pub round_width : ℕ
  round_width = s.n * s.editions

  -- how many blocks there can be, block 0 included
  abbrev pub block_rows : ℕ
  block_rows = block_count s.n s.rounds s.editions
