-- The stages of filling the tables, and that they end in the opened tables.
use Rattle.std.proofs.Common.{◌≡◌, ℕ, ◌+◌, ◌*◌, true, List, [], ◌∷◌, length, set, replicate, refl, subst, ap, ◌∙◌, one-add, rules}
use Rattle.std.specs.List.{FoldsTo}
use Rattle.orders.specs.Ranking.{Ranking}
use Rattle.orders.specs.Rows.{order_rows}
use Rattle.records.specs.Kind.{Kind}
use Rattle.rules.specs.Setup.{Bench, Setup, setup_with, block_rows}
use Rattle.rules.specs.Tables.{Tables, setup_at, fits, no_block}
use Rattle.rules.specs.Opening.{first_block, opened_tables, opened}
use Rattle.writing.specs.Writes.{with_block_row}
use Rattle.opening.specs.Stages.{with_orders, without_blocks, seats_entered, first_held, first_proposals}

-- the first of a table's rows, all others alike
pub first_row : {X : Type 0} (n m : ℕ) (a b : X) → n ≡ 1 + m → set (replicate n a) 0 b ≡ b ∷ replicate m a
first_row n m a b e = ap (λ (k : ℕ). set (replicate k a) 0 b) (e ∙ one-add m)

-- the lengths that fit
pub record Lengths {A : Type 0} (s : Setup) (t : Tables A) : Type 0 where
  pub blocks : length t.blocks ≡ block_rows s
  pub records : length t.records ≡ block_rows s
  pub orders : length t.orders ≡ s.rounds
  pub drafts : length t.drafts ≡ s.n
  pub seats : length t.seats ≡ s.n
  pub received : length t.received ≡ block_rows s * s.n
  pub votes : length t.votes ≡ block_rows s * s.n
  pub certificates : length t.certificates ≡ s.n * s.rounds

module _ {A : Type 0} (s : Setup) (t : Tables A) where
  pub lengths : fits s t ≡ true → Lengths s t
  unfolding fits
  lengths h = search rules

-- a table filled by a closure that always answers v and keeps its captures
pub filled_with : {F X : Type 0} (step : F → X → F → Type 0) (v : X) (f : F) (xs : List X) (q : F) → FoldsTo step f xs q
    → ((x : X) (d : F) → step f x d → (d ≡ f) × (x ≡ v)) → xs ≡ replicate (length xs) v
filled_with step v f [] q h says = refl
filled_with {F} step v f (x ∷ xs) q h says =
    let s = says x h.0 h.1 in
    rw s.1 (ap (λ ys. v ∷ ys) (filled_with step v f xs q (subst (λ (e : F). FoldsTo step e xs q) s.0 h.2) says))

-- all stages
module _ {A : Type 0} (b : Bench) (m : Ranking) (K : Kind A) (t : Tables A) where
  abbrev rows : List (List ℕ)
  rows = order_rows m (length t.orders)

  pub opened_by : fits (setup_at b t) t ≡ true → t.clock ≡ 0
      → first_proposals (setup_with b []) K (first_held (with_block_row (seats_entered (without_blocks K (with_orders t rows))) 0 first_block) b.n) b.n ≡ opened b m K
  unfolding first_proposals first_held opened_tables
  opened_by h clock =
      let l = lengths (setup_at b t) t h in
      let first : set (replicate (length t.blocks) no_block) 0 first_block ≡ first_block ∷ replicate (b.rounds * b.n * b.editions) no_block =
      first_row (length t.blocks) (b.rounds * b.n * b.editions) no_block first_block l.blocks in
      rw (first, l.records, l.orders, l.drafts, l.seats, l.received, l.votes, l.certificates, clock)

  pub few_rows : fits (setup_at b t) t ≡ true → length t.orders ≡ b.rounds
  few_rows h = (lengths (setup_at b t) t h).orders
