-- The tables behind the references, as the lists that the rules speak of.
use Rattle.std.specs.Prelude.{◌≡◌, ℕ, ◌-◌, List, length, replicate, slice_index_or}
use Rattle.rules.specs.Setup.{Setup}
use Rattle.rules.specs.Tables as of_rules
use Rattle.tables.specs.declared.lent.Tables.{Tables}
use Rattle.terms.specs.declared.terms.Terms.{Terms}
use Rattle.terms.specs.Numbers.{bench_of_terms}

module _ {A : Type 0} where
  abbrev pub view_at : ℕ → Tables A → of_rules.Tables A
  view_at clock t = record {
    clock = clock;
    blocks = t.blocks.now;
    records = t.records.now;
    orders = t.orders.now;
    drafts = t.drafts.now;
    seats = t.seats.now;
    received = t.received.now;
    votes = t.votes.now;
    certificates = t.certificates.now;
  }

  -- the clock and the tables
  abbrev pub view : Terms → Tables A → of_rules.Tables A
  view b t = view_at b.clock t

  -- the tables alone, for what does not look at the clock
  abbrev pub rows_of : Tables A → of_rules.Tables A
  rows_of t = view_at 0 t

  -- the bench's numbers with its order rows
  abbrev pub setup_of : Terms → Tables A → Setup
  setup_of b t = of_rules.setup_at (bench_of_terms b) (view b t)

-- a round's order as sixteen ranks; all 0 where there is no row for it
abbrev pub order_at : List (List ℕ) → ℕ → List ℕ
order_at rows round = slice_index_or rows (round - 1) (replicate 16 0)

-- The same memory is behind each field, so the lengths stay, and the order rows are as they were.
pub record SameMemory {A : Type 0} (s t : Tables A) : Type 0 where
  pub blocks : s.blocks.ghost_name ≡ t.blocks.ghost_name
  pub records : s.records.ghost_name ≡ t.records.ghost_name
  pub orders : s.orders.ghost_name ≡ t.orders.ghost_name
  pub drafts : s.drafts.ghost_name ≡ t.drafts.ghost_name
  pub seats : s.seats.ghost_name ≡ t.seats.ghost_name
  pub received : s.received.ghost_name ≡ t.received.ghost_name
  pub votes : s.votes.ghost_name ≡ t.votes.ghost_name
  pub certificates : s.certificates.ghost_name ≡ t.certificates.ghost_name
  pub order_rows : s.orders.now ≡ t.orders.now
  pub blocks_long : length s.blocks.now ≡ length t.blocks.now
  pub records_long : length s.records.now ≡ length t.records.now
  pub drafts_long : length s.drafts.now ≡ length t.drafts.now
  pub seats_long : length s.seats.now ≡ length t.seats.now
  pub received_long : length s.received.now ≡ length t.received.now
  pub votes_long : length s.votes.now ≡ length t.votes.now
  pub certificates_long : length s.certificates.now ≡ length t.certificates.now
