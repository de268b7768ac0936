-- The tables of a new bench, stage by stage.
use Rattle.std.specs.Prelude.{◌≡◌, ℕ, ◌+◌, ◌*◌, true, cond, List, length, replicate, None}
use Rattle.records.specs.Kind.{Kind}
use Rattle.rules.specs.declared.rows.Phase.TheVariants.{Waiting}
use Rattle.rules.specs.Loops.{writes}
use Rattle.rules.specs.Setup.{Setup, honest, own_block}
use Rattle.rules.specs.Tables.{Tables, no_block, nothing_received, no_vote, no_certificate, with_received}
use Rattle.rules.specs.Holding.{hold_row}
use Rattle.rules.specs.Opening.{first_block}
use Rattle.rules.specs.Seat.{with_block}
use Rattle.writing.specs.Writes.{holds}
use Rattle.tables.specs.declared.lent.Tables as of_code

-- The same memory is behind each field.
pub record SamePlaces {A : Type 0} (s t : of_code.Tables A) : Type 0 where
  pub blocks : s.blocks.ghost_name ≡ t.blocks.ghost_name
  pub records : s.records.ghost_name ≡ t.records.ghost_name
  pub orders : s.orders.ghost_name ≡ t.orders.ghost_name
  pub drafts : s.drafts.ghost_name ≡ t.drafts.ghost_name
  pub seats : s.seats.ghost_name ≡ t.seats.ghost_name
  pub received : s.received.ghost_name ≡ t.received.ghost_name
  pub votes : s.votes.ghost_name ≡ t.votes.ghost_name
  pub certificates : s.certificates.ghost_name ≡ t.certificates.ghost_name

module _ {A : Type 0} where
  -- other order rows
  abbrev pub with_orders : Tables A → List (List ℕ) → Tables A
  with_orders t x = record {
    clock = t.clock;
    blocks = t.blocks;
    records = t.records;
    orders = x;
    drafts = t.drafts;
    seats = t.seats;
    received = t.received;
    votes = t.votes;
    certificates = t.certificates;
  }

  -- no block, and nothing of any block
  abbrev pub without_blocks : Kind A → Tables A → Tables A
  without_blocks K t = record {
    clock = t.clock;
    blocks = replicate (length t.blocks) no_block;
    records = replicate (length t.records) K.first;
    orders = t.orders;
    drafts = t.drafts;
    seats = t.seats;
    received = replicate (length t.received) nothing_received;
    votes = replicate (length t.votes) no_vote;
    certificates = t.certificates;
  }

  -- all seats wait in round 1, without drafts and certificates
  abbrev pub seats_entered : Tables A → Tables A
  seats_entered t = record {
    clock = t.clock;
    blocks = t.blocks;
    records = t.records;
    orders = t.orders;
    drafts = replicate (length t.drafts) None;
    seats = replicate (length t.seats) (record { round = 1; phase = Waiting; head = 0 });
    received = t.received;
    votes = t.votes;
    certificates = replicate (length t.certificates) no_certificate;
  }

  -- the first k seats hold block 0
  unfoldable pub first_held : Tables A → ℕ → Tables A
  first_held t k = with_received t (writes (λ i. true) (λ i. i) hold_row nothing_received t.received k)

module _ {A : Type 0} (s : Setup) (K : Kind A) where
  -- seat i has proposed the idle record in round 1, if it is honest
  abbrev pub first_proposal : Tables A → ℕ → Tables A
  first_proposal t i = cond (honest s i) (holds s (with_block t (own_block s i 1) 0 0 (K.idle K.first)) i (own_block s i 1)) t

  -- so have the honest of the first k seats
  unfoldable pub first_proposals : Tables A → ℕ → Tables A
  first_proposals t k = record {
    clock = t.clock;
    blocks = writes (honest s) (λ i. own_block s i 1) (λ a. first_block) no_block t.blocks k;
    records = writes (honest s) (λ i. own_block s i 1) (λ a. K.idle K.first) K.first t.records k;
    orders = t.orders;
    drafts = t.drafts;
    seats = t.seats;
    received = writes (honest s) (λ i. own_block s i 1 * s.n + i) hold_row nothing_received t.received k;
    votes = t.votes;
    certificates = t.certificates;
  }
