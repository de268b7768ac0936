-- Runs: one call after another.
use Rattle.std.specs.Prelude.{ℕ, List, [], ◌∷◌}
use Rattle.records.specs.Kind.{Kind}
use Rattle.rules.specs.Setup.{Bench, Setup}
use Rattle.rules.specs.Tables.{Tables, setup_at}
use Rattle.rules.specs.Calls.{Outcome, tick, offer, deliver_block, deliver_vote, deliver_certificate, plant, sign}

-- the calls, with what they name; A is the record type
pub data Call (A : Type 0) : Type 0 where
  tick_call : Call A
  offer_call : ℕ → A → Call A  -- seat, draft
  block_call : ℕ → ℕ → Call A  -- receiver, block
  vote_call : ℕ → ℕ → ℕ → Call A  -- voter, receiver, block
  certificate_call : ℕ → ℕ → ℕ → Call A  -- sender, receiver, round
  plant_call : ℕ → ℕ → ℕ → ℕ → A → Call A  -- seat, round, edition, parent, record
  sign_call : ℕ → ℕ → Call A  -- seat, block

module _ {A : Type 0} (s : Setup) (K : Kind A) where
  abbrev pub call_with : Call A → Tables A → Outcome A
  call_with tick_call t = tick s K t
  call_with (offer_call i d) t = offer s K i d t
  call_with (block_call j b) t = deliver_block s K j b t
  call_with (vote_call i j b) t = deliver_vote s K i j b t
  call_with (certificate_call i j r) t = deliver_certificate s K i j r t
  call_with (plant_call i r e p x) t = plant s K i r e p x t
  call_with (sign_call i b) t = sign s K i b t

-- a call on bench b with the tables t, whose order rows it reads
abbrev pub call : {A : Type 0} → Bench → Kind A → Call A → Tables A → Outcome A
call b K c t = call_with (setup_at b t) K c t

-- the tables after a list of calls, accepted or refused
unfoldable pub after : {A : Type 0} → Bench → Kind A → List (Call A) → Tables A → Tables A
after b K [] t = t
after b K (c ∷ cs) t = after b K cs (call b K c t).tables
