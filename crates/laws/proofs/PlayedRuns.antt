-- Runs of calls, computed: the answers and all tables at the end, as another program of the same rules gave them.
use Rattle.std.proofs.Common.{◌≡◌, ℕ, true, List, [], ◌∷◌, Some, None, Ok, Err, Option, Result, refl}
use lib.Count.{ones}
use Rattle.records.specs.declared.turn.Turn.{Turn}
use Rattle.records.specs.Turn.{turn_kind}
use Rattle.records.specs.Kind.{Kind}
use Rattle.rules.specs.declared.fault.BenchFault.{BenchFault}
use Rattle.rules.specs.declared.rows.Phase.TheVariants.{Waiting, Resting}
use Rattle.rules.specs.declared.rows.BlockRow.{BlockRow}
use Rattle.rules.specs.declared.rows.SeatRow.{SeatRow}
use Rattle.rules.specs.declared.rows.ReceivedRow.{ReceivedRow}
use Rattle.rules.specs.declared.rows.VoteRow.{VoteRow}
use Rattle.rules.specs.declared.rows.CertificateRow.{CertificateRow}
use Rattle.rules.specs.Loops.{upto, first_from, any, writes}
use Rattle.rules.specs.Sets.{bit}
use Rattle.rules.specs.Faults.{bench_fault_number}
use Rattle.rules.specs.Setup.{Bench, setup_with}
use Rattle.rules.specs.Tables.{Tables, fits, no_block, nothing_received, no_vote, no_certificate}
use Rattle.rules.specs.Holding.{take_in, signers}
use Rattle.rules.specs.Weights.{chain_weight}
use Rattle.rules.specs.ParentChoice.{parent_choice}
use Rattle.rules.specs.VotingChoice.{lowest_rank, voting_choice}
use Rattle.rules.specs.HeadChoice.{next_head}
use Rattle.rules.specs.Seat.{propose, vote_at_rank, vote, leave, react_in, react, end_wait}
use Rattle.rules.specs.Overdue.{overdue}
use Rattle.rules.specs.Calls.{tick, offer, deliver_block, deliver_vote, deliver_certificate, plant, sign}
use Rattle.rules.specs.Opening.{opened_tables}
use Rattle.rules.specs.Runs.{Call, call}
use Rattle.rules.specs.Runs.Call.{tick_call, offer_call, block_call, vote_call, certificate_call, plant_call, sign_call}

abbrev turn_of : ℕ → ℕ → Turn
turn_of holder turn = record { holder = holder; turn = turn }

-- 0, or the number of the refusal
abbrev number : Result (Unit {0}) BenchFault → ℕ
number (Ok u) = 0
number (Err f) = bench_fault_number f

-- the answers of a run of calls, and the tables at its end
unfoldable pub played : {A : Type 0} → Bench → Kind A → List (Call A) → Tables A → List ℕ × Tables A
played b K [] t = ([], t)
played b K (c ∷ cs) t =
    let o = call b K c t in
    let r = played b K cs o.tables in
    (number o.answer ∷ r.0, r.1)

abbrev two_of_three_bench : Bench
two_of_three_bench = record { n = 3; marks = 4; delay = 2; rounds = 3; editions = 2; quorum = 2 }

abbrev two_of_three_orders : List (List ℕ)
two_of_three_orders = (1 ∷ 2 ∷ 0 ∷ 0 ∷ 0 ∷ 0 ∷ 0 ∷ 0 ∷ 0 ∷ 0 ∷ 0 ∷ 0 ∷ 0 ∷ 0 ∷ 0 ∷ 0 ∷ []) ∷ (1 ∷ 2 ∷ 0 ∷ 0 ∷ 0 ∷ 0 ∷ 0 ∷ 0 ∷ 0 ∷ 0 ∷ 0 ∷ 0 ∷ 0 ∷ 0 ∷ 0 ∷ 0 ∷ []) ∷ (0 ∷ 2 ∷ 1 ∷ 0 ∷ 0 ∷ 0 ∷ 0 ∷ 0 ∷ 0 ∷ 0 ∷ 0 ∷ 0 ∷ 0 ∷ 0 ∷ 0 ∷ 0 ∷ []) ∷ []

abbrev two_of_three_calls : List (Call Turn)
two_of_three_calls = plant_call 2 2 0 1 (turn_of 1 1) ∷ block_call 1 3 ∷ block_call 0 1 ∷ plant_call 2 2 1 3 (turn_of 0 0) ∷ block_call 0 3 ∷ vote_call 1 1 3 ∷ plant_call 2 1 0 0 (turn_of 1 1) ∷ vote_call 2 1 5 ∷ block_call 0 3 ∷ block_call 1 3 ∷ tick_call ∷ block_call 1 1 ∷ tick_call ∷ tick_call ∷ tick_call ∷ plant_call 2 2 1 1 (turn_of 0 0) ∷ sign_call 2 14 ∷ tick_call ∷ plant_call 2 3 0 12 (turn_of 3 1) ∷ tick_call ∷ sign_call 1 10 ∷ vote_call 0 1 1 ∷ tick_call ∷ vote_call 1 0 1 ∷ tick_call ∷ vote_call 2 2 5 ∷ offer_call 1 (turn_of 1 1) ∷ block_call 0 9 ∷ sign_call 2 0 ∷ tick_call ∷ block_call 1 7 ∷ certificate_call 1 2 2 ∷ offer_call 1 (turn_of 4 2) ∷ tick_call ∷ vote_call 0 1 1 ∷ offer_call 0 (turn_of 3 1) ∷ tick_call ∷ tick_call ∷ certificate_call 1 1 1 ∷ tick_call ∷ certificate_call 0 1 1 ∷ vote_call 2 0 5 ∷ block_call 0 3 ∷ block_call 1 3 ∷ block_call 0 6 ∷ certificate_call 1 1 4 ∷ plant_call 2 3 1 12 (turn_of 0 1) ∷ tick_call ∷ tick_call ∷ vote_call 0 1 7 ∷ block_call 0 18 ∷ vote_call 1 0 7 ∷ plant_call 2 1 1 0 (turn_of 1 1) ∷ tick_call ∷ block_call 0 15 ∷ block_call 2 1 ∷ sign_call 2 7 ∷ block_call 1 13 ∷ tick_call ∷ sign_call 2 6 ∷ plant_call 2 4 0 15 (turn_of 0 1) ∷ tick_call ∷ vote_call 1 1 7 ∷ plant_call 2 2 0 3 (turn_of 3 1) ∷ tick_call ∷ tick_call ∷ vote_call 0 1 13 ∷ vote_call 1 0 13 ∷ plant_call 2 4 0 13 (turn_of 3 1) ∷ block_call 2 13 ∷ tick_call ∷ tick_call ∷ block_call 2 1 ∷ sign_call 2 0 ∷ offer_call 3 (turn_of 1 1) ∷ tick_call ∷ tick_call ∷ tick_call ∷ tick_call ∷ tick_call ∷ block_call 1 9 ∷ certificate_call 0 2 3 ∷ tick_call ∷ plant_call 2 1 0 0 (turn_of 0 1) ∷ offer_call 3 (turn_of 4 2) ∷ tick_call ∷ tick_call ∷ tick_call ∷ offer_call 2 (turn_of 1 1) ∷ tick_call ∷ []

abbrev two_of_three_answers : List ℕ
two_of_three_answers = 12 ∷ 11 ∷ 11 ∷ 12 ∷ 0 ∷ 10 ∷ 0 ∷ 10 ∷ 11 ∷ 11 ∷ 0 ∷ 0 ∷ 0 ∷ 0 ∷ 0 ∷ 0 ∷ 9 ∷ 0 ∷ 12 ∷ 13 ∷ 3 ∷ 0 ∷ 13 ∷ 0 ∷ 0 ∷ 3 ∷ 0 ∷ 0 ∷ 9 ∷ 13 ∷ 0 ∷ 3 ∷ 0 ∷ 0 ∷ 11 ∷ 0 ∷ 0 ∷ 0 ∷ 11 ∷ 0 ∷ 11 ∷ 10 ∷ 11 ∷ 11 ∷ 9 ∷ 10 ∷ 12 ∷ 13 ∷ 13 ∷ 0 ∷ 9 ∷ 0 ∷ 0 ∷ 0 ∷ 0 ∷ 3 ∷ 0 ∷ 0 ∷ 0 ∷ 0 ∷ 6 ∷ 0 ∷ 11 ∷ 12 ∷ 0 ∷ 0 ∷ 0 ∷ 0 ∷ 6 ∷ 3 ∷ 0 ∷ 0 ∷ 3 ∷ 9 ∷ 2 ∷ 0 ∷ 0 ∷ 0 ∷ 0 ∷ 0 ∷ 11 ∷ 3 ∷ 0 ∷ 11 ∷ 2 ∷ 0 ∷ 0 ∷ 0 ∷ 3 ∷ 0 ∷ []

abbrev two_of_three_blocks : List BlockRow
two_of_three_blocks = record { made = true; parent = 0; carried = 0 } ∷ record { made = true; parent = 0; carried = 0 } ∷ no_block ∷ record { made = true; parent = 0; carried = 0 } ∷ no_block ∷ record { made = true; parent = 0; carried = 0 } ∷ record { made = true; parent = 0; carried = 0 } ∷ record { made = true; parent = 1; carried = 3 } ∷ no_block ∷ record { made = true; parent = 1; carried = 3 } ∷ no_block ∷ no_block ∷ record { made = true; parent = 1; carried = 3 } ∷ record { made = true; parent = 7; carried = 3 } ∷ no_block ∷ record { made = true; parent = 7; carried = 3 } ∷ no_block ∷ no_block ∷ no_block ∷ []

abbrev two_of_three_records : List Turn
two_of_three_records = (turn_of 0 0) ∷ (turn_of 0 0) ∷ (turn_of 0 0) ∷ (turn_of 0 0) ∷ (turn_of 0 0) ∷ (turn_of 1 1) ∷ (turn_of 1 1) ∷ (turn_of 0 0) ∷ (turn_of 0 0) ∷ (turn_of 0 0) ∷ (turn_of 0 0) ∷ (turn_of 0 0) ∷ (turn_of 0 0) ∷ (turn_of 3 1) ∷ (turn_of 0 0) ∷ (turn_of 0 0) ∷ (turn_of 0 0) ∷ (turn_of 0 0) ∷ (turn_of 0 0) ∷ []

abbrev two_of_three_drafts : List (Option Turn)
two_of_three_drafts = None ∷ Some (turn_of 4 2) ∷ None ∷ []

abbrev two_of_three_seats : List SeatRow
two_of_three_seats = record { round = 4; phase = Resting; head = 7 } ∷ record { round = 4; phase = Resting; head = 7 } ∷ record { round = 1; phase = Waiting; head = 0 } ∷ []

abbrev two_of_three_received : List ReceivedRow
two_of_three_received = record { held = true; signers = 0 } ∷ record { held = true; signers = 0 } ∷ record { held = true; signers = 0 } ∷ record { held = true; signers = 3 } ∷ record { held = true; signers = 3 } ∷ record { held = true; signers = 3 } ∷ nothing_received ∷ nothing_received ∷ nothing_received ∷ record { held = true; signers = 0 } ∷ record { held = true; signers = 0 } ∷ nothing_received ∷ nothing_received ∷ nothing_received ∷ nothing_received ∷ nothing_received ∷ nothing_received ∷ record { held = true; signers = 0 } ∷ nothing_received ∷ nothing_received ∷ record { held = true; signers = 4 } ∷ record { held = true; signers = 3 } ∷ record { held = true; signers = 3 } ∷ record { held = true; signers = 4 } ∷ nothing_received ∷ nothing_received ∷ nothing_received ∷ record { held = true; signers = 0 } ∷ record { held = true; signers = 0 } ∷ nothing_received ∷ nothing_received ∷ nothing_received ∷ nothing_received ∷ nothing_received ∷ nothing_received ∷ nothing_received ∷ nothing_received ∷ nothing_received ∷ record { held = true; signers = 0 } ∷ record { held = true; signers = 3 } ∷ record { held = true; signers = 3 } ∷ nothing_received ∷ nothing_received ∷ nothing_received ∷ nothing_received ∷ record { held = true; signers = 0 } ∷ record { held = true; signers = 0 } ∷ nothing_received ∷ nothing_received ∷ nothing_received ∷ nothing_received ∷ nothing_received ∷ nothing_received ∷ nothing_received ∷ nothing_received ∷ nothing_received ∷ nothing_received ∷ []

abbrev two_of_three_votes : List VoteRow
two_of_three_votes = no_vote ∷ no_vote ∷ no_vote ∷ record { sent = Some 4 } ∷ record { sent = Some 4 } ∷ no_vote ∷ no_vote ∷ no_vote ∷ no_vote ∷ no_vote ∷ no_vote ∷ no_vote ∷ no_vote ∷ no_vote ∷ no_vote ∷ no_vote ∷ no_vote ∷ no_vote ∷ no_vote ∷ no_vote ∷ record { sent = Some 12 } ∷ record { sent = Some 9 } ∷ record { sent = Some 9 } ∷ record { sent = Some 11 } ∷ no_vote ∷ no_vote ∷ no_vote ∷ no_vote ∷ no_vote ∷ no_vote ∷ no_vote ∷ no_vote ∷ no_vote ∷ no_vote ∷ no_vote ∷ no_vote ∷ no_vote ∷ no_vote ∷ no_vote ∷ record { sent = Some 14 } ∷ record { sent = Some 14 } ∷ no_vote ∷ no_vote ∷ no_vote ∷ no_vote ∷ no_vote ∷ no_vote ∷ no_vote ∷ no_vote ∷ no_vote ∷ no_vote ∷ no_vote ∷ no_vote ∷ no_vote ∷ no_vote ∷ no_vote ∷ no_vote ∷ []

abbrev two_of_three_certificates : List CertificateRow
two_of_three_certificates = record { block = 1; signers = 3; tick = 5 } ∷ record { block = 7; signers = 3; tick = 10 } ∷ record { block = 13; signers = 3; tick = 15 } ∷ record { block = 1; signers = 3; tick = 5 } ∷ record { block = 7; signers = 3; tick = 10 } ∷ record { block = 13; signers = 3; tick = 15 } ∷ no_certificate ∷ no_certificate ∷ no_certificate ∷ []

pub two_of_three : played two_of_three_bench turn_kind two_of_three_calls (opened_tables (setup_with two_of_three_bench two_of_three_orders) turn_kind) ≡ (two_of_three_answers, record { clock = 27; blocks = two_of_three_blocks; records = two_of_three_records; orders = two_of_three_orders; drafts = two_of_three_drafts; seats = two_of_three_seats; received = two_of_three_received; votes = two_of_three_votes; certificates = two_of_three_certificates })
unfolding played tick offer deliver_block deliver_vote deliver_certificate plant sign fits overdue any upto first_from writes take_in chain_weight parent_choice signers lowest_rank voting_choice vote_at_rank vote propose leave react_in react next_head end_wait opened_tables ones bit
two_of_three = refl

abbrev three_of_five_bench : Bench
three_of_five_bench = record { n = 5; marks = 18; delay = 1; rounds = 4; editions = 1; quorum = 3 }

abbrev three_of_five_orders : List (List ℕ)
three_of_five_orders = (0 ∷ 3 ∷ 2 ∷ 1 ∷ 4 ∷ 0 ∷ 0 ∷ 0 ∷ 0 ∷ 0 ∷ 0 ∷ 0 ∷ 0 ∷ 0 ∷ 0 ∷ 0 ∷ []) ∷ (4 ∷ 2 ∷ 0 ∷ 1 ∷ 3 ∷ 0 ∷ 0 ∷ 0 ∷ 0 ∷ 0 ∷ 0 ∷ 0 ∷ 0 ∷ 0 ∷ 0 ∷ 0 ∷ []) ∷ (0 ∷ 4 ∷ 3 ∷ 2 ∷ 1 ∷ 0 ∷ 0 ∷ 0 ∷ 0 ∷ 0 ∷ 0 ∷ 0 ∷ 0 ∷ 0 ∷ 0 ∷ 0 ∷ []) ∷ (1 ∷ 3 ∷ 0 ∷ 2 ∷ 4 ∷ 0 ∷ 0 ∷ 0 ∷ 0 ∷ 0 ∷ 0 ∷ 0 ∷ 0 ∷ 0 ∷ 0 ∷ 0 ∷ []) ∷ []

abbrev three_of_five_calls : List (Call Turn)
three_of_five_calls = vote_call 1 2 4 ∷ plant_call 4 2 0 4 (turn_of 3 1) ∷ block_call 2 1 ∷ block_call 3 1 ∷ plant_call 1 1 0 0 (turn_of 1 1) ∷ block_call 0 3 ∷ block_call 3 3 ∷ block_call 0 1 ∷ block_call 0 4 ∷ block_call 0 1 ∷ block_call 3 4 ∷ block_call 2 4 ∷ plant_call 4 1 0 0 (turn_of 3 1) ∷ tick_call ∷ sign_call 4 5 ∷ plant_call 4 2 0 3 (turn_of 1 1) ∷ vote_call 1 1 5 ∷ block_call 2 1 ∷ tick_call ∷ plant_call 4 2 0 1 (turn_of 3 1) ∷ vote_call 0 2 1 ∷ offer_call 4 (turn_of 3 1) ∷ vote_call 0 3 1 ∷ vote_call 2 0 1 ∷ plant_call 1 1 0 0 (turn_of 0 0) ∷ sign_call 4 5 ∷ vote_call 1 2 10 ∷ vote_call 2 3 1 ∷ vote_call 1 1 3 ∷ block_call 0 9 ∷ vote_call 4 2 21 ∷ vote_call 4 0 0 ∷ plant_call 4 2 0 4 (turn_of 3 1) ∷ vote_call 3 2 1 ∷ plant_call 4 3 0 9 (turn_of 0 1) ∷ block_call 2 9 ∷ block_call 1 8 ∷ block_call 2 6 ∷ vote_call 4 2 6 ∷ vote_call 1 4 10 ∷ block_call 1 6 ∷ block_call 3 6 ∷ sign_call 1 0 ∷ tick_call ∷ sign_call 0 10 ∷ block_call 2 10 ∷ tick_call ∷ block_call 3 17 ∷ vote_call 0 4 1 ∷ block_call 3 6 ∷ block_call 0 9 ∷ block_call 1 8 ∷ offer_call 1 (turn_of 0 1) ∷ vote_call 1 3 4 ∷ block_call 1 4 ∷ offer_call 4 (turn_of 0 0) ∷ block_call 0 8 ∷ block_call 0 6 ∷ vote_call 4 4 8 ∷ sign_call 1 13 ∷ block_call 3 8 ∷ plant_call 1 3 1 8 (turn_of 3 1) ∷ tick_call ∷ block_call 2 3 ∷ vote_call 2 4 1 ∷ sign_call 4 13 ∷ plant_call 1 3 0 9 (turn_of 3 1) ∷ tick_call ∷ vote_call 0 2 8 ∷ block_call 1 6 ∷ vote_call 3 4 8 ∷ vote_call 0 3 8 ∷ vote_call 2 0 8 ∷ vote_call 2 1 8 ∷ vote_call 2 3 8 ∷ offer_call 2 (turn_of 3 1) ∷ vote_call 3 0 8 ∷ vote_call 3 2 8 ∷ certificate_call 0 0 2 ∷ block_call 0 14 ∷ block_call 2 14 ∷ vote_call 3 0 1 ∷ vote_call 0 3 8 ∷ vote_call 4 0 0 ∷ tick_call ∷ block_call 4 11 ∷ offer_call 3 (turn_of 6 2) ∷ tick_call ∷ certificate_call 0 4 2 ∷ sign_call 1 8 ∷ block_call 2 11 ∷ block_call 3 11 ∷ plant_call 4 3 0 6 (turn_of 3 1) ∷ sign_call 1 2 ∷ block_call 0 13 ∷ plant_call 1 1 0 0 (turn_of 1 1) ∷ block_call 3 3 ∷ block_call 3 13 ∷ tick_call ∷ vote_call 4 2 2 ∷ certificate_call 2 2 1 ∷ block_call 1 1 ∷ tick_call ∷ sign_call 4 3 ∷ block_call 1 9 ∷ vote_call 0 2 11 ∷ tick_call ∷ offer_call 4 (turn_of 1 1) ∷ block_call 2 11 ∷ vote_call 0 3 11 ∷ vote_call 2 0 11 ∷ vote_call 2 3 14 ∷ vote_call 2 3 11 ∷ tick_call ∷ vote_call 3 0 11 ∷ vote_call 3 2 11 ∷ offer_call 3 (turn_of 4 2) ∷ vote_call 3 5 3 ∷ block_call 0 19 ∷ block_call 2 19 ∷ vote_call 1 2 18 ∷ sign_call 1 8 ∷ vote_call 3 1 8 ∷ block_call 2 16 ∷ block_call 3 16 ∷ block_call 0 9 ∷ plant_call 4 3 0 8 (turn_of 1 1) ∷ block_call 0 18 ∷ block_call 3 18 ∷ vote_call 4 3 14 ∷ tick_call ∷ block_call 2 4 ∷ offer_call 3 (turn_of 1 2) ∷ tick_call ∷ plant_call 1 4 0 15 (turn_of 2 2) ∷ vote_call 0 2 18 ∷ vote_call 0 3 1 ∷ vote_call 4 2 4 ∷ plant_call 1 1 0 0 (turn_of 0 0) ∷ block_call 1 14 ∷ sign_call 1 18 ∷ vote_call 0 3 18 ∷ offer_call 1 (turn_of 1 2) ∷ certificate_call 5 0 3 ∷ vote_call 4 4 2 ∷ block_call 3 6 ∷ sign_call 1 10 ∷ vote_call 2 0 18 ∷ vote_call 1 5 13 ∷ vote_call 0 3 8 ∷ vote_call 2 3 18 ∷ vote_call 3 0 18 ∷ certificate_call 3 0 2 ∷ sign_call 1 8 ∷ vote_call 3 2 18 ∷ sign_call 1 0 ∷ tick_call ∷ certificate_call 0 3 1 ∷ tick_call ∷ tick_call ∷ vote_call 0 4 11 ∷ tick_call ∷ tick_call ∷ plant_call 4 5 0 18 (turn_of 0 0) ∷ vote_call 1 4 5 ∷ certificate_call 3 3 3 ∷ tick_call ∷ vote_call 5 4 11 ∷ vote_call 2 3 11 ∷ tick_call ∷ sign_call 4 4 ∷ block_call 4 13 ∷ tick_call ∷ tick_call ∷ sign_call 4 6 ∷ tick_call ∷ tick_call ∷ offer_call 3 (turn_of 0 0) ∷ vote_call 0 4 1 ∷ sign_call 1 8 ∷ tick_call ∷ vote_call 3 1 8 ∷ sign_call 4 0 ∷ tick_call ∷ tick_call ∷ tick_call ∷ vote_call 3 4 11 ∷ tick_call ∷ plant_call 1 3 1 6 (turn_of 0 0) ∷ vote_call 0 3 1 ∷ plant_call 1 1 0 0 (turn_of 0 1) ∷ tick_call ∷ vote_call 3 0 18 ∷ block_call 2 1 ∷ tick_call ∷ tick_call ∷ sign_call 1 1 ∷ vote_call 0 3 8 ∷ plant_call 1 2 0 5 (turn_of 6 2) ∷ block_call 4 3 ∷ []

abbrev three_of_five_answers : List ℕ
three_of_five_answers = 10 ∷ 12 ∷ 0 ∷ 0 ∷ 0 ∷ 0 ∷ 0 ∷ 11 ∷ 0 ∷ 11 ∷ 11 ∷ 0 ∷ 0 ∷ 0 ∷ 0 ∷ 12 ∷ 3 ∷ 11 ∷ 0 ∷ 0 ∷ 0 ∷ 3 ∷ 0 ∷ 0 ∷ 11 ∷ 11 ∷ 10 ∷ 0 ∷ 3 ∷ 0 ∷ 9 ∷ 10 ∷ 11 ∷ 0 ∷ 12 ∷ 0 ∷ 3 ∷ 0 ∷ 10 ∷ 3 ∷ 3 ∷ 0 ∷ 9 ∷ 13 ∷ 3 ∷ 0 ∷ 13 ∷ 9 ∷ 3 ∷ 11 ∷ 11 ∷ 3 ∷ 3 ∷ 10 ∷ 3 ∷ 3 ∷ 0 ∷ 11 ∷ 3 ∷ 9 ∷ 0 ∷ 7 ∷ 0 ∷ 11 ∷ 3 ∷ 9 ∷ 12 ∷ 0 ∷ 0 ∷ 3 ∷ 3 ∷ 0 ∷ 0 ∷ 3 ∷ 0 ∷ 0 ∷ 0 ∷ 0 ∷ 11 ∷ 0 ∷ 0 ∷ 11 ∷ 11 ∷ 10 ∷ 13 ∷ 3 ∷ 0 ∷ 13 ∷ 3 ∷ 0 ∷ 0 ∷ 0 ∷ 12 ∷ 0 ∷ 0 ∷ 11 ∷ 11 ∷ 0 ∷ 0 ∷ 10 ∷ 11 ∷ 3 ∷ 0 ∷ 0 ∷ 3 ∷ 0 ∷ 13 ∷ 3 ∷ 11 ∷ 0 ∷ 0 ∷ 10 ∷ 0 ∷ 13 ∷ 0 ∷ 0 ∷ 0 ∷ 2 ∷ 0 ∷ 0 ∷ 10 ∷ 11 ∷ 3 ∷ 0 ∷ 0 ∷ 11 ∷ 0 ∷ 0 ∷ 0 ∷ 10 ∷ 0 ∷ 11 ∷ 0 ∷ 0 ∷ 12 ∷ 0 ∷ 11 ∷ 10 ∷ 11 ∷ 3 ∷ 0 ∷ 0 ∷ 3 ∷ 2 ∷ 3 ∷ 11 ∷ 0 ∷ 0 ∷ 2 ∷ 11 ∷ 0 ∷ 0 ∷ 11 ∷ 11 ∷ 0 ∷ 9 ∷ 0 ∷ 11 ∷ 0 ∷ 0 ∷ 3 ∷ 0 ∷ 0 ∷ 6 ∷ 3 ∷ 11 ∷ 0 ∷ 2 ∷ 11 ∷ 0 ∷ 0 ∷ 3 ∷ 0 ∷ 0 ∷ 0 ∷ 0 ∷ 0 ∷ 0 ∷ 3 ∷ 11 ∷ 0 ∷ 3 ∷ 9 ∷ 0 ∷ 0 ∷ 0 ∷ 3 ∷ 0 ∷ 7 ∷ 11 ∷ 11 ∷ 0 ∷ 11 ∷ 11 ∷ 0 ∷ 0 ∷ 0 ∷ 11 ∷ 12 ∷ 3 ∷ []

abbrev three_of_five_blocks : List BlockRow
three_of_five_blocks = record { made = true; parent = 0; carried = 0 } ∷ record { made = true; parent = 0; carried = 0 } ∷ record { made = true; parent = 0; carried = 0 } ∷ record { made = true; parent = 0; carried = 0 } ∷ record { made = true; parent = 0; carried = 0 } ∷ record { made = true; parent = 0; carried = 0 } ∷ record { made = true; parent = 1; carried = 13 } ∷ no_block ∷ record { made = true; parent = 1; carried = 13 } ∷ record { made = true; parent = 1; carried = 13 } ∷ record { made = true; parent = 1; carried = 13 } ∷ record { made = true; parent = 8; carried = 13 } ∷ no_block ∷ record { made = true; parent = 8; carried = 13 } ∷ record { made = true; parent = 8; carried = 13 } ∷ record { made = true; parent = 8; carried = 15 } ∷ record { made = true; parent = 11; carried = 13 } ∷ no_block ∷ record { made = true; parent = 11; carried = 13 } ∷ record { made = true; parent = 11; carried = 13 } ∷ no_block ∷ []

abbrev three_of_five_records : List Turn
three_of_five_records = (turn_of 0 0) ∷ (turn_of 0 0) ∷ (turn_of 1 1) ∷ (turn_of 0 0) ∷ (turn_of 0 0) ∷ (turn_of 3 1) ∷ (turn_of 0 0) ∷ (turn_of 0 0) ∷ (turn_of 0 0) ∷ (turn_of 0 0) ∷ (turn_of 3 1) ∷ (turn_of 0 0) ∷ (turn_of 0 0) ∷ (turn_of 3 1) ∷ (turn_of 0 0) ∷ (turn_of 1 1) ∷ (turn_of 0 0) ∷ (turn_of 0 0) ∷ (turn_of 0 0) ∷ (turn_of 0 0) ∷ (turn_of 0 0) ∷ []

abbrev three_of_five_drafts : List (Option Turn)
three_of_five_drafts = None ∷ None ∷ None ∷ Some (turn_of 0 0) ∷ None ∷ []

abbrev three_of_five_seats : List SeatRow
three_of_five_seats = record { round = 5; phase = Resting; head = 11 } ∷ record { round = 1; phase = Waiting; head = 0 } ∷ record { round = 5; phase = Resting; head = 11 } ∷ record { round = 5; phase = Resting; head = 11 } ∷ record { round = 1; phase = Waiting; head = 0 } ∷ []

abbrev three_of_five_received : List ReceivedRow
three_of_five_received = record { held = true; signers = 0 } ∷ record { held = true; signers = 0 } ∷ record { held = true; signers = 0 } ∷ record { held = true; signers = 0 } ∷ record { held = true; signers = 0 } ∷ record { held = true; signers = 13 } ∷ record { held = true; signers = 15 } ∷ record { held = true; signers = 13 } ∷ record { held = true; signers = 13 } ∷ record { held = true; signers = 13 } ∷ nothing_received ∷ record { held = true; signers = 2 } ∷ nothing_received ∷ nothing_received ∷ nothing_received ∷ record { held = true; signers = 0 } ∷ nothing_received ∷ record { held = true; signers = 0 } ∷ record { held = true; signers = 0 } ∷ record { held = true; signers = 16 } ∷ record { held = true; signers = 0 } ∷ nothing_received ∷ record { held = true; signers = 0 } ∷ record { held = true; signers = 0 } ∷ record { held = true; signers = 16 } ∷ nothing_received ∷ nothing_received ∷ nothing_received ∷ nothing_received ∷ record { held = true; signers = 16 } ∷ record { held = true; signers = 0 } ∷ nothing_received ∷ record { held = true; signers = 0 } ∷ record { held = true; signers = 0 } ∷ record { held = true; signers = 16 } ∷ nothing_received ∷ nothing_received ∷ nothing_received ∷ nothing_received ∷ nothing_received ∷ record { held = true; signers = 13 } ∷ record { held = true; signers = 15 } ∷ record { held = true; signers = 13 } ∷ record { held = true; signers = 13 } ∷ record { held = true; signers = 15 } ∷ record { held = true; signers = 0 } ∷ nothing_received ∷ record { held = true; signers = 0 } ∷ record { held = true; signers = 0 } ∷ nothing_received ∷ nothing_received ∷ record { held = true; signers = 2 } ∷ record { held = true; signers = 0 } ∷ nothing_received ∷ record { held = true; signers = 0 } ∷ record { held = true; signers = 13 } ∷ record { held = true; signers = 13 } ∷ record { held = true; signers = 13 } ∷ record { held = true; signers = 13 } ∷ nothing_received ∷ nothing_received ∷ nothing_received ∷ nothing_received ∷ nothing_received ∷ nothing_received ∷ record { held = true; signers = 0 } ∷ nothing_received ∷ record { held = true; signers = 0 } ∷ record { held = true; signers = 0 } ∷ nothing_received ∷ record { held = true; signers = 0 } ∷ nothing_received ∷ record { held = true; signers = 0 } ∷ record { held = true; signers = 0 } ∷ nothing_received ∷ nothing_received ∷ nothing_received ∷ nothing_received ∷ nothing_received ∷ record { held = true; signers = 0 } ∷ record { held = true; signers = 0 } ∷ nothing_received ∷ record { held = true; signers = 0 } ∷ record { held = true; signers = 0 } ∷ nothing_received ∷ nothing_received ∷ nothing_received ∷ nothing_received ∷ nothing_received ∷ nothing_received ∷ record { held = true; signers = 13 } ∷ record { held = true; signers = 2 } ∷ record { held = true; signers = 13 } ∷ record { held = true; signers = 13 } ∷ nothing_received ∷ record { held = true; signers = 0 } ∷ nothing_received ∷ record { held = true; signers = 0 } ∷ record { held = true; signers = 0 } ∷ nothing_received ∷ nothing_received ∷ nothing_received ∷ nothing_received ∷ nothing_received ∷ nothing_received ∷ []

abbrev three_of_five_votes : List VoteRow
three_of_five_votes = no_vote ∷ no_vote ∷ no_vote ∷ no_vote ∷ no_vote ∷ record { sent = Some 2 } ∷ record { sent = Some 27 } ∷ record { sent = Some 2 } ∷ record { sent = Some 2 } ∷ no_vote ∷ no_vote ∷ record { sent = Some 4 } ∷ no_vote ∷ no_vote ∷ no_vote ∷ no_vote ∷ no_vote ∷ no_vote ∷ no_vote ∷ record { sent = Some 6 } ∷ no_vote ∷ no_vote ∷ no_vote ∷ no_vote ∷ record { sent = Some 15 } ∷ no_vote ∷ no_vote ∷ no_vote ∷ no_vote ∷ record { sent = Some 1 } ∷ no_vote ∷ no_vote ∷ no_vote ∷ no_vote ∷ record { sent = Some 17 } ∷ no_vote ∷ no_vote ∷ no_vote ∷ no_vote ∷ no_vote ∷ record { sent = Some 4 } ∷ record { sent = Some 4 } ∷ record { sent = Some 4 } ∷ record { sent = Some 4 } ∷ no_vote ∷ no_vote ∷ no_vote ∷ no_vote ∷ no_vote ∷ no_vote ∷ no_vote ∷ record { sent = Some 8 } ∷ no_vote ∷ no_vote ∷ no_vote ∷ record { sent = Some 6 } ∷ no_vote ∷ record { sent = Some 6 } ∷ record { sent = Some 6 } ∷ no_vote ∷ no_vote ∷ no_vote ∷ no_vote ∷ no_vote ∷ no_vote ∷ no_vote ∷ no_vote ∷ no_vote ∷ no_vote ∷ no_vote ∷ no_vote ∷ no_vote ∷ no_vote ∷ no_vote ∷ no_vote ∷ no_vote ∷ no_vote ∷ no_vote ∷ no_vote ∷ no_vote ∷ no_vote ∷ no_vote ∷ no_vote ∷ no_vote ∷ no_vote ∷ no_vote ∷ no_vote ∷ no_vote ∷ no_vote ∷ no_vote ∷ record { sent = Some 8 } ∷ record { sent = Some 8 } ∷ record { sent = Some 8 } ∷ record { sent = Some 8 } ∷ no_vote ∷ no_vote ∷ no_vote ∷ no_vote ∷ no_vote ∷ no_vote ∷ no_vote ∷ no_vote ∷ no_vote ∷ no_vote ∷ no_vote ∷ []

abbrev three_of_five_certificates : List CertificateRow
three_of_five_certificates = record { block = 1; signers = 13; tick = 2 } ∷ record { block = 8; signers = 13; tick = 4 } ∷ record { block = 11; signers = 13; tick = 6 } ∷ record { block = 18; signers = 13; tick = 8 } ∷ no_certificate ∷ no_certificate ∷ no_certificate ∷ no_certificate ∷ record { block = 1; signers = 13; tick = 2 } ∷ record { block = 8; signers = 13; tick = 4 } ∷ record { block = 11; signers = 13; tick = 6 } ∷ record { block = 18; signers = 13; tick = 8 } ∷ record { block = 1; signers = 13; tick = 2 } ∷ record { block = 8; signers = 13; tick = 4 } ∷ record { block = 11; signers = 13; tick = 6 } ∷ record { block = 18; signers = 13; tick = 8 } ∷ no_certificate ∷ no_certificate ∷ no_certificate ∷ no_certificate ∷ []

pub three_of_five : played three_of_five_bench turn_kind three_of_five_calls (opened_tables (setup_with three_of_five_bench three_of_five_orders) turn_kind) ≡ (three_of_five_answers, record { clock = 27; blocks = three_of_five_blocks; records = three_of_five_records; orders = three_of_five_orders; drafts = three_of_five_drafts; seats = three_of_five_seats; received = three_of_five_received; votes = three_of_five_votes; certificates = three_of_five_certificates })
unfolding played tick offer deliver_block deliver_vote deliver_certificate plant sign fits overdue any upto first_from writes take_in chain_weight parent_choice signers lowest_rank voting_choice vote_at_rank vote propose leave react_in react next_head end_wait opened_tables ones bit
three_of_five = refl

abbrev three_honest_bench : Bench
three_honest_bench = record { n = 3; marks = 0; delay = 1; rounds = 4; editions = 1; quorum = 2 }

abbrev three_honest_orders : List (List ℕ)
three_honest_orders = (1 ∷ 0 ∷ 2 ∷ 0 ∷ 0 ∷ 0 ∷ 0 ∷ 0 ∷ 0 ∷ 0 ∷ 0 ∷ 0 ∷ 0 ∷ 0 ∷ 0 ∷ 0 ∷ []) ∷ (2 ∷ 1 ∷ 0 ∷ 0 ∷ 0 ∷ 0 ∷ 0 ∷ 0 ∷ 0 ∷ 0 ∷ 0 ∷ 0 ∷ 0 ∷ 0 ∷ 0 ∷ 0 ∷ []) ∷ (0 ∷ 2 ∷ 1 ∷ 0 ∷ 0 ∷ 0 ∷ 0 ∷ 0 ∷ 0 ∷ 0 ∷ 0 ∷ 0 ∷ 0 ∷ 0 ∷ 0 ∷ 0 ∷ []) ∷ (1 ∷ 2 ∷ 0 ∷ 0 ∷ 0 ∷ 0 ∷ 0 ∷ 0 ∷ 0 ∷ 0 ∷ 0 ∷ 0 ∷ 0 ∷ 0 ∷ 0 ∷ 0 ∷ []) ∷ []

abbrev three_honest_calls : List (Call Turn)
three_honest_calls = block_call 1 1 ∷ block_call 1 2 ∷ block_call 1 1 ∷ block_call 2 1 ∷ block_call 0 2 ∷ block_call 1 2 ∷ block_call 2 2 ∷ block_call 2 1 ∷ block_call 1 3 ∷ tick_call ∷ block_call 1 1 ∷ block_call 2 3 ∷ offer_call 0 (turn_of 1 1) ∷ block_call 2 2 ∷ block_call 2 3 ∷ block_call 2 3 ∷ block_call 0 3 ∷ certificate_call 0 0 1 ∷ block_call 1 3 ∷ tick_call ∷ offer_call 3 (turn_of 1 1) ∷ block_call 1 3 ∷ block_call 1 3 ∷ offer_call 0 (turn_of 3 1) ∷ tick_call ∷ block_call 2 3 ∷ vote_call 0 1 2 ∷ block_call 2 3 ∷ block_call 2 1 ∷ offer_call 3 (turn_of 0 0) ∷ vote_call 0 2 2 ∷ vote_call 1 0 2 ∷ vote_call 1 2 2 ∷ block_call 0 8 ∷ tick_call ∷ vote_call 2 0 2 ∷ tick_call ∷ block_call 2 2 ∷ block_call 0 3 ∷ vote_call 2 1 2 ∷ vote_call 2 2 2 ∷ block_call 0 2 ∷ block_call 0 5 ∷ block_call 2 5 ∷ block_call 0 6 ∷ block_call 1 3 ∷ vote_call 2 1 2 ∷ block_call 1 6 ∷ block_call 1 9 ∷ block_call 1 4 ∷ block_call 2 4 ∷ tick_call ∷ tick_call ∷ vote_call 0 2 6 ∷ vote_call 0 1 6 ∷ vote_call 1 0 6 ∷ vote_call 1 2 6 ∷ sign_call 2 12 ∷ vote_call 2 0 6 ∷ vote_call 2 1 6 ∷ []

abbrev three_honest_answers : List ℕ
three_honest_answers = 0 ∷ 11 ∷ 11 ∷ 0 ∷ 0 ∷ 11 ∷ 0 ∷ 11 ∷ 0 ∷ 13 ∷ 11 ∷ 11 ∷ 0 ∷ 11 ∷ 11 ∷ 11 ∷ 0 ∷ 10 ∷ 11 ∷ 0 ∷ 2 ∷ 11 ∷ 11 ∷ 0 ∷ 0 ∷ 11 ∷ 0 ∷ 11 ∷ 11 ∷ 2 ∷ 0 ∷ 0 ∷ 0 ∷ 9 ∷ 13 ∷ 0 ∷ 13 ∷ 11 ∷ 11 ∷ 0 ∷ 11 ∷ 11 ∷ 0 ∷ 0 ∷ 0 ∷ 11 ∷ 11 ∷ 0 ∷ 9 ∷ 0 ∷ 0 ∷ 0 ∷ 0 ∷ 0 ∷ 0 ∷ 0 ∷ 0 ∷ 3 ∷ 0 ∷ 0 ∷ []

abbrev three_honest_blocks : List BlockRow
three_honest_blocks = record { made = true; parent = 0; carried = 0 } ∷ record { made = true; parent = 0; carried = 0 } ∷ record { made = true; parent = 0; carried = 0 } ∷ record { made = true; parent = 0; carried = 0 } ∷ record { made = true; parent = 2; carried = 3 } ∷ record { made = true; parent = 2; carried = 3 } ∷ record { made = true; parent = 2; carried = 5 } ∷ record { made = true; parent = 6; carried = 3 } ∷ record { made = true; parent = 6; carried = 3 } ∷ record { made = true; parent = 6; carried = 5 } ∷ no_block ∷ no_block ∷ no_block ∷ []

abbrev three_honest_records : List Turn
three_honest_records = (turn_of 0 0) ∷ (turn_of 0 0) ∷ (turn_of 0 0) ∷ (turn_of 0 0) ∷ (turn_of 3 1) ∷ (turn_of 0 0) ∷ (turn_of 0 0) ∷ (turn_of 0 0) ∷ (turn_of 0 0) ∷ (turn_of 0 0) ∷ (turn_of 0 0) ∷ (turn_of 0 0) ∷ (turn_of 0 0) ∷ []

abbrev three_honest_drafts : List (Option Turn)
three_honest_drafts = None ∷ None ∷ None ∷ []

abbrev three_honest_seats : List SeatRow
three_honest_seats = record { round = 3; phase = Waiting; head = 0 } ∷ record { round = 3; phase = Waiting; head = 0 } ∷ record { round = 3; phase = Waiting; head = 0 } ∷ []

abbrev three_honest_received : List ReceivedRow
three_honest_received = record { held = true; signers = 0 } ∷ record { held = true; signers = 0 } ∷ record { held = true; signers = 0 } ∷ record { held = true; signers = 0 } ∷ record { held = true; signers = 0 } ∷ record { held = true; signers = 0 } ∷ record { held = true; signers = 7 } ∷ record { held = true; signers = 7 } ∷ record { held = true; signers = 7 } ∷ record { held = true; signers = 0 } ∷ record { held = true; signers = 0 } ∷ record { held = true; signers = 0 } ∷ record { held = true; signers = 0 } ∷ record { held = true; signers = 0 } ∷ record { held = true; signers = 0 } ∷ record { held = true; signers = 0 } ∷ record { held = true; signers = 0 } ∷ record { held = true; signers = 0 } ∷ record { held = true; signers = 7 } ∷ record { held = true; signers = 7 } ∷ record { held = true; signers = 7 } ∷ record { held = true; signers = 0 } ∷ nothing_received ∷ nothing_received ∷ nothing_received ∷ record { held = true; signers = 0 } ∷ nothing_received ∷ nothing_received ∷ nothing_received ∷ record { held = true; signers = 0 } ∷ nothing_received ∷ nothing_received ∷ nothing_received ∷ nothing_received ∷ nothing_received ∷ nothing_received ∷ nothing_received ∷ nothing_received ∷ nothing_received ∷ []

abbrev three_honest_votes : List VoteRow
three_honest_votes = no_vote ∷ no_vote ∷ no_vote ∷ no_vote ∷ no_vote ∷ no_vote ∷ record { sent = Some 2 } ∷ record { sent = Some 2 } ∷ record { sent = Some 2 } ∷ no_vote ∷ no_vote ∷ no_vote ∷ no_vote ∷ no_vote ∷ no_vote ∷ no_vote ∷ no_vote ∷ no_vote ∷ record { sent = Some 4 } ∷ record { sent = Some 4 } ∷ record { sent = Some 4 } ∷ no_vote ∷ no_vote ∷ no_vote ∷ no_vote ∷ no_vote ∷ no_vote ∷ no_vote ∷ no_vote ∷ no_vote ∷ no_vote ∷ no_vote ∷ no_vote ∷ no_vote ∷ no_vote ∷ no_vote ∷ no_vote ∷ no_vote ∷ no_vote ∷ []

abbrev three_honest_certificates : List CertificateRow
three_honest_certificates = record { block = 2; signers = 3; tick = 2 } ∷ record { block = 6; signers = 3; tick = 4 } ∷ no_certificate ∷ no_certificate ∷ record { block = 2; signers = 3; tick = 2 } ∷ record { block = 6; signers = 3; tick = 4 } ∷ no_certificate ∷ no_certificate ∷ record { block = 2; signers = 5; tick = 2 } ∷ record { block = 6; signers = 5; tick = 4 } ∷ no_certificate ∷ no_certificate ∷ []

pub three_honest : played three_honest_bench turn_kind three_honest_calls (opened_tables (setup_with three_honest_bench three_honest_orders) turn_kind) ≡ (three_honest_answers, record { clock = 4; blocks = three_honest_blocks; records = three_honest_records; orders = three_honest_orders; drafts = three_honest_drafts; seats = three_honest_seats; received = three_honest_received; votes = three_honest_votes; certificates = three_honest_certificates })
unfolding played tick offer deliver_block deliver_vote deliver_certificate plant sign fits overdue any upto first_from writes take_in chain_weight parent_choice signers lowest_rank voting_choice vote_at_rank vote propose leave react_in react next_head end_wait opened_tables ones bit
three_honest = refl
