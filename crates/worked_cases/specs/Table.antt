-- Worked cases of the definitions, as one table: what the rules give, beside what is expected.
use Rattle.std.specs.Prelude.{◌≡◌, ℕ, suc, Bool, true, false, List, [], ◌∷◌, map, Ok, Err, Result}
use Rattle.numbers.specs.Quorum.{majority_of}
use Rattle.numbers.specs.Numbering.{number_of}
use Rattle.shuffle.specs.SplitMix.{draws}
use Rattle.orders.specs.Wheel.{wheel_rank}
use Rattle.shuffle.specs.Shuffle.{shuffle_rank}
use Rattle.records.specs.Heat.{heat_follows, heat_kind}
use Rattle.records.specs.declared.heat.Heat.{Heat}
use Rattle.records.specs.Turn.{turn_follows}
use Rattle.roster.specs.Marks.{mark_answer, marks_after}
use Rattle.roster.specs.declared.fault.RosterFault.{RosterFault}
use Rattle.roster.specs.declared.fault.RosterFault.TheVariants.{TooManyByzantine}

pub data Case : Type 1 where
  case : (A : Type 0) → A → A → Case

abbrev pub Holds : Case → Type 0
Holds (case A given expected) = given ≡ expected

abbrev pub All : List Case → Type 0
All [] = Unit {0}
All (c ∷ cs) = Holds c × All cs

abbrev pub how_many : List Case → ℕ
how_many [] = 0
how_many (c ∷ cs) = suc (how_many cs)

abbrev pub cases : List Case
cases =
    -- the majority of 1, 2, 3, 4 and 16 seats
    case (List ℕ) (map majority_of (1 ∷ 2 ∷ 3 ∷ 4 ∷ 16 ∷ [])) (1 ∷ 2 ∷ 2 ∷ 3 ∷ 9 ∷ [])
    -- of 3 seats the first mark is taken, and the second is one too many
    ∷ case (Result (Unit {0}) RosterFault) (mark_answer 3 0 0) (Ok tt)
    ∷ case (Result (Unit {0}) RosterFault) (mark_answer 3 (marks_after 3 0 0) 1) (Err TooManyByzantine)
    -- with 3 seats and 2 editions: round 2, seat 1, edition 1
    ∷ case ℕ (number_of 3 2 2 1 1) 10
    -- the Wheel of 3 seats in round 1
    ∷ case (List ℕ) (map (wheel_rank 3 1) (0 ∷ 1 ∷ 2 ∷ [])) (2 ∷ 0 ∷ 1 ∷ [])
    -- SplitMix64 from two seeds, and the Shuffle of 7 seats in round 3
    ∷ case (List ℕ) (draws 5 1234567) (6457827717110365317 ∷ 3203168211198807973 ∷ 9817491932198370423 ∷ 4593380528125082431 ∷ 16408922859458223821 ∷ [])
    ∷ case (List ℕ) (draws 1 0) (16294208416658607535 ∷ [])
    ∷ case (List ℕ) (map (shuffle_rank 1234567 7 3) (0 ∷ 1 ∷ 2 ∷ 3 ∷ 4 ∷ 5 ∷ 6 ∷ [])) (0 ∷ 6 ∷ 3 ∷ 5 ∷ 2 ∷ 4 ∷ 1 ∷ [])
    -- the largest reading adds 60,000,000,000; a larger volume never follows
    ∷ case Bool (heat_follows (record { volume = 1000000; calorific = 60000; total = 60000000000 }) heat_kind.first) true
    ∷ case Bool (heat_follows (record { volume = 1000001; calorific = 0; total = 0 }) heat_kind.first) false
    -- after holder 2, turn 5: the next turn goes to another holder, or the record is repeated
    ∷ case (List Bool)
    (map (λ c. turn_follows c (record { holder = 2; turn = 5 })) (record { holder = 3; turn = 6 } ∷ record { holder = 2; turn = 5 } ∷ record { holder = 2; turn = 6 } ∷ []))
    (true ∷ true ∷ false ∷ [])
    ∷ []

-- that a volume above 1,000,000 never follows, whatever the rest says
abbrev pub LargeVolumeNeverFollows : Type 0
LargeVolumeNeverFollows = (p : Heat) (value total : ℕ) → heat_follows (record { volume = 1000001; calorific = value; total = total }) p ≡ false
