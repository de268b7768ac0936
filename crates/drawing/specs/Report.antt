-- The text of a drawing.
use Rattle.std.specs.Prelude.{◌≡◌, ℕ, Bool, true, false, List, ◌++◌, take, codes, decimal, count_ones}
use Rattle.std.specs.List.{flat_map}
use Rattle.numbers.specs.Quorum.{majority_of, most_byzantine_of}
use Rattle.orders.specs.Ranking.{Ranking, seat_of_rank}
use Rattle.orders.specs.Rows.{numbers, row_of_sixteen}
use Rattle.roster.specs.Marks.{is_honest}
use Rattle.drawing.specs.Leaders.{leader_of, honest_led, beacon_fits}
use Rattle.drawing.specs.declared.fault.DrawFault.{DrawFault}
use Rattle.drawing.specs.declared.fault.DrawFault.TheVariants as fault

-- the roster: how many seats, how many of them Byzantine, the majority, and how many Byzantine seats it bears
unfoldable pub roster_line : ℕ → ℕ → List ℕ
roster_line n marks =
    codes "seats " ++ (decimal n ++ (codes ", Byzantine " ++ (decimal (count_ones marks) ++ (codes " of at most " ++ (decimal (most_byzantine_of n)
    ++ (codes ", majority " ++ (decimal (majority_of n) ++ codes "\n")))))))

abbrev pub seat_word : ℕ → List ℕ
seat_word s = codes " " ++ decimal s

abbrev pub seat_words : List ℕ → List ℕ
seat_words seats = flat_map seat_word seats

abbrev pub side_word : Bool → List ℕ
side_word true = codes "honest"
side_word false = codes "Byzantine"

-- the seats of round r, the leader first
abbrev pub seats_in_order : Ranking → ℕ → List ℕ
seats_in_order m r = take m.seats (row_of_sixteen m.seats (seat_of_rank m.seats (m.rank r)))

unfoldable pub round_line : ℕ → ℕ → Ranking → ℕ → List ℕ
round_line n marks m r =
    codes "round " ++ (decimal r ++ (codes " leader " ++ (decimal (leader_of m r) ++ (codes " " ++ (side_word (is_honest n marks (leader_of m r))
    ++ (codes " order" ++ (seat_words (seats_in_order m r) ++ codes "\n")))))))

-- the lines of rounds 1 to R
unfoldable pub round_lines : ℕ → ℕ → Ranking → ℕ → List ℕ
round_lines n marks m R = flat_map (round_line n marks m) (numbers 1 R)

unfoldable pub honest_line : ℕ → ℕ → List ℕ
honest_line led R = codes "rounds " ++ (decimal R ++ (codes ", led by honest seats " ++ (decimal led ++ codes "\n")))

abbrev pub report_text : ℕ → ℕ → Ranking → ℕ → List ℕ
report_text n marks m R = (roster_line n marks ++ round_lines n marks m R) ++ honest_line (honest_led n marks m R) R

-- why there is no report: the beacon does not serve this roster for these rounds, or memory ran out
abbrev pub NoReport : ℕ → Ranking → ℕ → DrawFault → Type 0
NoReport n m R (fault.Roster f) = ⊥
NoReport n m R fault.Rounds = beacon_fits n m R ≡ false
NoReport n m R fault.Memory = beacon_fits n m R ≡ true

-- a refusal as it is printed
abbrev pub numbered_line : ℕ → List ℕ → List ℕ
numbered_line number sentence = codes "refused " ++ (decimal number ++ (codes ": " ++ (sentence ++ codes "\n")))
