use Rattle.std.proofs.Common.{ℕ, ◌≡◌, ◌-◌, List, ◌++◌, string_bytes, sym, ap, ◌∙◌, append-nil, arith, rules}
use Rattle.orders.specs.Ranking.{Ranking}
use Rattle.orders.specs.Rows.{numbers}
use Rattle.drawing.specs.Report.{roster_line, round_line, round_lines, honest_line}
use Rattle.drawing.proofs.Growing.{rounds_more}
use Rattle.drawing.proofs.report.report.Goals as goal
use Rattle.drawing.proofs.report.report.Goals.{else-loop-round-test, then-loop-round-test+in_ok-write_round+else-round-rounds}

pub loop-round-init : goal.loop-round-init
unfolding round_lines numbers
loop-round-init g c = (
  c.in_ok-write_roster.ensures ∙ ap (λ (x : List ℕ). x ++ roster_line c.args.roster.now.n c.args.roster.now.marks) c.new-out.ensures.bytes
      ∙ sym (append-nil (roster_line c.args.roster.now.n c.args.roster.now.marks)),
  omega arith,
  omega arith,
)

pub loop-round-preserved : goal.loop-round-preserved
loop-round-preserved g c =
    let n = c.args.roster.now.n in
    let marks = c.args.roster.now.marks in
    let m : Ranking = g.B.Beacon.ranking c.args.beacon.now in
    let r = c.loop-round.round in (
      c.in_ok-write_round.ensures ∙ ap (λ (x : List ℕ). x ++ round_line n marks m r) c.loop-round.invariant.0
          ∙ rounds_more n marks m (roster_line n marks) r c.loop-round.invariant.1 ∙ ap (λ (x : ℕ). roster_line n marks ++ round_lines n marks m x) (omega arith),
      omega arith,
      omega (arith, c.loop-round-test.true),
    )

-- after the last round, or after none
pub returns : goal.returns
returns g c =
    let n = c.args.roster.now.n in
    let marks = c.args.roster.now.marks in
    let m : Ranking = g.B.Beacon.ranking c.args.beacon.now in
    let R = c.args.rounds in
    let r = c.loop-round.round in
    let text : string_bytes c.loop-round-test.out ≡ roster_line n marks ++ round_lines n marks m R = elim c.loop-round-test.branch [
      | else-loop-round-test w ↦
          let last : r - 1 ≡ R = omega (arith, w.loop-round-test.false, c.loop-round.invariant.1, c.loop-round.invariant.2) in
          ap string_bytes w.out-is ∙ c.loop-round.invariant.0 ∙ ap (λ (x : ℕ). roster_line n marks ++ round_lines n marks m x) last
      | then-loop-round-test+in_ok-write_round+else-round-rounds w ↦
          let last : r ≡ R = search rules in
          ap string_bytes w.out-is ∙ w.in_ok-write_round.ensures ∙ ap (λ (x : List ℕ). x ++ round_line n marks m r) c.loop-round.invariant.0
          ∙ rounds_more n marks m (roster_line n marks) r c.loop-round.invariant.1 ∙ ap (λ (x : ℕ). roster_line n marks ++ round_lines n marks m x) last
    ] in (
      search rules,
      c.in_ok-write_honest.ensures ∙ ap (λ (x : List ℕ). x ++ honest_line c.honest_rounds.result R) text
          ∙ ap (λ (x : ℕ). (roster_line n marks ++ round_lines n marks m R) ++ honest_line x R) c.honest_rounds.ensures,
    )
