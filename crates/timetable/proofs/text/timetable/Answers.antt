use Rattle.std.proofs.Common.{ℕ, ◌≡◌, ◌-◌, List, ◌++◌, [], string_bytes, ap, ◌∙◌, arith, rules}
use lib.Count.{ones}
use Rattle.orders.specs.Rows.{numbers}
use Rattle.timetable.specs.Text.{round_line, timetable_lines}
use Rattle.timetable.proofs.Growing.{lines_grow}
use Rattle.timetable.proofs.text.timetable.Goals as goal
use Rattle.timetable.proofs.text.timetable.Goals.{else-loop-round-test, then-loop-round-test+in_ok-write_round+else-round-rounds}

pub loop-round-init : goal.loop-round-init
unfolding timetable_lines numbers
loop-round-init g c = (c.new-out.ensures.bytes, omega arith, omega arith)

pub loop-round-preserved : goal.loop-round-preserved
loop-round-preserved g c =
    let f = ones c.args.roster.now.marks in
    let r = c.loop-round.round in (
      c.in_ok-write_round.ensures ∙ ap (λ (x : List ℕ). x ++ round_line f c.args.delay r) c.loop-round.invariant.0
          ∙ lines_grow f c.args.delay [] r c.loop-round.invariant.1 ∙ ap (timetable_lines f c.args.delay) (omega arith),
      omega arith,
      omega (arith, c.loop-round-test.true),
    )

-- after the last round, or after none
pub returns : goal.returns
returns g c =
    let f = ones c.args.roster.now.marks in
    let R = c.args.rounds in
    let r = c.loop-round.round in
    let text : string_bytes c.loop-round-test.out ≡ timetable_lines f c.args.delay R = elim c.loop-round-test.branch [
      | else-loop-round-test w ↦
          let last : r - 1 ≡ R = omega (arith, w.loop-round-test.false, c.loop-round.invariant.1, c.loop-round.invariant.2) in
          ap string_bytes w.out-is ∙ c.loop-round.invariant.0 ∙ ap (timetable_lines f c.args.delay) last
      | then-loop-round-test+in_ok-write_round+else-round-rounds w ↦
          let last : r ≡ R = search rules in
          ap string_bytes w.out-is ∙ w.in_ok-write_round.ensures ∙ ap (λ (x : List ℕ). x ++ round_line f c.args.delay r) c.loop-round.invariant.0
          ∙ lines_grow f c.args.delay [] r c.loop-round.invariant.1 ∙ ap (timetable_lines f c.args.delay) last
    ] in
    (search rules, text)
