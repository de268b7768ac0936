use Rattle.std.proofs.Common.{◌≡◌, ◌-◌, ap, ◌∙◌, rules, tests}
use Rattle.std.proofs.lemmas.Bool.{lt-ltb}
use Rattle.rules.specs.declared.rows.Phase.TheVariants.{Voting}
use Rattle.rules.specs.Tables.{seat_at}
use Rattle.rules.specs.Seat.{react_in}
use Rattle.tables.specs.View.{view, setup_of}
use Rattle.reacting.proofs.PartsJoined.{voted_is, still_is}
use Rattle.reacting.proofs.PastTheRounds.{seat_on_fitting}
use Rattle.reacting.proofs.reaction.react.Goals as goal
use Rattle.reacting.proofs.reaction.react.Goals.{else-seat-terms-via-then-seat-terms+then-eq+else-row-terms, else-seat-terms-via-then-seat-terms+else-eq, else-seat-terms-via-else-seat-terms}

pub returns-then-row-terms : goal.returns-then-row-terms
returns-then-row-terms g c =
    let s = setup_of c.args.terms c.args.t.now in
    let K = g.R.Record.kind in
    let t = view c.args.terms c.args.t.now in
    let i = c.args.seat in
    let votes : (seat_at t i).phase ≡ Voting = search (rules, tests) in
    let past : c.saturating_sub-past.result ≡ (seat_at t i).round - 1 = search rules in
    let by_parts = c.react_in.ensures.is ∙ ap (react_in s K t i) past ∙ voted_is s K t i (search rules) votes (search rules) in
    record {
      is = by_parts;
      by_rules = λ in_bench fit. by_parts ∙ seat_on_fitting s K t i (lt-ltb i s.n in_bench) c.args.terms.quorum_some fit;
      same = c.react_in.ensures.same;
    }

pub returns-else-seat-terms : goal.returns-else-seat-terms
returns-else-seat-terms g c =
    let s = setup_of c.args.terms c.args.t.now in
    let K = g.R.Record.kind in
    let t = view c.args.terms c.args.t.now in
    let i = c.args.seat in
    let still = still_is s K t i (λ in_bench votes within. elim c.else-seat-terms.branch [
      | else-seat-terms-via-then-seat-terms+then-eq+else-row-terms w ↦ search (rules, tests)
      | else-seat-terms-via-then-seat-terms+else-eq w ↦ search (rules, tests)
      | else-seat-terms-via-else-seat-terms w ↦ search (rules, tests)
    ]) in
    record {
      is = still;
      by_rules = λ in_bench fit. still ∙ seat_on_fitting s K t i (lt-ltb i s.n in_bench) c.args.terms.quorum_some fit;
      same = search rules;
    }
