use Rattle.std.proofs.Common.{◌≡◌, ◌≤◌, zero, ap, ◌∙◌, pow_pos, arith, rules}
use lib.Count.{ones, ones-ones}
use Rattle.roster.proofs.roster.Roster.start.Goals as goal

-- the empty set has no bit, and is below each power of two
pub invariant_of-result : goal.invariant_of-result
invariant_of-result c =
    let none : ones c.default.result ≡ zero = ap ones c.default.ensures ∙ ones-ones 0 in
    record {
      fewer_than_half = let some : 1 ≤ c.args.n = search rules in omega (arith, none);
      seats_only = rw c.default.ensures (pow_pos c.args.n);
      sixteen = search rules;
    }
