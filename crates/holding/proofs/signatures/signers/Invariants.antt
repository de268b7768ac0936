use mathlib.Core.Path.{◌≡◌}
use Rattle.rules.specs.Loops.{upto}
use Rattle.tables.specs.View.{view, setup_of}
use Rattle.holding.specs.Taking.{with_signer}
use Rattle.holding.proofs.signatures.signers.Given as goal

abbrev pub invariant-loop-seat : goal.invariant-loop-seat
invariant-loop-seat g l = l.all ≡ upto (with_signer (setup_of l.terms l.t) (view l.terms l.t) l.block) 0 l.seat
