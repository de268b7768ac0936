-- Turn records: who holds the turn.
use Rattle.std.specs.Prelude.{Bool, not, ◌&&◌, ◌||◌, ◌+◌, eqb, leb}
use Rattle.records.specs.Kind.{Kind}
use Rattle.records.specs.declared.turn.Turn.{Turn}

-- c is p again, or hands the next turn to another holder
abbrev pub turn_follows : Turn → Turn → Bool
turn_follows c p =
    (eqb c.holder p.holder && eqb c.turn p.turn)
    || (eqb c.turn (p.turn + 1) && (leb c.holder 15 && not (eqb c.holder p.holder)))

abbrev pub turn_kind : Kind Turn
turn_kind = record {
  first = record { holder = 0; turn = 0 };
  follows = turn_follows;
  idle = λ p. p;
}
