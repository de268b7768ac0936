-- Heat records: what a reading adds to the running total.
use Rattle.std.specs.Prelude.{Bool, ◌&&◌, ◌+◌, ◌*◌, eqb, leb}
use Rattle.records.specs.Kind.{Kind}
use Rattle.records.specs.declared.heat.Heat.{Heat}

-- c's total is p's total plus c's volume × calorific value, as numbers: nothing wraps
abbrev pub heat_follows : Heat → Heat → Bool
heat_follows c p =
    leb c.volume 1000000 && (leb c.calorific 60000 && eqb c.total (p.total + c.volume * c.calorific))

abbrev pub heat_kind : Kind Heat
heat_kind = record {
  first = record { volume = 0; calorific = 0; total = 0 };
  follows = heat_follows;
  idle = λ p. record { volume = 0; calorific = 0; total = p.total };
}
