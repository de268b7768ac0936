-- The numbers of a bench, as the rules have them.
use Rattle.rules.specs.Setup.{Bench}
use Rattle.terms.specs.declared.terms.Terms.{Terms}

-- without its clock
abbrev pub bench_of_terms : Terms → Bench
bench_of_terms b = record {
  n = b.n;
  marks = b.marks;
  delay = b.delay;
  rounds = b.rounds;
  editions = b.editions;
  quorum = b.quorum;
}
