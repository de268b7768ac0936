-- What the deadlines of a round promise, every run keeps.
use Rattle.std.proofs.Common.{ℕ}
use lib.Count.{ones}
use Rattle.records.specs.Kind.{Kind, IdleFollows}
use Rattle.roster.specs.declared.roster.Roster.{Roster}
use Rattle.laws.proofs.InTime.{every_run_is_in_time}
use Rattle.timetable.specs.Deadlines.{last_tick_of, final_at}
use Rattle.timetable.specs.Promises.{RoundOverAfter, LeaderFinalBy}

pub round_over : {A : Type 0} (K : Kind A) (ro : Roster) (delay r : ℕ) → IdleFollows K → RoundOverAfter K ro delay r (last_tick_of (ones ro.marks) delay r)
round_over K ro delay r idles m rounds editions q lent lawful some enough accepted calls i honest covered late =
    (every_run_is_in_time K idles ro m delay rounds editions q lent lawful some enough accepted calls).rounds_end i r honest covered late

pub leader_final : {A : Type 0} (K : Kind A) (ro : Roster) (delay r : ℕ) → IdleFollows K → LeaderFinalBy K ro delay r (final_at (ones ro.marks) delay r)
leader_final K ro delay r idles m rounds editions q lent lawful some enough accepted calls h i leader honest first last rank late =
    (every_run_is_in_time K idles ro m delay rounds editions q lent lawful some enough accepted calls).first_final h i r leader honest first last rank late
