-- The tables that an opening gives are settled.
use Rattle.std.proofs.Common.{ℕ, T, sym, ap, subst, ⊎_elim, arith}
use Rattle.records.specs.Kind.{IdleFollows, Kind}
use Rattle.rules.specs.Setup.{Setup, block_round, honest, own_block}
use Rattle.rules.specs.Tables.{is_waiting, seat_at}
use Rattle.rules.specs.Opening.{opened_tables}
use Rattle.laws.proofs.Discipline.{Calm}
use Rattle.laws.proofs.Discipline.Run.{start}
use Rattle.laws.proofs.Opened.{Opened}
use Rattle.laws.proofs.BenchView.{Proper, terms_of, view}
use Rattle.laws.proofs.Numbering.{own_round}
use Rattle.laws.proofs.Seats.{honest_below}
use Rattle.laws.proofs.OpenedTables.{is_opened, opened_seat, opened_sizes}
use Rattle.laws.proofs.Sound.{PhaseFits, Sound}
use Rattle.laws.proofs.Settled.{Settled}

module _ {A : Type 0} (s : Setup) (K : Kind A) (P : Proper s) (idles : IdleFollows K) where
  -- the tables that an opening gives
  pub opened_settled : Settled s K P idles (opened_tables s K)
  opened_settled = record { sound = sound_o; calm = calm }
    where
      x : Opened (terms_of s) (view s K (opened_tables s K))
      x = is_opened s K P idles

      waits : (j : ℕ) → T (honest s j) → T (is_waiting (seat_at (opened_tables s K) j).phase)
      waits j h = x.waiting j h

      sound_o : Sound s K P idles (opened_tables s K)
      sound_o = record {
        run = start;
        sized = let z = opened_sizes s K P idles in record {
          blocks = z.blocks;
          records = z.records;
          drafts = z.drafts;
          seats = z.seats;
          received = z.received;
          votes = z.votes;
          certificates = z.certificates;
        };
        phase = λ i h. subst (λ a. PhaseFits s a.phase a.round) (sym (opened_seat s K P idles i h)) tt;
        low = λ i h l. absurd (omega (arith, l, ap (block_round s) (x.heads i h)));
        sealed = λ i r h l. absurd (omega (arith, l, x.rounds i h));
        ahead = λ i r h l top made. ⊎_elim
            (λ e. omega (arith, ap (block_round s) e, own_round s P i r (honest_below s i h) (omega arith), l))
            (λ e. omega (arith, e.0, own_round s P i r (honest_below s i h) (omega arith), l, x.rounds i h))
            (x.made_only (own_block s i r) made);
      }

      calm : (j : ℕ) → T (honest s j) → Calm (terms_of s) (view s K (opened_tables s K)) j
      calm j h = record {
        waiting = λ q. omega (arith, x.clock, P.delay);
        voting = λ q. absurd (q (waits j h));
        done = λ q. absurd (q (waits j h));
      }
