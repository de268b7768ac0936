-- The votes of one reaction, of a seat that holds no notarisation of its round: sound, and every valid block that it holds is answered.
use Rattle.std.proofs.Common.{◌≡◌, ℕ, suc, ◌+◌, ◌*◌, ◌<◌, ◌≤◌, T, ◌⊎◌, get_or, Some, None, Option, sym, refl, ap, ◌∙◌, subst}
use Rattle.records.specs.Kind.{IdleFollows, Kind}
use Rattle.rules.specs.Loops.{first_from}
use Rattle.rules.specs.Setup.{Setup, block_round, honest, round_start, round_width}
use Rattle.rules.specs.Ranks.{rank}
use Rattle.rules.specs.Tables.{Tables, no_certificate, received_at, seat_at, valid, with_votes}
use Rattle.rules.specs.VotingChoice.{holds_valid, lowest_rank}
use Rattle.rules.specs.Seat.{vote, vote_at_rank, vote_from}
use Rattle.laws.proofs.View.{NotarisedAt}
use Rattle.laws.proofs.Discipline.{Step}
use Rattle.laws.proofs.Discipline.Run.{next, start}
use Rattle.laws.proofs.Tests.{both}
use Rattle.laws.proofs.Loops.{First, first_none, first_some}
use Rattle.laws.proofs.BenchView.{Proper, terms_of, view}
use Rattle.laws.proofs.Numbering.{in_round}
use Rattle.laws.proofs.Seats.{honest_below}
use Rattle.laws.proofs.VotingChoice.{choice_answers, choice_lowest}
use Rattle.laws.proofs.Voting.{held_same, loop_is, received_other, received_size, signed, step, voted, voted_shape, votes_size}
use Rattle.laws.proofs.Sound.{Sound, progress_of}
use Rattle.laws.proofs.Acting.{Acts, acts_none, sound_votes}

module _ {A : Type 0} (s : Setup) (K : Kind A) (P : Proper s) (idles : IdleFollows K) where
  -- a block that answers c: signed by seat i, c itself or of lower rank
  abbrev pub Answers : Tables A → ℕ → ℕ → Type 0
  Answers u i c = (b : ℕ) × T ((view s K u).signed i b) × (block_round s b ≡ block_round s c) × ((b ≡ c) ⊎ (rank s b < rank s c))

  -- What the votes of seat i in round r + 1 do: its row stays, and every valid block that it holds is answered.
  pub record VotesAct (i r : ℕ) (t u : Tables A) : Type 0 where
    pub acts : Acts s K P idles i t u
    pub seats : u.seats ≡ t.seats
    pub done : (c : ℕ) → block_round s c ≡ suc r → T ((view s K u).held i c) → T ((view s K u).valid c) → Answers u i c

  module _ (t : Tables A) (f : Sound s K P idles t) (i : ℕ) (h : T (honest s i)) (r : ℕ) (at_r : (seat_at t i).round ≡ suc r) (top : suc r ≤ s.rounds)
      (awake : T ((view s K t).waiting i) → ⊥) (none : (c : ℕ) → block_round s c ≡ suc r → NotarisedAt (terms_of s) (view s K t) i c → ⊥) where
    abbrev st : ℕ
    st = round_start s (suc r)

    votes_some : (c0 : ℕ) → First (holds_valid s K t i) st (round_width s) c0 → VotesAct i r t (vote_at_rank s K t i (suc r) (lowest_rank s K t i (suc r) c0))
    votes_some c0 x0 = subst (VotesAct i r t) (sym (loop_is s K P t i r low li top f.sized.votes f.sized.received))
        (record { acts = acts; seats = ap (λ (z : Tables A). z.seats) shape; done = done })
      where
        low : ℕ
        low = lowest_rank s K t i (suc r) c0

        li : i < s.n
        li = honest_below s i h

        w : Tables A
        w = voted s K P t i r low li top f.sized.votes f.sized.received

        shape : w ≡ with_votes t w.votes w.received
        shape = voted_shape s K P t i r low li top f.sized.votes f.sized.received

        over : (view s K t).entered_at i ((view s K t).round i) + 2 * s.delay ≤ t.clock
        over = (progress_of s K P idles t f).awake i h awake

        sp : Step (terms_of s) (view s K t) (view s K w)
        sp = step s K P t i r low li top f.sized.votes f.sized.received at_r (choice_lowest s K P t i r c0 x0) over (λ c e. none c (e ∙ at_r))

        acts : Acts s K P idles i t w
        acts = record {
          sound = subst (Sound s K P idles) (sym shape) (sound_votes s K P idles t f w.votes w.received
              (votes_size s K P t i r low li top f.sized.votes f.sized.received) (received_size s K P t i r low li top f.sized.votes f.sized.received)
              (subst (λ y. Step (terms_of s) (view s K t) (view s K y)) shape sp));
          run = next start sp;
          only = record {
            clock = ap (λ (z : Tables A). z.clock) shape;
            received = λ j c lj d. received_other s K P t i r low li top f.sized.votes f.sized.received j c lj d;
            seats = λ j d. ap (λ (z : Tables A). seat_at z j) shape;
            certificates = λ j x lj lx d. ap (λ (z : Tables A). get_or z.certificates (j * s.rounds + x) no_certificate) shape;
          };
        }

        valid_same : (c : ℕ) → valid K w c ≡ valid K t c
        valid_same c = ap (λ (z : Tables A). valid K z c) shape

        done : (c : ℕ) → block_round s c ≡ suc r → T ((view s K w).held i c) → T ((view s K w).valid c) → Answers w i c
        done c e hc vc =
            let held = subst T (held_same s K P t i r low li top f.sized.votes f.sized.received (c * s.n + i)) hc in
            let a = choice_answers s K P t i r c0 x0 c e (both (received_at s t i c).held (valid K t c) held (subst T (valid_same c) vc)) in
            (a.0, signed s K P t i r low li top f.sized.votes f.sized.received a.0 a.1 a.2, a.1 ∙ sym e, a.3)

    pub votes_act : VotesAct i r t (vote s K t i (suc r))
    unfolding vote
    votes_act = go (first_from (holds_valid s K t i) st (round_width s)) refl
      where
        go : (x : Option ℕ) → first_from (holds_valid s K t i) st (round_width s) ≡ x → VotesAct i r t (vote_from s K t i (suc r) x)
        go None e = record {
          acts = acts_none s K P idles f;
          seats = refl;
          done = λ c q hc vc. let o = in_round s P r c q in absurd (first_none (holds_valid s K t i) st (round_width s) c e o.0 o.1
              (both (received_at s t i c).held (valid K t c) hc vc));
        }
        go (Some c) e = votes_some c (first_some (holds_valid s K t i) st (round_width s) c e)
