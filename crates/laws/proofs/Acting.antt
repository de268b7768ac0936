-- One seat acts: the tables stay sound, and nothing of another seat changes.
use Rattle.std.proofs.Common.{◌≡◌, ℕ, zero, suc, ◌+◌, ◌*◌, ◌<◌, ◌≤◌, T, List, length, get_or, Option, refl, ap, ◌∙◌, subst, arith, length-set}
use Rattle.std.proofs.lemmas.List.{get_or-set_other}
use Rattle.records.specs.Kind.{IdleFollows, Kind}
use Rattle.rules.specs.declared.rows.ReceivedRow.{ReceivedRow}
use Rattle.rules.specs.declared.rows.VoteRow.{VoteRow}
use Rattle.rules.specs.Sets.{bit}
use Rattle.rules.specs.Setup.{Setup, block_round, honest}
use Rattle.rules.specs.Tables.{Tables, certificate_at, entered_at, is_waiting, no_certificate, nothing_received, received_at, seat_at, with_drafts, with_received, with_votes}
use Rattle.rules.specs.Holding.{receive_row, receives, take_in, takes_in}
use Rattle.laws.proofs.View.{View}
use Rattle.laws.proofs.Discipline.{Run, Step}
use Rattle.laws.proofs.Discipline.Run.{next, start}
use Rattle.laws.proofs.Runs.{run_signed, run_then, run_valid}
use Rattle.laws.proofs.Moves.{Untouched}
use Rattle.laws.proofs.Rows.{row_one}
use Rattle.laws.proofs.BenchView.{Proper, terms_of, view}
use Rattle.laws.proofs.Numbering.{row_room}
use Rattle.laws.proofs.Seats.{honest_below}
use Rattle.laws.proofs.TakingIn.{Taken, receiving, takes}
use Rattle.laws.proofs.Sound.{Sound, blocks_of, made_room, root_held, timing_of}

module _ {A : Type 0} (s : Setup) (K : Kind A) (P : Proper s) (idles : IdleFollows K) where
  -- another seat than i is as it was
  pub record Only (i : ℕ) (t u : Tables A) : Type 0 where
    pub clock : u.clock ≡ t.clock
    pub received : (j c : ℕ) → j < s.n → (j ≡ i → ⊥) → received_at s u j c ≡ received_at s t j c
    pub seats : (j : ℕ) → (j ≡ i → ⊥) → seat_at u j ≡ seat_at t j
    pub certificates : (j r : ℕ) → j < s.n → r < s.rounds → (j ≡ i → ⊥) → get_or u.certificates (j * s.rounds + r) no_certificate
        ≡ get_or t.certificates (j * s.rounds + r) no_certificate

  -- Seat i acts: sound tables u come of t by steps, and nothing of another seat changes.
  pub record Acts (i : ℕ) (t u : Tables A) : Type 0 where
    pub sound : Sound s K P idles u
    pub run : Run (terms_of s) (view s K t) (view s K u)
    pub only : Only i t u

  -- one act after another
  pub only_then : {i : ℕ} {t u v : Tables A} → Only i t u → Only i u v → Only i t v
  only_then a b = record {
    clock = b.clock ∙ a.clock;
    received = λ j c l n. b.received j c l n ∙ a.received j c l n;
    seats = λ j n. b.seats j n ∙ a.seats j n;
    certificates = λ j r l m n. b.certificates j r l m n ∙ a.certificates j r l m n;
  }

  pub acts_then : {i : ℕ} {t u v : Tables A} → Acts i t u → Acts i u v → Acts i t v
  acts_then a b = record { sound = b.sound; run = run_then a.run b.run; only = only_then a.only b.only }

  -- nothing happens
  pub acts_none : {i : ℕ} {t : Tables A} → Sound s K P idles t → Acts i t t
  acts_none f = record { sound = f; run = start; only = record { clock = refl; received = λ j c l n. refl; seats = λ j n. refl; certificates = λ j r l m n. refl } }

  module _ (t : Tables A) (f : Sound s K P idles t) where
    abbrev v : View
    v = view s K t

    -- another table of holdings
    pub sound_received : (h : List ReceivedRow) → length h ≡ length t.received → Run (terms_of s) v (view s K (with_received t h)) → Sound s K P idles (with_received t h)
    sound_received h e r = record {
      run = run_then f.run r;
      sized = record {
        blocks = f.sized.blocks;
        records = f.sized.records;
        drafts = f.sized.drafts;
        seats = f.sized.seats;
        received = e
            ∙ f.sized.received;
        votes = f.sized.votes;
        certificates = f.sized.certificates;
      };
      phase = f.phase;
      low = f.low;
      sealed = λ i r h l. record { signed = (f.sealed i r h l).signed; quorum = (f.sealed i r h l).quorum };
      ahead = f.ahead;
    }

    -- other votes and holdings
    pub sound_votes : (x : List VoteRow) (h : List ReceivedRow) → length x ≡ length t.votes → length h ≡ length t.received
        → Step (terms_of s) v (view s K (with_votes t x h)) → Sound s K P idles (with_votes t x h)
    sound_votes x h d e st = record {
      run = next f.run st;
      sized = record {
        blocks = f.sized.blocks;
        records = f.sized.records;
        drafts = f.sized.drafts;
        seats = f.sized.seats;
        received = e
            ∙ f.sized.received;
        votes = d ∙ f.sized.votes;
        certificates = f.sized.certificates;
      };
      phase = f.phase;
      low = f.low;
      sealed = λ i r h l. record {
        signed = λ y q. st.signed_stays y (certificate_at s t i (suc r)).block ((f.sealed i r h l).signed y q);
        quorum = (f.sealed i r h l).quorum;
      };
      ahead = f.ahead;
    }

    pub sound_drafts : (x : List (Option A)) → length x ≡ length t.drafts → Sound s K P idles (with_drafts t x)
    sound_drafts x e = record {
      run = f.run;
      sized = record {
        blocks = f.sized.blocks;
        records = f.sized.records;
        drafts = e ∙ f.sized.drafts;
        seats = f.sized.seats;
        received = f.sized.received;
        votes = f.sized.votes;
        certificates = f.sized.certificates;
      };
      phase = f.phase;
      low = f.low;
      sealed = λ i r h l. record { signed = (f.sealed i r h l).signed; quorum = (f.sealed i r h l).quorum };
      ahead = f.ahead;
    }

    -- seat j takes in block b
    pub taken : (j b : ℕ) → j < s.n → T (v.made b) → Taken s K P t t.received (take_in s.n (block_round s b) t.blocks t.received j b) j b
    taken j b l q = takes s K P t (blocks_of s K P idles t f).parent_made (blocks_of s K P idles t f).parent_round (λ b x. (blocks_of s K P idles t f).carried_signed b x) j l
        (λ c m. omega (arith, f.sized.received, row_room s P c j (made_room s K P idles t f c m) l)) (block_round s b) t.received b refl
        (root_held s K P idles t f j l) q refl

    pub take_acts : (j b : ℕ) → j < s.n → T (v.made b) → Acts j t (takes_in s t j b)
    take_acts j b l q = let x = taken j b l q in record {
      sound = sound_received (take_in s.n (block_round s b) t.blocks t.received j b) x.size x.run;
      run = x.run;
      only = record { clock = refl; received = λ i c l n. x.other i c l n; seats = λ i n. refl; certificates = λ i r l m n. refl };
    }

    -- seat j, which holds block b, receives signatures on it
    pub receive_acts : (j b m : ℕ) → j < s.n → T (v.made b) → T (received_at s t j b).held → ((x : ℕ) → T (bit m x) → T (v.signed x b)) → Acts j t (receives s t j b m)
    receive_acts j b m l q has signed_there =
        let st = receiving s K P t j b m l (omega (arith, f.sized.received, row_room s P b j (made_room s K P idles t f b q) l)) has signed_there in
        record {
          sound = sound_received (receives s t j b m).received (length-set t.received (b * s.n + j) (receive_row m (received_at s t j b))) (next start st);
          run = next start st;
          only = record {
            clock = refl;
            received = λ i c li n. get_or-set_other t.received (b * s.n + j) (c * s.n + i) (receive_row m (received_at s t j b)) nothing_received
                (λ e. n (row_one s.n c b i j li l e).1);
            seats = λ i n. refl;
            certificates = λ i r l m n. refl;
          };
        }

  -- a seat that did not act stays as calm as it was
  pub others_untouched : (i : ℕ) (t u : Tables A) → Sound s K P idles t → Acts i t u → (j : ℕ) → T (honest s j) → (j ≡ i → ⊥)
      → Untouched (terms_of s) (view s K t) (view s K u) j
  others_untouched i t u f g j h n = record {
    clock = g.only.clock;
    waiting = ap (λ a. is_waiting a.phase) (g.only.seats j n);
    round = ap (λ a. a.round) (g.only.seats j n);
    entered_at = entered (seat_at t j).round ((timing_of s K P idles t f).round_top j h);
    received = λ c x q. subst (λ a. T (bit a.signers x)) (g.only.received j c (honest_below s j h) n) q;
    held = λ c q ok.
        let q' = subst (λ a. T a.held) (g.only.received j c (honest_below s j h) n) q in
        (q', subst T (run_valid g.run c ((timing_of s K P idles t f).holding j c h q').made) ok);
    signed = λ b q. run_signed g.run j b q;
  }
    where
      entered : (r : ℕ) → r ≤ suc s.rounds → entered_at s u j r ≡ entered_at s t j r
      entered zero l = refl
      entered (suc zero) l = refl
      entered (suc (suc r)) l = ap (λ a. a.tick) (g.only.certificates j r (honest_below s j h) (omega arith) n)
