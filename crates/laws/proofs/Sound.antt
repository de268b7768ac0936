-- What holds of the tables at every moment of a run, also between the parts of a call.
use Rattle.std.proofs.Common.{◌≡◌, ℕ, zero, suc, ◌+◌, ◌*◌, ◌<◌, ◌≤◌, T, ltb, length, get_or, Some, None, sym, ◌∙◌, subst, arith, le→leb, ltb→lt, leb→le}
use native.Mathlib.Decide.{dec_le}
use lib.Count.{ones}
use lib.ListN.{get_or-eq_default}
use Rattle.records.specs.Kind.{IdleFollows, Kind}
use Rattle.rules.specs.declared.rows.Phase.{Phase}
use Rattle.rules.specs.declared.rows.Phase.TheVariants.{Resting, Voting, Waiting}
use Rattle.rules.specs.Sets.{bit}
use Rattle.rules.specs.Counting.{count}
use Rattle.rules.specs.Setup.{Setup, block_round, block_rows, honest, own_block, round_start, round_width}
use Rattle.rules.specs.Tables.{Tables, block_at, certificate_at, no_block, nothing_received, received_at, seat_at, vote_at, has_signed}
use Rattle.rules.specs.Holding.{holds_notarisation, lowest_notarised}
use Rattle.rules.specs.Opening.{opened_tables}
use Rattle.laws.proofs.View.{LawfulTerms, NotarisedAt, View}
use Rattle.laws.proofs.Discipline.{Run}
use Rattle.laws.proofs.Invariants.{Blocks, Invariants, Progress, Timing}
use Rattle.laws.proofs.Opened.{Opened, opened_invariants}
use Rattle.laws.proofs.Runs.{invariants_kept, run_held, run_parent}
use Rattle.laws.proofs.Tests.{both_l}
use Rattle.laws.proofs.Loops.{first_none, first_some}
use Rattle.laws.proofs.BenchView.{Proper, terms_of, view}
use Rattle.laws.proofs.Numbering.{in_round, round_above, round_in}
use Rattle.laws.proofs.Seats.{count_set}
use Rattle.laws.proofs.LawfulTerms.{lawful}
use Rattle.laws.proofs.OpenedTables.{is_opened, root_row, root_up}

-- a made block has a row
pub made_fits : {A : Type 0} (s : Setup) (t : Tables A) → length t.blocks ≡ block_rows s → (b : ℕ) → T (block_at t b).made → b < block_rows s
made_fits s t e b q = go (dec_le (suc b) (length t.blocks))
  where
    go : Dec (suc b ≤ length t.blocks) → b < block_rows s
    go (yes l) = omega (arith, e)
    go (no n) = absurd (subst (λ a. T a.made) (get_or-eq_default t.blocks no_block {n = b} (omega (arith, n))) q)

-- a phase and the round that it is of
abbrev pub PhaseFits : Setup → Phase → ℕ → Type 0
PhaseFits s Waiting r = Unit {0}
PhaseFits s Voting r = r ≤ s.rounds
PhaseFits s Resting r = s.rounds < r

module _ {A : Type 0} (s : Setup) (K : Kind A) (P : Proper s) (idles : IdleFollows K) where
  -- the tables have the lengths required
  pub record Sized (t : Tables A) : Type 0 where
    pub blocks : length t.blocks ≡ block_rows s
    pub records : length t.records ≡ block_rows s
    pub drafts : length t.drafts ≡ s.n
    pub seats : length t.seats ≡ s.n
    pub received : length t.received ≡ block_rows s * s.n
    pub votes : length t.votes ≡ block_rows s * s.n
    pub certificates : length t.certificates ≡ s.n * s.rounds

  -- the certificate of seat i for the round after r has a quorum of signatures that exist
  pub record Sealed (t : Tables A) (i r : ℕ) : Type 0 where
    pub signed : (x : ℕ) → T (bit (certificate_at s t i (suc r)).signers x) → T ((view s K t).signed x (certificate_at s t i (suc r)).block)
    pub quorum : s.quorum ≤ count s.n (bit (certificate_at s t i (suc r)).signers)

  -- Sound tables.
  pub record Sound (t : Tables A) : Type 0 where
    -- steps lead to them from the opening, so that all invariants of views hold
    pub run : Run (terms_of s) (view s K (opened_tables s K)) (view s K t)
    pub sized : Sized t
    -- a voting seat is in one of the R rounds, a resting one past them
    pub phase : (i : ℕ) → T (honest s i) → PhaseFits s (seat_at t i).phase (seat_at t i).round
    -- a head other than block 0 is two rounds or more below its seat
    pub low : (i : ℕ) → T (honest s i) → 1 ≤ block_round s (seat_at t i).head → block_round s (seat_at t i).head + 2 ≤ (seat_at t i).round
    -- a certificate that was sent has a quorum of signatures that exist
    pub sealed : (i r : ℕ) → T (honest s i) → suc r < (seat_at t i).round → Sealed t i r
    -- no honest seat has a block of a round that it has yet to enter
    pub ahead : (i r : ℕ) → T (honest s i) → (seat_at t i).round < r → r ≤ s.rounds → T (block_at t (own_block s i r)).made → ⊥

  abbrev o : View
  o = view s K (opened_tables s K)

  abbrev L : LawfulTerms (terms_of s)
  L = lawful s P

  -- the invariants of every view that is reached
  pub lasting : (v : View) → Run (terms_of s) o v → Invariants (terms_of s) v
  lasting v r = invariants_kept (terms_of s) L o (opened_invariants (terms_of s) L o x) v r
    where
      x : Opened (terms_of s) o
      x = is_opened s K P idles

  module _ (t : Tables A) (f : Sound t) where
    abbrev v : View
    v = view s K t

    -- and so of sound tables
    pub timing_of : Timing (terms_of s) v
    timing_of = (lasting v f.run).timing

    pub blocks_of : Blocks (terms_of s) v
    blocks_of = (lasting v f.run).blocks

    pub progress_of : Progress (terms_of s) v
    progress_of = (lasting v f.run).progress

    -- every seat holds block 0, which is its own parent
    pub root_held : (j : ℕ) → j < s.n → T (get_or t.received j nothing_received).held
    root_held j l = subst (λ (y : ℕ). T (get_or t.received y nothing_received).held) (omega arith)
        (run_held f.run j 0 (subst (λ (y : ℕ). T (get_or (opened_tables s K).received y nothing_received).held) (omega arith) (root_row s K P idles j l)))

    pub root_parent : v.parent 0 ≡ 0
    root_parent = run_parent f.run 0 (is_opened s K P idles).root_made ∙ root_up s K P idles

    -- the parent of a made block is made
    pub parents : (c : ℕ) → T (v.made c) → T (v.made (v.parent c))
    parents zero q = subst (λ (y : ℕ). T (v.made y)) (sym root_parent) q
    parents (suc c) q = blocks_of.parent_made (suc c) q (round_above s (suc c) (omega arith))

    pub made_room : (b : ℕ) → T (v.made b) → b < block_rows s
    made_room b q = made_fits s t f.sized.blocks b q

    -- how many signatures an honest seat has, by the row and by the seats
    pub ones_is : (i c : ℕ) → T (honest s i) → count s.n (bit (received_at s t i c).signers) ≡ ones (received_at s t i c).signers
    ones_is i c h = count_set s.n (received_at s t i c).signers (λ x q. ltb→lt x s.n (both_l (ltb x s.n) (has_signed (vote_at s t x c)) (timing_of.received i c x h q).0))

    -- a notarisation, by the row and by the seats
    pub notarisation_in : (i c : ℕ) → T (honest s i) → T (holds_notarisation s t i c) → NotarisedAt (terms_of s) v i c
    notarisation_in i c h q = omega (arith, ones_is i c h, leb→le s.quorum (ones (received_at s t i c).signers) q)

    pub notarisation_out : (i c : ℕ) → T (honest s i) → NotarisedAt (terms_of s) v i c → T (holds_notarisation s t i c)
    notarisation_out i c h n = le→leb s.quorum (ones (received_at s t i c).signers) (omega (arith, ones_is i c h, n))

    -- the search for the lowest-numbered notarised block
    pub lowest_some : (i r c : ℕ) → T (honest s i) → lowest_notarised s t i (suc r) ≡ Some c → NotarisedAt (terms_of s) v i c × (block_round s c ≡ suc r)
    lowest_some i r c h e = let x = first_some (holds_notarisation s t i) (round_start s (suc r)) (round_width s) c e in
        (notarisation_in i c h x.passes, round_in s P r c x.from x.to)

    pub lowest_none : (i r : ℕ) → T (honest s i) → lowest_notarised s t i (suc r) ≡ None → (c : ℕ) → block_round s c ≡ suc r → NotarisedAt (terms_of s) v i c → ⊥
    lowest_none i r h e c q n = let x = in_round s P r c q in first_none (holds_notarisation s t i) (round_start s (suc r)) (round_width s) c e x.0 x.1
        (notarisation_out i c h n)
