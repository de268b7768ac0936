-- A listed chain has the final blocks of its seat, that of round k at place k.
use Rattle.std.proofs.Common.{◌≡◌, ℕ, zero, suc, ◌+◌, ◌-◌, ◌<◌, ◌≤◌, T, List, [], ◌∷◌, length, get_or, Ok, sym, refl, ap, ◌∙◌, subst, ⊎_elim, arith}
use Rattle.std.proofs.lemmas.List.{length-append, get_or_append_left, get_or-append_right}
use Rattle.std.proofs.lemmas.Bool.{cases_lt}
use Rattle.numbers.specs.Quorum.{majority_of}
use Rattle.orders.specs.Ranking.{Ranking, Lawful}
use Rattle.records.specs.Kind.{Kind, IdleFollows}
use Rattle.roster.specs.declared.roster.Roster.{Roster}
use Rattle.rules.specs.declared.rows.BlockRow.{BlockRow}
use Rattle.rules.specs.Chains.{ancestor}
use Rattle.orders.specs.Rows.{order_rows}
use Rattle.rules.specs.Setup.{Bench, Setup, setup_with, block_round}
use Rattle.rules.specs.Tables.{Tables, no_block, setup_at, block_at, seat_at}
use Rattle.rules.specs.Opening.{bench_of, open_answer, opened}
use Rattle.rules.specs.Runs.{Call, after}
use Rattle.laws.specs.Laws.{Honest, round}
use Rattle.laws.proofs.Tests.{yes_T}
use Rattle.laws.proofs.Heads.{head_made}
use Rattle.laws.proofs.BenchView.{Proper, terms_of, view}
use Rattle.laws.proofs.LawfulTerms.{lawful}
use Rattle.laws.proofs.Sound.{Sound, blocks_of, timing_of}
use Rattle.laws.proofs.FinalChains.{final_on}
use Rattle.laws.proofs.AcceptedOpening.{accepted, proper}
use Rattle.laws.proofs.EveryRun.{opened_reached, after_reached}
use Rattle.reading.specs.Reading.{chain_of, final_chain}
use Rattle.reading.specs.Listed.{ListsFinal}
use Rattle.bench.specs.Runs.{ShowsFinalBlocks}

-- a chain, place by place
module _ (bs : List BlockRow) where
  abbrev parent : ℕ → ℕ
  parent b = (get_or bs b no_block).parent

  chain_long : (k b : ℕ) → length (chain_of bs k b) ≡ k
  unfolding chain_of
  chain_long zero b = refl
  chain_long (suc k) b = length-append (chain_of bs k (parent b)) (b ∷ []) ∙ omega (arith, chain_long k (parent b))

  chain_at : (k b j : ℕ) → j < k → get_or (chain_of bs k b) j 0 ≡ ancestor parent (k - 1 - j) b
  unfolding chain_of
  chain_at zero b j h = absurd (omega arith)
  chain_at (suc k) b j h =
      ⊎_elim
      (λ (lt : j < k).
      let up : suc k - 1 - j ≡ suc (k - 1 - j) = omega arith in
      get_or_append_left (chain_of bs k (parent b)) (b ∷ []) 0 j (omega (arith, chain_long k (parent b)))
      ∙ chain_at k (parent b) j lt ∙ ap (λ (d : ℕ). ancestor parent d b) (sym up))
      (λ (ge : k ≤ j).
      let last : j - k ≡ 0 = omega arith in
      let none : suc k - 1 - j ≡ 0 = omega arith in
      get_or-append_right (chain_of bs k (parent b)) (b ∷ []) k j 0 (chain_long k (parent b)) ge
      ∙ ap (λ (d : ℕ). get_or (b ∷ []) d 0) last ∙ ap (λ (d : ℕ). ancestor parent d b) (sym none))
      (cases_lt j k)

module _ {A : Type 0} (s : Setup) (K : Kind A) (P : Proper s) (idles : IdleFollows K) (t : Tables A) (f : Sound s K P idles t) where
  -- an ancestor of a made block is made, and as many rounds below it
  down : (d c : ℕ) → T (block_at t c).made → d ≤ block_round s c
      → T (block_at t (ancestor (parent t.blocks) d c)).made × (block_round s (ancestor (parent t.blocks) d c) + d ≡ block_round s c)
  down zero c made h = (made, omega arith)
  down (suc d) c made h =
      let m = blocks_of s K P idles t f in
      let up = m.parent_round c made (omega arith) in
      let y = down d (block_at t c).parent (m.parent_made c made (omega arith)) (omega (arith, up)) in
      (y.0, omega (arith, y.1, up))

module _ {A : Type 0} (K : Kind A) (idles : IdleFollows K) (ro : Roster) (m : Ranking) (delay rounds editions : ℕ) (lent : Tables A) (law : Lawful m) where
  abbrev bench : Bench
  bench = bench_of ro delay rounds editions (majority_of ro.n)

  lists_final : open_answer bench m lent ≡ Ok tt → (calls : List (Call A)) (i : ℕ) → Honest bench i
      → ListsFinal bench (after bench K calls (opened bench m K)) i (final_chain (setup_at bench (after bench K calls (opened bench m K))) (after bench K calls (opened bench m K)) i)
  lists_final ok calls i h =
      let a = accepted bench m lent ok in
      let P = proper ro m delay rounds editions (majority_of ro.n) law (omega (arith, ro.fewer_than_half)) (omega (arith, ro.fewer_than_half)) a in
      let t = after bench K calls (opened bench m K) in
      let q = after_reached bench m K idles law a P calls (opened bench m K) (opened_reached bench m K idles law a P) in
      let s = q.settled in
      let sound = s.sound in
      let u = setup_with bench (order_rows m rounds) in
      let top = (seat_at t i).head in
      let r = round bench top in
      let made = head_made (terms_of u) (lawful u P) (view u K t) (timing_of u K P idles t sound) (blocks_of u K P idles t sound) i (yes_T h) in
      record {
        each_final = λ k l. (suc r - 1 - k, sym (chain_at t.blocks (suc r) top k (omega (arith, chain_long t.blocks (suc r) top))));
        by_rounds = λ k l.
            let lt : k < suc r = omega (arith, chain_long t.blocks (suc r) top) in
            ap (round bench) (chain_at t.blocks (suc r) top k lt) ∙ omega (arith, (down u K P idles t sound (suc r - 1 - k) top made (omega arith)).1);
        every_final = λ c x.
            let on = final_on u K P idles t sound i c (yes_T h) x in
            let low : on.back ≤ r = omega (arith, on.rounds) in
            let same : suc r - 1 - (r - on.back) ≡ on.back = omega arith in (
              r - on.back,
              omega (arith, chain_long t.blocks (suc r) top),
              chain_at t.blocks (suc r) top (r - on.back) (omega arith) ∙ ap (λ (d : ℕ). ancestor (parent t.blocks) d top) same ∙ on.there,
            );
      }

-- of the run behind a bench
pub shows_final_blocks : {A : Type 0} (K : Kind A) → IdleFollows K → (b : Bench) (t : Tables A) (i : ℕ) → ShowsFinalBlocks K b t i
shows_final_blocks K idles b t i run =
    let P : Bench → Type 0 = λ x. Honest x i
    → ListsFinal x (after x K run.calls (opened x run.ranking K)) i
    (final_chain (setup_at x (after x K run.calls (opened x run.ranking K))) (after x K run.calls (opened x run.ranking K)) i) in
    let opened_ok = subst (λ (x : Bench). open_answer x run.ranking run.lent ≡ Ok tt) run.is_bench run.accepted in
    let there : P b = subst P (sym run.is_bench)
    (lists_final K idles run.roster run.ranking b.delay b.rounds b.editions run.lent run.lawful opened_ok run.calls i) in
    subst (λ (x : Tables _). Honest b i → ListsFinal b x i (final_chain (setup_at b x) x i)) (sym run.is_after) there
