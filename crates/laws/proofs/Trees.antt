-- A tree of blocks, with no seats and no time: any two final heads of it lie on one chain.
use Rattle.std.proofs.Common.{◌≡◌, ℕ, zero, suc, ◌+◌, ◌-◌, ◌≤◌, ◌⊎◌, sym, refl, ap, ◌∙◌, subst, inl, inr, arith}
use native.Mathlib.Decide.{dec_le}
use Rattle.rules.specs.Chains.{ancestor}
use Rattle.laws.proofs.Chains.{On, on_trans, on_same_chain}

pub record Tree : Type 1 where
  pub parent : ℕ → ℕ
  pub round_of : ℕ → ℕ
  pub Made : ℕ → Type 0
  pub Notarised : ℕ → Type 0
  pub Signed : ℕ → Type 0  -- an honest seat has signed it

pub record LawfulTree (t : Tree) : Type 0 where
  -- the parent of a made block is made, of the round before, and from round 2 on notarised
  pub parent_made : (b : ℕ) → t.Made b → 1 ≤ t.round_of b → t.Made (t.parent b)
  pub parent_round : (b : ℕ) → t.Made b → 1 ≤ t.round_of b → suc (t.round_of (t.parent b)) ≡ t.round_of b
  pub parent_notarised : (b : ℕ) → t.Made b → 2 ≤ t.round_of b → t.Notarised (t.parent b)
  -- a notarised block is made, and an honest seat has signed it
  pub notarised_made : (b : ℕ) → t.Notarised b → t.Made b
  pub notarised_signed : (b : ℕ) → t.Notarised b → 1 ≤ t.round_of b → t.Signed b
  -- block 0 is the one block of round 0
  pub root : (b : ℕ) → t.Made b → t.round_of b ≡ 0 → b ≡ 0
  pub root_made : t.Made 0
  pub root_round : t.round_of 0 ≡ 0

-- Block h is a final head: there is a round, its basis, each honestly signed block of which has h on its chain,
-- and some block of which is notarised.
pub record Final (t : Tree) (h : ℕ) : Type 0 where
  pub basis : ℕ
  pub basis_pos : 1 ≤ basis
  pub only : (c : ℕ) → t.Signed c → t.round_of c ≡ basis → On t.parent t.round_of h c
  pub tip : ℕ
  pub tip_notarised : t.Notarised tip
  pub tip_round : t.round_of tip ≡ basis

module _ (t : Tree) (l : LawfulTree t) where
  -- the chain of a notarised block has a notarised block of each earlier round m, d rounds below
  down : (m : ℕ) → 1 ≤ m → (d c : ℕ) → t.Notarised c → t.round_of c ≡ m + d
      → (a : ℕ) × t.Notarised a × (t.round_of a ≡ m) × On t.parent t.round_of a c
  down m p zero c n e = (c, n, omega arith, record { back = 0; rounds = omega arith; there = refl })
  down m p (suc d) c n e =
      let made = l.notarised_made c n in
      let r = l.parent_round c made (omega arith) in
      let ih = down m p d (t.parent c) (l.parent_notarised c made (omega arith)) (omega arith) in
      (ih.0, ih.1, ih.2, on_trans t.parent t.round_of ih.0 (t.parent c) c ih.3 (record { back = 1; rounds = omega arith; there = refl }))

  -- a final head lies on the chain of each notarised block from its basis on
  pub on_notarised : (g : ℕ) (f : Final t g) (c : ℕ) → t.Notarised c → f.basis ≤ t.round_of c → On t.parent t.round_of g c
  on_notarised g f c n le =
      let x = down f.basis f.basis_pos (t.round_of c - f.basis) c n (omega arith) in
      on_trans t.parent t.round_of g x.0 c
      (f.only x.0 (l.notarised_signed x.0 x.1 (omega (arith, x.2, f.basis_pos))) x.2) x.3

  pub on_tip : (g : ℕ) (f : Final t g) → On t.parent t.round_of g f.tip
  on_tip g f = on_notarised g f f.tip f.tip_notarised (omega (arith, f.tip_round))

  -- two final heads lie on the chain of one block: the tip of the one with the later basis
  above : (g h : ℕ) → Final t g → Final t h → (c : ℕ) × On t.parent t.round_of g c × On t.parent t.round_of h c
  above g h f k = go (dec_le f.basis k.basis)
    where
      go : Dec (f.basis ≤ k.basis) → (c : ℕ) × On t.parent t.round_of g c × On t.parent t.round_of h c
      go (yes le) = (k.tip, on_notarised g f k.tip k.tip_notarised (omega (arith, k.tip_round)), on_tip h k)
      go (no n) = (f.tip, on_tip g f, on_notarised h k f.tip f.tip_notarised (omega (arith, f.tip_round)))

  to_root : (d c : ℕ) → t.Made c → t.round_of c ≡ d → ancestor t.parent d c ≡ 0
  to_root zero c m e = l.root c m e
  to_root (suc d) c m e =
      let r = l.parent_round c m (omega arith) in
      to_root d (t.parent c) (l.parent_made c m (omega arith)) (omega arith)

  ancestor_made : (x c : ℕ) → t.Made c → x ≤ t.round_of c → t.Made (ancestor t.parent x c)
  ancestor_made zero c m le = m
  ancestor_made (suc x) c m le = ancestor_made x (t.parent c) (l.parent_made c m (omega arith)) (omega (arith, l.parent_round c m (omega arith)))

  -- In what follows a head is final or block 0.
  pub final_made : (g : ℕ) → Final t g ⊎ (g ≡ 0) → t.Made g
  final_made g (inl f) =
      let o = on_tip g f in
      subst t.Made o.there (ancestor_made o.back f.tip (l.notarised_made f.tip f.tip_notarised) (omega (arith, o.rounds)))
  final_made g (inr e) = subst t.Made (sym e) l.root_made

  -- the head of the earlier round lies on the chain of the other
  pub on_older : (g h : ℕ) → Final t g ⊎ (g ≡ 0) → Final t h ⊎ (h ≡ 0) → t.round_of g ≤ t.round_of h → On t.parent t.round_of g h
  on_older g h (inl f) (inl k) le = let x = above g h f k in on_same_chain t.parent t.round_of g h x.0 x.1 x.2 le
  on_older g h (inr e) y le = subst (λ b. On t.parent t.round_of b h) (sym e) (record {
    back = t.round_of h;
    rounds = omega (arith, l.root_round);
    there = to_root (t.round_of h) h (final_made h y) refl;
  })
  on_older g h (inl f) (inr e) le =
      let z : g ≡ 0 = l.root g (final_made g (inl f)) (omega (arith, ap t.round_of e, l.root_round)) in
      record { back = 0; rounds = omega (arith, ap t.round_of z, ap t.round_of e); there = e ∙ sym z }

  -- of two heads one lies on the chain of the other
  pub agree : (g h : ℕ) → Final t g ⊎ (g ≡ 0) → Final t h ⊎ (h ≡ 0) → On t.parent t.round_of g h ⊎ On t.parent t.round_of h g
  agree g h x y = go (dec_le (t.round_of g) (t.round_of h))
    where
      go : Dec (t.round_of g ≤ t.round_of h) → On t.parent t.round_of g h ⊎ On t.parent t.round_of h g
      go (yes le) = inl (on_older g h x y le)
      go (no gt) = inr (on_older h g y x (omega arith))
