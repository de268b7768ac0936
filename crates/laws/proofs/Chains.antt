-- The chain of a block: itself, its parent, and so on down to block 0.
use Rattle.std.proofs.Common.{◌≡◌, ℕ, zero, suc, ◌+◌, ◌-◌, ◌≤◌, sym, ap, ◌∙◌, suc-add, zero-add, arith}
use Rattle.rules.specs.Chains.{ancestor}

-- Block a lies on the chain of block b, so many rounds below it.
pub record On (parent round_of : ℕ → ℕ) (a b : ℕ) : Type 0 where
  pub back : ℕ
  pub rounds : round_of a + back ≡ round_of b
  pub there : ancestor parent back b ≡ a

pub ancestor_add : (parent : ℕ → ℕ) (a b c : ℕ) → ancestor parent b (ancestor parent a c) ≡ ancestor parent (a + b) c
ancestor_add parent zero b c = ap (λ x. ancestor parent x c) (sym (zero-add b))
ancestor_add parent (suc a) b c = ancestor_add parent a b (parent c) ∙ ap (λ x. ancestor parent x c) (sym (suc-add a b))

pub on_trans : (parent round_of : ℕ → ℕ) (a b c : ℕ) → On parent round_of a b → On parent round_of b c → On parent round_of a c
on_trans parent round_of a b c p q = record {
  back = q.back + p.back;
  rounds = omega (arith, p.rounds, q.rounds);
  there = sym (ancestor_add parent q.back p.back c) ∙ ap (ancestor parent p.back) q.there ∙ p.there;
}

-- of two blocks on one chain the later has the earlier on its own
pub on_same_chain : (parent round_of : ℕ → ℕ) (a b c : ℕ) → On parent round_of a c → On parent round_of b c → round_of a ≤ round_of b
    → On parent round_of a b
on_same_chain parent round_of a b c p q le = record {
  back = d;
  rounds = omega (arith, p.rounds, q.rounds);
  there = ap (ancestor parent d) (sym q.there) ∙ ancestor_add parent q.back d c ∙ ap (λ x. ancestor parent x c) e ∙ p.there;
}
  where
    d : ℕ
    d = p.back - q.back

    e : q.back + d ≡ p.back
    e = omega (arith, p.rounds, q.rounds)

-- a chain has one block of a round
pub on_one_round : (parent round_of : ℕ → ℕ) (a b c : ℕ) → On parent round_of a c → On parent round_of b c → round_of a ≡ round_of b → a ≡ b
on_one_round parent round_of a b c p q e =
    let same : p.back ≡ q.back = omega (arith, p.rounds, q.rounds) in
    sym p.there ∙ ap (λ x. ancestor parent x c) same ∙ q.there
