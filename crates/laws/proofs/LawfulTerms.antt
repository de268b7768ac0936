-- The terms of a proper setup are lawful: the numbering of the blocks and the order of the seats give what the laws ask.
use Rattle.std.proofs.Common.{ℕ, sym, refl, ap, ◌∙◌}
use Rattle.orders.specs.Ranking.{seat_of_rank}
use Rattle.orders.proofs.Orders.{order_seat}
use Rattle.rules.specs.Setup.{Setup, block_round, block_owner, own_block}
use Rattle.rules.specs.Ranks.{rank_at}
use Rattle.laws.proofs.View.{LawfulTerms}
use Rattle.laws.proofs.BenchView.{Proper, terms_of}
use Rattle.laws.proofs.Numbering.{root_only, owner_below, own_round, own_owner}

pub lawful : (s : Setup) → Proper s → LawfulTerms (terms_of s)
lawful s P = record {
  delay_pos = P.delay;
  some_honest = P.some_honest;
  honest_enough = P.honest_enough;
  own_round = own_round s P;
  own_owner = own_owner s P;
  root = root_only s;
  root_round = refl;
  rank_owner = λ b c e q p top.
      (P.orders (block_round s b) p top).one (block_owner s b) (block_owner s c) (owner_below s P b) (owner_below s P c)
      (q ∙ ap (λ (r : ℕ). rank_at s r (block_owner s c)) (sym e));
  ranked = λ r m p top l.
      let i = seat_of_rank s.n (rank_at s r) m in
      let o = order_seat s.n (rank_at s r) (P.orders r p top) m l in (
        o.0,
        ap (λ (x : ℕ). rank_at s x (block_owner s (own_block s i r))) (own_round s P i r o.0 p)
            ∙ ap (rank_at s r) (own_owner s P i r o.0 p) ∙ o.1,
      );
}
