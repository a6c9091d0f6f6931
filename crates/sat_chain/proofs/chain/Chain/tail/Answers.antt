use Rattle.std.proofs.Common.{◌≡◌, ◌<◌, ◌∙◌, length, slice_index_or, sym, ap, subst, arith}
use Rattle.sat_chain.specs.Chained.{ChainSeen, row_of}
use Rattle.sat_chain.proofs.Firsts.{last-lives, last-stays, last-none}
use Rattle.sat_chain.proofs.chain.Chain.tail.Goals.{then-lives, else-lives}
use Rattle.sat_chain.proofs.chain.Chain.tail.Goals as goal

pub loop-k-init : goal.loop-k-init
loop-k-init c = last-none (row_of c.args.self.now.rows)

pub loop-k-preserved : goal.loop-k-preserved
loop-k-preserved c = elim c.if-lives.branch [
  | then-lives w ↦ w.last-is ∙ last-lives c.args.self.now.rows c.loop-k.k c.index.result.now (low c) (here c) (sym c.lives.ensures ∙ w.if-lives.true)
  | else-lives w ↦ w.last-is ∙ last-stays c.args.self.now.rows c.loop-k.k c.index.result.now c.loop-k.last (low c) (here c) (sym c.lives.ensures ∙ w.if-lives.false) c.loop-k.invariant
]
  where
    low : (c : goal.Joined-lives) → c.loop-k.k < length c.args.self.now.rows
    low c = omega (arith, c.loop-k-test.true, c.len-k-end.ensures, ap (λ (s : ChainSeen). length s.rows) c.self.view_is)

    here : (c : goal.Joined-lives) → c.index.result.now ≡ slice_index_or c.args.self.now.rows c.loop-k.k c.index.result.now
    here c = subst (λ (s : ChainSeen). c.index.result.now ≡ slice_index_or s.rows c.loop-k.k c.index.result.now) c.self.view_is c.index.ensures
