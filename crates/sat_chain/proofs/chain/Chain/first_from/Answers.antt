use Rattle.std.proofs.Common.{◌≡◌, ◌∙◌, length, slice_index_or, sym, ap, subst, arith}
use Rattle.sat_chain.specs.Chained.{ChainSeen}
use Rattle.sat_chain.proofs.Firsts.{lives-at, none-more, none-all}
use Rattle.sat_chain.proofs.chain.Chain.first_from.Goals as goal

pub returns-then-lives : goal.returns-then-lives
returns-then-lives c =
    lives-at c.args.self.now.rows c.args.start c.loop-k.k c.index.result.now c.loop-k.invariant.0 c.loop-k.invariant.1
    (omega (arith, c.loop-k-test.true, c.len-k-end.ensures, ap (λ (s : ChainSeen). length s.rows) c.self.view_is))
    (subst (λ (s : ChainSeen). c.index.result.now ≡ slice_index_or s.rows c.loop-k.k c.index.result.now) c.self.view_is c.index.ensures)
    (sym c.lives.ensures ∙ c.if-lives.true)

pub loop-k-preserved : goal.loop-k-preserved
loop-k-preserved c = (
  omega (arith, c.loop-k.invariant.0),
  none-more c.args.self.now.rows c.args.start c.loop-k.k c.index.result.now c.loop-k.invariant.1
      (omega (arith, c.loop-k-test.true, c.len-k-end.ensures, ap (λ (s : ChainSeen). length s.rows) c.self.view_is))
      (subst (λ (s : ChainSeen). c.index.result.now ≡ slice_index_or s.rows c.loop-k.k c.index.result.now) c.self.view_is c.index.ensures)
      (sym c.lives.ensures ∙ c.if-lives.false),
)

pub returns : goal.returns
returns c =
    none-all c.args.self.now.rows c.args.start c.loop-k.k c.loop-k.invariant.1
    (omega (arith, c.loop-k-test.false, c.len-k-end.ensures, ap (λ (s : ChainSeen). length s.rows) c.self.view_is))
