use Rattle.std.proofs.Common.{ℕ, arith, sym, subst, ◌∙◌}
use Rattle.sat_world.specs.Clocks.{IsGreatestOf}
use Rattle.sat_world.proofs.Lists.{index-at, within}
use Rattle.sat_world.proofs.Clocked.{greatest-none, sites-more, all-up-to-more}
use Rattle.sat_world.proofs.clocks.greatest.Goals as goal

pub loop-site-init : goal.loop-site-init
loop-site-init c = record {
  greatest = λ d S st. sym (greatest-none _);
  above = λ i x at lt. absurd (omega arith);
  limit = omega arith;
}

pub top-requires-clause-gears : goal.top-requires-clause-gears
top-requires-clause-gears c = c.requires.gears c.loop-site.site-index _ (index-at _ c.loop-site.site-index _ (omega arith) c.site-item.is)

pub loop-site-preserved : goal.loop-site-preserved
loop-site-preserved c = record {
  greatest = λ d S st. c.max-greatest.ensures ∙ sites-more _ _ _ _ _ _ (omega arith) c.site-item.is c.loop-site.invariant.greatest c.top.ensures.top d S st;
  above = λ i x at lt g gear has. let u = all-up-to-more _ _ _ _ _ (omega arith) c.site-item.is c.loop-site.invariant.above c.top.ensures.above i x at lt g gear has in omega (arith, c.max-greatest.ensures, u);
  limit = omega (arith, c.max-greatest.ensures, c.loop-site.invariant.limit, c.top.ensures.limit);
}

pub returns-clause-greatest : goal.returns-clause-greatest
returns-clause-greatest c = subst (λ (m : ℕ). IsGreatestOf c.args.sites.now m c.args.gears c.loop-site.greatest) (omega arith) c.loop-site.invariant.greatest

pub returns-clause-above : goal.returns-clause-above
returns-clause-above c = λ i x at. let w = within _ i x at in c.loop-site.invariant.above i x at (omega (arith, w))
