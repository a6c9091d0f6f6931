use Rattle.std.proofs.Common.{◌≡◌, ℕ, arith, subst, sym, ◌∙◌}
use Rattle.sat_world.specs.Clocks.{greatest_of}
use Rattle.sat_world.proofs.Lists.{within}
use Rattle.sat_world.proofs.Clocked.{greatest-none, top-more, up-to-more}
use Rattle.sat_world.proofs.clocks.top.Goals as goal

pub loop-gear-init : goal.loop-gear-init
loop-gear-init c = record {
  top = λ d i s st. sym (greatest-none (λ g. (s.gears g).promise));
  above = λ g x at lt. absurd (omega arith);
  count = λ lt. absurd (omega arith);
  limit = omega arith;
}

pub loop-gear-preserved : goal.loop-gear-preserved
loop-gear-preserved c = record {
  top = λ d i s st. c.max-greatest.ensures ∙ top-more _ _ _ _ c.loop-gear.invariant.top c.promise.ensures.promise d i s st;
  above = λ g x at lt. let u = up-to-more _ _ _ _ c.loop-gear.invariant.above c.promise.ensures.seen g x at lt in omega (arith, c.max-greatest.ensures, u);
  count = λ lt. c.promise.ensures.limits.gears.count;
  limit = omega (arith, c.max-greatest.ensures, c.loop-gear.invariant.limit, c.promise.ensures.limit);
}

pub returns-clause-top : goal.returns-clause-top
returns-clause-top c = λ d i s st. subst (λ (n : ℕ). c.loop-gear.greatest ≡ greatest_of (λ g. (s.gears g).promise) n) (omega arith) (c.loop-gear.invariant.top d i s st)

pub returns-clause-above : goal.returns-clause-above
returns-clause-above c = λ g x at. let w = within _ g x at in let n = c.loop-gear.invariant.count (omega (arith, c.requires.some)) in c.loop-gear.invariant.above g x at (omega (arith, n, w, c.requires.gears))
