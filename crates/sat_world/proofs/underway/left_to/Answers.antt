use Rattle.std.proofs.Common.{ℕ, subst, ◌≡◌, refl, arith}
use Rattle.sat_world.specs.Left.{IsLeftTo}
use Rattle.sat_world.proofs.Lefts.{site-more}
use Rattle.sat_world.proofs.underway.left_to.Goals as goal

pub loop-from-init : goal.loop-from-init
loop-from-init c = λ d S all. refl

pub loop-from-preserved : goal.loop-from-preserved
loop-from-preserved c = site-more c.args.sites.now c.args.gears c.args.to c.loop-from.from c.loop-from.sum c.left_of.result c.saturating_add-sum.result _ _ (omega (arith, c.requires.count)) (omega (arith, c.requires.count, c.requires.to)) c.index-sites-from.is c.index-sites-to.is c.loop-from.invariant c.left_of.ensures c.saturating_add-sum.ensures

pub returns : goal.returns
returns c = subst (λ (n : ℕ). IsLeftTo c.args.sites.now c.args.gears c.args.to n c.loop-from.sum) (let e : c.loop-from.from ≡ c.args.count = omega arith in e) c.loop-from.invariant
