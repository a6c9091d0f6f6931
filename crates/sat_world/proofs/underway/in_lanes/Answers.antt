use Rattle.std.proofs.Common.{ℕ, subst, sym, ◌≡◌, refl, arith}
use Rattle.sat_world.specs.Left.{IsLeft, IsLeftTo}
use Rattle.sat_world.proofs.Lefts.{all-more}
use Rattle.sat_world.proofs.underway.in_lanes.Goals as goal

pub loop-to-init : goal.loop-to-init
loop-to-init c = λ d S all. refl

pub loop-to-preserved : goal.loop-to-preserved
loop-to-preserved c = all-more c.args.sites.now c.args.gears c.loop-to.to c.loop-to.sum c.left_to.result c.saturating_add-sum.result c.loop-to.invariant (subst (λ (n : ℕ). IsLeftTo c.args.sites.now c.args.gears c.loop-to.to n c.left_to.result) (sym c.requires.count) c.left_to.ensures) c.saturating_add-sum.ensures

pub returns : goal.returns
returns c = subst (λ (n : ℕ). IsLeft c.args.sites.now c.args.gears n c.loop-to.sum) (let e : c.loop-to.to ≡ c.args.count = omega arith in e) c.loop-to.invariant
