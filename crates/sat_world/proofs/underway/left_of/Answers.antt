use Rattle.std.proofs.Common.{ℕ, subst, ◌≡◌, refl, arith}
use Rattle.sat_world.specs.Left.{IsLeftOf}
use Rattle.sat_world.proofs.Lefts.{gear-more}
use Rattle.sat_world.proofs.underway.left_of.Goals as goal

pub loop-gear-init : goal.loop-gear-init
loop-gear-init c = λ d s t sx ty. refl

pub loop-gear-preserved : goal.loop-gear-preserved
loop-gear-preserved c = gear-more _ _ _ _ _ _ _ _ _ c.loop-gear.invariant c.made_for-made.ensures.made c.missing.ensures c.saturating_add-count.ensures

pub returns : goal.returns
returns c = subst (λ (n : ℕ). IsLeftOf c.args.sender.now c.args.receiver.now c.args.from c.args.to n c.loop-gear.count) (let e : c.loop-gear.gear ≡ c.args.gears = omega arith in e) c.loop-gear.invariant
