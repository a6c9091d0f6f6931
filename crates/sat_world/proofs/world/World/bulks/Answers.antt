use Rattle.std.proofs.Common.{◌≤◌, ◌*◌, ◌∙◌, arith, refl}
use Rattle.sat_world.proofs.Bulking.{again-on, gone-nothing}
use Rattle.sat_world.proofs.world.World.bulks.Goals as goal

pub loop-init : goal.loop-init
loop-init c = (gone-nothing _ _, refl, omega arith, omega arith, omega arith)

pub loop-preserved : goal.loop-preserved
loop-preserved c =
    let more : c.in_ok-more.more ≤ c.loop.most = c.in_ok-more.ensures.most in
    let most : c.loop.most ≤ 256 = c.loop.invariant.4 in
    let done : c.loop.done ≤ c.loop.counter * 256 = c.loop.invariant.2 in (
      again-on _ _ _ _ _ _ c.loop.invariant.0 c.in_ok-more.ensures.ok,
      c.in_ok-more.ensures.deployment ∙ c.loop.invariant.1,
      omega arith,
      c.next_most-most.ensures.some,
      c.next_most-most.ensures.most,
    )
