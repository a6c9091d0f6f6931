use Rattle.std.proofs.Common.{None, Some, refl}
use Rattle.sat_pool.proofs.Places.{got}
use Rattle.sat_pool.proofs.rising.Rising.get.Goals as goal

pub returns-in-None : goal.returns-in-None
returns-in-None c = got c.self.inside.waiting.items c.args.self.now c.args.point.now c.place_of-place.result None None c.self.invariant c.self.view_is c.place_of-place.ensures c.in-None.ensures refl

pub returns-in-Some : goal.returns-in-Some
returns-in-Some c = got c.self.inside.waiting.items c.args.self.now c.args.point.now c.place_of-place.result (Some c.in-Some.payload.now) _ c.self.invariant c.self.view_is c.place_of-place.ensures c.in-Some.ensures c.if_at.ensures
