use Rattle.std.proofs.Common.{arith, refl}
use Rattle.sat_pool.proofs.Places.{past_if}
use Rattle.sat_pool.proofs.rising.Rising.is_past.Goals as goal

pub returns-in-Some : goal.returns-in-Some
returns-in-Some c = past_if c.self.inside.waiting.items c.args.self.now c.self.inside.waiting.len c.in-Some.last.now c.args.point.now c.is_below.result c.self.invariant c.self.view_is (omega arith) (c.in-Some.ensures.variant.0 refl) c.in-Some.ensures.lookup c.is_below.ensures
