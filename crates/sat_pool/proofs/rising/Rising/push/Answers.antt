use Rattle.sat_pool.proofs.Places.{push_kept}
use Rattle.sat_pool.proofs.rising.Rising.push.Goals as goal

pub invariant_of-self-2 : goal.invariant_of-self-2
invariant_of-self-2 c = push_kept c.self.inside.waiting.items c.args.self.now c.make_room.new.waiting.items _ c.args.payload c.self.invariant c.self.view_is c.requires c.make_room.ensures.items c.push_back_reserved.ensures.items
