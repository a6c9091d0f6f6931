use Rattle.std.proofs.Common.{◌<◌, ◌∙◌, length, arith}
use Rattle.sat_serial.specs.Routes.{goes}
use Rattle.sat_serial.specs.Hits.{hit_at}
use Rattle.sat_serial.proofs.Ways.{asked}
use Rattle.sat_serial.proofs.Places.{has-space, next-hit}
use Rattle.sat_serial.proofs.router.Router.hits.Goals as goal

pub add_if-requires-clause-room : goal.add_if-requires-clause-room
add_if-requires-clause-room c =
    let test = goes c.args.interest.now c.args.self.now.tree c.args.self.now.number c.args.from c.args.label.now in
    let within : c.loop-place.place < length c.neighbours-neighbour-items.result.now = omega arith in
    (has-space (hit_at test c.neighbours-neighbour-items.result.now) _ _ _ _ _ c.neighbours-neighbour-items.ensures.neighbours c.neighbours-neighbour-items.ensures.limits within c.loop-place.invariant).0

pub add_if-requires-clause-small : goal.add_if-requires-clause-small
add_if-requires-clause-small c =
    let test = goes c.args.interest.now c.args.self.now.tree c.args.self.now.number c.args.from c.args.label.now in
    let within : c.loop-place.place < length c.neighbours-neighbour-items.result.now = omega arith in
    (has-space (hit_at test c.neighbours-neighbour-items.result.now) _ _ _ _ _ c.neighbours-neighbour-items.ensures.neighbours c.neighbours-neighbour-items.ensures.limits within c.loop-place.invariant).1

pub loop-place-preserved : goal.loop-place-preserved
loop-place-preserved c =
    let test = goes c.args.interest.now c.args.self.now.tree c.args.self.now.number c.args.from c.args.label.now in
    let within : c.loop-place.place < length c.neighbours-neighbour-items.result.now = omega arith in
    let is = asked c.args.interest.now _ _ _ c.neighbours-neighbour-items.result.now c.loop-place.place _ _ c.args.from c.args.label.now c.goes-hit.result _ _ c.self.view_is c.self.invariant.1 c.neighbours-neighbour-items.ensures.neighbours within c.index.ensures c.requires.sites c.targets-targets.ensures.targets c.goes-hit.ensures in
    c.add_if.ensures ∙ next-hit test c.neighbours-neighbour-items.result.now c.loop-place.place _ c.goes-hit.result c.loop-place.hits within is c.loop-place.invariant
