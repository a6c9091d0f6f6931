use Rattle.std.proofs.Common.{◌<◌, ◌∙◌, sym, arith, length, map}
use Rattle.sat_queue.specs.Queued.{members_of}
use Rattle.sat_gear.proofs.Spreads.{at-none, at-place, laid-at, lane-count, member}
use Rattle.sat_gear.proofs.lanes.Lanes.at.Goals as goal

pub returns-in_err-place : goal.returns-in_err-place
returns-in_err-place c =
    rw c.from_residual.ensures
    (at-none c.self.inside.made.items (map members_of c.self.inside.lanes.items) c.args.self.now c.args.site c.args.number c.self.view_is c.self.invariant.below
    (laid-at c.self.inside.lanes.items c.args.site c.args.number c.index.result.now (omega (arith, lane-count c.self.inside.made.items c.self.inside.lanes.items c.args.self.now c.self.view_is)) c.index.ensures ∙ (sym c.get.ensures ∙ c.in_err-place.was)))

pub index-requires-2 : goal.index-requires-2
index-requires-2 c =
    let low : c.in_ok-place.place < length c.self.inside.made.items = c.self.invariant.below c.args.site c.args.number c.in_ok-place.place
    (laid-at c.self.inside.lanes.items c.args.site c.args.number c.index.result.now (omega (arith, lane-count c.self.inside.made.items c.self.inside.lanes.items c.args.self.now c.self.view_is)) c.index.ensures ∙ (sym c.get.ensures ∙ c.in_ok-place.was)) in
    omega arith

pub returns : goal.returns
returns c =
    let at = laid-at c.self.inside.lanes.items c.args.site c.args.number c.index.result.now (omega (arith, lane-count c.self.inside.made.items c.self.inside.lanes.items c.args.self.now c.self.view_is)) c.index.ensures ∙ (sym c.get.ensures ∙ c.in_ok-place.was) in
    at-place c.self.inside.made.items (map members_of c.self.inside.lanes.items) c.args.self.now c.args.site c.args.number c.in_ok-place.place c.self.view_is c.self.invariant.below at
    ∙ member c.self.inside.made.items c.in_ok-place.place c.index-2.result.now (c.self.invariant.below c.args.site c.args.number c.in_ok-place.place at) c.index-2.ensures
