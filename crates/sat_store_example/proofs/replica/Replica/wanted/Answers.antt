use Rattle.std.proofs.Common.{◌≡◌, ◌∙◌, true, subst, sym}
use Rattle.sat_store_example.specs.Replicas.{ReplicaSeen, has_lane}
use Rattle.sat_store_example.proofs.Lanes.{lane-gear, lane-site}
use Rattle.sat_store_example.proofs.replica.Replica.wanted.Goals as goal

pub front-requires-clause-gear : goal.front-requires-clause-gear
front-requires-clause-gear c = lane-gear c.self.inside.site c.args.gear c.args.from (subst (λ (r : ReplicaSeen). has_lane r.site c.args.gear c.args.from ≡ true) (sym c.self.view_is) (sym c.has_lane.ensures ∙ c.if-not-has_lane.false))

pub front-requires-clause-from : goal.front-requires-clause-from
front-requires-clause-from c = lane-site c.self.inside.site c.args.gear c.args.from (subst (λ (r : ReplicaSeen). has_lane r.site c.args.gear c.args.from ≡ true) (sym c.self.view_is) (sym c.has_lane.ensures ∙ c.if-not-has_lane.false))
