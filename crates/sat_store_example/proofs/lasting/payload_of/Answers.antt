use Rattle.std.proofs.Common.{◌∙◌, sym}
use Rattle.sat_store_example.proofs.Lanes.{lane-gear, lane-site}
use Rattle.sat_store_example.proofs.lasting.payload_of.Goals as goal

pub payload-requires-clause-gear : goal.payload-requires-clause-gear
payload-requires-clause-gear c = lane-gear c.args.site.now c.args.gear c.args.to (sym c.has_lane.ensures ∙ c.if-not-has_lane.false)

pub payload-requires-clause-site : goal.payload-requires-clause-site
payload-requires-clause-site c = lane-site c.args.site.now c.args.gear c.args.to (sym c.has_lane.ensures ∙ c.if-not-has_lane.false)
