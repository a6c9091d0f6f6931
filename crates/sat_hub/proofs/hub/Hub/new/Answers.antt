use Rattle.std.proofs.Common.{ap, map, ◌∙◌}
use Rattle.sat_hub.specs.Changes.{is_stamp_plan}
use Rattle.sat_hub.proofs.Fresh.{made-ok, shape-sound}
use Rattle.sat_hub.proofs.hub.Hub.new.Goals as goal

pub fresh-requires-clause-shape : goal.fresh-requires-clause-shape
fresh-requires-clause-shape c = shape-sound _ _ _ c.in_ok-shape.ensures.limits c.requires.site c.in_ok-shape.ensures.interest c.in_ok-shape.ensures.shape

pub returns : goal.returns
returns c = made-ok c.args.d.now c.args.site _ _ c.fresh.result c.in_ok-shape.ensures.shape (c.deref.ensures.value ∙ (c.in_ok-stamp.ensures ∙ ap (map is_stamp_plan) c.plans.ensures.plans)) c.fresh.ensures
