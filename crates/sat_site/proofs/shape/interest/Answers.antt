use Rattle.std.proofs.Common.{◌∙◌}
use Rattle.sat_site.proofs.Sets.{never-bad}
use Rattle.sat_site.proofs.shape.interest.Goals as goal

pub unreachable-requires : goal.unreachable-requires
unreachable-requires c =
    never-bad c.args.d.now c.sites.result c.as_slice.result.now c.in-Err-BadItem.field-0 _ _ c.sites.ensures.limits c.sites.ensures.sites
    (c.as_slice.ensures.value ∙ c.in_ok-sets.ensures.replicas) c.in-Err-BadItem.field-0-is c.in-Err-BadItem.ensures.fault
