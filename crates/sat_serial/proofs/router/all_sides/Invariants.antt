use Rattle.std.proofs.Common.{◌≡◌, ℕ, Some, length, slice_get}
use Rattle.sat_label.specs.declared.node.NodeId.{NodeId}
use Rattle.sat_label.specs.declared.site_set.SiteSet.{SiteSet}
use Rattle.sat_serial.specs.Routes.{IsFarSide}
use Rattle.sat_serial.proofs.router.all_sides.Given as goal

abbrev pub invariant-loop-neighbour : goal.invariant-loop-neighbour
invariant-loop-neighbour l = record {
  size : length l.sides.items ≡ l.neighbour-index;
  each : (k : ℕ) (v : NodeId) (side : SiteSet) → slice_get l.neighbour-items k ≡ Some v → slice_get l.sides.items k ≡ Some side → IsFarSide l.tree l.number v side;
}
