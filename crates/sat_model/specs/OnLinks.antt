-- What holds of each label that stands on a link.
use Rattle.std.specs.Prelude.{◌≡◌, ◌<◌, true, length}
use Rattle.sat_label.specs.declared.label.Kind.{Kind}
use Rattle.sat_label.specs.declared.label.Kind.TheVariants as kind
use Rattle.sat_label.specs.declared.label.Label.{Label}
use Rattle.sat_label.specs.declared.node.NodeId.{NodeId}
use Rattle.sat_label.specs.Grouped.{are_items, list_of}
use Rattle.sat_sites.specs.Interested.{AreBelow}
use Rattle.sat_tree.specs.Shape.{TreeShape}
use Rattle.sat_act.specs.Deployed.{Deployed}
use Rattle.sat_act.specs.Parts.{goes_beyond}

-- the items of an update, which ascend, and the site of a move are those of the deployment
abbrev pub HasKind : Deployed → Kind → Type 0
HasKind d (kind.Update items) = AreBelow (length d.items) (list_of items) × (are_items (list_of items) ≡ true)
HasKind d (kind.Move j) = j < d.sites
HasKind d _ = Unit {0}

-- a label on the link from u to v: a site's, with items or a site of the deployment, and with a target beyond the link
pub record IsOnLink (d : Deployed) (tree : TreeShape) (u v : NodeId) (l : Label) : Type 0 where
  pub site : l.point.site < d.sites
  pub kind : HasKind d l.kind
  pub target : goes_beyond d tree u v l ≡ true
