-- An update that comes to the root of a tree of three serializers.
use Rattle.std.proofs.Common.{refl, sym, subst, arith, ◌≡◌, ◌<◌, [], ◌∷◌, None, Some, ℕ, length}
use Rattle.sat_label.specs.declared.items.Items.TheVariants.{One}
use Rattle.sat_label.specs.declared.label.Kind.TheVariants.{Update}
use Rattle.sat_label.specs.declared.label.Label.{Label}
use Rattle.sat_label.specs.declared.node.NodeId.TheVariants.{Serializer}
use Rattle.sat_sites.specs.Interested.{Interested, is_for}
use Rattle.sat_tree.specs.Cut.{beyond, is_edge}
use Rattle.sat_tree.specs.Shape.{TreeShape}
use Rattle.sat_serial.specs.Routes.{leads, Arrives}

-- the tree, the interest and the update
abbrev pub three : TreeShape
three = record { parents = None ∷ Some 0 ∷ Some 0 ∷ []; seats = 0 ∷ 1 ∷ 1 ∷ 2 ∷ 2 ∷ [] }

abbrev pub of_two : Interested
of_two = record { sites = 5; replicas = (record { bits = 10 }) ∷ [] }

abbrev pub update : Label
update = record { point = record { ts = 1; site = 1; gear = 0 }; kind = Update (One 0) }

arrives_there : Arrives of_two three 0 (Serializer 1) update
unfolding leads is_edge is_for beyond
arrives_there =
    let own : update.point.site < of_two.sites = omega arith in
    let known : 0 < length of_two.replicas = omega arith in
    let node : 1 < length three.parents = omega arith in
    record { sites = refl; label = record { own = own; kind = (known, tt) }; neighbour = record { node = node; edge = refl }; target = refl }

pub arrives : (a : Interested) (t : TreeShape) (z : ℕ) → a ≡ of_two → t ≡ three → z ≡ 0 → Arrives a t z (Serializer 1) update
arrives a t z interest tree root =
    subst (λ (b : Interested). Arrives b t z (Serializer 1) update) (sym interest)
    (subst (λ (s : TreeShape). Arrives of_two s z (Serializer 1) update) (sym tree)
    (subst (λ (n : ℕ). Arrives of_two three n (Serializer 1) update) (sym root) arrives_there))
