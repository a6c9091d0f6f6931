use Rattle.std.proofs.Common.{◌∙◌, ap, ◌<◌, length, arith}
use Rattle.sat_tree.proofs.Rows.{row-within, row-is}
use Rattle.sat_serial.specs.Routes.{Placed}
use Rattle.sat_serial.specs.Hits.{serializer_place}
use Rattle.sat_serial.proofs.router.Router.serializer_place.Goals as goal

pub index-requires : goal.index-requires
index-requires c =
    let less : c.args.serializer < length c.self.inside.tree.parents = omega arith in
    let row = row-within (serializer_place c.self.inside.tree c.self.inside.number) c.self.inside.serializers.items (length c.self.inside.tree.parents) c.args.serializer c.self.invariant.3 less in
    omega arith

pub returns-then-serializer-serializers : goal.returns-then-serializer-serializers
returns-then-serializer-serializers c =
    let less : c.args.serializer < length c.self.inside.tree.parents = omega arith in
    row-is (serializer_place c.self.inside.tree c.self.inside.number) c.self.inside.serializers.items (length c.self.inside.tree.parents) c.args.serializer _ c.self.invariant.3 less c.index.ensures
    ∙ ap (λ (p : Placed). serializer_place p.tree p.number c.args.serializer) c.self.view_is
