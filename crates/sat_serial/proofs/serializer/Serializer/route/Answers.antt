use Rattle.std.proofs.Common.{◌∙◌, ap, length, refl}
use Rattle.sat_tree.specs.Cut.{neighbours}
use Rattle.sat_serial.specs.Routes.{goes, routes}
use Rattle.sat_serial.specs.Outboxes.{SerializerSeen}
use Rattle.sat_serial.proofs.Places.{all-inside, all-picked}
use Rattle.sat_serial.proofs.serializer.Serializer.route.Goals as goal

pub at-requires : goal.at-requires
at-requires c =
    let nodes = neighbours c.self.inside.router.tree c.self.inside.router.number in
    let test = goes c.args.interest.now c.self.inside.router.tree c.self.inside.router.number c.args.from c.args.label.now in
    all-inside test nodes c.as_slice.result.now (length nodes) (c.as_slice.ensures ∙ c.hits-hits.ensures) refl

pub returns-clause-route : goal.returns-clause-route
returns-clause-route c =
    let nodes = neighbours c.self.inside.router.tree c.self.inside.router.number in
    let test = goes c.args.interest.now c.self.inside.router.tree c.self.inside.router.number c.args.from c.args.label.now in
    all-picked test nodes c.as_slice.result.now _ (c.as_slice.ensures ∙ c.hits-hits.ensures) c.in_ok-nodes.ensures
    ∙ ap (λ (s : SerializerSeen). routes c.args.interest.now s.tree s.number c.args.from c.args.label.now) c.self.view_is
