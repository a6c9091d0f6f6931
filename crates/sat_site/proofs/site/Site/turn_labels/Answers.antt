use Rattle.std.proofs.Common.{arith, refl}
use Rattle.sat_site.specs.Turns.{none}
use Rattle.sat_site.proofs.Fronts.{all-refused, empty-refused, front-at, front-keeps, left-more, mode-keeps, turns-count, turns-end, turns-go, turns-stop}
use Rattle.sat_site.proofs.site.Site.turn_labels.Goals as goal

pub labels-init : goal.labels-init
labels-init c = (none, refl)

pub turn_one-requires-clause-tree : goal.turn_one-requires-clause-tree
turn_one-requires-clause-tree c = mode-keeps _ _ _ _ _ c.labels.invariant.0 c.requires.tree

pub turn_one-requires-clause-front : goal.turn_one-requires-clause-front
turn_one-requires-clause-front c = front-keeps _ c.labels.self c.args.labels.now.members c.labels.labels.members c.labels.done _ _ c.front.result c.labels.invariant.0 c.requires.fronts c.labels.invariant.1 c.front.ensures c.in-Some.is

pub turn_one-requires-clause-few : goal.turn_one-requires-clause-few
turn_one-requires-clause-few c = omega (arith, c.labels-test.true, c.len-count.type_inv, turns-count _ _ _ _ _ c.labels.invariant.0)

pub returns-in_default-clause-end : goal.returns-in_default-clause-end
returns-in_default-clause-end c = empty-refused c.labels.self.views c.labels.self.proxy _ (front-at c.args.labels.now.members c.labels.labels.members c.labels.done c.front.result _ c.labels.invariant.1 c.front.ensures c.in_default.is)

pub returns-in_default-turn_one-clause-turns : goal.returns-in_default-turn_one-clause-turns
returns-in_default-turn_one-clause-turns c = turns-stop _ c.labels.self _ _ _ c.labels.shown _ c.turn_one.result c.labels.invariant.0 (c.turn_one.ensures.done, c.turn_one.ensures.shown, c.turn_one.ensures.after) c.in_default-turn_one.is

pub returns-in_default-turn_one-clause-end : goal.returns-in_default-turn_one-clause-end
returns-in_default-turn_one-clause-end c =
    turns-end c.labels.self _ c.args.labels.now.members c.labels.done c.labels.shown _ c.turn_one.result (front-at c.args.labels.now.members c.labels.labels.members c.labels.done c.front.result _ c.labels.invariant.1 c.front.ensures c.in-Some.is) (c.turn_one.ensures.done, c.turn_one.ensures.shown, c.turn_one.ensures.after) c.in_default-turn_one.is

pub labels-preserved : goal.labels-preserved
labels-preserved c = (
  turns-go _ c.labels.self _ c.args.labels.now.members c.labels.done c.labels.shown _ _ c.turn_one.result c.labels.invariant.0 c.turn_one.ensures.site (front-at c.args.labels.now.members c.labels.labels.members c.labels.done c.front.result _ c.labels.invariant.1 c.front.ensures c.in-Some.is)
      (c.turn_one.ensures.done, c.turn_one.ensures.shown, c.turn_one.ensures.after) c.in-Some-turn_one.is,
  left-more c.args.labels.now.members c.labels.labels.members _ c.labels.done c.labels.invariant.1 c.take.ensures.rest,
)

pub returns-clause-end : goal.returns-clause-end
returns-clause-end c = all-refused c.labels.self.views c.labels.self.proxy c.args.labels.now.members c.len-count.result c.len-count.ensures
