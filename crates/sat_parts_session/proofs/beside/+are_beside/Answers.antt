use Rattle.std.proofs.Common.{◌-◌, ap, sym, ◌∙◌}
use Rattle.std.specs.Sync.Mutex.{mutex_guard_value}
use Rattle.sat_label.specs.declared.node.NodeName.TheVariants as named
use Rattle.sat_node.specs.Together.{lent}
use Rattle.sat_session.proofs.Asking.{same-name}
use Rattle.sat_parts_session.specs.Groups.{is_beside}
use Rattle.sat_parts_session.specs.Steps.{GearHeld}
use Rattle.sat_parts_session.proofs.Together.{lent_last, pred_is, where_more}
use Rattle.sat_parts_session.proofs.beside.+are_beside.Goals as goal

pub returns-else-not-is_same : goal.returns-else-not-is_same
returns-else-not-is_same g t c holds =
    let last : GearHeld = mutex_guard_value c.in-Some.last.now in
    let at = ap (λ (h : GearHeld). h.node.name) (sym c.deref.ensures) ∙ (ap (λ z. z.name) (sym c.node.ensures.node) ∙ (sym c.name-name.ensures ∙ same-name c.name-name.result (named.Gear c.args.site (c.args.below - 1)) (sym c.is_same.ensures ∙ c.if-not-is_same.false))) in
    where_more (is_beside g.N.Laid.deployment c.args.items.now) c.args.site (c.args.below - 1) c.args.below (lent c.args.others.now) (lent c.in-Some.rest.now) last (pred_is c.args.below c.if-below-eq0.false) (sym c.is_beside.ensures ∙ c.if-not-is_beside.false) at
    (lent_last c.args.others.now c.in-Some.rest.now c.in-Some.last.now c.in-Some.ensures.cases.0) (c.are_beside-in-Some.ensures holds)
