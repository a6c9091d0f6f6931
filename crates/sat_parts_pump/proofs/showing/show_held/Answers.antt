use Rattle.std.proofs.Common.{◌∙◌, ap, sym}
use Rattle.sat_node.specs.Together.{lent}
use Rattle.sat_parts_pump.specs.Lent.{are_lent}
use Rattle.sat_parts_pump.proofs.Shown.{fails_as, may_is, may_not, shown_as, shown_more}
use Rattle.sat_parts_pump.proofs.showing.show_held.Goals as goal

pub returns-clause-more : goal.returns-clause-more
returns-clause-more g c = shown_more c.show_next.result g.N.Laid.deployment _ _ _ _ _ _ c.show_next.ensures.done c.show_next.ensures.same c.show_next.ensures.err

pub returns-clause-fits : goal.returns-clause-fits
returns-clause-fits g c =
    may_is c.show_next.result g.N.Laid.deployment c.look-next.result c.args.hub.now (lent c.args.gears.now.items) c.are_its.result c.look-next.ensures
    (c.are_its.ensures ∙ (λ i. are_lent c.args.hub.now.node.machine.shape (c.needs.ensures i) (lent (c.as_slice.ensures.value i)))) c.if-not-are_its.false c.show_next.ensures.fits
