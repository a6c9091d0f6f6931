use Rattle.std.proofs.Common.{refl}
use Rattle.sat_node.specs.Together.{lent}
use Rattle.sat_parts_pump.proofs.Shown.{advance_fails, advance_fits, advance_shown, advance_would, nothing_fits, stamp_fails, stamp_shown, stamp_would, turn_fails, turn_shown, turn_would}
use Rattle.sat_parts_pump.proofs.showing.show_next.Goals as goal

pub returns-in-Nothing-clause-fits : goal.returns-in-Nothing-clause-fits
returns-in-Nothing-clause-fits g c = nothing_fits g.N.Laid.deployment c.args.next.now c.args.hub.now (lent c.args.gears.now.items) c.in-Nothing.is

pub returns-in-Turn-clause-fits : goal.returns-in-Turn-clause-fits
returns-in-Turn-clause-fits g c = turn_would c.turn.result g.N.Laid.deployment c.args.next.now _ c.args.hub.now (lent c.args.gears.now.items) c.view_link-link.result c.in-Turn.is c.view_link-link.ensures c.turn.ensures.fits

pub returns-in-Turn-clause-done : goal.returns-in-Turn-clause-done
returns-in-Turn-clause-done g c =
    turn_shown c.turn.result g.N.Laid.deployment c.args.next.now _ c.args.hub.now c.turn.new.hub (lent c.args.gears.now.items) (lent c.turn.new.gears.items) c.view_link-link.result c.in-Turn.is c.view_link-link.ensures c.turn.ensures.done

pub returns-in-Turn-clause-fault : goal.returns-in-Turn-clause-fault
returns-in-Turn-clause-fault g c = turn_fails c.turn.result g.N.Laid.deployment c.args.next.now _ c.args.hub.now (lent c.args.gears.now.items) c.view_link-link.result c.in-Turn.is c.view_link-link.ensures c.turn.ensures.fault

pub returns-in-Stamp-clause-fits : goal.returns-in-Stamp-clause-fits
returns-in-Stamp-clause-fits g c = stamp_would c.stamp.result g.N.Laid.deployment c.args.next.now _ c.args.hub.now (lent c.args.gears.now.items) c.in-Stamp.is c.stamp.ensures.fits

pub returns-in-Stamp-clause-done : goal.returns-in-Stamp-clause-done
returns-in-Stamp-clause-done g c =
    stamp_shown c.stamp.result g.N.Laid.deployment c.args.next.now _ c.args.hub.now c.stamp.new.hub (lent c.args.gears.now.items) (lent c.stamp.new.gears.items) c.in-Stamp.is c.stamp.ensures.done

pub returns-in-Stamp-clause-fault : goal.returns-in-Stamp-clause-fault
returns-in-Stamp-clause-fault g c = stamp_fails c.stamp.result g.N.Laid.deployment c.args.next.now _ c.args.hub.now (lent c.args.gears.now.items) c.in-Stamp.is c.stamp.ensures.fault

pub advance-requires : goal.advance-requires
advance-requires g c = record { would = advance_would g.N.Laid.deployment c.args.next.now c.args.hub.now c.requires.next c.in-Advance.is }
