use Rattle.std.proofs.Common.{Some, ◌∙◌}
use Rattle.sat_hub.proofs.Given.{shown-guest, turn-from}
use Rattle.sat_hub.proofs.hub.Hub.showing.Goals as goal

pub turn_shows-requires : goal.turn_shows-requires
turn_shows-requires c = record { from = λ l e. turn-from _ _ c.args.front.now c.self.view_is c.self.invariant c.requires l (c.in-Some.is ∙ e) }

pub returns-in-Some-clause-guest : goal.returns-in-Some-clause-guest
returns-in-Some-clause-guest c = shown-guest _ _ (Some c.in-Some.label) c.turn_shows.result c.self.view_is c.self.invariant c.turn_shows.ensures
