use Rattle.std.proofs.Common.{ap, ◌∙◌}
use Rattle.sat_hub.specs.Seen.{HubSeen}
use Rattle.sat_proxy.specs.Steps.{waiting_of}
use Rattle.sat_hub.proofs.Given.{front-after, front-from, front-guest}
use Rattle.sat_hub.proofs.Peers.{show-hub}
use Rattle.sat_hub.proofs.hub.Hub.show_front.Goals as goal

pub show_front-shown-requires : goal.show_front-shown-requires
show_front-shown-requires c = record { site = front-from _ _ c.args.label.now c.self.view_is c.self.invariant c.requires.front }

pub invariant_of-self : goal.invariant_of-self
invariant_of-self c = show-hub _ c.show_front-shown.new.self c.args.label.now c.self.invariant c.sound.ensures.proxy c.show_front-shown.ensures.new

pub returns-clause-found : goal.returns-clause-found
returns-clause-found c = c.show_front-shown.ensures.found ∙ ap (λ (y : HubSeen). waiting_of y.proxy.pool c.args.label.now) c.self.view_is

pub returns-clause-guest : goal.returns-clause-guest
returns-clause-guest c = front-guest _ _ c.args.label.now c.show_front-shown.result c.self.view_is c.self.invariant c.show_front-shown.ensures.found

pub returns-clause-after : goal.returns-clause-after
returns-clause-after c = front-after _ _ c.args.label.now c.show_front-shown.new.self c.self.view_is c.show_front-shown.ensures.new
