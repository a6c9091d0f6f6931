use Rattle.std.proofs.Common.{refl, ap, ◌∙◌}
use Rattle.sat_sink.specs.Sink.{ready_of}
use Rattle.sat_hub.specs.Seen.{HubSeen}
use Rattle.sat_hub.proofs.Sound.{emit-hub, known-after}
use Rattle.sat_hub.proofs.hub.Hub.emit_known.Goals as goal

pub emit_known-requires : goal.emit_known-requires
emit_known-requires c = ap (λ (x : HubSeen). ready_of x.sink) c.self.view_is ∙ c.requires

pub invariant_of-self : goal.invariant_of-self
invariant_of-self c = emit-hub _ _ _ c.args.label c.self.invariant refl (ap (λ (x : HubSeen). ready_of x.sink) c.self.view_is ∙ c.requires) c.emit_known.ensures.new

pub returns : goal.returns
returns c = known-after _ _ _ c.args.label c.self.view_is (ap (λ (x : HubSeen). ready_of x.sink) c.self.view_is ∙ c.requires) c.emit_known.ensures.new
