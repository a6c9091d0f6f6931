use Rattle.std.proofs.Common.{ap, ◌∙◌}
use Rattle.sat_epoch.specs.Epochs.{is_stamp}
use Rattle.sat_sink.specs.Sink.{ready_of}
use Rattle.sat_hub.specs.Seen.{HubSeen}
use Rattle.sat_hub.specs.HubSteps.{emit_sends}
use Rattle.sat_hub.proofs.Sound.{emit-label}
use Rattle.sat_hub.proofs.hub.Hub.sends_ready.Goals as goal

pub leaving-requires : goal.leaving-requires
leaving-requires c = emit-label _ _ c.next.result c.self.view_is c.self.invariant c.next.ensures

pub returns : goal.returns
returns c = c.leaving.ensures ∙ ap (emit_sends (is_stamp c.args.self.now.views c.args.self.now.views.emission) c.args.self.now.shape) (c.next.ensures ∙ ap (λ (x : HubSeen). ready_of x.sink) c.self.view_is)
