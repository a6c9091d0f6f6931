use Rattle.std.proofs.Common.{refl, subst, ap, ◌∙◌}
use Rattle.sat_epoch.specs.Epochs.{is_stamp}
use Rattle.sat_hub.specs.Seen.{IsHub}
use Rattle.sat_hub.specs.HubSteps.{emit_sends}
use Rattle.sat_hub.proofs.Sound.{emit-label}
use Rattle.sat_hub.proofs.hub.Hub.sends_next.Goals as goal

pub leaving-requires : goal.leaving-requires
leaving-requires c = emit-label _ _ c.args.next refl (subst IsHub c.self.view_is c.self.invariant) c.requires

pub returns : goal.returns
returns c = c.leaving.ensures ∙ ap (emit_sends (is_stamp c.args.self.now.views c.args.self.now.views.emission) c.args.self.now.shape) c.requires
