use Rattle.std.proofs.Common.{◌∙◌, ℕ, ◌≤◌, List, length, ap, subst, sym}
use Rattle.sat_label.specs.declared.limits.TheConstants.{TS_END}
use Rattle.sat_hub.specs.Seen.{HubSeen}
use Rattle.sat_node.specs.Seen.{NodeSeen}
use Rattle.sat_parts.specs.declared.hub_answer.HubAnswer.{HubAnswer}
use Rattle.sat_parts.specs.Acts.{HubActSeen}
use Rattle.sat_parts_passes.specs.Sendings.{HubHeld, HubKept}
use Rattle.sat_parts_pump.specs.Times.{most_in}
use Rattle.sat_parts_pump.proofs.Times.{came_small}
use Rattle.sat_parts_pump.proofs.Watching.{looked, watched_all}
use Rattle.sat_parts_pump.proofs.watched.Watched.came.Goals as goal

pub invariant_of-self : goal.invariant_of-self
invariant_of-self g c =
    watched_all c.self.inside.held (length c.journal.result.now) c.look-ts.result
    (ap (λ (ks : List HubKept). length ks) (c.journal.ensures.entries ∙ ap (λ (n : NodeSeen HubSeen HubActSeen HubAnswer). n.entries) c.node.ensures.node))
    (looked c.self.inside.held c.self.inside.upto c.self.inside.ts c.look-ts.result c.self.invariant c.look-ts.ensures)

pub returns-clause-ts : goal.returns-clause-ts
returns-clause-ts g c =
    looked c.self.inside.held c.self.inside.upto c.self.inside.ts c.look-ts.result c.self.invariant c.look-ts.ensures ∙ ap (λ (h : HubHeld). most_in 0 h.node.entries) c.self.view_is

pub returns-clause-small : goal.returns-clause-small
returns-clause-small g c =
    subst (λ (t : ℕ). t ≤ TS_END) (sym (looked c.self.inside.held c.self.inside.upto c.self.inside.ts c.look-ts.result c.self.invariant c.look-ts.ensures))
    (came_small g.N.Laid.deployment c.self.inside.held.node.name c.self.inside.held.node.entries c.hub_runs.ensures)
