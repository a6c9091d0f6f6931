use Rattle.std.proofs.Common.{None, ◌∙◌}
use Rattle.sat_finish.proofs.Rising.{hub_list, kept_list}
use Rattle.sat_finish.proofs.walk.of_hub.Goals as goal

pub walked-requires-clause-left : goal.walked-requires-clause-left
walked-requires-clause-left g c =
    hub_list c.args.d.now c.args.site c.args.number c.as_slice.result.now c.journal.result.now c.node-home.result.now.entries (c.as_slice.ensures.value ∙ c.in_ok-left.ensures) c.journal.ensures.entries c.lamport.ensures.last.1

pub walked-requires-clause-right : goal.walked-requires-clause-right
walked-requires-clause-right g c =
    kept_list c.args.site c.args.number None c.as_slice-2.result.now c.journal-2.result.now c.node-node.result.now.entries (c.as_slice-2.ensures.value ∙ c.in_ok-right.ensures c.args.number) c.journal-2.ensures.entries c.lamport-2.ensures.last.1
