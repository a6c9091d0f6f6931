use Rattle.std.proofs.Common.{Some, ◌∙◌}
use Rattle.sat_finish.proofs.Rising.{kept_list}
use Rattle.sat_finish.proofs.walk.of_none.Goals as goal

pub walked-requires-clause-right : goal.walked-requires-clause-right
walked-requires-clause-right g c =
    kept_list c.args.site c.args.number (Some c.args.other) c.as_slice.result.now c.journal.result.now c.node-node.result.now.entries (c.as_slice.ensures.value ∙ c.in_ok-right.ensures c.args.number) c.journal.ensures.entries c.lamport.ensures.last.1
