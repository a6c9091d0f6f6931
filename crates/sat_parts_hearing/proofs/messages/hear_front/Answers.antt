use Rattle.std.proofs.Common.{[], ◌∷◌}
use Rattle.sat_parts_hearing.proofs.Hearing.{dealt_pull, dealt_then, match_is}
use Rattle.sat_parts_hearing.proofs.messages.hear_front.Goals as goal

pub returns-in-Ok-clause-dealt : goal.returns-in-Ok-clause-dealt
returns-in-Ok-clause-dealt g c =
    let d = g.N.Laid.deployment in
    let m = match_is _ _ c.in-Ok-Some.field-0 c.in-Ok-Some.act c.in-Ok-Some.field-0-is c.in-Ok-Some.ensures.act in
    let h = c.in-Ok.ensures.dealt in
    let first = dealt_pull d c.args.source c.args.link m.0 c.args.held.now c.pull.new.self c.pull.ensures.node c.pull.ensures.outs c.pull.ensures.pulled m.1.front in
    (h.0, dealt_then d c.args.source c.args.link [] (h.0 ∷ []) c.args.held.now c.pull.new.self c.deal.new.held first h.1)
