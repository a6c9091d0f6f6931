use Rattle.std.proofs.Common.{◌∙◌, ap, set, None}
use Rattle.sat_bulk.specs.Payloads.{Payload, held_parts}
use Rattle.sat_bulk.proofs.Payloads.{left-at}
use Rattle.sat_bulk.proofs.payload.Parts.take.Goals as goal

pub returns-clause-new : goal.returns-clause-new
returns-clause-new c =
    left-at c.self.inside.label (held_parts c.self.inside.held) (held_parts c.take_part.new.held) c.args.place c.take_part.ensures.new
    ∙ ap (λ (p : Payload). record p { values = set p.values c.args.place None }) c.self.view_is
