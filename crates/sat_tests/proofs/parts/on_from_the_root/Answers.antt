use Rattle.std.proofs.Common.{ap, ◌∙◌}
use Rattle.sat_serial.specs.Outboxes.{SerializerSeen}
use Rattle.sat_tests.proofs.Ways.{arrives}
use Rattle.sat_tests.proofs.parts.on_from_the_root.Goals as goal

pub route-requires : goal.route-requires
route-requires c =
    arrives _ _ _ c.requires.interest (ap (λ (s : SerializerSeen). s.tree) c.in_ok-root.ensures ∙ c.requires.tree)
    (ap (λ (s : SerializerSeen). s.number) c.in_ok-root.ensures)
