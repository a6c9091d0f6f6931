use Rattle.std.proofs.Common.{ℕ, Option, ap, sym, ◌∙◌}
use Rattle.sat_world.specs.Steps.{number_at}
use Rattle.sat_world.proofs.places.payload_number.Goals as goal

pub returns-in-None : goal.returns-in-None
returns-in-None c = record { number = λ d k s stands. c.front.ensures.front d k s stands ∙ ap (λ (asked : Option ℕ). number_at s c.args.from c.args.gear asked) (sym c.in-None.is) }
