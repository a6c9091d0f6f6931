use Rattle.sat_parts.proofs.Locals.{gathers-are-local, parts-are-local}
use Rattle.sat_parts.proofs.part_inputs.Goals as goal

pub returns : goal.returns
returns c = record { parts = parts-are-local; gathers = gathers-are-local }
