use Rattle.std.proofs.Common.{◌∷◌, [], refl}
use Rattle.sat_stream.proofs.Coming.{whole_takes, taken_on, stopped_on}
use Rattle.sat_stream.proofs.stream.ScriptReader.end_of_line.Goals as goal

pub returns-then-is_empty : goal.returns-then-is_empty
returns-then-is_empty c =
    let fresh = rw (← c.self.view_is) at c.requires.fresh in
    let empty = rw c.as_slice.ensures.value at c.if-is_empty.ensures in
    rw (← c.self.view_is)
    (whole_takes (record { lines = c.self.inside.lines; begun = c.self.inside.begun.items }) (record { lines = c.line.new.self; begun = c.self.inside.begun.items }) c.args.part.now c.line.result fresh c.requires.none
    empty refl c.line.ensures.takes)

pub returns-in-Ok : goal.returns-in-Ok
returns-in-Ok c = taken_on c.args.self.now c.front.new.self c.begun_line.new.self c.args.part.now (10 ∷ []) c.begun_line.result c.in-Ok.ensures c.begun_line.ensures

pub returns-in-Err : goal.returns-in-Err
returns-in-Err c = stopped_on c.args.self.now c.front.new.self c.args.part.now (10 ∷ []) c.in-Err.fault c.in-Err.ensures
