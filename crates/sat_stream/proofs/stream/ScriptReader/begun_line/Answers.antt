use Rattle.std.proofs.Common.{Ok, Err}
use Rattle.sat_stream.proofs.Coming.{begun_takes}
use Rattle.sat_stream.proofs.stream.ScriptReader.begun_line.Goals as goal

pub returns-in-Ok : goal.returns-in-Ok
returns-in-Ok c =
    let fresh = rw (← c.self.view_is) at c.requires.fresh in
    let goes = rw c.as_slice.ensures.value at c.in-Ok.ensures.takes in
    rw (← c.self.view_is)
    (begun_takes (record { lines = c.self.inside.lines; begun = c.self.inside.begun.items }) (record { lines = c.any_line.new.self; begun = c.clear.new.self.items }) (Ok c.in-Ok.field-0) fresh c.clear.ensures.items goes)

pub returns-in-Err : goal.returns-in-Err
returns-in-Err c =
    let fresh = rw (← c.self.view_is) at c.requires.fresh in
    let stops = rw c.as_slice.ensures.value at c.in-Err.ensures.takes in
    rw (← c.self.view_is)
    (begun_takes (record { lines = c.self.inside.lines; begun = c.self.inside.begun.items }) (record { lines = c.any_line.new.self; begun = c.self.inside.begun.items }) (Err c.in-Err.fault) fresh tt stops)
