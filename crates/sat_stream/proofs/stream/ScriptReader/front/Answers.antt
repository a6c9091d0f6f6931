use Rattle.std.proofs.Common.{rules, ◌≡◌, ◌++◌, refl, sym}
use Rattle.sat_stream.proofs.Coming.{front_takes, front_stops}
use Rattle.sat_stream.proofs.stream.ScriptReader.front.Goals as goal

pub returns-in-Some : goal.returns-in-Some
returns-in-Some c =
    let fresh = rw (← c.self.view_is) at c.requires.fresh in
    let stuck = rw (← c.self.view_is) at c.in-Some.ensures in
    rw (← c.self.view_is)
    (front_stops (record { lines = c.self.inside.lines; begun = c.self.inside.begun.items }) (record { lines = c.fail.new.self; begun = c.self.inside.begun.items }) c.args.part.now c.fail.result c.in-Some.cause
    fresh c.requires.none c.self.invariant.short c.fail.ensures.stays c.fail.ensures.fault (λ _. sym stuck))

pub returns : goal.returns
returns c =
    let fresh = rw (← c.self.view_is) at c.requires.fresh in
    let longer : c.extend_from_slice.new.self.items ≡ c.self.inside.begun.items ++ c.args.part.now = search rules in
    rw (← c.self.view_is)
    (front_takes (record { lines = c.self.inside.lines; begun = c.self.inside.begun.items }) (record { lines = c.self.inside.lines; begun = c.extend_from_slice.new.self.items }) c.args.part.now fresh c.requires.none refl
    longer)
