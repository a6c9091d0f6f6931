use Rattle.std.proofs.Common.{ap}
use Rattle.sat_script.specs.State.{Seen}
use Rattle.sat_stream.specs.Stream.{lines_seen}
use Rattle.sat_stream.proofs.Coming.{bad_stops, kept_line}
use Rattle.sat_script.proofs.Fits.{fit_after, suits_after}
use Rattle.sat_stream.proofs.lines.Lines.any_line.Goals as goal

pub returns-in-Err-clause-takes : goal.returns-in-Err-clause-takes
returns-in-Err-clause-takes c =
    let fresh = rw (← c.self.view_is) at c.requires.fresh in
    rw (← c.self.view_is)
    (bad_stops (lines_seen c.self.inside.reader c.self.inside.acts) (lines_seen c.fail.new.self c.self.inside.acts) c.args.line.now c.fail.result c.in-Err.cause
    (ap (λ (seen : Seen). lines_seen seen c.self.inside.acts) c.fail.ensures.new) c.fail.ensures.fault fresh c.in-Err.ensures)

pub keep_in-requires-clause-fits : goal.keep_in-requires-clause-fits
keep_in-requires-clause-fits c = fit_after c.self.inside.reader.state c.args.line.now c.in-Ok.parsed c.self.invariant.fit c.in-Ok.ensures

pub keep_in-requires-clause-suits : goal.keep_in-requires-clause-suits
keep_in-requires-clause-suits c = suits_after c.self.inside.reader.state c.args.line.now c.in-Ok.parsed c.self.invariant.fit c.in-Ok.ensures

pub invariant_of-self-2 : goal.invariant_of-self-2
invariant_of-self-2 c =
    let fresh = rw (← c.self.view_is) at c.requires.fresh in
    let k = kept_line c.self.inside.reader c.keep_in.new.self c.self.inside.acts c.keep_in.new.acts c.args.line.now c.in-Ok.parsed c.keep_in.result c.self.invariant fresh c.in-Ok.ensures c.keep_in.ensures.ok c.keep_in.ensures.err in
    k.whole

pub returns-clause-takes : goal.returns-clause-takes
returns-clause-takes c =
    let fresh = rw (← c.self.view_is) at c.requires.fresh in
    let k = kept_line c.self.inside.reader c.keep_in.new.self c.self.inside.acts c.keep_in.new.acts c.args.line.now c.in-Ok.parsed c.keep_in.result c.self.invariant fresh c.in-Ok.ensures c.keep_in.ensures.ok c.keep_in.ensures.err in
    rw (← c.self.view_is) k.takes

pub returns-clause-fit : goal.returns-clause-fit
returns-clause-fit c =
    let fresh = rw (← c.self.view_is) at c.requires.fresh in
    let k = kept_line c.self.inside.reader c.keep_in.new.self c.self.inside.acts c.keep_in.new.acts c.args.line.now c.in-Ok.parsed c.keep_in.result c.self.invariant fresh c.in-Ok.ensures c.keep_in.ensures.ok c.keep_in.ensures.err in
    k.whole.fit
