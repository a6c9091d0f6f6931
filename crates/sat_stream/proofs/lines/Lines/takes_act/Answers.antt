use Rattle.sat_script.specs.declared.line.Parsed.TheVariants as parsed
use Rattle.sat_stream.proofs.Coming.{taken_line}
use Rattle.sat_script.proofs.Fits.{fit_after}
use Rattle.sat_stream.proofs.lines.Lines.takes_act.Goals as goal

pub takes_act-requires : goal.takes_act-requires
takes_act-requires c = record { fits = fit_after c.self.inside.reader.state c.args.line.now (parsed.Act c.in-Some.act) c.self.invariant.fit c.in-Some.ensures }

pub invariant_of-self : goal.invariant_of-self
invariant_of-self c =
    let fresh = rw (← c.self.view_is) at c.requires.fresh in
    let k = taken_line c.self.inside.reader c.takes_act.new.self c.self.inside.acts c.takes_act.new.acts c.args.line.now (parsed.Act c.in-Some.act) c.takes_act.result c.self.invariant fresh c.in-Some.ensures c.takes_act.ensures.yes c.takes_act.ensures.no in
    k.whole

pub returns-in-Some-clause-yes : goal.returns-in-Some-clause-yes
returns-in-Some-clause-yes c =
    let fresh = rw (← c.self.view_is) at c.requires.fresh in
    let k = taken_line c.self.inside.reader c.takes_act.new.self c.self.inside.acts c.takes_act.new.acts c.args.line.now (parsed.Act c.in-Some.act) c.takes_act.result c.self.invariant fresh c.in-Some.ensures c.takes_act.ensures.yes c.takes_act.ensures.no in
    rw (← c.self.view_is) k.goes

pub returns-in-Some-clause-no : goal.returns-in-Some-clause-no
returns-in-Some-clause-no c =
    let fresh = rw (← c.self.view_is) at c.requires.fresh in
    let k = taken_line c.self.inside.reader c.takes_act.new.self c.self.inside.acts c.takes_act.new.acts c.args.line.now (parsed.Act c.in-Some.act) c.takes_act.result c.self.invariant fresh c.in-Some.ensures c.takes_act.ensures.yes c.takes_act.ensures.no in
    rw (← c.self.view_is) k.stays

pub returns-in-Some-clause-fit : goal.returns-in-Some-clause-fit
returns-in-Some-clause-fit c =
    let fresh = rw (← c.self.view_is) at c.requires.fresh in
    let k = taken_line c.self.inside.reader c.takes_act.new.self c.self.inside.acts c.takes_act.new.acts c.args.line.now (parsed.Act c.in-Some.act) c.takes_act.result c.self.invariant fresh c.in-Some.ensures c.takes_act.ensures.yes c.takes_act.ensures.no in
    k.whole.fit
