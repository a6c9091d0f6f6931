use Rattle.std.proofs.Common.{rules, ◌≡◌, Some, ap, subst}
use Rattle.sat_script.specs.Lines.{Closes}
use Rattle.sat_script.specs.State.{Seen}
use Rattle.sat_lasting_script.specs.Forms.{lasting_acts}
use Rattle.sat_lasting_runs.specs.LastingTexts.{lasting_telling}
use Rattle.sat_lasting_runs.specs.Held.{LastingHeld, IsLastingHeld, deployed, AtAnyTime, HistoryOf}
use Rattle.sat_lasting_runs.proofs.Entering.{holds, ready_there}
use Rattle.sat_own_acts.proofs.Doing.{has_begun, well_ends}
use Rattle.sat_lasting_runs.proofs.lasting_lines.LastingLinesLineFollower.finish.Goals as goal

pub start-requires : goal.start-requires
start-requires c = record { begun = has_begun c.self.inside.reader.fault c.self.inside.reader.state c.close.new.self c.close.result c.args.rest.now c.in_default.field-0 c.in_default.is c.close.ensures }

pub returns : goal.returns
returns c =
    let held : IsLastingHeld c.args.self.now = subst IsLastingHeld c.self.view_is c.self.invariant in
    let mid : LastingHeld = record { reader = c.close.new.self; machine = c.self.inside.lasting; answered = c.self.inside.answered } in
    let here : c.start.new.self.machine ≡ Some c.in-Some.lasting = search rules in
    well_ends lasting_acts lasting_telling deployed AtAnyTime HistoryOf c.args.self.now mid c.in-Some.lasting c.args.rest.now c.args.text.now.items c.write_holdings.new.out.items c.close.result c.in_default.field-0 held c.in_default.is
    (subst (λ (s : Seen). Closes s.fault s.state c.close.new.self c.close.result c.args.rest.now) (ap (λ (v : LastingHeld). v.reader) c.self.view_is) c.close.ensures) (ap (λ (v : LastingHeld). v.machine) c.self.view_is)
    (ap (λ (v : LastingHeld). v.answered) c.self.view_is) (ready_there mid c.start.new.self.machine c.in-Some.lasting c.in_ok-start.ensures.started here) (holds c.in-Some.lasting c.world.result.now c.args.text.now.items c.write_holdings.new.out.items c.world.ensures.world c.in_ok-write_holdings.ensures.ok)
