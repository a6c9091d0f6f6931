use Rattle.std.proofs.Common.{◌≡◌, sym, subst, arith}
use Rattle.std.proofs.lemmas.Bool.{false≢true}
use Rattle.sat_lasting_script.specs.Forms.{lasting_acts}
use Rattle.sat_lasting_runs.specs.LastingTexts.{lasting_telling}
use Rattle.sat_lasting_runs.specs.Held.{LastingHeld, HistoryOf}
use Rattle.sat_own_acts.proofs.Going.{ended_stuck, long_stuck, still_open}
use Rattle.sat_script.specs.declared.line.Stage.TheVariants as stage
use Rattle.sat_lasting_runs.proofs.lasting_lines.LastingLinesLineFollower.is_stuck.Goals as goal

pub returns-then-has_ended : goal.returns-then-has_ended
returns-then-has_ended c = λ s st.
    ended_stuck lasting_acts lasting_telling HistoryOf c.args.self.now c.args.count s (subst (λ (v : LastingHeld). v.reader.state.stage ≡ stage.Ended) c.self.view_is (c.has_ended.ensures.0 c.if-has_ended.true)) c.requires st

pub returns-then-count-gt-LONGEST_LINE : goal.returns-then-count-gt-LONGEST_LINE
returns-then-count-gt-LONGEST_LINE c = λ s st.
    long_stuck lasting_acts lasting_telling HistoryOf c.args.self.now c.args.count s
    (λ ended. false≢true (rw c.if-has_ended.false at (c.has_ended.ensures.1 (subst (λ (v : LastingHeld). v.reader.state.stage ≡ stage.Ended) (sym c.self.view_is) ended)))) (omega (arith, c.if-count-gt-LONGEST_LINE.true)) st

pub returns : goal.returns
returns c = λ s st.
    still_open lasting_acts lasting_telling HistoryOf c.args.self.now c.args.count s
    (λ ended. false≢true (rw c.if-has_ended.false at (c.has_ended.ensures.1 (subst (λ (v : LastingHeld). v.reader.state.stage ≡ stage.Ended) (sym c.self.view_is) ended)))) (omega (arith, c.if-count-gt-LONGEST_LINE.false)) st
