use Rattle.std.proofs.Common.{sym, ap, ◌∙◌, arith}
use Rattle.std.proofs.lemmas.Bool.{false≢true}
use Rattle.sat_chain_runs.specs.Held.{HeldSeen}
use Rattle.sat_chain_runs.proofs.Going.{ended_stuck, long_stuck, still_open}
use Rattle.sat_chain_runs.proofs.chain_lines.ChainLinesLineFollower.is_stuck.Goals as goal

pub returns-then-has_ended : goal.returns-then-has_ended
returns-then-has_ended c = λ s st. ended_stuck c.args.self.now c.args.count s (ap (λ (v : HeldSeen). v.reader.state.stage) (sym c.self.view_is) ∙ c.has_ended.ensures.0 c.if-has_ended.true) c.requires st

pub returns-then-count-gt-LONGEST_LINE : goal.returns-then-count-gt-LONGEST_LINE
returns-then-count-gt-LONGEST_LINE c = λ s st. long_stuck c.args.self.now c.args.count s (λ e. false≢true (rw c.if-has_ended.false at (c.has_ended.ensures.1 (ap (λ (v : HeldSeen). v.reader.state.stage) c.self.view_is ∙ e)))) (omega (arith, c.if-count-gt-LONGEST_LINE.true)) st

pub returns : goal.returns
returns c = λ s st. still_open c.args.self.now c.args.count s (λ e. false≢true (rw c.if-has_ended.false at (c.has_ended.ensures.1 (ap (λ (v : HeldSeen). v.reader.state.stage) c.self.view_is ∙ e)))) (omega (arith, c.if-count-gt-LONGEST_LINE.false)) st
