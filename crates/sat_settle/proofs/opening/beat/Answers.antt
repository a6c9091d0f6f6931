use Rattle.sat_settle.proofs.Going.{on-err, stops-at-once}
use Rattle.sat_settle.proofs.Opened.{beat-extends, beat-makes, beat-stops}
use Rattle.sat_settle.proofs.opening.beat.Goals as goal

pub returns-in_err-answer-clause-err : goal.returns-in_err-answer-clause-err
returns-in_err-answer-clause-err c = on-err _ _ (stops-at-once _ _ _ (λ h. beat-extends _ (c.args.from, c.args.to) h) c.in_err-answer.ensures.err)

pub returns-in_err-then-clause-err : goal.returns-in_err-then-clause-err
returns-in_err-then-clause-err c = on-err _ _ (beat-stops _ _ _ _ _ _ _ _ c.requires c.in_ok-answer.ensures.tries c.count_of-first.ensures c.number_of-number.ensures c.in_err-then.ensures.err)

pub returns-clause-ok : goal.returns-clause-ok
returns-clause-ok c = beat-makes _ _ _ _ _ _ _ _ _ _ c.requires c.in_ok-answer.ensures.deployment c.in_ok-answer.ensures.tries c.count_of-first.ensures c.number_of-number.ensures c.in_ok-then.ensures.ok c.saturating_add.ensures
