use Rattle.sat_report.specs.Answers.{refusal_text}
use Rattle.sat_report.proofs.answer.append_refused.Goals as goal

pub returns-in-NoNextEpoch-clause-ok : goal.returns-in-NoNextEpoch-clause-ok
unfolding refusal_text
returns-in-NoNextEpoch-clause-ok c = rw c.in-NoNextEpoch.is c.append_word-in-NoNextEpoch.ensures.ok
