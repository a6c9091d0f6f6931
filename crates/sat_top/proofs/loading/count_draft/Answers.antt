use Rattle.sat_settle.specs.LoadDraft.{drafted}
use Rattle.sat_top.proofs.Counting.{counts_more}
use Rattle.sat_top.proofs.loading.count_draft.Goals as goal

pub returns-clause-counting : goal.returns-clause-counting
returns-clause-counting c = λ acts written now.
    rw c.writes_in.ensures (counts_more c.args.world.now c.do_draft.new.world written acts (drafted c.args.draft) c.in_ok-answer.answer c.requires.act c.in_ok-answer.ensures.0 now)
