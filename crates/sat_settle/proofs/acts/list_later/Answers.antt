use Rattle.sat_settle.proofs.Joining.{later-acts}
use Rattle.sat_settle.proofs.acts.list_later.Goals as goal

pub returns-clause-acts : goal.returns-clause-acts
returns-clause-acts c = later-acts c.args.d.now _ _ _ _ c.sites-sites.ensures.sites c.new-acts.ensures c.in_ok-add_hops.ensures c.in_ok-add_turns.ensures
