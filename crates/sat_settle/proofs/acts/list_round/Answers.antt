use Rattle.sat_settle.proofs.Joining.{round-parts}
use Rattle.sat_settle.proofs.acts.list_round.Goals as goal

pub returns-clause-acts : goal.returns-clause-acts
returns-clause-acts c = round-parts c.args.d.now _ _ _ _ _ _ c.sites-sites.ensures.sites c.gears-gears.ensures.gears c.new-acts.ensures c.in_ok-add_bulks.ensures c.in_ok-add_hops.ensures c.in_ok-add_turns.ensures
