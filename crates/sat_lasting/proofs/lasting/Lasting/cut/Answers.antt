use Rattle.sat_lasting.proofs.Doing.{cut-deed, stop-cut-place}
use Rattle.sat_lasting.proofs.lasting.Lasting.cut.Goals as goal

pub put_cut-requires : goal.put_cut-requires
put_cut-requires c = stop-cut-place _ _ c.self.view_is c.self.invariant _ c.deployment.ensures c.sites.ensures.limits _ c.requires.act.0

pub returns : goal.returns
returns c = record { applies = (cut-deed _ _ c.self.view_is c.self.invariant _ c.deployment.ensures c.sites.ensures.limits _ (record { calls = c.args.calls; keep = c.args.keep }) c.requires.act _ c.put_cut.ensures).applies }
