use Rattle.sat_lasting.proofs.Doing.{stop-cut-place, stop-deed}
use Rattle.sat_lasting.proofs.lasting.Lasting.stop.Goals as goal

pub take_cut-requires : goal.take_cut-requires
take_cut-requires c = stop-cut-place _ _ c.self.view_is c.self.invariant _ c.deployment.ensures c.sites.ensures.limits _ c.requires.act

pub returns : goal.returns
returns c = record {
  applies = (stop-deed _ _ c.self.view_is c.self.invariant _ c.deployment.ensures c.sites.ensures.limits _ c.requires.act _ _ _ _ c.take_cut.ensures.cuts c.deployment-2.ensures c.in_ok-count.ensures.long c.in_ok-count.ensures.stops).applies;
}
