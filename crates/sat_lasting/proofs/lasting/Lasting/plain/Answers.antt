use Rattle.sat_lasting.proofs.Doing.{act-place, cut-place, few-deed, fits-deed, nowhere-deed, site-place, slot-place, whole-deed, without-deed}
use Rattle.sat_lasting.proofs.lasting.Lasting.plain.Goals as goal

pub handed_at-requires : goal.handed_at-requires
handed_at-requires c = act-place _ _ c.self.view_is c.self.invariant _ c.deployment.ensures c.sites.ensures.limits _ c.requires.act

pub returns-in_default : goal.returns-in_default
returns-in_default c = record { applies = (nowhere-deed _ _ c.self.view_is c.self.invariant _ c.deployment.ensures c.sites.ensures.limits c.requires.sound _ c.requires.act _ c.in_ok-site.ensures _ _ c.in_default.is c.in_ok-answer.ensures.applies).applies }

pub take_cut-cut-requires : goal.take_cut-cut-requires
take_cut-cut-requires c = cut-place _ _ c.self.view_is c.self.invariant _ c.deployment.ensures c.sites.ensures.limits c.requires.sound _ c.requires.act _ c.in_ok-site.ensures _ c.in-Some.is

pub step_at-requires-clause-place : goal.step_at-requires-clause-place
step_at-requires-clause-place c = slot-place _ _ c.self.view_is c.self.invariant _ c.deployment.ensures c.sites.ensures.limits c.requires.sound _ c.requires.act _ c.in_ok-site.ensures _ c.in-Some.is

pub step_at-requires-clause-site : goal.step_at-requires-clause-site
step_at-requires-clause-site c = site-place _ _ c.self.view_is c.self.invariant _ c.deployment.ensures c.sites.ensures.limits c.requires.sound _ c.requires.act _ c.in_ok-site.ensures _ c.in-Some.is _ c.deployment-2.ensures

pub step_at-requires-clause-fits : goal.step_at-requires-clause-fits
step_at-requires-clause-fits c = fits-deed _ _ c.self.view_is c.self.invariant _ c.deployment.ensures c.sites.ensures.limits c.requires.sound _ c.requires.act _ c.in_ok-site.ensures _ c.in-Some.is

pub step_at-requires-clause-few : goal.step_at-requires-clause-few
step_at-requires-clause-few c = few-deed _ _ c.self.view_is c.self.invariant _ c.deployment.ensures c.sites.ensures.limits c.requires.sound _ c.requires.act _ c.in_ok-site.ensures _ c.in-Some.is _ c.take_cut-cut.ensures.cut

pub returns-then-not-there : goal.returns-then-not-there
returns-then-not-there c = record {
  applies = (without-deed _ _ c.self.view_is c.self.invariant _ c.deployment.ensures c.sites.ensures.limits c.requires.sound _ c.requires.act _ c.in_ok-site.ensures _ c.in-Some.is
      _ c.take_cut-cut.ensures.cut _ c.take_cut-cut.ensures.cuts _ c.deployment-2.ensures _ c.in_ok-there.ensures.long _ c.in_ok-there.ensures.steps c.if-not-there.true).applies;
}

pub returns : goal.returns
returns c = record {
  applies = (whole-deed _ _ c.self.view_is c.self.invariant _ c.deployment.ensures c.sites.ensures.limits c.requires.sound _ c.requires.act _ c.in_ok-site.ensures _ c.in-Some.is
      _ c.take_cut-cut.ensures.cut _ c.take_cut-cut.ensures.cuts _ c.deployment-2.ensures _ c.in_ok-there.ensures.long _ c.in_ok-there.ensures.steps _ _ _ c.if-not-there.false c.in_ok-answer-2.ensures.applies c.whole.ensures).applies;
}
