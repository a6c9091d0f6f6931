use Rattle.std.proofs.Common.{◌∙◌, arith}
use Rattle.sat_label.specs.Words.{bit}
use Rattle.sat_gear.proofs.Targets.{room-put, same-places}
use Rattle.sat_gear.proofs.lane.reserve_where.Goals as goal

pub returns-in_err-reserve-clause-members : goal.returns-in_err-reserve-clause-members
returns-in_err-reserve-clause-members c =
    same-places c.sites.lanes c.sites.site c.index-lanes-site.result c.reserve.new.self (omega arith) c.reserve.ensures.members ∙ c.sites.invariant.members

pub sites-preserved : goal.sites-preserved
sites-preserved c = record {
  members = same-places c.sites.lanes c.sites.site c.index-lanes-site.result c.reserve.new.self (omega arith) c.reserve.ensures.members ∙ c.sites.invariant.members;
  room = room-put (bit c.args.targets.bits) c.sites.site c.site_from-site-in-sites.result c.sites.lanes c.reserve.new.self (omega arith) c.site_from-site-in-sites.ensures.up
      c.site_from-site-in-sites.ensures.passed c.in_ok-reserve.ensures.room c.sites.invariant.room;
}
