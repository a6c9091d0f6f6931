use Rattle.std.proofs.Common.{refl}
use Rattle.sat_site.proofs.Hubs.{made-site, stamp-after, stamp-guest, stamp-told, unstamped-after}
use Rattle.sat_site.proofs.site.Site.stamp.Goals as goal

pub show_guest-requires : goal.show_guest-requires
show_guest-requires c = stamp-guest c.self.inside.hub _ c.stamp-shown.result c.in-Ok.payload c.stamp-shown.ensures.guest c.stamp-shown.ensures.after c.in-Ok.is

pub invariant_of-self : goal.invariant_of-self
invariant_of-self c = made-site _ _ _ _ c.self.invariant c.limits_of.ensures c.stamp-shown.ensures.after refl refl

pub returns-in-Ok-clause-answer : goal.returns-in-Ok-clause-answer
returns-in-Ok-clause-answer c = stamp-told _ _ _ c.stamp-shown.result _ _ c.self.view_is c.stamp-shown.ensures.answer c.in-Ok.is c.show_guest.ensures.answer

pub returns-in-Ok-clause-after : goal.returns-in-Ok-clause-after
returns-in-Ok-clause-after c = stamp-after _ _ _ _ _ c.stamp-shown.result _ c.self.view_is c.stamp-shown.ensures.after c.stamp-shown.ensures.shows c.in-Ok.is c.show_guest.ensures.after

pub returns-in-Err-TreeOrder-clause-after : goal.returns-in-Err-TreeOrder-clause-after
returns-in-Err-TreeOrder-clause-after c = unstamped-after c.self.inside.hub c.stamp-shown.new.self _ _ c.stamp-shown.result c.in-Err-TreeOrder.field-0 c.self.view_is c.stamp-shown.ensures.after c.stamp-shown.ensures.shows c.in-Err-TreeOrder.is

pub returns-in-Err-NotYet-clause-after : goal.returns-in-Err-NotYet-clause-after
returns-in-Err-NotYet-clause-after c = unstamped-after c.self.inside.hub c.stamp-shown.new.self _ _ c.stamp-shown.result c.in-Err-NotYet.field-0 c.self.view_is c.stamp-shown.ensures.after c.stamp-shown.ensures.shows c.in-Err-NotYet.is
