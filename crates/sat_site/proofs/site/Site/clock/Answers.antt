use Rattle.std.proofs.Common.{ap, subst, ◌∙◌, arith, map}
use Rattle.std.proofs.lemmas.List.{take_at}
use Rattle.sat_site.specs.Changes.{ticked_to}
use Rattle.sat_site.specs.Seen.{AreGears}
use Rattle.sat_site.proofs.Deeds.{raise-site}
use Rattle.sat_site.proofs.site.Site.clock.Goals as goal

pub invariant_of-self : goal.invariant_of-self
invariant_of-self c =
    raise-site _ _ _ c.self.invariant (◌∙◌ {b = c.tick_all.new.gears} (take_at _ _ _ (omega arith)) (c.tick_all.ensures ∙ ap (map (ticked_to c.args.ts)) c.deref_mut.ensures.value)) (subst AreGears c.deref.ensures.value c.all_limits.ensures)
