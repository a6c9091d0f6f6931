use Rattle.std.proofs.Common.{◌+◌, subst, sym, List}
use Rattle.sat_lasting.specs.declared.slot.Slot.{Slot}
use Rattle.sat_lasting.specs.Lasts.{AreFresh}
use Rattle.sat_lasting.proofs.Starting.{slots-more}
use Rattle.sat_lasting.proofs.lasting.fresh_slots.Goals as goal

pub loop-site-preserved : goal.loop-site-preserved
loop-site-preserved c = subst (λ (xs : List Slot). AreFresh c.args.d.now (c.loop-site.site + 1) xs) (sym c.in_ok-push.ensures.items) (slots-more _ _ _ _ c.loop-site.invariant c.in_ok-slot.ensures)
