use Rattle.sat_lasting.specs.Lasts.{AreFresh}
use Rattle.sat_lasting.proofs.lasting.fresh_slots.Given as goal

abbrev pub invariant-loop-site : goal.invariant-loop-site
invariant-loop-site l = AreFresh l.d l.site l.slots.items
