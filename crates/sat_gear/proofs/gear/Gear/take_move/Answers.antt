use Rattle.std.proofs.Common.{subst, sym}
use Rattle.sat_gear.specs.Gear.{GearSeen, IsKindHere, IsNextStamp}
use Rattle.sat_gear.proofs.Gears.{made-by}
use Rattle.sat_gear.proofs.gear.Gear.take_move.Goals as goal

pub invariant_of-self-2 : goal.invariant_of-self-2
invariant_of-self-2 c =
    made-by _ c.args.label c.push.new.self.items c.self.invariant
    (subst (λ (s : GearSeen). IsNextStamp s c.args.label) (sym c.self.view_is) c.requires.next)
    (subst (λ (s : GearSeen). IsKindHere s c.args.label.kind) (sym c.self.view_is) c.requires.kind)
    c.in_ok-push.ensures.items
