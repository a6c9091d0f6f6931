use Rattle.std.proofs.Common.{ap, refl, sym}
use Rattle.sat_act.specs.declared.act.Act.TheVariants as act
use Rattle.sat_top.proofs.Drafts.{applied}
use Rattle.sat_top.proofs.loading.write.Goals as goal

pub returns-then-lacks_seat : goal.returns-then-lacks_seat
returns-then-lacks_seat c = (c.lacks_seat.ensures c.if-lacks_seat.true c.args.item _, refl)

pub returns : goal.returns
returns c = applied c.args.world.now c.write.new.self _ _ c.write.result (ap (act.Write c.args.client c.args.item) (sym c.in_ok-value.ensures)) refl c.write.ensures.applies
