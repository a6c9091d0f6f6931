use Rattle.sat_draw.proofs.Heads.{no_serializers, more_serializers}
use Rattle.sat_draw.proofs.head.push_serializers.Goals as goal

pub loop-z-init : goal.loop-z-init
loop-z-init c = no_serializers c.args.out.now.items c.args.d.now c.args.top c.args.bottom c.args.epoch c.args.y c.args.tree.now

pub loop-z-preserved : goal.loop-z-preserved
loop-z-preserved c =
    more_serializers c.args.out.now.items c.loop-z.out.items c.push_serializer.new.out.items c.args.d.now c.args.top c.args.bottom c.args.epoch c.args.y c.args.tree.now c.loop-z.z
    c.in_ok-push_serializer.ensures c.loop-z.invariant
