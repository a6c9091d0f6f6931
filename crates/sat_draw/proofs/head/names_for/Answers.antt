use Rattle.std.proofs.Common.{[], ◌++◌, ap, ◌∙◌}
use Rattle.sat_act.specs.declared.deployment.ClientLine.{ClientLine}
use Rattle.sat_draw.specs.Head.{name_for}
use Rattle.sat_draw.proofs.Arrows.{one_more}
use Rattle.sat_draw.proofs.head.names_for.Goals as goal

pub loop-client-preserved : goal.loop-client-preserved
loop-client-preserved c =
    one_more (name_for c.args.site) [] c.loop-client.names.items c.push_client.new.out.items c.args.clients.now c.loop-client.client-index c.client-item.result
    c.loop-client-test.true (c.in_ok-push_client.ensures ∙ ap (λ (k : ClientLine). c.loop-client.names.items ++ name_for c.args.site k) c.client-item.is) c.loop-client.invariant
