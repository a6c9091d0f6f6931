use Rattle.std.proofs.Common.{arith}
use Rattle.sat_verdict.proofs.Linkings.{linked-start, links-step}
use Rattle.sat_verdict.proofs.links.links_of.Goals as goal

pub loop-place-init : goal.loop-place-init
loop-place-init c = (
  omega arith,
  linked-start c.args.tales.now c.args.clients c.in_ok-heads.heads.items c.in_ok-next.next.items c.in_ok-heads.ensures.size c.in_ok-heads.ensures.value c.in_ok-next.ensures.size,
)

pub loop-place-preserved : goal.loop-place-preserved
loop-place-preserved c =
    links-step c.args.tales.now c.args.clients c.loop-place.heads.items c.as_slice.result.now c.put_first.new.heads.items c.loop-place.next.items c.loop-place.place c.follower.result c.client-client.result _
    c.loop-place.invariant c.loop-place-test.true c.requires.clients c.client-client.ensures c.as_slice.ensures.value c.follower.ensures c.put_first.ensures
