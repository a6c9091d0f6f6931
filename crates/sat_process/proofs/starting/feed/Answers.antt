use Rattle.std.proofs.Common.{◌≡◌, Some, slice_get}
use Rattle.sat_process.proofs.Feeding.{feeds_none, feeds_still, is_strange, not_took, there_of}
use Rattle.sat_process.proofs.starting.feed.Goals as goal

pub loop-number-init : goal.loop-number-init
loop-number-init g c = feeds_none g.M.Hosted.asked g.M.Hosted.took g.M.Machine.meaning c.args.bodies.now c.args.host.now c.requires.fresh c.node.ensures.kept

pub returns-then-not-branch-clause-fed : goal.returns-then-not-branch-clause-fed
returns-then-not-branch-clause-fed g c = feeds_still g.M.Hosted.asked g.M.Hosted.took c.args.bodies.now c.loop-number.number _ _ _ c.loop-number.invariant (not_took _ _ _ c.if-not-branch.true c.in_ok-feed_one.ensures.took).0

pub returns-then-not-branch-clause-strange : goal.returns-then-not-branch-clause-strange
returns-then-not-branch-clause-strange g c less =
    let there : slice_get c.args.bodies.now c.loop-number.number ≡ Some c.index-bodies-number.result = there_of c.args.bodies.now c.loop-number.number _ _ c.index-bodies-number.is less in
    is_strange g.M.Hosted.asked g.M.Hosted.took g.M.Hosted.would c.args.bodies.now c.loop-number.number _ _ _ c.loop-number.invariant there (not_took _ _ _ c.if-not-branch.true c.in_ok-feed_one.ensures.took).1
