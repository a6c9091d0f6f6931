use Rattle.std.specs.Result.{result_ok}
use Rattle.std.proofs.Common.{ap, ◌∙◌}
use Rattle.sat_hub.proofs.Sound.{counted, gather-after, gather-answer, gather-drain, gather-hub, gather-rows}
use Rattle.sat_hub.proofs.hub.Hub.gather.Goals as goal

pub gather-requires-clause-rows : goal.gather-requires-clause-rows
gather-requires-clause-rows c = gather-rows _ _ c.args.drained.now c.self.view_is c.self.invariant c.requires

pub gather-requires-clause-drain : goal.gather-requires-clause-drain
gather-requires-clause-drain c = gather-drain _ _ c.args.drained.now c.self.view_is c.requires

pub invariant_of-self-2 : goal.invariant_of-self-2
invariant_of-self-2 c = gather-hub _ _ c.args.drained.now _ _ c.self.view_is c.self.invariant c.requires c.in_ok-gather.ensures.sink c.in_ok-gather.ensures.counts

pub returns-clause-answer : goal.returns-clause-answer
returns-clause-answer c =
    gather-answer c.args.drained.now _ c.self.inside.sink _ _ (counted c.count_given.result c.in_ok-labels.labels _ c.count_given.ensures (c.ok_or.ensures.ok_part ∙ ap result_ok c.in_ok-labels.was)) c.in_ok-gather.ensures.sink c.stable.ensures

pub returns-clause-after : goal.returns-clause-after
returns-clause-after c = gather-after _ _ c.args.drained.now _ _ c.self.view_is c.in_ok-gather.ensures.sink c.in_ok-gather.ensures.counts
