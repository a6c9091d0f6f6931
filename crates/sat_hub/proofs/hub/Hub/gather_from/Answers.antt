use Rattle.std.proofs.Common.{map, ap, ◌∙◌}
use Rattle.std.proofs.lemmas.List.{length-map}
use Rattle.sat_gear.specs.Gear.{drained_of}
use Rattle.sat_sink.specs.Sink.{stable_of}
use Rattle.sat_hub.proofs.Sound.{gather-after, gather-drain, gather-hub, gather-rows}
use Rattle.sat_hub.proofs.hub.Hub.gather_from.Goals as goal

pub gather_from-requires-clause-rows : goal.gather_from-requires-clause-rows
gather_from-requires-clause-rows c = gather-rows _ _ (map drained_of c.args.gears.now) c.self.view_is c.self.invariant c.requires ∙ length-map c.args.gears.now drained_of

pub gather_from-requires-clause-drain : goal.gather_from-requires-clause-drain
gather_from-requires-clause-drain c = gather-drain _ _ (map drained_of c.args.gears.now) c.self.view_is c.requires

pub invariant_of-self-2 : goal.invariant_of-self-2
invariant_of-self-2 c = gather-hub _ _ (map drained_of c.args.gears.now) _ _ c.self.view_is c.self.invariant c.requires c.in_ok-gather_from.ensures.sink c.in_ok-gather_from.ensures.counts

pub returns-clause-stable : goal.returns-clause-stable
returns-clause-stable c = c.stable.ensures ∙ ap stable_of c.in_ok-gather_from.ensures.sink

pub returns-clause-after : goal.returns-clause-after
returns-clause-after c = gather-after _ _ (map drained_of c.args.gears.now) _ _ c.self.view_is c.in_ok-gather_from.ensures.sink c.in_ok-gather_from.ensures.counts
