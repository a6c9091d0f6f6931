use Rattle.std.proofs.Common.{◌≡◌, length, take, drop}
use Rattle.sat_script.specs.Spelled.{AreActsOf}
use Rattle.sat_top.proofs.drawing.enter_acts.Given as goal
use Rattle.sat_top.specs.UnderWay.{IsEntering}

abbrev pub invariant-loop-place : goal.invariant-loop-place
invariant-loop-place l = record {
  deployment : l.world.deployment ≡ l.fn.world.deployment;
  entering : IsEntering l.fn.world.deployment l.world l.entries.items l.moved.items (take l.place l.acts);
  size : length l.entries.items ≡ l.place;
  rest : AreActsOf l.fn.world.deployment (drop l.place l.acts);
}
