use Rattle.std.proofs.Common.{◌≡◌, ◌+◌, Some, take, drop}
use Rattle.sat_script.specs.Spelled.{AreActsOf}
use Rattle.sat_runs.specs.Running.{HasLines}
use Rattle.sat_runs.proofs.acts.answer_acts.Given as goal

abbrev pub invariant-loop-act : goal.invariant-loop-act
invariant-loop-act l = record {
  deployment : l.world.deployment ≡ l.fn.world.deployment;
  lines : HasLines l.fn.world l.before (take l.act-index l.acts) l.fn.text.items l.world l.text.items;
  line : l.line ≡ Some (l.before + l.act-index);
  rest : AreActsOf l.fn.world.deployment (drop l.act-index l.acts);
}
