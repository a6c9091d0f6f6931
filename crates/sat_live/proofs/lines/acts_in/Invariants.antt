use Rattle.std.proofs.Common.{◌≡◌, take}
use Rattle.sat_script.specs.Spelled.{AreActsOf}
use Rattle.sat_stitch.specs.Kept.{acts_of}
use Rattle.sat_live.proofs.lines.acts_in.Given as goal

abbrev pub invariant-loop-entry : goal.invariant-loop-entry
invariant-loop-entry l = record {
  acts : l.acts.items ≡ acts_of (take l.entry-index l.journal);
  each : AreActsOf l.d l.acts.items;
}
