use Rattle.std.proofs.Common.{refl}
use Rattle.sat_script.specs.declared.form.Form.TheVariants.{Hop}
use Rattle.sat_script.proofs.act_lines.hop_of.Goals as goal

pub returns : goal.returns
returns c = record {
  form = Hop;
  found = refl;
  counted = c.if-not-hops.false;
  reads = record { read = c.in_ok-epoch.ensures.0; act = refl };
  fits = c.in_ok-epoch.ensures.1;
}
