use Rattle.std.proofs.Common.{[], ◌∷◌, refl}
use Rattle.sat_script.specs.Table.{at, place}
use Rattle.sat_chain_script.specs.declared.form.ChainForm.TheVariants.{Enter}
use Rattle.sat_chain_script.proofs.quick.enter_of.Goals as goal

pub returns : goal.returns
returns c = record {
  form = Enter;
  named = refl;
  said = place c.in_ok-epoch.epoch ∷ at c.in_ok-epoch.from ∷ place c.in_ok-epoch.to ∷ [];
  read = c.in_ok-epoch.ensures.0;
  says = rw (c.in_ok-epoch.ensures.1) refl;
}
