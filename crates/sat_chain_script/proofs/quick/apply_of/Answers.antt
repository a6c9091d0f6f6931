use Rattle.std.proofs.Common.{[], ◌∷◌, refl}
use Rattle.sat_script.specs.Table.{place}
use Rattle.sat_chain_script.specs.declared.form.ChainForm.TheVariants.{Apply}
use Rattle.sat_chain_script.proofs.quick.apply_of.Goals as goal

pub returns : goal.returns
returns c = record {
  form = Apply;
  named = refl;
  said = place c.in_ok-epoch.epoch ∷ place c.in_ok-epoch.serializer ∷ [];
  read = c.in_ok-epoch.ensures;
  says = refl;
}
