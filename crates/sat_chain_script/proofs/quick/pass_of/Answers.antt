use Rattle.std.proofs.Common.{[], ◌∷◌, refl}
use Rattle.sat_script.specs.Table.{num, place}
use Rattle.sat_chain_script.specs.declared.form.ChainForm.TheVariants.{Pass}
use Rattle.sat_chain_script.proofs.QuickActs.{pass_said}
use Rattle.sat_chain_script.proofs.quick.pass_of.Goals as goal

pub returns : goal.returns
returns c = record {
  form = Pass;
  named = refl;
  said = place c.in_ok-epoch.epoch ∷ place c.in_ok-epoch.serializer ∷ num c.in_ok-epoch.number ∷ [];
  read = c.in_ok-epoch.ensures;
  says = pass_said c.args.replicas c.args.reader.now.state.header c.in_ok-epoch.epoch c.in_ok-epoch.serializer c.in_ok-epoch.number c.in_ok-replica.replica c.in_ok-replica.ensures;
}
