use Rattle.std.proofs.Common.{refl}
use Rattle.sat_act.specs.declared.act.Act.TheVariants as act
use Rattle.sat_script.specs.Table.{place, no_tree}
use Rattle.sat_script.specs.declared.form.Form.TheVariants as form
use Rattle.sat_script.specs.declared.form.Kind.TheVariants as kind
use Rattle.sat_script.proofs.Quick.{one_say}
use Rattle.sat_script.proofs.act_lines.leave_of.Goals as goal

pub returns : goal.returns
returns c hops =
    one_say hops c.args.header.now.said no_tree _ _ form.Leave kind.Client (place c.in_ok-client.client) (act.Leave c.in_ok-client.client) refl refl refl refl refl refl (c.in_ok-client.ensures no_tree)
