use Rattle.std.proofs.Common.{refl}
use Rattle.sat_act.specs.declared.act.Act.TheVariants as act
use Rattle.sat_script.specs.Table.{place, bytes, no_tree}
use Rattle.sat_script.specs.declared.form.Form.TheVariants as form
use Rattle.sat_script.specs.declared.form.Kind.TheVariants as kind
use Rattle.sat_script.proofs.Quick.{three_say, value_at, writes}
use Rattle.sat_script.proofs.act_lines.write_of.Goals as goal

pub returns : goal.returns
returns c hops =
    three_say hops c.args.header.now.said no_tree no_tree no_tree _ _ _ _ form.Write kind.Client kind.Item kind.Value (place c.in_ok-client.client) (place c.in_ok-item.item) (bytes c.in_ok-value.value) (act.Write c.in_ok-client.client c.in_ok-item.item c.in_ok-value.value)
    refl refl refl refl (writes c.in_ok-client.client c.in_ok-item.item _ c.in_ok-value.value c.in_ok-value.ensures) refl
    (c.in_ok-client.ensures no_tree) (c.in_ok-item.ensures no_tree) (value_at c.args.header.now.said no_tree _ c.in_ok-value.value c.requires c.in_ok-value.ensures)
