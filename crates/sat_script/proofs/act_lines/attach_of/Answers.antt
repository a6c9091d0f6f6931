use Rattle.std.proofs.Common.{refl}
use Rattle.sat_act.specs.declared.act.Act.TheVariants as act
use Rattle.sat_script.specs.Table.{place, no_tree}
use Rattle.sat_script.specs.declared.form.Form.TheVariants as form
use Rattle.sat_script.specs.declared.form.Kind.TheVariants as kind
use Rattle.sat_script.proofs.Quick.{two_say}
use Rattle.sat_script.proofs.act_lines.attach_of.Goals as goal

pub returns : goal.returns
returns c hops =
    two_say hops c.args.header.now.said no_tree no_tree _ _ _ form.Attach kind.Client kind.Site (place c.in_ok-client.client) (place c.in_ok-site.site) (act.Attach c.in_ok-client.client c.in_ok-site.site)
    refl refl refl refl refl refl (c.in_ok-client.ensures no_tree) (c.in_ok-site.ensures no_tree)
