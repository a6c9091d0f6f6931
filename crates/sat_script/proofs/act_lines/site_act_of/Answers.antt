use Rattle.sat_script.specs.Table.{no_tree}
use Rattle.sat_script.proofs.Quick.{site_say}
use Rattle.sat_script.proofs.act_lines.site_act_of.Goals as goal

pub returns : goal.returns
returns c hops =
    site_say hops c.args.header.now.said _ _ c.in_ok-form.form c.in_ok-site.site c.act_of_site.result c.in_ok-form.ensures (c.in_ok-site.ensures no_tree) c.act_of_site.ensures
