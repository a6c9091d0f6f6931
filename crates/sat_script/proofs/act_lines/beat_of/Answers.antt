use Rattle.std.proofs.Common.{refl}
use Rattle.sat_act.specs.declared.act.Act.TheVariants as act
use Rattle.sat_script.specs.Table.{place, no_tree}
use Rattle.sat_script.specs.declared.form.Form.TheVariants as form
use Rattle.sat_script.specs.declared.form.Kind.TheVariants as kind
use Rattle.sat_script.proofs.Quick.{two_say, apart}
use Rattle.sat_script.proofs.act_lines.beat_of.Goals as goal

pub returns : goal.returns
returns c hops =
    two_say hops c.args.header.now.said no_tree no_tree _ _ _ form.Beat kind.Site kind.Site (place c.in_ok-from.from) (place c.in_ok-to.to) (act.Beat c.in_ok-from.from c.in_ok-to.to)
    refl refl refl refl refl (apart c.in_ok-from.from c.in_ok-to.to c.if-from-to.false) (c.in_ok-from.ensures no_tree) (c.in_ok-to.ensures no_tree)
