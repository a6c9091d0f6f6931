use Rattle.std.proofs.Common.{refl, Some}
use Rattle.sat_act.specs.declared.act.Act.TheVariants as act
use Rattle.sat_script.specs.Table.{place, num, no_tree}
use Rattle.sat_script.specs.declared.form.Form.TheVariants as form
use Rattle.sat_script.specs.declared.form.Kind.TheVariants as kind
use Rattle.sat_script.proofs.Once.{number_read}
use Rattle.sat_script.proofs.Quick.{four_say, apart}
use Rattle.sat_script.proofs.act_lines.numbered_bulk_of.Goals as goal

pub returns : goal.returns
returns c hops =
    four_say hops c.args.header.now.said no_tree no_tree no_tree no_tree _ _ _ _ _ form.NumberedBulk kind.Site kind.Gear kind.Site kind.Count (place c.in_ok-from.from) (place c.in_ok-gear.gear) (place c.in_ok-to.to) (num c.in_ok-number.number)
    (act.Bulk c.in_ok-from.from c.in_ok-gear.gear c.in_ok-to.to (Some c.in_ok-number.number))
    refl refl refl refl refl (apart c.in_ok-from.from c.in_ok-to.to c.if-from-to.false)
    (c.in_ok-from.ensures no_tree) (c.in_ok-gear.ensures no_tree) (c.in_ok-to.ensures no_tree) (number_read c.args.header.now.said no_tree _ c.in_ok-number.number c.in_ok-number.ensures.number)
