use Rattle.std.proofs.Common.{refl}
use Rattle.sat_act.specs.declared.act.Act.TheVariants as act
use Rattle.sat_script.specs.Table.{place, num, no_tree}
use Rattle.sat_script.specs.declared.form.Form.TheVariants as form
use Rattle.sat_script.specs.declared.form.Kind.TheVariants as kind
use Rattle.sat_script.proofs.Once.{ts_read}
use Rattle.sat_script.proofs.Quick.{three_say}
use Rattle.sat_script.proofs.act_lines.tick_of.Goals as goal

pub returns : goal.returns
returns c hops =
    three_say hops c.args.header.now.said no_tree no_tree no_tree _ _ _ _ form.Tick kind.Site kind.Gear kind.Ts (place c.in_ok-site.site) (place c.in_ok-gear.gear) (num c.in_ok-ts.ts) (act.Tick c.in_ok-site.site c.in_ok-gear.gear c.in_ok-ts.ts)
    refl refl refl refl refl refl
    (c.in_ok-site.ensures no_tree) (c.in_ok-gear.ensures no_tree) (ts_read c.args.header.now.said no_tree _ c.in_ok-ts.ts c.in_ok-ts.ensures.number)
