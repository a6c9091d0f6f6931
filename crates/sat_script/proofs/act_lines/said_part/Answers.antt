use Rattle.sat_script.specs.Table.{place, num, no_tree}
use Rattle.sat_script.specs.declared.form.Kind.TheVariants as kind
use Rattle.sat_script.proofs.Once.{number_read, serializer_read, three_read}
use Rattle.sat_script.proofs.act_lines.said_part.Goals as goal

pub returns : goal.returns
returns c =
    let t = c.in_ok-epoch.tree.now in
    three_read c.args.header.now.said t t t kind.Epoch kind.Serializer kind.Count _ _ _ (place c.in_ok-epoch.epoch) (place c.in_ok-serializer.serializer) (num c.in_ok-number.number)
    (c.in_ok-epoch.ensures.read no_tree)
    (serializer_read c.args.header.now.said t _ c.in_ok-serializer.serializer c.if-not-begins.ensures c.in_ok-serializer.ensures.serializer)
    (number_read c.args.header.now.said t _ c.in_ok-number.number c.in_ok-number.ensures.number)
