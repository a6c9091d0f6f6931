use Rattle.sat_script.specs.Table.{place, no_tree}
use Rattle.sat_script.specs.declared.form.Kind.TheVariants as kind
use Rattle.sat_script.proofs.Once.{serializer_read, two_read}
use Rattle.sat_script.proofs.act_lines.said_serializer.Goals as goal

pub returns : goal.returns
returns c =
    let t = c.in_ok-epoch.tree.now in
    two_read c.args.header.now.said t t kind.Epoch kind.Serializer _ _ (place c.in_ok-epoch.epoch) (place c.in_ok-serializer.serializer)
    (c.in_ok-epoch.ensures.read no_tree)
    (serializer_read c.args.header.now.said t _ c.in_ok-serializer.serializer c.if-not-begins.ensures c.in_ok-serializer.ensures.serializer)
