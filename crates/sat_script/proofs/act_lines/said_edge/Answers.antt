use Rattle.std.proofs.Common.{sym}
use Rattle.sat_script.specs.Table.{place, at, no_tree}
use Rattle.sat_script.specs.declared.form.Kind.TheVariants as kind
use Rattle.sat_script.proofs.Once.{node_read, serializer_read, three_read}
use Rattle.sat_script.proofs.Quick.{edge_fits}
use Rattle.sat_script.proofs.act_lines.said_edge.Goals as goal

pub returns : goal.returns
returns c =
    let t = c.in_ok-epoch.tree.now in (
      three_read c.args.header.now.said t t t kind.Epoch kind.Node kind.Serializer _ _ _ (place c.in_ok-epoch.epoch) (at c.in_ok-from.from) (place c.in_ok-to.to)
          (c.in_ok-epoch.ensures.read no_tree)
          (node_read c.args.header.now.said t _ c.in_ok-from.from c.if-not-begins.ensures c.in_ok-from.ensures.node)
          (serializer_read c.args.header.now.said t _ c.in_ok-to.to c.if-not-begins-2.ensures c.in_ok-to.ensures.serializer),
      edge_fits c.args.header.now.said t c.in_ok-epoch.epoch c.in_ok-from.from c.in_ok-to.to c.in_ok-epoch.ensures.tree c.in_ok-from.ensures.inside c.in_ok-to.ensures.inside (sym c.if-not-is_edge.ensures.edge),
    )
