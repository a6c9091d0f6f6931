use Rattle.std.proofs.Common.{◌∙◌}
use Rattle.sat_script.specs.Causes.{has_item}
use Rattle.sat_script.proofs.Lookup.{any_named}
use Rattle.sat_script.proofs.header.Header.add_item.Goals as goal

pub add-requires : goal.add-requires
unfolding has_item
add-requires c =
    let new = rw (← c.self.view_is) at c.requires.new in
    rw c.bytes.ensures.bytes (any_named _ _ c.self.inside.item_names c.args.item.name c.self.invariant.items_named ∙ new)
