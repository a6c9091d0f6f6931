use Rattle.std.proofs.Common.{◌∙◌}
use Rattle.sat_script.specs.Causes.{has_item}
use Rattle.sat_script.proofs.Lookup.{any_named}
use Rattle.sat_script.proofs.header.Header.has_item.Goals as goal

pub returns : goal.returns
unfolding has_item
returns c = rw (← c.self.view_is) (c.has.ensures ∙ any_named _ _ c.self.inside.item_names c.args.name.now c.self.invariant.items_named)
