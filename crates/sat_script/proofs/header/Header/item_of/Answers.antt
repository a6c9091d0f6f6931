use Rattle.std.proofs.Common.{◌∙◌, sym}
use Rattle.sat_script.specs.Causes.{item_of}
use Rattle.sat_script.proofs.Lookup.{place_named}
use Rattle.sat_script.proofs.header.Header.item_of.Goals as goal

pub returns : goal.returns
unfolding item_of
returns c = rw (← c.self.view_is) (sym c.in_ok-place_of.was ∙ c.place_of.ensures.place ∙ place_named _ _ c.self.inside.item_names c.args.name.now c.self.invariant.items_named)

pub returns-in_err-place_of : goal.returns-in_err-place_of
unfolding item_of
returns-in_err-place_of c = rw (← c.self.view_is) (c.from_residual.ensures ∙ sym c.in_err-place_of.was ∙ c.place_of.ensures.place ∙ place_named _ _ c.self.inside.item_names c.args.name.now c.self.invariant.items_named)
