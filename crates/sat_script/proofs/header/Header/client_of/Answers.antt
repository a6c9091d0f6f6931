use Rattle.std.proofs.Common.{◌∙◌, sym}
use Rattle.sat_script.specs.Causes.{client_of}
use Rattle.sat_script.proofs.Lookup.{place_named}
use Rattle.sat_script.proofs.header.Header.client_of.Goals as goal

pub returns : goal.returns
unfolding client_of
returns c = rw (← c.self.view_is) (sym c.in_ok-place_of.was ∙ c.place_of.ensures.place ∙ place_named _ _ c.self.inside.client_names c.args.name.now c.self.invariant.clients_named)

pub returns-in_err-place_of : goal.returns-in_err-place_of
unfolding client_of
returns-in_err-place_of c = rw (← c.self.view_is) (c.from_residual.ensures ∙ sym c.in_err-place_of.was ∙ c.place_of.ensures.place ∙ place_named _ _ c.self.inside.client_names c.args.name.now c.self.invariant.clients_named)
