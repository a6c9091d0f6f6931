use Rattle.std.proofs.Common.{◌∙◌}
use Rattle.sat_script.specs.Causes.{has_client}
use Rattle.sat_script.proofs.Lookup.{any_named}
use Rattle.sat_script.proofs.header.Header.has_client.Goals as goal

pub returns : goal.returns
unfolding has_client
returns c = rw (← c.self.view_is) (c.has.ensures ∙ any_named _ _ c.self.inside.client_names c.args.name.now c.self.invariant.clients_named)
