use Rattle.std.proofs.Common.{◌∙◌}
use Rattle.sat_script.specs.Causes.{has_client}
use Rattle.sat_script.proofs.Lookup.{any_named}
use Rattle.sat_script.proofs.header.Header.add_client.Goals as goal

pub add-requires : goal.add-requires
unfolding has_client
add-requires c =
    let new = rw (← c.self.view_is) at c.requires.new in
    rw c.bytes.ensures.bytes (any_named _ _ c.self.inside.client_names c.args.line.name c.self.invariant.clients_named ∙ new)
