use Rattle.std.proofs.Common.{take}
use Rattle.std.specs.List.{AllByRecursion}
use Rattle.sat_live.specs.Naming.{IsNamedClient}
use Rattle.sat_live.proofs.names.client_names.Given as goal

abbrev pub invariant-clients : goal.invariant-clients
invariant-clients l = AllByRecursion IsNamedClient (take l.client-index l.clients)
