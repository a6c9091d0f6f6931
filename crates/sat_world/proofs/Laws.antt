-- The laws of the parts, as the proofs of this crate cite them.
use Rattle.sat_gear.proofs.Gears.{each-lane}
use Rattle.sat_proxy.proofs.Answering.{each-answers}
use Rattle.sat_proxy.proofs.Following.{each-follows}
use Rattle.sat_site.specs.Laws.{EachStep}
use Rattle.sat_site.proofs.Steps as steps
pub use Rattle.sat_site.proofs.Steps.{each-clock}
pub use Rattle.sat_site.proofs.Fitting.{each-fits}
pub use Rattle.sat_net.proofs.Edges.{leaves, stays}
pub use Rattle.sat_net.proofs.Stands.{starts, sends, keeps, hops, takes, kills, others, rests, leads-to, routes-to}
pub use Rattle.sat_net.proofs.Kept.{net-fresh, net-send, net-copies, net-give, net-kill}

-- the step of a site is the machine's
pub each-step : EachStep
each-step = steps.each-step each-lane each-answers each-follows
