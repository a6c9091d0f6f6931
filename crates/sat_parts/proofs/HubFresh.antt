-- A hub at which nothing has happened.
use Rattle.std.specs.Prelude.{◌≡◌, ◌≤◌, ◌^◌, ℕ, refl}
use Rattle.std.proofs.Common.{subst, sym, arith}
use Rattle.sat_act.specs.Deployed.{Deployed}
use Rattle.sat_proxy.specs.Laws.{Starts}
use Rattle.sat_hub.specs.Changes.{new_hub, shape_for}
use Rattle.sat_hub.specs.Seen.{HubSeen}
use Rattle.sat_hub.proofs.Fresh.{always}
use Rattle.sat_site.proofs.Fresh.{fresh-stands}
use Rattle.sat_joint.specs.Machines.{fresh_hub}
use Rattle.sat_parts.specs.HubSteps.{HasTimes}
use Rattle.sat_parts.specs.Hubs.{StandsHub}

stands-new : (d : Deployed) (i : ℕ) → Starts → StandsHub d i (new_hub d i) (fresh_hub i)
stands-new d i starts =
    let st = fresh-stands d i (shape_for d i) starts refl in
    record { shape = st.shape; sink = st.sink; views = st.views; proxy = st.proxy; made = st.made }

pub made-stands : (d e : Deployed) (i : ℕ) (h : HubSeen) → Starts → e ≡ d → h ≡ new_hub d i → StandsHub e i h (fresh_hub i)
made-stands d e i h starts same is = subst (λ (e : Deployed). StandsHub e i h (fresh_hub i)) (sym same) (subst (λ (h : HubSeen). StandsHub d i h (fresh_hub i)) (sym is) (stands-new d i starts))
