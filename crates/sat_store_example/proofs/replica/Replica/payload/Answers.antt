use Rattle.std.proofs.Common.{◌≡◌, true, false, subst, sym}
use Rattle.sat_site.specs.Stands.{StandsSite}
use Rattle.sat_store_example.specs.Replicas.{ReplicaSeen, has_lane}
use Rattle.sat_store_example.proofs.replica.Replica.payload.Goals as goal

pub returns-clause-none : goal.returns-clause-none
returns-clause-none c = λ no. c.payload_of.ensures.none (subst (λ (r : ReplicaSeen). has_lane r.site c.args.gear c.args.to ≡ false) (sym c.self.view_is) no)

pub returns-clause-payload : goal.returns-clause-payload
returns-clause-payload c = λ has d i s st.
    c.payload_of.ensures.payload (subst (λ (r : ReplicaSeen). has_lane r.site c.args.gear c.args.to ≡ true) (sym c.self.view_is) has) d i s
    (subst (λ (r : ReplicaSeen). StandsSite d i r.site s) (sym c.self.view_is) st)
