-- Worked scripts with settle: what is printed, computed.
use Rattle.std.specs.Prelude.{◌≡◌, [], ◌∷◌, None, refl}
use Rattle.sat_label.specs.declared.items.Items.TheVariants.{One}
use Rattle.sat_label.specs.declared.label.Kind.TheVariants as kind
use Rattle.sat_label.specs.Order.{point_at}
use Rattle.sat_act.specs.declared.act.Act.TheVariants as act
use Rattle.sat_act.specs.declared.answer.Answer.TheVariants as ans
use Rattle.sat_act.specs.declared.deployment.Plan.TheVariants as plan
use Rattle.sat_act.specs.Deployed.{Deployed}
use Rattle.sat_act.specs.Settling.{run}
use Rattle.sat_rest.specs.Printed.{printed}

abbrev A : Deployed
A = record {
  format = 1;
  sites = 2;
  gears = 1;
  items = record { name = 120 ∷ []; replicas = record { bits = 3 } } ∷ [];
  clients = record { name = 97 ∷ []; site = 0 } ∷ record { name = 98 ∷ []; site = 1 } ∷ [];
  plans = plan.Tree (record { parents = None ∷ []; seats = 0 ∷ 0 ∷ [] }) ∷ [];
}

-- the update is brought, hopped and shown by one round; a second settle finds nothing to do
one_update_settles : printed (run A (act.Settle ∷ act.Read 1 0 ∷ act.Settle ∷ act.Write 0 0 (118 ∷ []) ∷ []))
    ≡ (ans.Wrote (record { point = point_at 1 0 0; kind = kind.Update (One 0) }) ∷ ans.Settled 1 17 ∷ ans.ReadSome (record { point = point_at 1 0 0; kind = kind.Update (One 0) }) (118 ∷ []) ∷ ans.Settled 0 7 ∷ [])
unfolding printed run
one_update_settles = refl

-- a tree and then stamp order: an update is under way when both sites close the first epoch; settle drains it, both sites advance, and the second is at rest too
abbrev B : Deployed
B = record {
  format = 1;
  sites = 2;
  gears = 1;
  items = record { name = 120 ∷ []; replicas = record { bits = 3 } } ∷ [];
  clients = record { name = 97 ∷ []; site = 0 } ∷ record { name = 98 ∷ []; site = 1 } ∷ [];
  plans = plan.Tree (record { parents = None ∷ []; seats = 0 ∷ 0 ∷ [] }) ∷ plan.Stamp ∷ [];
}

two_plans : printed (run B (act.Settle ∷ act.Read 1 0 ∷ act.Settle ∷ act.Write 0 0 (119 ∷ []) ∷ act.Close 1 ∷ act.Close 0 ∷ act.Write 0 0 (118 ∷ []) ∷ []))
    ≡ (ans.Wrote (record { point = point_at 1 0 0; kind = kind.Update (One 0) }) ∷ ans.Closed 1 (point_at 0 0 65535) ∷ ans.Closed 1 (point_at 0 1 65535) ∷ ans.Wrote (record { point = point_at 2 0 0; kind = kind.Update (One 0) }) ∷ ans.Settled 2 21
    ∷ ans.ReadSome (record { point = point_at 2 0 0; kind = kind.Update (One 0) }) (119 ∷ []) ∷ ans.Settled 0 7 ∷ [])
unfolding printed run
two_plans = refl
