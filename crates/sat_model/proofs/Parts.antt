-- Each part of the world that stands for a history is what the history says.
use Rattle.std.specs.Prelude.{◌≡◌, ℕ, List, [], drop, Option, Some, None, refl}
use Rattle.std.proofs.Common.{ap}
use Rattle.sat_label.specs.declared.node.NodeId.{NodeId}
use Rattle.sat_tree.specs.Shape.{TreeShape}
use Rattle.sat_act.specs.declared.entry.Entry.{Entry}
use Rattle.sat_act.specs.Deployed.{Deployed}
use Rattle.sat_act.specs.Parts.{tree_of, entered, taken}
use Rattle.sat_act.specs.Runs.{IsRun}
use Rattle.sat_act.specs.Goals.{IsValid}
use Rattle.sat_model.specs.Replay.{site_state}
use Rattle.sat_model.specs.World.{world_state, link_left}
use Rattle.sat_model.specs.Parts.{SinkAgrees, ViewAgrees, ClientAgrees}
use Rattle.sat_model.specs.Laws.{EachPartAgrees}
use Rattle.sat_model.proofs.Simple.{promise-agrees, sent-agrees, pulse-agrees, emission-agrees, view-agrees, fallen-agrees, closes-agrees, heard-agrees}
use Rattle.sat_model.proofs.Gathering.{promises-agree, counts-agree, fresh-agrees, all-pending, stable-agrees, ready-agrees, cut-agrees}
use Rattle.sat_model.proofs.Lanes.{lanes-agree}
use Rattle.sat_model.proofs.Windows.{front-agrees}
use Rattle.sat_model.proofs.Pools.{pool-agrees, waiting-agrees}
use Rattle.sat_model.proofs.Beating.{made-agrees, best-agrees}
use Rattle.sat_model.proofs.Raising.{mode-agrees, last-agrees}
use Rattle.sat_model.proofs.Stores.{store-agrees}

sink-agrees : (d : Deployed) (h : List Entry) (i : ℕ) → IsValid d → IsRun d h → SinkAgrees d h i (site_state d h i)
sink-agrees d h i v run = record {
  promises = λ g. promise-agrees d h i g run;
  fresh = λ g. fresh-agrees d h i g run;
  lanes = λ g j. lanes-agree d h i g j v run;
  gathered_promises = λ g. promises-agree d h i g run;
  pending = all-pending d h i v run;
  counts = λ g j. counts-agree d h i g j v run;
  last = sent-agrees d h i run;
  pulse = pulse-agrees d h i run;
  stable = stable-agrees d h i run;
  ready = ready-agrees d h i v run;
  cut = cut-agrees d h i v run;
}

view-agreed : (d : Deployed) (h : List Entry) (j : ℕ) → IsValid d → IsRun d h → ViewAgrees d h j (site_state d h j)
view-agreed d h j v run = record {
  view = view-agrees d h j run;
  emission = emission-agrees d h j run;
  fallen = fallen-agrees d h j run;
  closes = λ epoch. closes-agrees d h j epoch run;
  heard = λ i epoch. heard-agrees d h j i epoch run;
  mode = mode-agrees d h j run;
  fronts = λ i g. front-agrees d h i g j v run;
  pool = pool-agrees d h j v run;
  waiting = waiting-agrees d h j v run;
  best = λ i. best-agrees d h j i v run;
  last = λ i. last-agrees d h j i v run;
  versions = λ x. store-agrees d h j x v run;
  beats = λ k. made-agrees d h j k v run;
}

pub link-agrees : (d : Deployed) (h : List Entry) (e : ℕ) (t : TreeShape) (u v : NodeId) → tree_of d e ≡ Some t → link_left d h e u v ≡ drop (taken d h e u v) (entered d h e t u v)
link-agrees d h e t u v is = ap (λ (o : Option TreeShape). elim o [ None ↦ [] | Some t ↦ drop (taken d h e u v) (entered d h e t u v) ]) is

client-agrees : (d : Deployed) (h : List Entry) (c : ℕ) → ClientAgrees d h c (world_state d h)
unfolding world_state
client-agrees d h c = record { point = refl; moving = refl; seat = refl }

pub parts-agree : EachPartAgrees
unfolding world_state
parts-agree d h v run = record {
  sinks = λ i. sink-agrees d h i v run;
  views = λ j. view-agreed d h j v run;
  links = λ e t u w is. link-agrees d h e t u w is;
  dead = λ e z. refl;
  clients = λ c. client-agrees d h c;
}
