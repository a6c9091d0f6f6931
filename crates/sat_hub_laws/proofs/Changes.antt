-- What acts make of hubs and gears, each by computation.
use Rattle.std.specs.Prelude.{◌≡◌, ℕ, Bool, true, ◌&&◌, List, [], ◌∷◌, ◌++◌, if◌then◌else◌, refl}
use Rattle.std.proofs.Common.{ap}
use Rattle.sat_label.proofs.Truth.{same-number}
use Rattle.sat_label.specs.declared.label.Label.{Label}
use Rattle.sat_act.specs.declared.answer.Answer.TheVariants as ans
use Rattle.sat_act.specs.declared.answer.Refusal.{Refusal}
use Rattle.sat_act.specs.Deployed.{Deployed}
use Rattle.sat_act.specs.Parts.{is_target, is_update_of, items_of, value_for}
use Rattle.sat_model.specs.Next.{payload_at, put, version_at}
use Rattle.sat_joint.specs.Machines.{HubState, GearNode}
use Rattle.sat_hub_laws.specs.Inputs.{GearInput, HubInput}
use Rattle.sat_hub_laws.specs.Inputs as given
use Rattle.sat_hub_laws.specs.Hubs.{hub_then}
use Rattle.sat_hub_laws.specs.Gears.{gear_then}
use Rattle.sat_hub_laws.specs.Changes.{GearsChange, HubsChange, input_is_own}

hub-refused : (d : Deployed) (i : ℕ) (h : HubState) (input : HubInput) (f : Refusal) → hub_then d i h input (ans.Refused f) ≡ h
hub-refused d i h (given.Gather w) f = refl
hub-refused d i h _ f = refl

hub-again : (d : Deployed) (i : ℕ) (h : HubState) (input : HubInput) → hub_then d i h input ans.Again ≡ h
hub-again d i h (given.Gather w) = refl
hub-again d i h _ = refl

hub-old : (d : Deployed) (i : ℕ) (h : HubState) (input : HubInput) → hub_then d i h input ans.Old ≡ h
hub-old d i h (given.Gather w) = refl
hub-old d i h _ = refl

pub hubs-change : HubsChange
hubs-change d i h = record {
  refused = hub-refused d i h;
  again = hub-again d i h;
  old = hub-old d i h;
  attach = λ seen. refl;
  gather = λ f labels stable. refl;
  emit = λ l. refl;
  pulse = λ l. refl;
  turn = λ front l. refl;
  take = λ front l. refl;
  bulk = λ from gear n p l. refl;
  beat = λ to n. refl;
  beat_in = λ from n note. refl;
  stamp = λ l. refl;
  close = λ e p. refl;
  fall = refl;
  advance = λ v. refl;
}

gear-refused : (d : Deployed) (g : ℕ) (n : GearNode) (input : GearInput) (f : Refusal) → input_is_own input ≡ true → gear_then d g n input (ans.Refused f) ≡ n
gear-refused d g n (given.Drain w labels stable) f e = absurd (cc)
gear-refused d g n (given.Show by p) f e = absurd (cc)
gear-refused d g n _ f e = refl

abbrev wrote_if : Deployed → GearNode → Label → List (List ℕ) → Bool → GearNode
wrote_if d n l values b = record {
  gear = record {
    promise = if b then l.point.ts else n.gear.promise;
    fresh = if b then n.gear.fresh ++ l ∷ [] else n.gear.fresh;
    lanes = λ j. if b && is_target d l j then n.gear.lanes j ++ payload_at l values ∷ [] else n.gear.lanes j;
  };
  store = λ x. if is_update_of l.kind x then put (n.store x) (version_at l (value_for (items_of l.kind) values x)) else n.store x;
}

abbrev moved_if : GearNode → Label → Bool → GearNode
moved_if n l b = record {
  gear = record { promise = if b then l.point.ts else n.gear.promise; fresh = if b then n.gear.fresh ++ l ∷ [] else n.gear.fresh; lanes = n.gear.lanes };
  store = n.store;
}

pub gears-change : GearsChange
gears-change d g n = record {
  refused = gear-refused d g n;
  tick = λ ts t. ticked ts t;
  write = λ seen items values l e. ap (wrote_if d n l values) e;
  read = λ seen x l value. refl;
  missed = λ seen x. refl;
  move = λ seen j l e. ap (moved_if n l) e;
}
  where
    ticked : (ts t : ℕ) → gear_then d g n (given.Tick ts) (ans.Ticked t) ≡ record { gear = record { promise = t; fresh = n.gear.fresh; lanes = n.gear.lanes }; store = n.store }
    ticked ts t = ap (λ (b : Bool). record { gear = record { promise = if b then t else n.gear.promise; fresh = n.gear.fresh; lanes = n.gear.lanes }; store = n.store }) (same-number g)
