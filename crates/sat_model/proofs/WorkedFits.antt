-- Worked inputs: whether each fits, computed.
use Rattle.std.specs.Prelude.{◌≡◌, ℕ, ◌+◌, ◌^◌, ◌==◌, Bool, true, false, List, [], ◌∷◌, map, Option, Some, None, codes, refl, if◌then◌else◌}
use Rattle.sat_label.specs.declared.carried.Carried.{Carried}
use Rattle.sat_label.specs.declared.label.Kind.{Kind}
use Rattle.sat_label.specs.declared.items.Items.TheVariants.{One, Two, Three, Four}
use Rattle.sat_label.specs.declared.label.Kind.TheVariants as kind
use Rattle.sat_label.specs.declared.label.Label.{Label}
use Rattle.sat_label.specs.declared.point.Point.{Point}
use Rattle.sat_label.specs.Order.{point_at, zero_point}
use Rattle.sat_act.specs.declared.deployment.Item.{Item}
use Rattle.sat_act.specs.declared.deployment.Plan.TheVariants as plan
use Rattle.sat_act.specs.Deployed.{Deployed}
use Rattle.sat_act.specs.Parts.{BeatNote, replicates, items_of}
use Rattle.sat_bulk.specs.Payloads.{Payload}
use Rattle.sat_model.specs.State.{SiteState, fresh_site}
use Rattle.sat_model.specs.Input.{SiteInput}
use Rattle.sat_model.specs.Input.{Tick, Clock, Write, Read, Move, Attach, Gather, Emit, Pulse, Turn, Bulk, Beat, BeatIn, Stamp, Close, Fall, Advance}
use Rattle.sat_model.specs.Fits.{fits}

abbrev item : List ℕ → ℕ → Item
item name bits = record { name = name; replicas = record { bits = bits } }

-- three sites of two gears; x is kept at the first two, y at the last two, z at the first alone; two epochs
abbrev three_sites : Deployed
three_sites = record {
  format = 2;
  sites = 3;
  gears = 2;
  items = item (codes "x") 3 ∷ item (codes "y") 6 ∷ item (codes "z") 1 ∷ [];
  clients = [];
  plans = plan.Stamp ∷ plan.Stamp ∷ [];
}

abbrev label : ℕ → ℕ → Kind → Label
label ts site k = record { point = point_at ts site 0; kind = k }

-- two values
abbrev v : List ℕ
v = codes "v"

abbrev w : List ℕ
w = codes "w"

abbrev with_parts : ℕ → ℕ → Kind → List (Option (List ℕ)) → Payload
with_parts ts site k parts = record { label = label ts site k; values = parts }

-- with a value for each item
abbrev payload : ℕ → ℕ → Kind → Payload
payload ts site k = with_parts ts site k (map (λ x. Some v) (items_of k))

-- the second site in its first view: it took the number 0 of each lane, and an update of x waits
abbrev second_site : SiteState
second_site = record (fresh_site 1) { proxy = record { taken = λ k g. 0 ∷ []; pool = payload 5 0 (kind.Update (One 0)) ∷ []; beats = λ k. []; last = λ k. point_at 0 k 0 } }

abbrev seen : ℕ → ℕ → Option ℕ → Carried
seen ts site goal = record { point = point_at ts site 0; moving = goal }

-- a beat with this cut, and this close cut of one epoch
abbrev note : Point → ℕ → Point → BeatNote
note cut epoch close = record { cut = cut; closes = λ e. if e == epoch then Some close else None; counts = λ g. 0 }

-- each input fits the second site or not, as stands beside it
abbrev Fitting : List (SiteInput × Bool) → Type 0
Fitting rows = map (λ row. fits three_sites 1 second_site row.0) rows ≡ map (λ row. row.1) rows

-- the last timestamp, and the one past it
abbrev last : ℕ
last = 2 ^ 62

abbrev past : ℕ
past = 2 ^ 62 + 1

timestamps_and_gears : Fitting (
    (Tick 1 last, true) ∷
    (Tick 1 past, false) ∷
    (Tick 2 5, false) ∷
    (Clock last, true) ∷
    (Clock past, false) ∷ [])
unfolding fits
timestamps_and_gears = refl

clients_inputs : Fitting (
    (Write (seen last 2 None) (One 2) (v ∷ []), true) ∷
    (Write (seen past 2 None) (One 2) (v ∷ []), false) ∷
    (Write (seen 4 3 None) (One 2) (v ∷ []), false) ∷
    (Write (seen 4 2 None) (One 3) (v ∷ []), false) ∷
    (Write (seen 4 2 None) (One 2) [], false) ∷
    (Write (seen 4 2 None) (One 2) (v ∷ w ∷ []), false) ∷
    (Write (seen 4 2 None) (Two 0 2) (v ∷ w ∷ []), true) ∷
    (Write (seen 4 2 None) (Two 0 2) (v ∷ []), false) ∷
    (Write (seen 4 2 None) (Two 0 3) (v ∷ w ∷ []), false) ∷
    (Write (seen 4 2 None) (Two 2 0) (v ∷ w ∷ []), false) ∷
    (Write (seen 4 2 None) (Two 2 2) (v ∷ w ∷ []), false) ∷
    (Write (seen 4 2 None) (Three 0 1 2) (v ∷ w ∷ v ∷ []), true) ∷
    (Read (seen 4 2 (Some 2)) 0, true) ∷
    (Read (seen 4 2 (Some 3)) 0, false) ∷
    (Read (seen 4 2 None) 3, false) ∷
    (Move (seen 4 2 None) 2, true) ∷
    (Move (seen 4 2 None) 3, false) ∷
    (Attach (seen 0 0 (Some 1)), true) ∷
    (Attach (seen past 0 (Some 1)), false) ∷
    (Attach (seen 0 0 (Some 3)), false) ∷ [])
unfolding fits
clients_inputs = refl

fronts : Fitting (
    (Turn None, true) ∷
    (Turn (Some (label last 0 (kind.Update (One 2)))), true) ∷
    (Turn (Some (label past 0 (kind.Update (One 2)))), false) ∷
    (Turn (Some (label 4 1 (kind.Update (One 0)))), false) ∷
    (Turn (Some (label 4 3 (kind.Update (One 0)))), false) ∷
    (Turn (Some (label 4 0 (kind.Update (One 3)))), false) ∷
    (Turn (Some (label 4 0 (kind.Update (Two 0 2)))), true) ∷
    (Turn (Some (label 4 0 (kind.Update (Two 0 3)))), false) ∷
    (Turn (Some (label 4 0 (kind.Update (Two 2 0)))), false) ∷
    (Turn (Some (label 4 0 (kind.Update (Two 0 0)))), false) ∷
    (Turn (Some (label 4 0 (kind.Move 2))), true) ∷
    (Turn (Some (label 4 0 (kind.Move 3))), false) ∷
    (Turn (Some (label 4 0 kind.Pulse)), true) ∷
    (Turn (Some (label 4 0 (kind.Close 1))), true) ∷
    (Turn (Some (label 4 0 (kind.Close 2))), false) ∷ [])
unfolding fits
fronts = refl

-- the number 0 was taken, and the number 1 was not
payloads : Fitting (
    (Bulk 0 1 1 (payload last 0 (kind.Update (One 0))), true) ∷
    (Bulk 0 1 1 (payload past 0 (kind.Update (One 0))), false) ∷
    (Bulk 2 1 1 (payload 6 2 (kind.Update (One 1))), true) ∷
    (Bulk 2 1 1 (payload 6 0 (kind.Update (One 1))), false) ∷
    (Bulk 1 1 1 (payload 6 1 (kind.Update (One 1))), false) ∷
    (Bulk 3 1 1 (payload 6 3 (kind.Update (One 1))), false) ∷
    (Bulk 0 2 1 (payload 6 0 (kind.Update (One 0))), false) ∷
    (Bulk 0 1 1 (payload 6 0 (kind.Update (One 2))), false) ∷
    (Bulk 0 1 1 (payload 6 0 (kind.Update (One 3))), false) ∷
    (Bulk 0 1 1 (payload 6 0 (kind.Update (Two 0 2))), true) ∷
    (Bulk 0 1 1 (payload 6 0 (kind.Update (Two 1 2))), true) ∷
    (Bulk 0 1 1 (payload 6 0 (kind.Update (Four 0 1 2 3))), false) ∷
    (Bulk 0 1 1 (payload 6 0 (kind.Update (Two 1 0))), false) ∷
    (Bulk 0 1 1 (payload 6 0 (kind.Update (Two 0 0))), false) ∷
    (Bulk 0 1 1 (payload 6 0 (kind.Move 1)), false) ∷
    (Bulk 0 1 0 (payload 5 0 (kind.Update (One 0))), true) ∷
    (Bulk 0 1 1 (payload 5 0 (kind.Update (One 0))), false) ∷
    (Bulk 0 1 last (payload 5 0 (kind.Update (One 1))), false) ∷ [])
unfolding fits replicates
payloads = refl

-- a value for each item that is kept here, and a place for each that is not
parts_of_groups : Fitting (
    (Bulk 0 1 1 (with_parts 6 0 (kind.Update (One 0)) []), false) ∷
    (Bulk 0 1 1 (with_parts 6 0 (kind.Update (One 0)) (None ∷ [])), false) ∷
    (Bulk 0 1 1 (with_parts 6 0 (kind.Update (One 0)) (Some v ∷ Some w ∷ [])), false) ∷
    (Bulk 0 1 1 (with_parts 6 0 (kind.Update (Two 0 2)) (Some v ∷ None ∷ [])), true) ∷
    (Bulk 0 1 1 (with_parts 6 0 (kind.Update (Two 0 2)) (None ∷ Some w ∷ [])), false) ∷
    (Bulk 0 1 1 (with_parts 6 0 (kind.Update (Two 0 2)) (Some v ∷ [])), false) ∷
    (Bulk 0 1 1 (with_parts 6 0 (kind.Update (Two 0 1)) (Some v ∷ None ∷ [])), false) ∷
    (Bulk 0 1 1 (with_parts 6 0 (kind.Update (Three 0 1 2)) (Some v ∷ Some w ∷ None ∷ [])), true) ∷ [])
unfolding fits replicates
parts_of_groups = refl

-- the close of an epoch that has no plan is not looked at
beats_made_and_taken : Fitting (
    (Beat 0, true) ∷
    (Beat 1, false) ∷
    (Beat 3, false) ∷
    (BeatIn 2 last (note (point_at last 2 9) 2 (point_at last 2 9)), true) ∷
    (BeatIn 1 0 (note zero_point 1 zero_point), false) ∷
    (BeatIn 3 0 (note zero_point 1 zero_point), false) ∷
    (BeatIn 2 0 (note (point_at past 2 9) 1 zero_point), false) ∷
    (BeatIn 2 0 (note (point_at 4 3 9) 1 zero_point), false) ∷
    (BeatIn 2 0 (note zero_point 1 (point_at past 2 9)), false) ∷
    (BeatIn 2 0 (note zero_point 2 (point_at 4 3 9)), false) ∷
    (BeatIn 2 0 (note zero_point 3 (point_at past 3 9)), true) ∷ [])
unfolding fits
beats_made_and_taken = refl

inputs_without_numbers : Fitting ((Gather, true) ∷ (Emit, true) ∷ (Pulse, true) ∷ (Stamp, true) ∷ (Close, true) ∷ (Fall, true) ∷ (Advance, true) ∷ [])
unfolding fits
inputs_without_numbers = refl
