-- A worked run of two sites of two gears: what each node of the first site and the second site's hub and gears keep of it, computed.
use Rattle.std.specs.Prelude.{◌≡◌, false, ℕ, List, [], ◌∷◌, map, flat_map, length, None, unwrap_or, codes, refl}
use Rattle.sat_label.specs.declared.items.Items.TheVariants.{Two}
use Rattle.sat_label.specs.declared.node.NodeId.TheVariants.{Site}
use Rattle.sat_act.specs.declared.act.Act.{Act}
use Rattle.sat_act.specs.declared.act.Act.TheVariants.{Tick, Write, Writes, Read, Gather, Emit, Hop, Turn, Bulk}
use Rattle.sat_act.specs.declared.deployment.Plan.TheVariants as plan
use Rattle.sat_act.specs.declared.entry.Entry.{Entry}
use Rattle.sat_act.specs.declared.deployment.Item.{Item}
use Rattle.sat_act.specs.Deployed.{Deployed}
use Rattle.sat_act.specs.Answers.{answer}
use Rattle.sat_act.specs.Parts.{replicates}
use Rattle.sat_model.specs.Look.{payload_in}
use Rattle.sat_stitch.specs.Given.{kept_all}
use Rattle.sat_joint.specs.Pieces.{Handed, Plain, Drains, Drained, Showing, Piece}
use Rattle.sat_joint.specs.Table.{Node, AtHub, AtGear}
use Rattle.sat_joint.specs.Machines.{hub_after, gear_after}
use Rattle.sat_joint.specs.Split.{split_lists}

abbrev item : List ℕ → ℕ → Item
item name bits = record { name = name; replicas = record { bits = bits } }

-- two sites of two gears, a client at each site, and one serializer. Both sites keep x, of gear 0, and y, of gear 1, is kept by these sites
abbrev two_gears : ℕ → Deployed
two_gears bits = record {
  format = 2;
  sites = 2;
  gears = 2;
  items = item (codes "x") 3 ∷ item (codes "y") bits ∷ [];
  clients = record { name = codes "a"; site = 0 } ∷ record { name = codes "b"; site = 1 } ∷ [];
  plans = plan.Tree (record { parents = None ∷ []; seats = 0 ∷ 0 ∷ [] }) ∷ [];
}

-- the history of acts, the oldest first
play : Deployed → List Entry → List Act → List Entry
unfolding answer
play d h [] = h
play d h (a ∷ acts) = play d (record { act = a; answer = answer d h a; inner = false } ∷ h) acts

-- what was handed, in a word: 0 for what the act uses, 1 for the labels of two gears, 2 for being drained, 3 for a payload to show
abbrev word : Handed → List ℕ
word (Plain x) = 0 ∷ []
word (Drains f) = 1 ∷ length (f 0).labels ∷ length (f 1).labels ∷ []
word Drained = 2 ∷ []
word (Showing p) = 3 ∷ flat_map (λ part. unwrap_or part []) p.values

abbrev told : Piece → ℕ × List ℕ
told k = (k.number, word k.handed)

abbrev acts : List Act
acts = Write 0 0 (codes "v") ∷ Write 0 1 (codes "w") ∷ Tick 0 0 5 ∷ Gather 0 ∷ Emit 0 ∷ Hop 1 (Site 0) 0 ∷ Bulk 0 0 1 None ∷ Turn 1 ∷ Read 1 0 ∷ []

-- what the node keeps of these acts
abbrev kept_at : ℕ → List Act → Node → List (ℕ × List ℕ)
kept_at bits done p = map told (split_lists (two_gears bits) (kept_all (two_gears bits) (play (two_gears bits) [] done)) p)

abbrev first_at : Node → List (ℕ × List ℕ)
first_at p = kept_at 3 acts p

-- the newest first
first-hub : first_at (AtHub 0) ≡ (5, 0 ∷ []) ∷ (4, 1 ∷ 1 ∷ 1 ∷ []) ∷ []
unfolding play gear_after replicates
first-hub = refl

first-gears : (first_at (AtGear 0 0) ≡ (4, 2 ∷ []) ∷ (3, 0 ∷ []) ∷ (1, 0 ∷ []) ∷ []) × (first_at (AtGear 0 1) ≡ (4, 2 ∷ []) ∷ (2, 0 ∷ []) ∷ [])
unfolding play gear_after hub_after replicates
first-gears = (refl, refl)

-- the second site shows x: its hub keeps the turn as its own, gear 0 keeps it with the payload, and then the read; gear 1 keeps nothing
second-site : (first_at (AtHub 1) ≡ (8, 0 ∷ []) ∷ (7, 0 ∷ []) ∷ []) × (first_at (AtGear 1 0) ≡ (9, 0 ∷ []) ∷ (8, 3 ∷ codes "v") ∷ []) × (first_at (AtGear 1 1) ≡ [])
unfolding play gear_after hub_after payload_in replicates
second-site = (refl, refl, refl)

-- ---- a write of both items

abbrev both : List Act
both = Writes 0 (Two 0 1) (codes "v" ∷ codes "w" ∷ []) ∷ Tick 0 1 1 ∷ Gather 0 ∷ Emit 0 ∷ Hop 1 (Site 0) 0 ∷ Bulk 0 0 1 None ∷ Turn 1 ∷ []

-- gear 0 writes, and gear 1 keeps the write with the payload. The label is gear 0's alone
writing-gears : (kept_at 3 both (AtGear 0 0) ≡ (3, 2 ∷ []) ∷ (1, 0 ∷ []) ∷ []) × (kept_at 3 both (AtGear 0 1) ≡ (3, 2 ∷ []) ∷ (2, 0 ∷ []) ∷ (1, 3 ∷ codes "vw") ∷ []) × (kept_at 3 both (AtHub 0) ≡ (4, 0 ∷ []) ∷ (3, 1 ∷ 1 ∷ 0 ∷ []) ∷ [])
unfolding play gear_after hub_after payload_in replicates
writing-gears = (refl, refl, refl)

-- the second site shows both at once, each at its gear; where it keeps x alone, gear 1 has no part in it
shown-gears : (kept_at 3 both (AtGear 1 0) ≡ (7, 3 ∷ codes "vw") ∷ []) × (kept_at 3 both (AtGear 1 1) ≡ (7, 3 ∷ codes "vw") ∷ []) × (kept_at 1 both (AtGear 1 0) ≡ (7, 3 ∷ codes "vw") ∷ []) × (kept_at 1 both (AtGear 1 1) ≡ [])
unfolding play gear_after hub_after payload_in replicates
shown-gears = (refl, refl, refl, refl)
