-- Which acts are handed to a hub, and which to a gear.
use Rattle.std.specs.Prelude.{◌≡◌, ℕ, Bool, true, false, ◌&&◌, ◌==◌, List, [], ◌∷◌, Option, Some, None, refl}
use Rattle.std.proofs.Common.{sym, subst, ap, ◌∙◌}
use Rattle.std.proofs.lemmas.Bool.{eqb-true, and_parts}
use Rattle.sat_label.proofs.Truth.{same-number}
use Rattle.sat_label.specs.declared.items.Items.{Items}
use Rattle.sat_label.specs.declared.items.Items.TheVariants.{One}
use Rattle.sat_label.specs.Words.{has}
use Rattle.sat_act.specs.declared.act.Act.{Act}
use Rattle.sat_act.specs.declared.act.Act.TheVariants as act
use Rattle.sat_act.specs.declared.answer.Answer.{Answer}
use Rattle.sat_act.specs.declared.answer.Answer.TheVariants as ans
use Rattle.sat_act.specs.Deployed.{Deployed}
use Rattle.sat_act.specs.Answers.{gear_of}
use Rattle.sat_laws.proofs.Labels.{some_is}
use Rattle.sat_model.specs.Input.{SiteInput}
use Rattle.sat_model.specs.Input as given
use Rattle.sat_model.specs.Reply.{gear_for, site_answer}
use Rattle.sat_stitch.specs.Kept.{Given, OfFront, OfPayload, OfBeat, OfClient}
use Rattle.sat_stitch.specs.Nodes.{input_of}
use Rattle.sat_joint.specs.Table.{Node, AtHub, AtGear, same_node, item_node, first_node, seat_nodes, attach_nodes, client_nodes, shown_nodes, group_nodes, nodes, is_shared, is_first}
use Rattle.sat_joint.specs.Machines.{HubState, GearNode, kept_store, whole, gear_alone, is_gather}
use Rattle.sat_joint.proofs.Nodes.{node-is, IsBeside, beside, home-one, shared-no-hub}
use Rattle.sat_joint.proofs.Sites.{IsGearAct, write-act, reads-act, move-act, ticks-act, is_hubs, is_show, is_gears}

abbrev hubs_opt : Option SiteInput → Bool
hubs_opt None = true
hubs_opt (Some input) = is_hubs input

abbrev shows_opt : Option SiteInput → Bool
shows_opt None = false
shows_opt (Some input) = is_show input

-- ---- at a hub

seat-no-hub : (c : ℕ) (at : ℕ → ℕ) (o : Option ℕ) (i : ℕ) → is_first (AtHub i) (seat_nodes c (λ i. AtGear i (at i)) o) ≡ true → ⊥
seat-no-hub c at None i e = cc
seat-no-hub c at (Some t) i e = cc

pub group-not-hub : (d : Deployed) (c : ℕ) (items : Items) (r : Answer) (o : Option ℕ) (i : ℕ) → is_first (AtHub i) (group_nodes d c items r o) ≡ true → ⊥
group-not-hub d c items r None i e = cc
group-not-hub d c items r (Some t) i e = cc

pub client-no-hub : (at : Option ℕ → List Node) (x : Given) (i : ℕ) → ((o : Option ℕ) → is_first (AtHub i) (at o) ≡ true → ⊥) → is_first (AtHub i) (client_nodes at x) ≡ true → ⊥
client-no-hub at (OfClient seen seat) i k e = k seat e
client-no-hub at _ i k e = cc

-- what is handed to a hub is a hub's input
hubs-of : (d : Deployed) (a : Act) (x : Given) (r : Answer) (i : ℕ) → is_first (AtHub i) (nodes d a x r) ≡ true → is_gather a ≡ false → hubs_opt (input_of a x) ≡ true
hubs-of d (act.Tick t g u) x r i e n = absurd (cc)
hubs-of d (act.Write c y value) x r i e n = absurd (client-no-hub (seat_nodes c (item_node d y)) x i (λ o. seat-no-hub c (λ i. gear_of d y) o i) e)
hubs-of d (act.Writes c items values) x r i e n = absurd (client-no-hub (group_nodes d c items r) x i (λ o. group-not-hub d c items r o i) e)
hubs-of d (act.Read c y) x r i e n = absurd (client-no-hub (seat_nodes c (item_node d y)) x i (λ o. seat-no-hub c (λ i. gear_of d y) o i) e)
hubs-of d (act.Move c j) x r i e n = absurd (client-no-hub (seat_nodes c first_node) x i (λ o. seat-no-hub c (λ i. 0) o i) e)
hubs-of d (act.Leave c) x r i e n = absurd (cc)
hubs-of d (act.Attach c j) (OfClient seen seat) r i e n = refl
hubs-of d (act.Attach c j) _ r i e n = refl
hubs-of d (act.Gather t) x r i e n = absurd (cc)
hubs-of d (act.Emit t) x r i e n = refl
hubs-of d (act.Pulse t) x r i e n = refl
hubs-of d (act.Hop s u z) x r i e n = absurd (cc)
hubs-of d (act.Turn t) (OfFront o) r i e n = refl
hubs-of d (act.Turn t) _ r i e n = refl
hubs-of d (act.Bulk t g j o) (OfPayload c p) r i e n = refl
hubs-of d (act.Bulk t g j o) _ r i e n = refl
hubs-of d (act.Beat t j) x r i e n = refl
hubs-of d (act.BeatIn t j c) (OfBeat note) r i e n = refl
hubs-of d (act.BeatIn t j c) _ r i e n = refl
hubs-of d (act.Stamp t) x r i e n = refl
hubs-of d (act.Close t) x r i e n = refl
hubs-of d (act.Fall t) x r i e n = refl
hubs-of d (act.Advance t) x r i e n = refl
hubs-of d (act.Kill s z) x r i e n = absurd (cc)
hubs-of d act.Clock x r i e n = absurd (cc)
hubs-of d act.Settle x r i e n = absurd (cc)

pub hub-input : (d : Deployed) (a : Act) (x : Given) (r : Answer) (i : ℕ) (input : SiteInput) → is_first (AtHub i) (nodes d a x r) ≡ true → is_gather a ≡ false → input_of a x ≡ Some input → is_hubs input ≡ true
hub-input d a x r i input e n w = sym (ap hubs_opt w) ∙ hubs-of d a x r i e n

abbrev shows_act : Act → Bool
shows_act (act.Turn t) = true
shows_act (act.Stamp t) = true
shows_act _ = false

shows-of : (a : Act) (x : Given) → shows_opt (input_of a x) ≡ true → shows_act a ≡ true
shows-of (act.Turn t) x e = refl
shows-of (act.Stamp t) x e = refl
shows-of (act.Write c y value) (OfClient seen seat) e = absurd (cc)
shows-of (act.Writes c items values) (OfClient seen seat) e = absurd (cc)
shows-of (act.Read c y) (OfClient seen seat) e = absurd (cc)
shows-of (act.Move c j) (OfClient seen seat) e = absurd (cc)
shows-of (act.Attach c j) (OfClient seen seat) e = absurd (cc)
shows-of (act.Bulk t g j o) (OfPayload n p) e = absurd (cc)
shows-of (act.BeatIn t j n) (OfBeat note) e = absurd (cc)
shows-of _ _ e = absurd (cc)

hub-at : (d : Deployed) (t i : ℕ) (r : Answer) → (t == i) ≡ true → (AtHub t ∷ shown_nodes d t r) ≡ AtHub i ∷ shown_nodes d i r
hub-at d t i r e = ap (λ (i : ℕ). AtHub i ∷ shown_nodes d i r) (eqb-true t i e)

show-nodes : (d : Deployed) (a : Act) (x : Given) (r : Answer) (i : ℕ) → is_first (AtHub i) (nodes d a x r) ≡ true → shows_act a ≡ true → nodes d a x r ≡ AtHub i ∷ shown_nodes d i r
show-nodes d (act.Turn t) x r i e w = hub-at d t i r e
show-nodes d (act.Stamp t) x r i e w = hub-at d t i r e
show-nodes d _ x r i e w = absurd (cc)

-- the nodes of an act that may show
pub shown-there : (d : Deployed) (a : Act) (x : Given) (r : Answer) (i : ℕ) (input : SiteInput) → is_first (AtHub i) (nodes d a x r) ≡ true → input_of a x ≡ Some input → is_show input ≡ true → nodes d a x r ≡ AtHub i ∷ shown_nodes d i r
shown-there d a x r i input e w s = show-nodes d a x r i e (shows-of a x (ap shows_opt w ∙ s))

-- a hub's gears have no part in an act that neither gathers nor shows
quiet-nodes : (d : Deployed) (a : Act) (x : Given) (r : Answer) (t i g : ℕ) → is_shared a ≡ true → is_first (AtHub t) (nodes d a x r) ≡ true → is_gather a ≡ false → is_gears r ≡ false → has same_node (nodes d a x r) (AtGear i g) ≡ false
quiet-nodes d (act.Gather s) x r t i g j e n q = absurd (cc)
quiet-nodes d (act.Turn s) x r t i g j e n q = ap (λ (ns : List Node). has same_node (AtHub s ∷ ns) (AtGear i g)) (quiet r q)
  where
    quiet : (r : Answer) → is_gears r ≡ false → shown_nodes d s r ≡ []
    quiet (ans.Shown l) q = absurd (cc)
    quiet _ q = refl
quiet-nodes d (act.Stamp s) x r t i g j e n q = ap (λ (ns : List Node). has same_node (AtHub s ∷ ns) (AtGear i g)) (quiet r q)
  where
    quiet : (r : Answer) → is_gears r ≡ false → shown_nodes d s r ≡ []
    quiet (ans.Shown l) q = absurd (cc)
    quiet _ q = refl
quiet-nodes d (act.Writes c items values) x r t i g j e n q = absurd (client-no-hub (group_nodes d c items r) x t (λ o. group-not-hub d c items r o t) e)
quiet-nodes d _ x r t i g j e n q = absurd (cc)

pub not-first : (ns : List Node) (i j g : ℕ) → is_first (AtHub i) ns ≡ true → is_first (AtGear j g) ns ≡ false
not-first ns i j g e = go (is_first (AtGear j g) ns) refl
  where
    go : (b : Bool) → is_first (AtGear j g) ns ≡ b → b ≡ false
    go true w = absurd (let z : AtHub i ≡ AtGear j g = home-one ns (AtHub i) (AtGear j g) e w in cc)
    go false w = refl

pub quiet-alone : (d : Deployed) (a : Act) (x : Given) (r : Answer) (i g : ℕ) → is_first (AtHub i) (nodes d a x r) ≡ true → is_gather a ≡ false → is_gears r ≡ false → has same_node (nodes d a x r) (AtGear i g) ≡ false
quiet-alone d a x r i g e n q = go (has same_node (nodes d a x r) (AtGear i g)) refl
  where
    go : (b : Bool) → has same_node (nodes d a x r) (AtGear i g) ≡ b → b ≡ false
    go true w =
        let b : IsBeside (AtGear i g) a = beside d a x r (AtGear i g) w (not-first (nodes d a x r) i i g e) in
        sym w ∙ quiet-nodes d a x r i i g b.joint e n q
    go false w = refl

pub gather-is : (d : Deployed) (a : Act) (x : Given) (r : Answer) (i : ℕ) → is_first (AtHub i) (nodes d a x r) ≡ true → is_gather a ≡ true → a ≡ act.Gather i
gather-is d (act.Gather t) x r i e w = ap act.Gather (eqb-true t i e)
gather-is d _ x r i e w = absurd (cc)

-- ---- at a gear

gear-first : (t h i g : ℕ) → ((t == i) && (h == g)) ≡ true → (AtGear t h ∷ []) ≡ AtGear i g ∷ []
gear-first t h i g e = ap (λ (p : Node). p ∷ []) (node-is (AtGear t h) (AtGear i g) e)

gear-number : (t h i g : ℕ) → ((t == i) && (h == g)) ≡ true → h ≡ g
gear-number t h i g e = eqb-true h g (and_parts (t == i) (h == g) e).1

seat-gears : (c : ℕ) (at : ℕ → ℕ) (o : Option ℕ) (i g : ℕ) → is_first (AtGear i g) (seat_nodes c (λ i. AtGear i (at i)) o) ≡ true → seat_nodes c (λ i. AtGear i (at i)) o ≡ AtGear i g ∷ []
seat-gears c at None i g e = absurd (cc)
seat-gears c at (Some t) i g e = gear-first t (at t) i g e

client-gears : (at : Option ℕ → List Node) (x : Given) (i g : ℕ) → ((o : Option ℕ) → is_first (AtGear i g) (at o) ≡ true → at o ≡ AtGear i g ∷ []) → is_first (AtGear i g) (client_nodes at x) ≡ true → client_nodes at x ≡ AtGear i g ∷ []
client-gears at (OfClient seen seat) i g k e = k seat e
client-gears at _ i g k e = absurd (cc)

attach-gears : (c j : ℕ) (o : Option ℕ) (i g : ℕ) → is_first (AtGear i g) (attach_nodes c j o) ≡ true → ⊥
attach-gears c j None i g e = cc
attach-gears c j (Some t) i g e = cc

-- an act that is not shared, and whose home is a gear, has no other node
pub gear-home : (d : Deployed) (a : Act) (x : Given) (r : Answer) (i g : ℕ) → is_shared a ≡ false → is_first (AtGear i g) (nodes d a x r) ≡ true → nodes d a x r ≡ AtGear i g ∷ []
gear-home d (act.Tick t h u) x r i g n e = gear-first t h i g e
gear-home d (act.Write c y value) x r i g n e = client-gears (seat_nodes c (item_node d y)) x i g (λ o. seat-gears c (λ i. gear_of d y) o i g) e
gear-home d (act.Read c y) x r i g n e = client-gears (seat_nodes c (item_node d y)) x i g (λ o. seat-gears c (λ i. gear_of d y) o i g) e
gear-home d (act.Move c j) x r i g n e = client-gears (seat_nodes c first_node) x i g (λ o. seat-gears c (λ i. 0) o i g) e
gear-home d (act.Attach c j) x r i g n e = client-gears (attach_nodes c j) x i g (λ o w. absurd (attach-gears c j o i g w)) e
gear-home d (act.Writes c items values) x r i g n e = absurd (cc)
gear-home d _ x r i g n e = absurd (cc)

-- an act whose home is a gear has no hub
pub gear-no-hub : (d : Deployed) (a : Act) (x : Given) (r : Answer) (i g t : ℕ) → is_first (AtGear i g) (nodes d a x r) ≡ true → has same_node (nodes d a x r) (AtHub t) ≡ false
gear-no-hub d a x r i g t e = go (is_shared a) refl
  where
    go : (b : Bool) → is_shared a ≡ b → has same_node (nodes d a x r) (AtHub t) ≡ false
    go true n = shared-no-hub d a x r i g t n e
    go false n = ap (λ (ns : List Node). has same_node ns (AtHub t)) (gear-home d a x r i g n e)

-- and no other gear is its home
pub one-gear : (ns : List Node) (i g n : ℕ) → is_first (AtGear i g) ns ≡ true → (g == n) ≡ false → is_first (AtGear i n) ns ≡ false
one-gear ns i g n e z = go (is_first (AtGear i n) ns) refl
  where
    number-of : (g n : ℕ) → AtGear i g ≡ AtGear i n → g ≡ n
    number-of g n e = cc

    go : (b : Bool) → is_first (AtGear i n) ns ≡ b → b ≡ false
    go true w = absurd (
        let one : g ≡ n = number-of g n (home-one ns (AtGear i g) (AtGear i n) e w) in
        let y : (g == n) ≡ true = subst (λ (n : ℕ). (g == n) ≡ true) one (same-number g) in cc)
    go false w = refl

-- a gather's home is no gear
pub not-gather : (d : Deployed) (a : Act) (x : Given) (r : Answer) (i g : ℕ) → is_first (AtGear i g) (nodes d a x r) ≡ true → is_gather a ≡ false
not-gather d (act.Gather t) x r i g e = absurd (cc)
not-gather d _ x r i g e = refl

-- what an act at a gear answers, and what it leaves
pub record IsAtGear (d : Deployed) (i g : ℕ) (h : HubState) (gs : ℕ → GearNode) (input : SiteInput) : Type 0 where
  pub local : site_answer d i (gear_alone d i (gs g)) input ≡ site_answer d i (whole d i h gs) input
  pub leaves : IsGearAct d i g input (site_answer d i (gear_alone d i (gs g)) input)

module _ (d : Deployed) (i : ℕ) (h : HubState) (gs : ℕ → GearNode) where
  tick-there : (g u : ℕ) → IsAtGear d i g h gs (given.Tick g u)
  unfolding site_answer
  tick-there g u = record { local = refl; leaves = ticks-act d i g u _ }

  write-there : (seen : _) (y : ℕ) (value : List ℕ) → IsAtGear d i (gear_of d y) h gs (given.Write seen (One y) (value ∷ []))
  unfolding site_answer
  write-there seen y value = record { local = refl; leaves = write-act d i (gear_of d y) _ y (gs (gear_of d y)).gear.promise seen.point.ts refl }

  read-there : (seen : _) (y : ℕ) → IsAtGear d i (gear_of d y) h gs (given.Read seen y)
  unfolding site_answer
  read-there seen y = record { local = refl; leaves = reads-act d i (gear_of d y) _ y (kept_store d i (gs (gear_of d y)).store y) }

  move-there : (seen : _) (j : ℕ) → IsAtGear d i 0 h gs (given.Move seen j)
  unfolding site_answer
  move-there seen j = record { local = refl; leaves = move-act d i _ j (gs 0).gear.promise seen.point.ts }

  seat-number : (c : ℕ) (at : ℕ → ℕ) (n : ℕ) (o : Option ℕ) (g : ℕ) → ((i : ℕ) → at i ≡ n) → is_first (AtGear i g) (seat_nodes c (λ i. AtGear i (at i)) o) ≡ true → n ≡ g
  seat-number c at n None g k e = absurd (cc)
  seat-number c at n (Some t) g k e = sym (k t) ∙ gear-number t (at t) i g e

  -- of a write of several items
  group-there : (seen : _) (items : Items) (values : List (List ℕ)) → site_answer d i (gear_alone d i (gs (gear_for d items))) (given.Write seen items values) ≡ site_answer d i (whole d i h gs) (given.Write seen items values)
  unfolding site_answer
  group-there seen items values = refl

  pub at-gear : (a : Act) (x : Given) (r : Answer) (g : ℕ) (input : SiteInput) → is_shared a ≡ false → is_first (AtGear i g) (nodes d a x r) ≡ true → input_of a x ≡ Some input → IsAtGear d i g h gs input
  at-gear (act.Tick t k u) x r g input n e w =
      subst (λ (y : SiteInput). IsAtGear d i g h gs y) (some_is (given.Tick k u) input w) (subst (λ (k : ℕ). IsAtGear d i g h gs (given.Tick k u)) (sym (gear-number t k i g e)) (tick-there g u))
  at-gear (act.Write c y value) (OfClient seen seat) r g input n e w =
      subst (λ (y : SiteInput). IsAtGear d i g h gs y) (some_is (given.Write seen (One y) (value ∷ [])) input w)
      (subst (λ (g : ℕ). IsAtGear d i g h gs (given.Write seen (One y) (value ∷ []))) (seat-number c (λ i. gear_of d y) (gear_of d y) seat g (λ i. refl) e) (write-there seen y value))
  at-gear (act.Writes c items values) x r g input n e w = absurd (cc)
  at-gear (act.Read c y) (OfClient seen seat) r g input n e w =
      subst (λ (y : SiteInput). IsAtGear d i g h gs y) (some_is (given.Read seen y) input w)
      (subst (λ (g : ℕ). IsAtGear d i g h gs (given.Read seen y)) (seat-number c (λ i. gear_of d y) (gear_of d y) seat g (λ i. refl) e) (read-there seen y))
  at-gear (act.Move c j) (OfClient seen seat) r g input n e w =
      subst (λ (y : SiteInput). IsAtGear d i g h gs y) (some_is (given.Move seen j) input w)
      (subst (λ (g : ℕ). IsAtGear d i g h gs (given.Move seen j)) (seat-number c (λ i. 0) 0 seat g (λ i. refl) e) (move-there seen j))
  at-gear (act.Attach c j) (OfClient seen seat) r g input n e w = absurd (attach-gears c j seat i g e)
  at-gear _ _ r g input n e w = absurd (cc)

  abbrev IsLocal : ℕ → SiteInput → Type 0
  IsLocal g input = site_answer d i (gear_alone d i (gs g)) input ≡ site_answer d i (whole d i h gs) input

  group-number : (c : ℕ) (items : Items) (r : Answer) (o : Option ℕ) (g : ℕ) → is_first (AtGear i g) (group_nodes d c items r o) ≡ true → gear_for d items ≡ g
  group-number c items r None g e = absurd (cc)
  group-number c items r (Some t) g e = gear-number t (gear_for d items) i g e

  shared-local : (a : Act) (x : Given) (r : Answer) (g : ℕ) (input : SiteInput) → is_shared a ≡ true → is_first (AtGear i g) (nodes d a x r) ≡ true → input_of a x ≡ Some input → IsLocal g input
  shared-local (act.Gather t) x r g input n e w = absurd (cc)
  shared-local (act.Turn t) x r g input n e w = absurd (cc)
  shared-local (act.Stamp t) x r g input n e w = absurd (cc)
  shared-local (act.Writes c items values) (OfClient seen seat) r g input n e w =
      subst (λ (y : SiteInput). IsLocal g y) (some_is (given.Write seen items values) input w)
      (subst (λ (g : ℕ). IsLocal g (given.Write seen items values)) (group-number c items r seat g e) (group-there seen items values))
  shared-local (act.Writes c items values) _ r g input n e w = absurd (cc)
  shared-local _ x r g input n e w = absurd (cc)

  -- what a gear answers at an act whose home it is, is what the site answers
  pub gear-local : (a : Act) (x : Given) (r : Answer) (g : ℕ) (input : SiteInput) → is_first (AtGear i g) (nodes d a x r) ≡ true → input_of a x ≡ Some input → IsLocal g input
  gear-local a x r g input e w = go (is_shared a) refl
    where
      go : (b : Bool) → is_shared a ≡ b → IsLocal g input
      go true n = shared-local a x r g input n e w
      go false n = (at-gear a x r g input n e w).local
