-- What was kept at each node, by its name; journals as their merge takes them; and whose session keeps an entry too.
use Rattle.std.proofs.Common.{◌≡◌, ◌⊎◌, ℕ, Bool, true, false, ◌==◌, List, [], ◌∷◌, ◌++◌, map, Option, Some, None, slice_get, if◌then◌else◌, refl, sym, ap, ◌∙◌, subst, append_assoc, inl, inr}
use Rattle.std.specs.List.{flat_map}
use Rattle.std.proofs.lemmas.Bool.{and_parts}
use Rattle.std.proofs.lemmas.List.{append-nil, map-append}
use Rattle.sat_label.proofs.Members.{In-left, In-right, In-parts}
use Rattle.sat_label.specs.Members.{In}
use Rattle.sat_label.specs.Words.{below}
use Rattle.sat_label.specs.declared.items.Items.{Items}
use Rattle.sat_label.specs.declared.items.Items.TheVariants.{One, Two, Three, Four}
use Rattle.sat_label.specs.declared.label.Kind.{Kind}
use Rattle.sat_label.specs.declared.label.Kind.TheVariants as kind
use Rattle.sat_label.specs.declared.node.NodeName.{NodeName}
use Rattle.sat_label.specs.declared.node.NodeName.TheVariants as named
use Rattle.sat_act.specs.Deployed.{Deployed}
use Rattle.sat_act.specs.Answers.{gear_of}
use Rattle.sat_model.specs.Fits.{is_carried, is_item, is_site}
use Rattle.sat_model.specs.Reply.{gear_for}
use Rattle.sat_node.specs.declared.kept.Kept.{Kept as Line}
use Rattle.sat_node.specs.Meanings.{Runs}
use Rattle.sat_stitch.specs.Kept.{Distinct, Kept, entry_of}
use Rattle.sat_stitch.specs.Places.{Client, session_of}
use Rattle.sat_joint.specs.Pieces.{Piece, plain}
use Rattle.sat_joint.specs.Table.{AtGear, AtHub, AtSerial, Node, home_at}
use Rattle.sat_joint.specs.Journals.{Noted, home_entries, noted, noted_if, oldest}
use Rattle.sat_hub_laws.specs.Inputs.{GearInput as GearHanded}
use Rattle.sat_hub_laws.specs.Inputs as given
use Rattle.sat_hub_laws.specs.Changes.{input_is_own}
use Rattle.sat_hub_laws.specs.Gears.{gear_act, gear_fits, is_own, is_write, values_of, write_act, written_act}
use Rattle.sat_hub_laws.specs.Hubs.{hub_act}
use Rattle.sat_hub_laws.specs.Lines.{GearLine, HubLine, gear_piece, gear_pieces, hub_piece, hub_pieces}
use Rattle.sat_hub_laws.proofs.Lines.{gears-are-homes, hubs-are-homes}
use Rattle.sat_machines.specs.declared.serial_act.SerialAct.{SerialAct}
use Rattle.sat_machines.specs.declared.serial_act.SerialAnswer.{SerialAnswer}
use Rattle.sat_parts.specs.declared.hub_answer.HubAnswer.{HubAnswer}
use Rattle.sat_parts.specs.declared.gear_answer.GearAnswer.{GearAnswer}
use Rattle.sat_parts.specs.declared.gear_input.GearInput.{GearInput}
use Rattle.sat_parts.specs.declared.gear_input.GearInput.TheVariants as gear
use Rattle.sat_parts.specs.declared.gear_input.ShownBy.TheVariants as by
use Rattle.sat_parts.specs.declared.hub_input.HubInput.{HubInput}
use Rattle.sat_parts.specs.declared.hub_input.HubInput.TheVariants as hub
use Rattle.sat_parts.specs.Acts.{HubActSeen, GearActSeen, IsBy, client_in, gear_handed, hub_handed, is_gear_clients, is_hub_clients}
use Rattle.sat_parts.specs.Hubs.{hub_meaning}
use Rattle.sat_parts.specs.Gears.{gear_meaning}
use Rattle.sat_parts.specs.Lines.{gear_line, gear_lines, hub_line, hub_lines}
use Rattle.sat_opened.specs.Keeping.{behind, newest, serial_kept}
use Rattle.sat_opened.specs.Opened.{entries_at, serial_names}
use Rattle.sat_opened.specs.Laws.{SerialHeld}
use Rattle.sat_opened.proofs.Distincts.{IsFrom, distinct-below, distinct-join, distinct-map, distinct-sites, distinct-trees, in-map, of-trees}
use Rattle.sat_opened.proofs.Found.{entries-of, found-named, look-up}
use Rattle.sat_opened.proofs.Layouts.{in-mapped}
use Rattle.sat_parts_opened.specs.Keeping.{always, gear_kept, gear_noted, gear_owner, hub_owner, is_own_line, node_of, noted_as, own_noted}
use Rattle.sat_parts_opened.specs.Laws.{AreJournals, GearHeld, GearJournals, GearsAreKept, GearsAreParts, GearsHaveOwners, HubHeld, HubJournals, HubsAreKept, HubsAreParts, HubsHaveOwners, NodesCover, OpenedAreJournals, OwnAreHomes, SerialJournals, SerialsAreKept, part_nodes}
use Rattle.sat_parts_opened.specs.Opened.{piece_of, pieces_at, pieces_of}
use Rattle.sat_parts_opened.proofs.Serials.{serial-home}
use Rattle.sat_parts_opened.proofs.Steps.{GearStep, HubStep, gear-steps, hub-steps}
use Rattle.sat_parts_opened.proofs.Walked.{Past, gear-lined, gear-newest, hub-lined, hub-newest, lined, past-at, past-more}
use Rattle.sat_parts.specs.Layout.{gear_names, site_gears}

-- ---- names

pub opened-are-journals : OpenedAreJournals
opened-are-journals d hubs gears serials all = record {
  all_hubs = all.all_hubs;
  all_gears = all.all_gears;
  all_serials = all.all_serials;
  each_hub = λ k h at. (all.each_hub k h at).runs;
  each_gear = λ k h at. (all.each_gear k h at).runs;
}

-- lists of members of which each belongs to one
pub in-rows : {X Y : Type 0} (f : X → List Y) (xs : List X) (y : Y) → In (flat_map f xs) y → (x : X) × In xs x × In (f x) y
in-rows f [] y m = absurd m
in-rows {X} {Y} f (x ∷ xs) y m = elim (In-parts (f x) (flat_map f xs) y m) [
  | inl a ↦ (x, inl refl, a)
  | inr b ↦ (let w : (z : X) × In xs z × In (f z) y = in-rows f xs y b in (w.0, inr w.1, w.2))
]

distinct-rows : {X Y : Type 0} (f : X → List Y) (xs : List X) → ((x : X) → Distinct (f x)) → ((x z : X) (y : Y) → In (f x) y → In (f z) y → x ≡ z) → Distinct xs → Distinct (flat_map f xs)
distinct-rows f [] rows one a = tt
distinct-rows {X} {Y} f (x ∷ xs) rows one a =
    distinct-join (f x) (flat_map f xs) (rows x) (distinct-rows f xs rows one a.0)
    (λ y i j. let w : (z : X) × In xs z × In (f z) y = in-rows f xs y j in a.1 (subst (λ (z : X). In xs z) (one w.0 x y w.2 i) w.1))

gear-one : (i g h : ℕ) → named.Gear i g ≡ named.Gear i h → g ≡ h
gear-one i g h e = cc

gear-site : (i j g h : ℕ) → named.Gear i g ≡ named.Gear j h → i ≡ j
gear-site i j g h e = cc

-- a name of a gear
abbrev IsGear : ℕ → NodeName → Type 0
IsGear i name = (g : ℕ) × (named.Gear i g ≡ name)

of-site : (n i : ℕ) (name : NodeName) → In (site_gears n i) name → IsGear i name
of-site n i name m = (let w : (g : ℕ) × In (below n) g × (named.Gear i g ≡ name) = in-mapped (named.Gear i) (below n) name m in (w.0, w.2))

same-site : (n i j : ℕ) (name : NodeName) → In (site_gears n i) name → In (site_gears n j) name → i ≡ j
same-site n i j name a b =
    let x : IsGear i name = of-site n i name a in
    let y : IsGear j name = of-site n j name b in
    gear-site i j x.0 y.0 (x.1 ∙ sym y.1)

distinct-gears : (d : Deployed) → Distinct (gear_names d)
distinct-gears d =
    distinct-rows (site_gears d.gears) (below d.sites) (λ i. distinct-map (named.Gear i) (below d.gears) (gear-one i) (distinct-below d.gears))
    (λ i j name a b. same-site d.gears i j name a b) (distinct-below d.sites)

of-gears : (d : Deployed) (name : NodeName) → In (gear_names d) name → (i : ℕ) × IsGear i name
of-gears d name m = (let w : (i : ℕ) × In (below d.sites) i × In (site_gears d.gears i) name = in-rows (site_gears d.gears) (below d.sites) name m in (w.0, of-site d.gears w.0 name w.2))

-- ---- what was kept at a node

module _ (d : Deployed) (hubs : List HubHeld) (gears : List GearHeld) (serials : List SerialHeld) (all : AreJournals d hubs gears serials) where
  hub-entries : (n i : ℕ) (h : HubHeld) → slice_get hubs n ≡ Some h → h.node.name ≡ named.Site i → entries_at (named.Site i) hubs ≡ h.node.entries
  hub-entries n i h at name = entries-of (named.Site i) hubs (subst Distinct (sym all.all_hubs) (distinct-sites d.sites)) n h at name

  gear-entries : (n i g : ℕ) (h : GearHeld) → slice_get gears n ≡ Some h → h.node.name ≡ named.Gear i g → entries_at (named.Gear i g) gears ≡ h.node.entries
  gear-entries n i g h at name = entries-of (named.Gear i g) gears (subst Distinct (sym all.all_gears) (distinct-gears d)) n h at name

  serial-entries : (n e z : ℕ) (h : SerialHeld) → slice_get serials n ≡ Some h → h.node.name ≡ named.Serializer e z → entries_at (named.Serializer e z) serials ≡ h.node.entries
  serial-entries n e z h at name = entries-of (named.Serializer e z) serials (subst Distinct (sym all.all_serials) (distinct-trees 1 d.plans)) n h at name

pub hubs-are-kept : HubsAreKept
hubs-are-kept d hubs gears serials alone all n i h at name = ap (λ (es : List (Line HubActSeen HubAnswer)). hub_pieces i (hub_lines es)) (hub-entries d hubs gears serials all n i h at name)

pub gears-are-kept : GearsAreKept
gears-are-kept d hubs gears serials alone all n i g h at name = ap (λ (es : List (Line GearActSeen GearAnswer)). gear_pieces i g (gear_lines es)) (gear-entries d hubs gears serials all n i g h at name)

pub serials-are-kept : SerialsAreKept
serials-are-kept d hubs gears serials alone all n e z h at name = ap (λ (es : List (Line SerialAct SerialAnswer)). pieces_of (newest (serial_kept e z) es)) (serial-entries d hubs gears serials all n e z h at name)

pub hubs-are-parts : HubsAreParts
hubs-are-parts i es = hub-newest i es

pub gears-are-parts : GearsAreParts
gears-are-parts i g es = gear-newest i g es

-- ---- journals as their merge takes them

module _ {X L : Type 0} (d : Deployed) (p : Node) (of : X → L) (pieces : List L → List Piece) (piece : L → Piece) (more : (l : L) (ls : List L) → pieces (l ∷ ls) ≡ piece l ∷ pieces ls) (home : X → Bool) where
  abbrev noted_in : List Piece → List Noted
  noted_in ks = map (noted d p) (oldest ks)

  abbrev on : X → Kept
  on x = plain (piece (of x))

  one-noted : (x : X) (ks : List Piece) → home x ≡ home_at d p (piece (of x)) → noted_in (piece (of x) ∷ ks) ≡ noted_in ks ++ noted_as on home x ∷ []
  one-noted x ks e = map-append (noted d p) (oldest ks) (((piece (of x)).number, piece (of x)) ∷ []) ∙ ap (λ (b : Bool). noted_in ks ++ ((on x).number, (noted_as on home x).1, b) ∷ []) (sym e)

  noted-lined : (ls : List L) (xs : List X) → Past of (λ b x. home x ≡ home_at d p (piece (of x))) ls xs → noted_in (pieces (lined of ls xs)) ≡ noted_in (pieces ls) ++ map (noted_as on home) xs
  noted-lined ls [] a = sym (append-nil (noted_in (pieces ls)))
  noted-lined ls (x ∷ xs) a =
      noted-lined (of x ∷ ls) xs a.1 ∙
      (ap (λ (ns : List Noted). ns ++ map (noted_as on home) xs) (ap noted_in (more (of x) ls) ∙ one-noted x (pieces ls) a.0) ∙
      append_assoc (noted_in (pieces ls)) (noted_as on home x ∷ []) (map (noted_as on home) xs))

all-past : {X L : Type 0} (of : X → L) (P : X → Type 0) → ((x : X) → P x) → (ls : List L) (xs : List X) → Past of (λ b x. P x) ls xs
all-past of P f ls [] = tt
all-past of P f ls (x ∷ xs) = (f x, all-past of P f (of x ∷ ls) xs)

pub hub-journals : HubJournals
hub-journals d i es =
    sym (noted-lined d (AtHub i) hub_line (hub_pieces i) (hub_piece i) (λ l ls. refl) always [] es
    (all-past hub_line (λ x. true ≡ home_at d (AtHub i) (hub_piece i (hub_line x))) (λ x. sym (hubs-are-homes d i (client_in x.input.by) (hub_handed x.input.input) x.answer.answer)) [] es)) ∙
    ap (λ (ls : List HubLine). map (noted d (AtHub i)) (oldest (hub_pieces i ls))) (hub-lined [] es)

-- an act of a gear that fits is one of its own exactly where it is no part of another node's
pub own-is : (d : Deployed) (g : ℕ) (input : GearHanded) → gear_fits d g input ≡ true → input_is_own input ≡ is_own d g input
own-is d g (given.Tick ts) e = refl
own-is d g (given.Write seen items values) e = sym (and_parts (is_write d items values) (gear_for d items == g) (and_parts (is_carried d seen) _ e).1).1
own-is d g (given.Read seen x) e = sym (and_parts (is_item d x) (gear_of d x == g) (and_parts (is_carried d seen) _ e).1).1
own-is d g (given.Move seen j) e = sym (and_parts (is_site d j) (0 == g) (and_parts (is_carried d seen) _ e).1).1
own-is d g (given.Drain f labels stable) e = refl
own-is d g (given.Show by p) e = refl

pub gear-journals : GearJournals
gear-journals d i g es runs =
    sym (noted-lined d (AtGear i g) gear_line (gear_pieces i g) (gear_piece i g) (λ l ls. refl) is_own_line [] es
    (past-more gear_line (GearStep d i g) (λ b x. is_own_line x ≡ home_at d (AtGear i g) (gear_piece i g (gear_line x))) [] es
    (λ b x m step. own-is d g (gear_handed x.input.input) step.fits_there.fits ∙ sym (gears-are-homes d i g (client_in x.input.by) (gear_handed x.input.input) x.answer.answer)) (gear-steps d i g es runs))) ∙
    ap (λ (ls : List GearLine). map (noted d (AtGear i g)) (oldest (gear_pieces i g ls))) (gear-lined [] es)

-- of a gear's journal the merge takes its own acts
own-one : (i g : ℕ) (k : Line GearActSeen GearAnswer) (ns ms : List Noted) (b : Bool) → is_own_line k ≡ b → home_entries ns ≡ home_entries ms → home_entries (own_noted i g k ++ ns) ≡ home_entries (gear_noted i g k ∷ ms)
own-one i g k ns ms true e w =
    ap (λ (b : Bool). home_entries ((if b then (k.lamport, entry_of (gear_kept i g k), true) ∷ [] else []) ++ ns)) e ∙
    ((λ t. (k.lamport, entry_of (gear_kept i g k)) ∷ w t) ∙ ap (λ (b : Bool). noted_if b (k.lamport, entry_of (gear_kept i g k)) (home_entries ms)) (sym e))
own-one i g k ns ms false e w =
    ap (λ (b : Bool). home_entries ((if b then (k.lamport, entry_of (gear_kept i g k), true) ∷ [] else []) ++ ns)) e ∙
    (w ∙ ap (λ (b : Bool). noted_if b (k.lamport, entry_of (gear_kept i g k)) (home_entries ms)) (sym e))

pub own-are-homes : OwnAreHomes
own-are-homes i g [] = refl
own-are-homes i g (k ∷ es) = own-one i g k (flat_map (own_noted i g) es) (map (gear_noted i g) es) (is_own_line k) refl (own-are-homes i g es)

lined-behind : {X : Type 0} (of : X → Kept) (ks : List Kept) (xs : List X) → lined of ks xs ≡ behind of ks xs
lined-behind of ks [] = refl
lined-behind of ks (x ∷ xs) = lined-behind of (of x ∷ ks) xs

pub serial-journals : SerialJournals
serial-journals d e z es =
    sym (noted-lined d (AtSerial e z) (serial_kept e z) pieces_of piece_of (λ l ls. refl) always [] es
    (all-past (serial_kept e z) (λ x. true ≡ home_at d (AtSerial e z) (piece_of (serial_kept e z x))) (λ x. sym (serial-home d e z x.input x.answer.answer)) [] es)) ∙
    ap (λ (ks : List Kept). map (noted d (AtSerial e z)) (oldest (pieces_of ks))) (lined-behind (serial_kept e z) [] es)

-- ---- owners

hub-owned : (d : Deployed) (i : ℕ) (o : Option ℕ) (input : HubInput) → IsBy d o (is_hub_clients input) → session_of (hub_act i (client_in o) (hub_handed input)) ≡ hub_owner o input
hub-owned d i (Some c) (hub.Attach seen) e = refl
hub-owned d i (Some c) _ e = absurd (let w : false ≡ true = e.0 in cc)
hub-owned d i None (hub.Attach seen) e = absurd (cc)
hub-owned d i None _ e = refl

pub hubs-have-owners : HubsHaveOwners
hubs-have-owners d hubs gears serials all n i m h k at name there =
    let runs : Runs (hub_meaning d) (named.Site i) h.node.entries = subst (λ (x : NodeName). Runs (hub_meaning d) x h.node.entries) name (all.each_hub n h at) in
    let step : (b : List HubLine) × HubStep d i b k = past-at hub_line (HubStep d i) [] h.node.entries m k (hub-steps d i h.node.entries runs) there in
    hub-owned d i k.input.by k.input.input step.1.fits_there.by

write-owned : (c : ℕ) (items : Items) (values : List (List ℕ)) → session_of (write_act c items values) ≡ Some (Client c)
write-owned c (One x) (value ∷ []) = refl
write-owned c (One x) [] = refl
write-owned c (One x) (value ∷ more ∷ values) = refl
write-owned c (Two x y) values = refl
write-owned c (Three x y z) values = refl
write-owned c (Four x y z w) values = refl

written-owned : (c : ℕ) (k : Kind) (values : List (List ℕ)) → session_of (written_act c k values) ≡ Some (Client c)
written-owned c (kind.Update items) values = write-owned c items values
written-owned c (kind.Move j) values = refl
written-owned c kind.Pulse values = refl
written-owned c (kind.Close e) values = refl

gear-owned : (d : Deployed) (i g : ℕ) (o : Option ℕ) (input : GearInput) → IsBy d o (is_gear_clients input) → session_of (gear_act i g (client_in o) (gear_handed input)) ≡ gear_owner o
gear-owned d i g (Some c) (gear.Write seen items values) e = write-owned c items values
gear-owned d i g (Some c) (gear.Read seen x) e = refl
gear-owned d i g (Some c) (gear.Move seen j) e = refl
gear-owned d i g (Some c) (gear.Show by.Write p) e = written-owned c p.label.kind (values_of p)
gear-owned d i g (Some c) (gear.Show by.Turn p) e = absurd (let w : false ≡ true = e.0 in cc)
gear-owned d i g (Some c) (gear.Show by.Stamp p) e = absurd (let w : false ≡ true = e.0 in cc)
gear-owned d i g (Some c) (gear.Tick ts) e = absurd (let w : false ≡ true = e.0 in cc)
gear-owned d i g (Some c) (gear.Drain f labels stable) e = absurd (let w : false ≡ true = e.0 in cc)
gear-owned d i g None (gear.Write seen items values) e = absurd (cc)
gear-owned d i g None (gear.Read seen x) e = absurd (cc)
gear-owned d i g None (gear.Move seen j) e = absurd (cc)
gear-owned d i g None (gear.Show by.Write p) e = absurd (cc)
gear-owned d i g None (gear.Show by.Turn p) e = refl
gear-owned d i g None (gear.Show by.Stamp p) e = refl
gear-owned d i g None (gear.Tick ts) e = refl
gear-owned d i g None (gear.Drain f labels stable) e = refl

pub gears-have-owners : GearsHaveOwners
gears-have-owners d hubs gears serials all n i g m h k at name there =
    let runs : Runs (gear_meaning d) (named.Gear i g) h.node.entries = subst (λ (x : NodeName). Runs (gear_meaning d) x h.node.entries) name (all.each_gear n h at) in
    let step : (b : List GearLine) × GearStep d i g b k = past-at gear_line (GearStep d i g) [] h.node.entries m k (gear-steps d i g h.node.entries runs) there in
    gear-owned d i g k.input.by k.input.input step.1.fits_there.by

-- ---- all nodes

node-one : (m n : NodeName) → node_of m ≡ node_of n → m ≡ n
node-one (named.Site i) (named.Site j) e = let w : i ≡ j = cc in ap named.Site w
node-one (named.Serializer e y) (named.Serializer f z) w = let m : e ≡ f = cc in let n : y ≡ z = cc in λ i. named.Serializer (m i) (n i)
node-one (named.Gear i g) (named.Gear j h) w = let m : i ≡ j = cc in let n : g ≡ h = cc in λ k. named.Gear (m k) (n k)
node-one (named.Site i) (named.Serializer f z) w = absurd (cc)
node-one (named.Site i) (named.Gear j h) w = absurd (cc)
node-one (named.Serializer e y) (named.Site j) w = absurd (cc)
node-one (named.Serializer e y) (named.Gear j h) w = absurd (cc)
node-one (named.Gear i g) (named.Site j) w = absurd (cc)
node-one (named.Gear i g) (named.Serializer f z) w = absurd (cc)

gear-serial : (i g e z : ℕ) → named.Gear i g ≡ named.Serializer e z → ⊥
gear-serial i g e z w = cc

site-gear : (k i g : ℕ) → named.Site k ≡ named.Gear i g → ⊥
site-gear k i g w = cc

site-serial : (k e z : ℕ) → named.Site k ≡ named.Serializer e z → ⊥
site-serial k e z w = cc

abbrev part_names : Deployed → List NodeName
part_names d = map named.Site (below d.sites) ++ (gear_names d ++ serial_names d)

distinct-parts : (d : Deployed) → Distinct (gear_names d ++ serial_names d)
distinct-parts d =
    distinct-join (gear_names d) (serial_names d) (distinct-gears d) (distinct-trees 1 d.plans)
    (λ name a b. let w : (i : ℕ) × IsGear i name = of-gears d name a in let v : IsFrom 1 name = of-trees 1 d.plans name b in gear-serial w.0 w.1.0 v.epoch v.number (w.1.1 ∙ v.is))

apart-sites : (d : Deployed) (name : NodeName) → In (map named.Site (below d.sites)) name → In (gear_names d ++ serial_names d) name → ⊥
apart-sites d name a b =
    let s : (k : ℕ) × In (below d.sites) k × (named.Site k ≡ name) = in-mapped named.Site (below d.sites) name a in
    elim (In-parts (gear_names d) (serial_names d) name b) [
      | inl m ↦ (let w : (i : ℕ) × IsGear i name = of-gears d name m in site-gear s.0 w.0 w.1.0 (s.2 ∙ sym w.1.1))
      | inr m ↦ (let v : IsFrom 1 name = of-trees 1 d.plans name m in site-serial s.0 v.epoch v.number (s.2 ∙ v.is))
    ]

distinct-nodes : (d : Deployed) → Distinct (part_nodes d)
distinct-nodes d = distinct-map node_of (part_names d) node-one (distinct-join (map named.Site (below d.sites)) (gear_names d ++ serial_names d) (distinct-sites d.sites) (distinct-parts d) (apart-sites d))

module _ (d : Deployed) (hubs : List HubHeld) (gears : List GearHeld) (serials : List SerialHeld) (alone : ℕ → List Piece) (all : AreJournals d hubs gears serials) where
  covered : (name : NodeName) → In (part_nodes d) (node_of name) ⊎ (pieces_at hubs gears serials alone (node_of name) ≡ [])
  covered (named.Site i) = elim (look-up (named.Site i) hubs) [
    | inl f ↦ inl (in-map node_of (part_names d) (named.Site i)
        (In-left (map named.Site (below d.sites)) (gear_names d ++ serial_names d) (named.Site i) (subst (λ (ns : List NodeName). In ns (named.Site i)) all.all_hubs (found-named (named.Site i) hubs f))))
    | inr none ↦ inr (ap (λ (es : List (Line HubActSeen HubAnswer)). hub_pieces i (hub_lines es)) none)
  ]
  covered (named.Gear i g) = elim (look-up (named.Gear i g) gears) [
    | inl f ↦ inl (in-map node_of (part_names d) (named.Gear i g)
        (In-right (map named.Site (below d.sites)) (gear_names d ++ serial_names d) (named.Gear i g)
        (In-left (gear_names d) (serial_names d) (named.Gear i g) (subst (λ (ns : List NodeName). In ns (named.Gear i g)) all.all_gears (found-named (named.Gear i g) gears f)))))
    | inr none ↦ inr (ap (λ (es : List (Line GearActSeen GearAnswer)). gear_pieces i g (gear_lines es)) none)
  ]
  covered (named.Serializer e z) = elim (look-up (named.Serializer e z) serials) [
    | inl f ↦ inl (in-map node_of (part_names d) (named.Serializer e z)
        (In-right (map named.Site (below d.sites)) (gear_names d ++ serial_names d) (named.Serializer e z)
        (In-right (gear_names d) (serial_names d) (named.Serializer e z) (subst (λ (ns : List NodeName). In ns (named.Serializer e z)) all.all_serials (found-named (named.Serializer e z) serials f)))))
    | inr none ↦ inr (ap (λ (es : List (Line SerialAct SerialAnswer)). pieces_of (newest (serial_kept e z) es)) none)
  ]

pub nodes-cover : NodesCover
nodes-cover d hubs gears serials alone all = (distinct-nodes d, covered d hubs gears serials alone all)
