-- The places of journals, and the journals of nodes as lists of pieces.
use Rattle.std.proofs.Common.{◌≡◌, ◌⊎◌, ℕ, ◌+◌, Bool, true, false, List, [], ◌∷◌, ◌++◌, map, length, Some, slice_get, if◌then◌else◌, refl, sym, ap, ◌∙◌, subst, inl, inr}
use Rattle.std.specs.List.{flat_map}
use Rattle.std.proofs.lemmas.List.{map-append}
use Rattle.sat_label.specs.declared.node.NodeName.{NodeName}
use Rattle.sat_label.specs.declared.node.NodeName.TheVariants as named
use Rattle.sat_label.specs.Members.{In}
use Rattle.sat_label.specs.Words.{below}
use Rattle.sat_laws.proofs.Links.{In-place}
use Rattle.sat_act.specs.declared.entry.Entry.{Entry}
use Rattle.sat_act.specs.Deployed.{Deployed}
use Rattle.sat_node.specs.Links.{HeldSeen}
use Rattle.sat_node.specs.Meanings.{Runs}
use Rattle.sat_machines.specs.Layout.{Planted, trees_of}
use Rattle.sat_machines.specs.Sites.{number_of}
use Rattle.sat_machines.specs.Serials.{epoch_in, serial_in}
use Rattle.sat_stitch.specs.Kept.{Distinct}
use Rattle.sat_stitch.specs.Stitch.{Numbered}
use Rattle.sat_joint.specs.Pieces.{Piece}
use Rattle.sat_joint.specs.Table.{Alone, AtGear, AtHub, AtSerial, Node, same_node}
use Rattle.sat_joint.specs.Journals.{home_entries, home_journal, noted, noted_journals, oldest}
use Rattle.sat_joint.proofs.Nodes.{node-is, node-self}
use Rattle.sat_hub_laws.specs.Lines.{gear_pieces, hub_pieces}
use Rattle.sat_parts.specs.Gears.{gear_meaning, gear_number}
use Rattle.sat_parts.specs.Layout.{gear_names, site_gears}
use Rattle.sat_parts.specs.Lines.{gear_lines, hub_lines}
use Rattle.sat_opened.specs.Keeping.{newest, serial_kept}
use Rattle.sat_opened.specs.Opened.{name_in, serial_names, tree_names}
use Rattle.sat_opened.specs.Laws.{SerialHeld}
use Rattle.sat_opened.proofs.Distincts.{in-map}
use Rattle.sat_opened.proofs.Layouts.{in-mapped}
use Rattle.sat_parts_opened.specs.Keeping.{hub_noted, node_of, own_noted, serial_noted}
use Rattle.sat_parts_opened.specs.Laws.{AreJournals, GearHeld, HubHeld, part_nodes}
use Rattle.sat_parts_opened.specs.Opened.{pieces_at, pieces_of}
use Rattle.sat_parts_opened.proofs.Named.{gear-journals, gears-are-kept, hub-journals, hubs-are-kept, own-are-homes, serial-journals, serials-are-kept}
use Rattle.sat_session.proofs.Owned.{in-flat}
use Rattle.sat_parts_notes.specs.Collecting.{Lines, at_places, lines_at_gear, lines_at_hub, lines_at_serial, part_lines}

-- ---- the place of each node among all

abbrev pub index_from : ℕ → List Node → Node → ℕ
index_from k [] p = k
index_from k (q ∷ qs) p = if same_node q p then k else index_from (k + 1) qs p

-- nodes by their index, and sessions behind them by number
abbrev pub rank_at : ℕ → List Node → Node → ℕ
rank_at base ps (Alone c) = base + c
rank_at base ps (AtHub i) = index_from 0 ps (AtHub i)
rank_at base ps (AtGear i g) = index_from 0 ps (AtGear i g)
rank_at base ps (AtSerial e z) = index_from 0 ps (AtSerial e z)

abbrev pub Ranks : (Node → ℕ) → ℕ → List Node → Type 0
Ranks rank k [] = Unit {0}
Ranks rank k (p ∷ ps) = (rank p ≡ k) × Ranks rank (k + 1) ps

ranks-as : (a b : Node → ℕ) (k : ℕ) (ps : List Node) → ((p : Node) → In ps p → b p ≡ a p) → Ranks a k ps → Ranks b k ps
ranks-as a b k [] f r = tt
ranks-as a b k (p ∷ ps) f r = (f p (inl refl) ∙ r.0, ranks-as a b (k + 1) ps (λ q i. f q (inr i)) r.1)

other-node : (p q : Node) (ps : List Node) → (In ps p → ⊥) → In ps q → same_node p q ≡ false
other-node p q ps apart i = go (same_node p q) refl
  where
    go : (b : Bool) → same_node p q ≡ b → b ≡ false
    go true e = absurd (apart (subst (λ (x : Node). In ps x) (sym (node-is p q e)) i))
    go false e = refl

index-ranks : (k : ℕ) (ps : List Node) → Distinct ps → Ranks (index_from k ps) k ps
index-ranks k [] apart = tt
index-ranks k (p ∷ ps) apart = (
  ap (λ (b : Bool). if b then k else index_from (k + 1) ps p) (node-self p),
  ranks-as (index_from (k + 1) ps) (index_from k (p ∷ ps)) (k + 1) ps
      (λ q i. ap (λ (b : Bool). if b then k else index_from (k + 1) ps q) (other-node p q ps apart.1 i)) (index-ranks (k + 1) ps apart.0),
)

of-name : (base : ℕ) (ps : List Node) (name : NodeName) → rank_at base ps (node_of name) ≡ index_from 0 ps (node_of name)
of-name base ps (named.Site i) = refl
of-name base ps (named.Serializer e z) = refl
of-name base ps (named.Gear i g) = refl

-- the rank of each node is its index
pub node-ranks : (base : ℕ) (names : List NodeName) → Distinct (map node_of names) → Ranks (rank_at base (map node_of names)) 0 (map node_of names)
node-ranks base names apart =
    ranks-as (index_from 0 (map node_of names)) (rank_at base (map node_of names)) 0 (map node_of names)
    (λ p i. let w : (n : NodeName) × In names n × (node_of n ≡ p) = in-mapped node_of names p i in
    subst (λ (q : Node). rank_at base (map node_of names) q ≡ index_from 0 (map node_of names) q) w.2 (of-name base (map node_of names) w.0))
    (index-ranks 0 (map node_of names) apart)

-- ---- journals at places

abbrev pub lines_in : Deployed → (Node → List Piece) → Node → Lines
lines_in d lists p = map (noted d p) (oldest (lists p))

module _ (d : Deployed) (lists : Node → List Piece) where
  -- each of these journals has the entries at their homes of the list of its node
  abbrev pub AreLines : List Node → List Lines → Type 0
  AreLines [] [] = Unit {0}
  AreLines (p ∷ ps) (ls ∷ rest) = (home_entries ls ≡ home_entries (lines_in d lists p)) × AreLines ps rest
  AreLines [] (ls ∷ rest) = ⊥
  AreLines (p ∷ ps) [] = ⊥

  pub lines-join : (ps qs : List Node) (a b : List Lines) → AreLines ps a → AreLines qs b → AreLines (ps ++ qs) (a ++ b)
  lines-join [] qs [] b f g = g
  lines-join (p ∷ ps) qs (ls ∷ a) b f g = (f.0, lines-join ps qs a b f.1 g)
  lines-join [] qs (ls ∷ a) b f g = absurd f
  lines-join (p ∷ ps) qs [] b f g = absurd f

  pub placed-journals : (rank : Node → ℕ) (k : ℕ) (ps : List Node) (rest : List Lines) → Ranks rank k ps → AreLines ps rest → map home_journal (at_places k rest) ≡ map home_journal (noted_journals d rank lists ps)
  placed-journals rank k [] [] r f = refl
  placed-journals rank k (p ∷ ps) (ls ∷ rest) r f =
      let t : map home_journal (at_places (k + 1) rest) ≡ map home_journal (noted_journals d rank lists ps) = placed-journals rank (k + 1) ps rest r.1 f.1 in
      λ i. (sym r.0 i, f.0 i) ∷ t i
  placed-journals rank k [] (ls ∷ rest) r f = absurd f
  placed-journals rank k (p ∷ ps) [] r f = absurd f

  pub journals-join : (rank : Node → ℕ) (ps qs : List Node) → noted_journals d rank lists (ps ++ qs) ≡ noted_journals d rank lists ps ++ noted_journals d rank lists qs
  journals-join rank [] qs = refl
  journals-join rank (p ∷ ps) qs = ap (λ (js : List (ℕ × Lines)). (rank p, lines_in d lists p) ∷ js) (journals-join rank ps qs)

  -- ---- the journals of nodes

  pub held-lines : {M I A : Type 0} (line : HeldSeen M I A → Lines) (hs : List (HeldSeen M I A)) → ((h : HeldSeen M I A) → In hs h → home_entries (line h) ≡ home_entries (lines_in d lists (node_of h.node.name))) →
      AreLines (map node_of (map name_in hs)) (map line hs)
  held-lines line [] f = tt
  held-lines line (h ∷ hs) f = (f h (inl refl), held-lines line hs (λ x i. f x (inr i)))

module _ (d : Deployed) (hubs : List HubHeld) (gears : List GearHeld) (serials : List SerialHeld) (alone : ℕ → List Piece) (all : AreJournals d hubs gears serials) where
  abbrev lists : Node → List Piece
  lists = pieces_at hubs gears serials alone

  hub-line : (h : HubHeld) → In hubs h → home_entries (lines_at_hub h) ≡ home_entries (lines_in d lists (node_of h.node.name))
  hub-line h m =
      let w : (i : ℕ) × In (below d.sites) i × (named.Site i ≡ h.node.name) = in-mapped named.Site (below d.sites) h.node.name (subst (λ (ns : List NodeName). In ns h.node.name) all.all_hubs (in-map name_in hubs h m)) in
      let v : (n : ℕ) × (slice_get hubs n ≡ Some h) = In-place hubs h m in
      let kept : lists (AtHub w.0) ≡ hub_pieces w.0 (hub_lines h.node.entries) = hubs-are-kept d hubs gears serials alone all v.0 w.0 h v.1 (sym w.2) in
      ap home_entries
      (ap (λ (n : NodeName). map (hub_noted (number_of n)) h.node.entries) (sym w.2)
      ∙ (hub-journals d w.0 h.node.entries ∙ (ap (λ (ks : List Piece). map (noted d (AtHub w.0)) (oldest ks)) (sym kept) ∙ ap (λ (n : NodeName). lines_in d lists (node_of n)) w.2)))

  pub gear-of : (h : GearHeld) → In gears h → (i : ℕ) × ((g : ℕ) × (h.node.name ≡ named.Gear i g))
  gear-of h m =
      let w : (i : ℕ) × In (below d.sites) i × In (site_gears d.gears i) h.node.name = in-flat (site_gears d.gears) (below d.sites) h.node.name (subst (λ (ns : List NodeName). In ns h.node.name) all.all_gears (in-map name_in gears h m)) in
      let v : (g : ℕ) × In (below d.gears) g × (named.Gear w.0 g ≡ h.node.name) = in-mapped (named.Gear w.0) (below d.gears) h.node.name w.2 in
      (w.0, (v.0, sym v.2))

  gear-line : (h : GearHeld) → In gears h → home_entries (lines_at_gear h) ≡ home_entries (lines_in d lists (node_of h.node.name))
  gear-line h m =
      let w : (i : ℕ) × ((g : ℕ) × (h.node.name ≡ named.Gear i g)) = gear-of h m in
      let v : (n : ℕ) × (slice_get gears n ≡ Some h) = In-place gears h m in
      let runs : Runs (gear_meaning d) (named.Gear w.0 w.1.0) h.node.entries = subst (λ (x : NodeName). Runs (gear_meaning d) x h.node.entries) w.1.1 (all.each_gear v.0 h v.1) in
      let kept : lists (AtGear w.0 w.1.0) ≡ gear_pieces w.0 w.1.0 (gear_lines h.node.entries) = gears-are-kept d hubs gears serials alone all v.0 w.0 w.1.0 h v.1 w.1.1 in
      ap (λ (n : NodeName). home_entries (flat_map (own_noted (number_of n) (gear_number n)) h.node.entries)) w.1.1
      ∙ (own-are-homes w.0 w.1.0 h.node.entries
      ∙ ap home_entries
      (gear-journals d w.0 w.1.0 h.node.entries runs
      ∙ (ap (λ (ks : List Piece). map (noted d (AtGear w.0 w.1.0)) (oldest ks)) (sym kept) ∙ ap (λ (n : NodeName). lines_in d lists (node_of n)) (sym w.1.1))))

  serial-of : (h : SerialHeld) → In serials h → (e : ℕ) × ((z : ℕ) × (h.node.name ≡ named.Serializer e z))
  serial-of h m =
      let w : (p : Planted) × In (trees_of d) p × In (tree_names p) h.node.name = in-flat tree_names (trees_of d) h.node.name (subst (λ (ns : List NodeName). In ns h.node.name) all.all_serials (in-map name_in serials h m)) in
      let v : (z : ℕ) × In (below (length w.0.tree.parents)) z × (named.Serializer w.0.epoch z ≡ h.node.name) = in-mapped (named.Serializer w.0.epoch) (below (length w.0.tree.parents)) h.node.name w.2 in
      (w.0.epoch, (v.0, sym v.2))

  serial-line : (h : SerialHeld) → In serials h → home_entries (lines_at_serial h) ≡ home_entries (lines_in d lists (node_of h.node.name))
  serial-line h m =
      let w : (e : ℕ) × ((z : ℕ) × (h.node.name ≡ named.Serializer e z)) = serial-of h m in
      let v : (n : ℕ) × (slice_get serials n ≡ Some h) = In-place serials h m in
      let kept : lists (AtSerial w.0 w.1.0) ≡ pieces_of (newest (serial_kept w.0 w.1.0) h.node.entries) = serials-are-kept d hubs gears serials alone all v.0 w.0 w.1.0 h v.1 w.1.1 in
      ap home_entries
      (ap (λ (n : NodeName). map (serial_noted (epoch_in n) (serial_in n)) h.node.entries) w.1.1
      ∙ (serial-journals d w.0 w.1.0 h.node.entries
      ∙ (ap (λ (ks : List Piece). map (noted d (AtSerial w.0 w.1.0)) (oldest ks)) (sym kept) ∙ ap (λ (n : NodeName). lines_in d lists (node_of n)) (sym w.1.1))))

  abbrev hub_nodes : List Node
  hub_nodes = map node_of (map name_in hubs)

  abbrev gear_nodes : List Node
  gear_nodes = map node_of (map name_in gears)

  abbrev serial_nodes : List Node
  serial_nodes = map node_of (map name_in serials)

  all-nodes : hub_nodes ++ (gear_nodes ++ serial_nodes) ≡ part_nodes d
  all-nodes =
      (λ i. hub_nodes ++ sym (map-append node_of (map name_in gears) (map name_in serials)) i)
      ∙ (sym (map-append node_of (map name_in hubs) (map name_in gears ++ map name_in serials)) ∙ (λ i. map node_of (all.all_hubs i ++ (all.all_gears i ++ all.all_serials i))))

  -- the journal of each node is the list of its place
  pub nodes-are-lines : AreLines d lists (part_nodes d) (part_lines hubs gears serials)
  nodes-are-lines =
      subst (λ (ps : List Node). AreLines d lists ps (part_lines hubs gears serials)) all-nodes
      (lines-join d lists hub_nodes (gear_nodes ++ serial_nodes) (map lines_at_hub hubs) (map lines_at_gear gears ++ map lines_at_serial serials) (held-lines d lists lines_at_hub hubs hub-line)
      (lines-join d lists gear_nodes serial_nodes (map lines_at_gear gears) (map lines_at_serial serials) (held-lines d lists lines_at_gear gears gear-line) (held-lines d lists lines_at_serial serials serial-line)))
