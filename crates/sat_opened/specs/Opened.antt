-- What is known of all nodes of a deployment once their locks were taken apart, and their journals as kept lists.
use Rattle.std.specs.Prelude.{◌≡◌, ℕ, List, [], ◌∷◌, ◌++◌, length, map, if◌then◌else◌}
use Rattle.std.specs.List.{flat_map}
use Rattle.sat_label.specs.declared.node.NodeName.{NodeName}
use Rattle.sat_label.specs.declared.node.NodeName.TheVariants as named
use Rattle.sat_label.specs.Order.{name_eq}
use Rattle.sat_label.specs.Words.{below}
use Rattle.sat_act.specs.Deployed.{Deployed}
use Rattle.sat_node.specs.declared.kept.Kept.{Kept as Line}
use Rattle.sat_node.specs.Meanings.{Meaning, Runs, Rises}
use Rattle.sat_node.specs.Links.{HeldSeen, Each, Tied}
use Rattle.sat_node.specs.Opened.{AgreeAll, AgreeWithin}
use Rattle.sat_machines.specs.Acts.{ActSeen}
use Rattle.sat_machines.specs.Layout.{Planted, trees_of}
use Rattle.sat_machines.specs.Sites.{site_meaning}
use Rattle.sat_machines.specs.Serials.{serial_meaning}
use Rattle.sat_machines.specs.declared.site_answer.SiteAnswer.{SiteAnswer}
use Rattle.sat_machines.specs.declared.serial_act.SerialAct.{SerialAct}
use Rattle.sat_machines.specs.declared.serial_act.SerialAnswer.{SerialAnswer}
use Rattle.sat_stitch.specs.Kept.{Kept}
use Rattle.sat_stitch.specs.Places.{Place, AtSite, AtSerializer, InSession}
use Rattle.sat_opened.specs.Keeping.{site_kept, serial_kept, newest}

-- one node: its journal is tied to its links, each input fitted and has its answer, and the numbers rise
pub record IsOpened {S M I A : Type 0} (m : Meaning S I A) (h : HeldSeen M I A) : Type 0 where
  pub tied : Tied m h
  pub runs : Runs m h.node.name h.node.entries
  pub rises : Rises 0 h.node.entries

abbrev pub name_in : {M I A : Type 0} → HeldSeen M I A → NodeName
name_in h = h.node.name

-- the names of all serializers: tree by tree, in the order of their numbers
abbrev pub tree_names : Planted → List NodeName
tree_names p = map (named.Serializer p.epoch) (below (length p.tree.parents))

-- the names of all serializers of a deployment
abbrev pub serial_names : Deployed → List NodeName
serial_names d = flat_map tree_names (trees_of d)

-- all nodes: each site and each serializer once, in order; each is opened; and each link between two of them carried
-- what its sender put there
pub record AllOpened {M K : Type 0} (d : Deployed) (sites : List (HeldSeen M ActSeen SiteAnswer))
    (serials : List (HeldSeen K SerialAct SerialAnswer)) : Type 0 where
  pub all_sites : map name_in sites ≡ map named.Site (below d.sites)
  pub all_serials : map name_in serials ≡ serial_names d
  pub each_site : Each sites (λ _ h. IsOpened (site_meaning d) h)
  pub each_serial : Each serials (λ _ h. IsOpened (serial_meaning d) h)
  pub between_sites : AgreeWithin (site_meaning d) sites
  pub between_serials : AgreeWithin (serial_meaning d) serials
  pub from_sites : AgreeAll (site_meaning d) (serial_meaning d) sites serials
  pub from_serials : AgreeAll (serial_meaning d) (site_meaning d) serials sites

-- each node once, in order, and each site's journal ran. Nothing is said of links
pub record AreJournals {M K : Type 0} (d : Deployed) (sites : List (HeldSeen M ActSeen SiteAnswer))
    (serials : List (HeldSeen K SerialAct SerialAnswer)) : Type 0 where
  pub all_sites : map name_in sites ≡ map named.Site (below d.sites)
  pub all_serials : map name_in serials ≡ serial_names d
  pub each_site : Each sites (λ _ h. Runs (site_meaning d) h.node.name h.node.entries)

-- the journal of the node of this name, empty where there is none
abbrev pub entries_at : {M I A : Type 0} → NodeName → List (HeldSeen M I A) → List (Line I A)
entries_at name [] = []
entries_at name (h ∷ hs) = if name_eq h.node.name name then h.node.entries else entries_at name hs

-- what was kept at each place: the journals of the nodes, and what each client's session kept alone
abbrev pub lists_of : {M K : Type 0} → List (HeldSeen M ActSeen SiteAnswer) → List (HeldSeen K SerialAct SerialAnswer)
    → (ℕ → List Kept) → Place → List Kept
lists_of sites serials alone (AtSite i) = newest (site_kept i) (entries_at (named.Site i) sites)
lists_of sites serials alone (AtSerializer e z) = newest (serial_kept e z) (entries_at (named.Serializer e z) serials)
lists_of sites serials alone (InSession c) = alone c

-- the place of the node of a name, and those of all nodes
abbrev pub place_at : NodeName → Place
place_at (named.Site i) = AtSite i
place_at (named.Serializer e z) = AtSerializer e z
place_at (named.Gear i g) = AtSite i

-- the places of all nodes of a deployment
abbrev pub node_places : Deployed → List Place
node_places d = map place_at (map named.Site (below d.sites) ++ serial_names d)
