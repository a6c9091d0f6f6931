-- What a hub's node has heard by then. Only the contracts of private functions speak of it.
use Rattle.std.specs.Prelude.{◌≡◌, ℕ, ◌+◌, ◌*◌, ◌&&◌, ◌||◌, ◌==◌, Bool, true, nat_le, nat_lt, List, [], ◌∷◌, ◌++◌}
use Rattle.std.specs.Prelude.{length, map, Some, None, slice_get}
use Rattle.sat_label.specs.Words.{below}
use Rattle.sat_act.specs.Deployed.{Deployed}
use Rattle.sat_link.specs.Ends.{rise}
use Rattle.sat_node.specs.declared.kept.Envelope.{Envelope}
use Rattle.sat_node.specs.Links.{Both, InSeen, OnlyAt, front_at, front_list}
use Rattle.sat_machines.specs.Layout.{peer, site_links}
use Rattle.sat_machines.specs.Sites.{number_of}
use Rattle.sat_parts.specs.Acts.{HubActSeen}
use Rattle.sat_parts.specs.Layout.{lane_end}
use Rattle.sat_parts_passes.specs.Sendings.{HubHeld, HubKept}
use Rattle.sat_parts_hearing.specs.declared.ends.Source.{Source}
use Rattle.sat_parts_hearing.specs.declared.ends.Source.TheVariants as source
use Rattle.sat_parts_hearing.specs.Hearings.{Hears, IsEmptied, IsHeard, came_at, came_over, end_of, input_from, on_link}
use Rattle.sat_parts_hearing.specs.Hearings.{sources_of}

-- ---- one link

-- at hub i, this comes over the end of this number
abbrev pub IsEnd : Deployed → ℕ → Source → ℕ → Type 0
IsEnd d i (source.Lane from gear) k = k ≡ lane_end d i from gear
IsEnd d i (source.Beats from) k = from ≡ peer i k

-- the front of a link is this input of its source
pub record IsMessage (s : Source) (old : HubHeld) (k : ℕ) (e : Envelope) (act : HubActSeen) : Type 0 where
  pub front : front_at old.ins k ≡ Some e
  pub input : input_from s e.body ≡ Some act.input
  pub by : act.by ≡ None

-- these messages were popped or kept before, and dealt with
pub record Passed (cs : List Envelope) (old new : InSeen) : Type 0 where
  pub empties : new.link.empties ≡ old.link.empties
  pub popped : (more : List Envelope) × (new.link.received ≡ old.link.received ++ more)
      × (front_list old.front ++ more ≡ cs ++ front_list new.front)

-- these messages of a link were dealt with
pub record HeardAt (d : Deployed) (s : Source) (k : ℕ) (cs : List Envelope) (old new : HubHeld) : Type 0 where
  pub name : new.node.name ≡ old.node.name
  pub outs : new.outs ≡ old.outs
  pub added : (more : List HubKept) × (new.node.entries ≡ old.node.entries ++ more)
      × Hears d old.node.name old.node.entries (map (on_link s) cs) more
  pub ins : OnlyAt k (Passed cs) old.ins new.ins

-- a pop gave nothing
pub record GaveNone (old new : InSeen) : Type 0 where
  pub before : old.front ≡ None
  pub front : new.front ≡ None
  pub empties : new.link.empties ≡ rise old.link.empties
  pub received : new.link.received ≡ old.link.received

pub record FoundEmpty (k : ℕ) (old new : HubHeld) : Type 0 where
  pub node : new.node ≡ old.node
  pub outs : new.outs ≡ old.outs
  pub ins : OnlyAt k GaveNone old.ins new.ins

-- all messages of a link were dealt with
pub record HeardLink (d : Deployed) (s : Source) (k : ℕ) (old new : HubHeld) : Type 0 where
  pub name : new.node.name ≡ old.node.name
  pub outs : new.outs ≡ old.outs
  pub added : (more : List HubKept) × (new.node.entries ≡ old.node.entries ++ more)
      × Hears d old.node.name old.node.entries (came_at s (slice_get old.ins k) (slice_get new.ins k)) more
  pub ins : OnlyAt k IsEmptied old.ins new.ins

-- ---- links, one after the other

-- at hub i, whether the end of this number is one for the lanes of the first so many gears of the site of number n
-- among the others
abbrev pub is_lane : Deployed → ℕ → ℕ → ℕ → ℕ → Bool
is_lane d i n gears k =
    nat_le (length (site_links d i) + n * d.gears) k && nat_lt k ((length (site_links d i) + n * d.gears) + gears)

-- the same of all that comes from this site
abbrev pub is_of_site : Deployed → ℕ → ℕ → ℕ → Bool
is_of_site d i n k = is_lane d i n d.gears k || (k == n)

-- the same of all that comes from the first n of the other sites
abbrev pub is_of_first : Deployed → ℕ → ℕ → ℕ → Bool
is_of_first d i n k =
    nat_lt k n || (nat_le (length (site_links d i)) k && nat_lt k (length (site_links d i) + n * d.gears))

-- each of these comes over an end that passes a test
abbrev pub ComeOver : Deployed → ℕ → (ℕ → Bool) → List Source → Type 0
ComeOver d i test [] = Unit {0}
ComeOver d i test (s ∷ ss) = (test (end_of d i s) ≡ true) × ComeOver d i test ss

-- all messages of these, which come over the ends that pass a test, were dealt with, one link after the other
pub record HeardFrom (d : Deployed) (test : ℕ → Bool) (ss : List Source) (old new : HubHeld) : Type 0 where
  pub name : new.node.name ≡ old.node.name
  pub outs : new.outs ≡ old.outs
  pub ends : ComeOver d (number_of old.node.name) test ss
  pub added : (more : List HubKept) × (new.node.entries ≡ old.node.entries ++ more)
      × Hears d old.node.name old.node.entries (came_over d (number_of old.node.name) old.ins new.ins ss) more
  pub ins : Both (λ k j i. IsHeard (test k) j i) old.ins new.ins

-- those of the first so many gears of the site of number n among the others
abbrev pub HeardGears : Deployed → ℕ → ℕ → HubHeld → HubHeld → Type 0
HeardGears d n gears old new =
    HeardFrom d (is_lane d (number_of old.node.name) n gears)
    (map (source.Lane (peer (number_of old.node.name) n)) (below gears)) old new

-- all of this site
abbrev pub HeardSite : Deployed → ℕ → HubHeld → HubHeld → Type 0
HeardSite d n old new =
    HeardFrom d (is_of_site d (number_of old.node.name) n) (sources_of d (peer (number_of old.node.name) n)) old new
