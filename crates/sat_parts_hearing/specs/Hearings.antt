-- What a hub's node hears from the other sites.
use Rattle.std.specs.Prelude.{◌≡◌, ℕ, ◌-◌, ◌^◌, ◌&&◌, ◌||◌, ◌==◌, Bool, true, false, nat_le, nat_lt, List, [], ◌∷◌}
use Rattle.std.specs.Prelude.{◌++◌, length, map, drop, Option, Some, None, MatchOption, slice_get}
use Rattle.std.specs.List.{flat_map}
use Rattle.sat_label.specs.declared.node.NodeName.{NodeName}
use Rattle.sat_label.specs.Words.{below}
use Rattle.sat_beat.specs.declared.Beat.{Beat}
use Rattle.sat_act.specs.Deployed.{Deployed}
use Rattle.sat_hub_laws.specs.Hubs.{hub_fits}
use Rattle.sat_link.specs.Ends.{rise}
use Rattle.sat_node.specs.declared.kept.Body.{Body}
use Rattle.sat_node.specs.declared.kept.Body.TheVariants as body
use Rattle.sat_node.specs.declared.kept.Envelope.{Envelope}
use Rattle.sat_node.specs.Meanings.{replay}
use Rattle.sat_node.specs.Links.{InSeen, front_list}
use Rattle.sat_machines.specs.Layout.{peer, site_links}
use Rattle.sat_machines.specs.Sites.{number_of, some_if}
use Rattle.sat_parts.specs.declared.hub_input.HubInput.{HubInput}
use Rattle.sat_parts.specs.declared.hub_input.HubInput.TheVariants as hub
use Rattle.sat_parts.specs.Acts.{hub_handed}
use Rattle.sat_parts.specs.Hubs.{hub_meaning}
use Rattle.sat_parts.specs.Layout.{lane_end, rank}
use Rattle.sat_parts_passes.specs.Sendings.{HubHeld, HubKept, of_hub}
use Rattle.sat_parts_hearing.specs.declared.ends.Source.{Source}
use Rattle.sat_parts_hearing.specs.declared.ends.Source.TheVariants as source

-- ---- where messages come from

-- at hub i, the number of the end over which this comes
abbrev pub end_of : Deployed → ℕ → Source → ℕ
end_of d i (source.Lane from gear) = lane_end d i from gear
end_of d i (source.Beats from) = rank i from

-- what comes from site j, in the order of hearing: over the lanes of its gears, and then its hub's beats
abbrev pub sources_of : Deployed → ℕ → List Source
sources_of d j = map (source.Lane j) (below d.gears) ++ source.Beats j ∷ []

-- what comes to site i, in the order of hearing: site by site
abbrev pub sources : Deployed → ℕ → List Source
sources d i = flat_map (λ k. sources_of d (peer i k)) (below (d.sites - 1))

-- whether the end of this number is one of these, and not of a tree
abbrev pub hears_at : Deployed → ℕ → ℕ → Bool
hears_at d i k = nat_lt k (d.sites - 1) || nat_le (length (site_links d i)) k

-- ---- which messages fit

-- a payload of this gear of site j, as an input
abbrev pub payload_from : ℕ → ℕ → Body → Option HubInput
payload_from j g (body.Payload gear number payload) = some_if (gear == g) (hub.Bulk j gear number payload)
payload_from j g _ = None

-- a beat of the hub of site j, as an input
abbrev pub beat_from : ℕ → Body → Option HubInput
beat_from j (body.Beat number beat) = Some (hub.BeatIn j number beat)
beat_from j _ = None

-- a message, as an input. None where no node puts it there
abbrev pub input_from : Source → Body → Option HubInput
input_from (source.Lane j g) b = payload_from j g b
input_from (source.Beats j) b = beat_from j b

-- a beat with one count for each gear, and at most as many close cuts as there are epochs
abbrev pub has_counts : Deployed → Beat → Bool
has_counts d beat = (length beat.counts == d.gears) && nat_le (length beat.closes) (length d.plans)

-- a number of 63 bits, and such a beat
abbrev pub is_small : Deployed → HubInput → Bool
is_small d (hub.Bulk from g number p) = nat_lt number (2 ^ 63)
is_small d (hub.BeatIn from number beat) = nat_lt number (2 ^ 63) && has_counts d beat
is_small d given = true

-- whether the hub may be handed it, in the state after these entries
abbrev pub may_take : Deployed → NodeName → List HubKept → HubInput → Bool
may_take d name ks given =
    hub_fits d (number_of name) (replay (hub_meaning d) name ks) (hub_handed given) && is_small d given

abbrev pub if_taken : Deployed → NodeName → List HubKept → Option HubInput → Option HubInput
if_taken d name ks None = None
if_taken d name ks (Some given) = some_if (may_take d name ks given) given

-- a message, with where it came from
pub record Came : Type 0 where
  pub over : Source
  pub body : Body

-- what it is to the hub after these entries. None where it doesn't fit
abbrev pub taken_as : Deployed → NodeName → List HubKept → Came → Option HubInput
taken_as d name ks c = if_taken d name ks (input_from c.over c.body)

-- behind the entries ks, these are those of the messages, in their order: one for each that fits at its turn
abbrev pub Hears : Deployed → NodeName → List HubKept → List Came → List HubKept → Type 0
Hears d name ks [] more = more ≡ []
Hears d name ks (c ∷ cs) more =
    MatchOption (taken_as d name ks c) (Hears d name ks cs more)
    (λ given. (k : HubKept) × (rest : List HubKept) × (more ≡ k ∷ rest) × (k.input ≡ of_hub given)
    × Hears d name (ks ++ k ∷ []) cs rest)

-- ---- which messages came

abbrev pub on_link : Source → Envelope → Came
on_link s e = record { over = s; body = e.body }

-- the front that was kept, and what was popped since
abbrev pub came_between : Source → InSeen → InSeen → List Came
came_between s j i = map (on_link s) (front_list j.front ++ drop (length j.link.received) i.link.received)

abbrev pub came_at : Source → Option InSeen → Option InSeen → List Came
came_at s None o = []
came_at s (Some j) None = []
came_at s (Some j) (Some i) = came_between s j i

-- from one of these, by its end at hub i
abbrev pub came_from : Deployed → ℕ → List InSeen → List InSeen → Source → List Came
came_from d i old new s = came_at s (slice_get old (end_of d i s)) (slice_get new (end_of d i s))

-- from each of them, one after the other
abbrev pub came_over : Deployed → ℕ → List InSeen → List InSeen → List Source → List Came
came_over d i old new ss = flat_map (came_from d i old new) ss

-- ---- what a pass does

-- it was found empty, and no front is kept
pub record IsEmptied (old new : InSeen) : Type 0 where
  pub front : new.front ≡ None
  pub empties : new.link.empties ≡ rise old.link.empties
  pub popped : (more : List Envelope) × (new.link.received ≡ old.link.received ++ more)

-- a link over which the hub hears was emptied, and no other changed
abbrev pub IsHeard : Bool → InSeen → InSeen → Type 0
IsHeard true old new = IsEmptied old new
IsHeard false old new = new ≡ old

abbrev pub is_heard : HubInput → Bool
is_heard (hub.Bulk from gear number payload) = true
is_heard (hub.BeatIn from number beat) = true
is_heard _ = false

-- each of these entries is of a payload or of a beat that came
abbrev pub AreHeard : List HubKept → Type 0
AreHeard [] = Unit {0}
AreHeard (k ∷ ks) = (is_heard k.input.input ≡ true) × AreHeard ks

-- the node kept some entries of messages more, or none
pub record Heard (old new : HubHeld) : Type 0 where
  pub name : new.node.name ≡ old.node.name
  pub added : (more : List HubKept) × (new.node.entries ≡ old.node.entries ++ more) × AreHeard more

-- the entries that it kept are those of what came from the other sites, in the order of hearing
abbrev pub HearsAll : Deployed → HubHeld → HubHeld → Type 0
HearsAll d old new =
    (more : List HubKept) × (new.node.entries ≡ old.node.entries ++ more)
    × Hears d old.node.name old.node.entries
    (came_over d (number_of old.node.name) old.ins new.ins (sources d (number_of old.node.name))) more
