-- What one entry did, by its act and its answer.
use Rattle.std.specs.Prelude.{ℕ, Bool, false, ◌&&◌, ◌==◌, List, [], ◌∷◌, Option, Some, None, if◌then◌else◌}
use Rattle.sat_label.specs.declared.items.Items.{Items}
use Rattle.sat_label.specs.declared.items.Items.TheVariants.{One}
use Rattle.sat_label.specs.declared.label.Kind.TheVariants.{Close}
use Rattle.sat_label.specs.declared.label.Label.{Label}
use Rattle.sat_act.specs.declared.act.Act.{Act}
use Rattle.sat_act.specs.declared.act.Act.TheVariants as act
use Rattle.sat_act.specs.declared.answer.Answer.{Answer}
use Rattle.sat_act.specs.declared.answer.Answer.TheVariants as ans

-- the label that was made: an Update or a Move
abbrev pub made_in : Answer → Option Label
made_in (ans.Wrote l) = Some l
made_in (ans.Moved l) = Some l
made_in _ = None

-- the label that was sent by its site: one that left the sink, or a close
abbrev pub sent_in : Answer → Option Label
sent_in (ans.Emitted l) = Some l
sent_in (ans.Pulsed l) = Some l
sent_in (ans.Closed epoch p) = Some (record { point = p; kind = Close epoch })
sent_in _ = None

-- the site that an act of a site is at. A bulk, and a beat that comes in, is at the site that takes it
abbrev pub at_site : Act → Option ℕ
at_site (act.Gather i) = Some i
at_site (act.Emit i) = Some i
at_site (act.Pulse i) = Some i
at_site (act.Turn i) = Some i
at_site (act.Stamp i) = Some i
at_site (act.Close i) = Some i
at_site (act.Fall i) = Some i
at_site (act.Advance i) = Some i
at_site (act.Bulk i g j n) = Some j
at_site (act.BeatIn i j n) = Some j
at_site _ = None

-- an act at site j
abbrev pub is_at : Act → ℕ → Bool
is_at a j = elim (at_site a) [ None ↦ false | Some i ↦ i == j ]

-- the client of an act of a client
abbrev pub of_client : Act → Option ℕ
of_client (act.Write c x v) = Some c
of_client (act.Writes c items values) = Some c
of_client (act.Read c x) = Some c
of_client (act.Move c j) = Some c
of_client (act.Leave c) = Some c
of_client (act.Attach c j) = Some c
of_client _ = None

-- what is written: by which client, which items, and a value for each of them
pub record Written : Type 0 where
  pub client : ℕ
  pub items : Items
  pub values : List (List ℕ)

-- what an act writes: one item, or several under one label
abbrev pub write_in : Act → Option Written
write_in (act.Write c x v) = Some (record { client = c; items = One x; values = v ∷ [] })
write_in (act.Writes c items values) = Some (record { client = c; items = items; values = values })
write_in _ = None

-- an act of client c
abbrev pub is_of : Act → ℕ → Bool
is_of a c = elim (of_client a) [ None ↦ false | Some b ↦ b == c ]

-- a tick of gear g of site i
abbrev pub is_tick : Act → ℕ → ℕ → Bool
is_tick (act.Tick site gear ts) i g = (site == i) && (gear == g)
is_tick _ i g = false

-- a gather of site i
abbrev pub is_gather : Act → ℕ → Bool
is_gather (act.Gather site) i = site == i
is_gather _ i = false

-- a beat that i makes for j
abbrev pub is_beat : Act → ℕ → ℕ → Bool
is_beat (act.Beat from to) i j = (from == i) && (to == j)
is_beat _ i j = false

-- the number of a beat of i that came in at j
abbrev pub beat_in : Act → ℕ → ℕ → Option ℕ
beat_in (act.BeatIn from to n) i j = if (from == i) && (to == j) then Some n else None
beat_in _ i j = None

-- the kill of serializer z of an epoch's tree
abbrev pub is_kill : Act → ℕ → ℕ → Bool
is_kill (act.Kill killed y) epoch z = (killed == epoch) && (y == z)
is_kill _ epoch z = false
