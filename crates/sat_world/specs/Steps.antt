-- What the acts of a world answer and do.
use Rattle.std.specs.Prelude.{ℕ, ◌≡◌, Bool, true, false, List, [], set, Option, Some, None, slice_get}
use Rattle.sat_label.specs.declared.items.Items.{Items}
use Rattle.sat_label.specs.declared.label.Label.{Label}
use Rattle.sat_label.specs.declared.node.NodeId.{NodeId}
use Rattle.sat_label.specs.declared.node.NodeId.TheVariants.{Site, Serializer}
use Rattle.sat_label.specs.Order.{point_lt}
use Rattle.sat_tree.specs.Cut.{seat_of}
use Rattle.sat_act.specs.declared.answer.Refusal.TheVariants as why
use Rattle.sat_sites.specs.Interested.{Interested}
use Rattle.sat_act.specs.declared.act.Act.{Act}
use Rattle.sat_act.specs.declared.act.Act.TheVariants as act
use Rattle.sat_act.specs.declared.answer.Answer.{Answer}
use Rattle.sat_act.specs.declared.answer.Answer.TheVariants as ans
use Rattle.sat_act.specs.Deployed.{Deployed}
use Rattle.sat_act.specs.Done.{write_in}
use Rattle.sat_act.specs.Ranges.{IsActOf}
use Rattle.sat_act.specs.Settling.{is_done}
use Rattle.sat_serial.specs.Routes.{routes}
use Rattle.sat_bulk.specs.Payloads.{Payload}
use Rattle.sat_client.specs.declared.client.Client.{Client}
use Rattle.sat_client.specs.Clients.{after_join, after_move, after_observe, is_move}
use Rattle.sat_model.specs.State.{SiteState}
use Rattle.sat_model.specs.Input.{SiteInput}
use Rattle.sat_model.specs.Look.{front_of}
use Rattle.sat_model.specs.Reply.{site_answer}
use Rattle.sat_model.specs.Replay.{given_at}
use Rattle.sat_model.specs.World.{WorldState, world_given, world_answer, world_next}
use Rattle.sat_net.specs.Nets.{NetSeen, link_of, is_dead, after_send, after_hop, after_take, after_kill, HopsOn}
use Rattle.sat_net.specs.Nets.{HopsOut, link_to, with_link_to}
use Rattle.sat_site.specs.declared.input.SiteInput as code
use Rattle.sat_site.specs.declared.input.SiteInput.TheVariants as input
use Rattle.sat_site.specs.Seen.{SiteSeen, IsSite}
use Rattle.sat_site.specs.Inputs.{input_of, fits_in, is_sized}
use Rattle.sat_site.specs.SiteSteps.{site_answers, site_after}
use Rattle.sat_site.specs.Stands.{StandsSite}
use Rattle.sat_site.specs.Bulks.{BulksOn}
use Rattle.sat_site.specs.Turns.{TurnsOn}
use Rattle.sat_proxy.specs.Answers.{turn_answer}
use Rattle.sat_world.specs.Counts.{counted}
use Rattle.sat_world.specs.Seen.{WorldSeen, HasSite}
use Rattle.sat_world.specs.Stands.{Stands}
use Rattle.sat_world.specs.Worlds.{IsFrame}

-- the answer of an act, and the parts of the world after it, are the machine's in each state that the world stands for,
-- and what was shown is still to be counted; an act that isn't done leaves the world
pub record Goes (w : WorldSeen) (a : Act) (r : Answer) (v : WorldSeen) : Type 0 where
  pub deployment : v.deployment ≡ w.deployment
  pub shown : v.shown ≡ w.shown
  pub frame : IsFrame v
  pub answer : (s : WorldState) → Stands w s → r ≡ world_answer w.deployment s a
  pub stands : (s : WorldState) → Stands w s → Stands v (world_next w.deployment s a r)
  pub refused : is_done r ≡ false → v ≡ w

-- and what was shown is counted
pub record Counts (w : WorldSeen) (a : Act) (r : Answer) (v : WorldSeen) : Type 0 where
  pub goes : Goes w a r (record v { shown = w.shown })
  pub shown : v.shown ≡ counted r w.shown

-- ---- one site

-- site i is handed something, answers it, and becomes another site
pub record StepsAt (xs : List SiteSeen) (i : ℕ) (input : code.SiteInput) (r : Answer)
    (ys : List SiteSeen) : Type 0 where
  pub before : SiteSeen
  pub at : slice_get xs i ≡ Some before
  pub sound : IsSite before
  pub fits : fits_in before input ≡ true
  pub answers : r ≡ site_answers before input
  pub rest : ys ≡ set xs i (site_after before input)

-- the machine hands this to site i in an act, to no other site anything, and answers what the site does
pub record HandsIn (d : Deployed) (s : WorldState) (a : Act) (i : ℕ) (input : SiteInput) : Type 0 where
  pub given : (k : ℕ) → world_given d s a k ≡ given_at i k input
  pub answer : world_answer d s a ≡ site_answer d i (s.sites i) input

-- in an act a site is handed this, in each state that the world stands for, and its numbers have their sizes there
pub record Hands (w : WorldSeen) (a : Act) (i : ℕ) (input : code.SiteInput) : Type 0 where
  pub hands : (s : WorldState) → Stands w s → HandsIn w.deployment s a i (input_of input)
  pub sized : (x : SiteSeen) → HasSite w i x → is_sized x input ≡ true

-- the number of a payload at its receiver: the one that is asked for, or else the front of its lane
abbrev pub number_at : SiteState → ℕ → ℕ → Option ℕ → ℕ
number_at s from gear asked = elim asked [ None ↦ front_of s from gear | Some n ↦ n ]

-- the number is that one, in each state that the receiver stands for
abbrev pub IsNumber : SiteSeen → ℕ → ℕ → Option ℕ → ℕ → Type 0
IsNumber y from gear asked n =
    (d : Deployed) (k : ℕ) (s : SiteState) → StandsSite d k y s → n ≡ number_at s from gear asked

-- the act at site i that hands it this and nothing of a client, of a link or of another site. A settle stands for the
-- inputs that do
abbrev pub act_at : ℕ → code.SiteInput → Act
act_at i (input.Tick g ts) = act.Tick i g ts
act_at i input.Gather = act.Gather i
act_at i input.Emit = act.Emit i
act_at i input.Pulse = act.Pulse i
act_at i (input.Beat j) = act.Beat i j
act_at i input.Stamp = act.Stamp i
act_at i input.Close = act.Close i
act_at i input.Fall = act.Fall i
act_at i input.Advance = act.Advance i
act_at i _ = act.Settle

-- an act at one site that moves no label and is no client's
abbrev pub is_local : Act → Bool
is_local (act.Tick i g ts) = true
is_local (act.Gather i) = true
is_local (act.Bulk i g j o) = true
is_local (act.Beat i j) = true
is_local (act.BeatIn i j n) = true
is_local (act.Stamp i) = true
is_local (act.Fall i) = true
is_local (act.Advance i) = true
is_local _ = false

-- an act at one site that moves no label, is no client's and shows nothing, whatever else it is told
abbrev pub is_quiet : Act → Bool
is_quiet (act.Beat i j) = true
is_quiet (act.Fall i) = true
is_quiet (act.Advance i) = true
is_quiet _ = false

-- an act at one site that may send a label
abbrev pub is_sending : Act → Bool
is_sending (act.Emit i) = true
is_sending (act.Pulse i) = true
is_sending (act.Close i) = true
is_sending _ = false

-- ---- clients

-- an act of the deployment by which a client writes some items, one of them or several, with a value for each
pub record WritesBy (d : Deployed) (c : ℕ) (items : Items) (values : List (List ℕ)) (a : Act) : Type 0 where
  pub writes : write_in a ≡ Some (record { client = c; items = items; values = values })
  pub act : IsActOf d a

-- what an answer to a write, a read or a move makes of the client
abbrev pub told : Answer → Client → Client
told (ans.Wrote l) x = after_observe x l.point
told (ans.ReadSome l v) x = after_observe x l.point
told (ans.Moved l) x = after_move x l
told r x = x

-- the label of a move is one, and above all that the client saw
abbrev pub MayTell : Answer → Client → Type 0
MayTell r x = (l : Label) → r ≡ ans.Moved l → (is_move l.kind ≡ true) × (point_lt x.carried.point l.point ≡ true)

-- what the answer of site j to an attach makes of it
abbrev pub joined : Answer → ℕ → Client → Client
joined ans.Attached j x = after_join x j
joined r j x = x

-- ---- one net

-- a label that a site sends enters the net, where there is one
abbrev pub net_sent : Option NetSeen → ℕ → Option Label → Option NetSeen
net_sent None i o = None
net_sent (Some net) i None = Some net
net_sent (Some net) i (Some l) = Some (after_send net i l)

-- the front of the link to site j, None where there is no net
abbrev pub front_to : Option NetSeen → ℕ → Option Label
front_to None j = None
front_to (Some net) j = slice_get (link_of net (Serializer (seat_of net.tree j)) (Site j)) 0

-- it leaves the net where the site showed it or took it
abbrev pub net_taken : Answer → Option NetSeen → ℕ → Option NetSeen
net_taken r None j = None
net_taken (ans.Shown l) (Some net) j = Some (after_take net j)
net_taken (ans.Took l) (Some net) j = Some (after_take net j)
net_taken r (Some net) j = Some net

-- a hop to serializer z over its link from u: what is answered, and the net after it
pub data Hops (net : NetSeen) (a : Interested) (u : NodeId) (z : ℕ) : Answer → NetSeen → Type 0 where
  finds_dead : is_dead net z ≡ true → Hops net a u z (ans.Refused why.Dead) net
  finds_none : is_dead net z ≡ false → slice_get (link_of net u (Serializer z)) 0 ≡ None
      → Hops net a u z (ans.Refused why.Empty) net
  hops : (l : Label) → is_dead net z ≡ false → slice_get (link_of net u (Serializer z)) 0 ≡ Some l
      → Hops net a u z (ans.Hopped l (routes a net.tree z u l)) (after_hop net a u z l)

-- a kill of serializer z: what is answered, and the net after it
pub data Kills (net : NetSeen) (z : ℕ) : Answer → NetSeen → Type 0 where
  finds_killed : is_dead net z ≡ true → Kills net z (ans.Refused why.Already) net
  kills : is_dead net z ≡ false → Kills net z ans.Killed (after_kill net z)

-- the net at a place becomes another one, and the other nets stay
pub record NetAt (nets : List (Option NetSeen)) (n : ℕ) (before after : Option NetSeen)
    (now : List (Option NetSeen)) : Type 0 where
  pub at : slice_get nets n ≡ Some before
  pub rest : now ≡ set nets n after

-- the net at a place, which is there, has a hop
pub record HopsAt (nets : List (Option NetSeen)) (n : ℕ) (a : Interested) (u : NodeId) (z : ℕ) (r : Answer)
    (now : List (Option NetSeen)) : Type 0 where
  pub before : NetSeen
  pub after : NetSeen
  pub at : slice_get nets n ≡ Some (Some before)
  pub hop : Hops before a u z r after
  pub rest : now ≡ set nets n (Some after)

-- a serializer of the net at a place, which is there, is killed
pub record KillsAt (nets : List (Option NetSeen)) (n z : ℕ) (r : Answer) (now : List (Option NetSeen)) : Type 0 where
  pub before : NetSeen
  pub after : NetSeen
  pub at : slice_get nets n ≡ Some (Some before)
  pub kill : Kills before z r after
  pub rest : now ≡ set nets n (Some after)

-- the net at a place, which is there, had so many hops over the link from u to serializer z
pub record HopsOnAt (nets : List (Option NetSeen)) (n : ℕ) (a : Interested) (u : NodeId) (z count : ℕ)
    (now : List (Option NetSeen)) : Type 0 where
  pub before : NetSeen
  pub after : NetSeen
  pub at : slice_get nets n ≡ Some (Some before)
  pub hops : HopsOn a u z before count after
  pub rest : now ≡ set nets n (Some after)

-- and has no more
pub record HopsOutAt (nets : List (Option NetSeen)) (n : ℕ) (a : Interested) (u : NodeId) (z count : ℕ)
    (now : List (Option NetSeen)) : Type 0 where
  pub before : NetSeen
  pub after : NetSeen
  pub at : slice_get nets n ≡ Some (Some before)
  pub hops : HopsOut a u z before count after
  pub rest : now ≡ set nets n (Some after)

-- the labels on the link to site j, in the net at a place, are lent out
pub record LendsAt (nets : List (Option NetSeen)) (n j : ℕ) (lent : List Label)
    (now : List (Option NetSeen)) : Type 0 where
  pub before : NetSeen
  pub at : slice_get nets n ≡ Some (Some before)
  pub labels : lent ≡ link_to before j
  pub rest : now ≡ set nets n (Some (with_link_to before j []))

-- site i has taken the first so many of these payloads of a lane, with the numbers from one on
pub record BulksAt (xs : List SiteSeen) (i from gear first : ℕ) (ps : List Payload) (count : ℕ)
    (ys : List SiteSeen) : Type 0 where
  pub before : SiteSeen
  pub after : SiteSeen
  pub at : slice_get xs i ≡ Some before
  pub bulks : BulksOn before from gear first ps count after
  pub rest : ys ≡ set xs i after

-- site i has turned the first so many of these labels, and turns no more
pub record TurnsAt (xs : List SiteSeen) (i : ℕ) (labels : List Label) (count shown : ℕ)
    (ys : List SiteSeen) : Type 0 where
  pub before : SiteSeen
  pub after : SiteSeen
  pub at : slice_get xs i ≡ Some before
  pub turns : TurnsOn before labels count shown after
  pub sound : IsSite after
  pub end : is_done (turn_answer after.views after.proxy (slice_get labels count)) ≡ false
  pub rest : ys ≡ set xs i after
