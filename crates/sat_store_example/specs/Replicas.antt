-- What a replica keeps, why it does not do what it is told, and what a client is told.
use Rattle.std.specs.Prelude.{ℕ, ◌≡◌, ◌==◌, ◌&&◌, Bool, true, false, List, nat_lt, slice_get, Option, Some, None}
use Rattle.std.specs.Prelude.{if◌then◌else◌, is_none}
use Rattle.sat_label.specs.declared.carried.Carried.{Carried}
use Rattle.sat_label.specs.declared.label.Label.{Label}
use Rattle.sat_label.specs.Order.{label_lt, point_lt}
use Rattle.sat_client.specs.declared.client.Client.{Client}
use Rattle.sat_client.specs.Clients.{after_join, after_move, after_observe, is_move}
use Rattle.sat_act.specs.declared.answer.Answer.{Answer}
use Rattle.sat_act.specs.declared.answer.Answer.TheVariants as ans
use Rattle.sat_site.specs.declared.input.SiteInput.{SiteInput}
use Rattle.sat_site.specs.declared.input.SiteInput.TheVariants as input
use Rattle.sat_site.specs.Inputs.{fits_in, is_front_here}
use Rattle.sat_site.specs.Seen.{SiteSeen}
use Rattle.sat_site.specs.SiteSteps.{site_answers}
use Rattle.sat_store_example.specs.Waiting.{link_of, with_label, without_front}
use Rattle.sat_store_example.specs.declared.links.TheConstants.{LINKS}
use Rattle.sat_store_example.specs.declared.fault.ReplicaFault.{ReplicaFault}
use Rattle.sat_store_example.specs.declared.fault.ReplicaFault.TheVariants.{Seat, Unfit}

-- the site's number, the site, and by epoch the labels that came and wait to be shown or taken, and those that it sent
-- and that its relay has not taken, the oldest first
pub record ReplicaSeen : Type 0 where
  pub number : ℕ
  pub site : SiteSeen
  pub inbox : List (List Label)
  pub outbox : List (List Label)

abbrev pub with_site : ReplicaSeen → SiteSeen → ReplicaSeen
with_site r x = record r { site = x }

-- why it does not do what it is handed
abbrev pub hand_fault : ReplicaSeen → SiteInput → Option ReplicaFault
hand_fault r given = if fits_in r.site given then None else Some Unfit

-- whether a client sits at a site
abbrev pub sits_at : Option ℕ → ℕ → Bool
sits_at None i = false
sits_at (Some j) i = j == i

-- why it does not do what a client calls for
abbrev pub call_fault : ReplicaSeen → Client → SiteInput → Option ReplicaFault
call_fault r c given = if sits_at c.seat r.number then hand_fault r given else Some Seat

-- why it does not ask whether a client may attach
abbrev pub attach_fault : ReplicaSeen → Client → SiteInput → Option ReplicaFault
attach_fault r c given = if is_none c.seat then hand_fault r given else Some Seat

-- the label that is sent in an epoch, if there is one, waits on its link
abbrev pub posted : List (List Label) → ℕ → Option Label → List (List Label)
posted links epoch None = links
posted links epoch (Some l) = with_label links epoch l

-- why a label may not wait on the link of an epoch: there is no such epoch, or no other site sends such a label there
abbrev pub arrive_fault : ReplicaSeen → ℕ → Label → Option ReplicaFault
arrive_fault r epoch l = if nat_lt epoch LINKS && is_front_here r.site.shape epoch l then None else Some Unfit

-- the oldest label that waits in the tree of the site's view
abbrev pub next_label : ReplicaSeen → Option Label
next_label r = slice_get (link_of r.inbox r.site.views.view) 0

-- the labels that wait, after the oldest of an epoch was shown, taken or left there
abbrev pub inbox_after : Answer → ℕ → List (List Label) → List (List Label)
inbox_after (ans.Shown l) epoch links = without_front links epoch
inbox_after (ans.Took l) epoch links = without_front links epoch
inbox_after r epoch links = links

-- what the answer makes of a client
abbrev pub told : Answer → Client → Client
told (ans.Wrote l) c = after_observe c l.point
told (ans.ReadSome l value) c = after_observe c l.point
told (ans.Moved l) c = after_move c l
told r c = c

-- the label of a move is above all that the client saw
abbrev pub MayTell : Answer → Client → Type 0
MayTell r c = (l : Label) → r ≡ ans.Moved l → (is_move l.kind ≡ true) × (point_lt c.carried.point l.point ≡ true)

-- a client that was let in sits there
abbrev pub joined : Answer → ℕ → Client → Client
joined ans.Attached i c = after_join c i
joined r i c = c

-- the site makes payloads with this gear for this other site
abbrev pub has_lane : SiteSeen → ℕ → ℕ → Bool
has_lane x g j = fits_in x (input.Tick g 0) && fits_in x (input.Beat j)

-- what a read answers once a version with this label and value came: that one, unless the version that it answered
-- before is greater
abbrev pub newer_read : Answer → Label → List ℕ → Answer
newer_read (ans.ReadSome m old) l value = if label_lt m l then ans.ReadSome l value else ans.ReadSome m old
newer_read r l value = ans.ReadSome l value

-- between two moments of a site a version of an item came: any client's read says so
abbrev pub ReadsNewer : SiteSeen → SiteSeen → ℕ → Label → List ℕ → Type 0
ReadsNewer x y n l value =
    (seen : Carried) → site_answers y (input.Read seen n) ≡ newer_read (site_answers x (input.Read seen n)) l value
