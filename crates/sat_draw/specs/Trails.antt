-- What an entry leaves for later ones, and what it comes from.
use Rattle.std.specs.Prelude.{ℕ, Bool, true, false, ◌&&◌, ◌==◌, List, [], ◌∷◌, map, Option, Some, None, unwrap_or}
use Rattle.std.specs.Prelude.{if◌then◌else◌}
use Rattle.std.specs.Ordering.{nat_cmp, ordering_then}
use Rattle.std.specs.declared.cmp.Ordering.{Ordering}
use Rattle.sat_label.specs.declared.label.Label.{Label}
use Rattle.sat_label.specs.declared.label.Kind.{Kind}
use Rattle.sat_label.specs.declared.label.Kind.TheVariants.{Update, Move, Pulse, Close}
use Rattle.sat_label.specs.declared.node.NodeId.{NodeId}
use Rattle.sat_label.specs.declared.node.NodeId.TheVariants.{Site, Serializer}
use Rattle.sat_label.specs.Grouped.{least_item, list_of}
use Rattle.sat_label.specs.Order.{kind_rank}
use Rattle.sat_act.specs.declared.act.Act.{Act}
use Rattle.sat_act.specs.declared.act.Act.TheVariants as act
use Rattle.sat_act.specs.declared.answer.Answer.{Answer}
use Rattle.sat_act.specs.declared.answer.Answer.TheVariants as ans
use Rattle.sat_act.specs.declared.answer.Refusal.{Refusal}
use Rattle.sat_act.specs.declared.answer.Refusal.TheVariants as why
use Rattle.sat_act.specs.Done.{at_site, of_client}
use Rattle.sat_draw.specs.declared.element.Ink.{Ink}
use Rattle.sat_draw.specs.declared.element.Ink.TheVariants as ink
use Rattle.sat_draw.specs.declared.trail.Trail.{Trail}
use Rattle.sat_draw.specs.declared.trail.Coming.{Coming}
use Rattle.sat_draw.specs.declared.trail.TheConstants.{MADE, SENT, TO_SITE, TO_SERIALIZER, BROUGHT, BEAT, SEATED, AWAY}
use Rattle.sat_draw.specs.declared.trail.TheConstants.{CLOSING, VIEWING, BEAT_RANK, CLIENT_RANK, CLOSING_RANK}
use Rattle.sat_draw.specs.declared.trail.TheConstants.{VIEWING_RANK}

-- ---- trails

-- a kind's number, of an update its first item: no two labels of a run have the same point, rank and number
abbrev pub kind_number : Kind → ℕ
kind_number (Update items) = least_item (list_of items)
kind_number (Move j) = j
kind_number Pulse = 0
kind_number (Close e) = e

-- a label at a stop of its way
abbrev pub label_at : ℕ → ℕ → Label → Trail
label_at stop at l =
    record {
      stop = stop;
      at = at;
      ts = l.point.ts;
      site = l.point.site;
      gear = l.point.gear;
      rank = kind_rank l.kind;
      number = kind_number l.kind;
    }

-- a label that was made
abbrev pub made : Label → Trail
made l = label_at MADE 0 l

-- a label that its site sent
abbrev pub sent : Label → Trail
sent l = label_at SENT 0 l

-- a label that a serializer handed on to a node
abbrev pub toward : Label → NodeId → Trail
toward l (Site j) = label_at TO_SITE j l
toward l (Serializer z) = label_at TO_SERIALIZER z l

-- an update whose payload was brought to site j
abbrev pub brought : Label → ℕ → Trail
brought l j = label_at BROUGHT j l

-- beat n of site i for site j; its rank is no label's
abbrev pub beat : ℕ → ℕ → ℕ → Trail
beat i j n = record { stop = BEAT; at = j; ts = n; site = i; gear = 0; rank = BEAT_RANK; number = 0 }

-- a client at its seat, or on its way to another one; its rank is no label's
abbrev pub client_at : ℕ → ℕ → Trail
client_at stop c = record { stop = stop; at = 0; ts = c; site = 0; gear = 0; rank = CLIENT_RANK; number = 0 }

-- site i between its close and its advance
abbrev pub closing : ℕ → Trail
closing i = record { stop = CLOSING; at = i; ts = i; site = 0; gear = 0; rank = CLOSING_RANK; number = 0 }

-- site i in a view that it advanced to
abbrev pub viewing : ℕ → Trail
viewing i = record { stop = VIEWING; at = i; ts = i; site = 0; gear = 0; rank = VIEWING_RANK; number = 0 }

-- two trails are the same
abbrev pub trail_eq : Trail → Trail → Bool
trail_eq s t =
    (s.stop == t.stop)
    && ((s.at == t.at)
    && ((s.ts == t.ts)
    && ((s.site == t.site) && ((s.gear == t.gear) && ((s.rank == t.rank) && (s.number == t.number))))))

-- how trails compare, as a map compares them
abbrev pub trail_cmp : Trail → Trail → Ordering
trail_cmp s t =
    ordering_then (nat_cmp s.stop t.stop)
    (ordering_then (nat_cmp s.at t.at) (ordering_then (nat_cmp s.ts t.ts) (ordering_then (nat_cmp s.site t.site)
    (ordering_then (nat_cmp s.gear t.gear) (ordering_then (nat_cmp s.rank t.rank) (nat_cmp s.number t.number))))))

-- ---- what an entry leaves

-- the site of an act of a site, or 0
abbrev pub site_in : Act → ℕ
site_in a = unwrap_or (at_site a) 0

-- the beat that an act makes
abbrev pub beat_left : Act → ℕ → List Trail
beat_left (act.Beat i j) n = beat i j n ∷ []
beat_left _ n = []

-- the client that an attach is of, and whether it was refused for what its client saw
abbrev pub attaching : Act → Option ℕ
attaching (act.Attach c j) = Some c
attaching _ = None

abbrev pub is_not_yet : Refusal → Bool
is_not_yet why.NotYet = true
is_not_yet _ = false

-- the client that goes on waiting for its seat
abbrev pub waiting : Act → Refusal → Option ℕ
waiting a r = if is_not_yet r then attaching a else None

abbrev pub client_trail : ℕ → Option ℕ → List Trail
client_trail stop None = []
client_trail stop (Some c) = client_at stop c ∷ []

-- the trails that an act with this answer leaves: a label that was made, sent or handed on, a payload that was brought,
-- a beat; its client at its seat or on its way; its site, that has closed or advanced
unfoldable pub left_by : Act → Answer → List Trail
left_by a (ans.Wrote l) = made l ∷ client_trail SEATED (of_client a)
left_by a ans.ReadNone = client_trail SEATED (of_client a)
left_by a (ans.ReadSome l v) = client_trail SEATED (of_client a)
left_by a (ans.Moved l) = made l ∷ client_trail AWAY (of_client a)
left_by a (ans.Left p) = client_trail AWAY (of_client a)
left_by a ans.Attached = client_trail SEATED (of_client a)
left_by a (ans.Refused r) = client_trail AWAY (waiting a r)
left_by a (ans.Emitted l) = sent l ∷ []
left_by a (ans.Pulsed l) = sent l ∷ []
left_by a (ans.Closed e p) = sent (record { point = p; kind = Close e }) ∷ closing (site_in a) ∷ []
left_by a (ans.Hopped l to) = map (toward l) to
left_by a (ans.Brought l) = brought l (site_in a) ∷ []
left_by a (ans.Beat n) = beat_left a n
left_by a (ans.View v) = viewing (site_in a) ∷ []
left_by a _ = []

-- the trail of a label on which it is made: an update and a move before they are sent, a pulse and a close as they are
unfoldable pub born : Answer → Option Trail
born (ans.Wrote l) = Some (made l)
born (ans.Moved l) = Some (made l)
born (ans.Pulsed l) = Some (sent l)
born (ans.Closed e p) = Some (sent (record { point = p; kind = Close e }))
born _ = None

-- ---- what an entry comes from

-- how a label is drawn on a link
abbrev pub kind_ink : Kind → Ink
kind_ink (Update items) = ink.Label
kind_ink (Move j) = ink.Move
kind_ink Pulse = ink.Pulse
kind_ink (Close e) = ink.Close

abbrev pub comes : Ink → Trail → Coming
comes ink trail = record { ink = ink; trail = trail }

-- a hop takes a label from the node before: from its own site, or from a serializer that handed it on to this one
abbrev pub hopped_from : Act → Label → List Coming
hopped_from (act.Hop e (Site i) z) l = comes (kind_ink l.kind) (sent l) ∷ []
hopped_from (act.Hop e (Serializer y) z) l = comes (kind_ink l.kind) (toward l (Serializer z)) ∷ []
hopped_from _ l = []

-- an update is shown when its label came, by a turn, and its payload is there
abbrev pub shown_from : Act → Label → List Coming
shown_from (act.Turn j) l = comes (kind_ink l.kind) (toward l (Site j)) ∷ comes ink.Store (brought l j) ∷ []
shown_from (act.Stamp j) l = comes ink.Store (brought l j) ∷ []
shown_from _ l = []

abbrev pub took_from : Act → Label → List Coming
took_from (act.Turn j) l = comes (kind_ink l.kind) (toward l (Site j)) ∷ []
took_from _ l = []

abbrev pub taken_from : Act → List Coming
taken_from (act.BeatIn i j n) = comes ink.Beat (beat i j n) ∷ []
taken_from _ = []

abbrev pub client_coming : Ink → ℕ → Option ℕ → List Coming
client_coming ink stop None = []
client_coming ink stop (Some c) = comes ink (client_at stop c) ∷ []

-- the trails on which an act with this answer ends, and how each is drawn: a label waits in the sink from its making to
-- its sending, and then goes over links; a payload goes from its write to its site, and waits there until its update is
-- shown; a beat goes from site to site; a client comes from its last act, and without a seat from its leave, over the
-- attaches that were refused; a site from its close to its advance, and from there to its next close
unfoldable pub comes_from : Act → Answer → List Coming
comes_from a (ans.Wrote l) = client_coming ink.Seat SEATED (of_client a)
comes_from a ans.ReadNone = client_coming ink.Seat SEATED (of_client a)
comes_from a (ans.ReadSome l v) = client_coming ink.Seat SEATED (of_client a)
comes_from a (ans.Moved l) = client_coming ink.Seat SEATED (of_client a)
comes_from a (ans.Left p) = client_coming ink.Seat SEATED (of_client a)
comes_from a ans.Attached = client_coming ink.Away AWAY (of_client a)
comes_from a (ans.Refused r) = client_coming ink.Away AWAY (waiting a r)
comes_from a (ans.View v) = comes ink.Switch (closing (site_in a)) ∷ []
comes_from a (ans.Closed e p) = comes ink.View (viewing (site_in a)) ∷ []
comes_from a (ans.Emitted l) = comes ink.Sink (made l) ∷ []
comes_from a (ans.Hopped l to) = hopped_from a l
comes_from a (ans.Brought l) = comes ink.Payload (made l) ∷ []
comes_from a (ans.Shown l) = shown_from a l
comes_from a (ans.Took l) = took_from a l
comes_from a ans.Taken = taken_from a
comes_from a _ = []

-- ---- seats

abbrev pub attached_by : Act → Option (ℕ × Option ℕ)
attached_by (act.Attach c j) = Some (c, Some j)
attached_by _ = None

abbrev pub freed_by : Act → Option (ℕ × Option ℕ)
freed_by a = elim (of_client a) [ None ↦ None | Some c ↦ Some (c, None) ]

-- the client whose seat an act with this answer changes, and the new seat
unfoldable pub reseated : Act → Answer → Option (ℕ × Option ℕ)
reseated a ans.Attached = attached_by a
reseated a (ans.Moved l) = freed_by a
reseated a (ans.Left p) = freed_by a
reseated a _ = None

-- what is then known of a client's seat, by such a change
abbrev pub after_change : Option (ℕ × Option ℕ) → Option ℕ → ℕ → Option ℕ
after_change None before c = before
after_change (Some change) before c = if change.0 == c then change.1 else before
