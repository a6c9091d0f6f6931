-- Labels that were sent and never taken: each is drawn as a short way that ends in a cross.
use Rattle.std.specs.Prelude.{◌+◌, Bool, true, false, ◌&&◌, ◌||◌, ◌==◌, nat_le, List, [], ◌∷◌, ◌++◌, Option, Some}
use Rattle.std.specs.Prelude.{None, if◌then◌else◌}
use Rattle.std.specs.List.{flat_map}
use Rattle.sat_act.specs.declared.answer.Answer.{Answer}
use Rattle.sat_act.specs.declared.answer.Answer.TheVariants as ans
use Rattle.sat_act.specs.declared.entry.Entry.{Entry}
use Rattle.sat_act.specs.Deployed.{Deployed}
use Rattle.sat_draw.specs.declared.element.Spot.{Spot}
use Rattle.sat_draw.specs.declared.element.Element.{Element}
use Rattle.sat_draw.specs.declared.element.Element.TheVariants.{Lost}
use Rattle.sat_draw.specs.declared.trail.Trail.{Trail}
use Rattle.sat_draw.specs.declared.trail.Coming.{Coming}
use Rattle.sat_draw.specs.declared.trail.TheConstants.{SENT, TO_SERIALIZER}
use Rattle.sat_draw.specs.declared.lost.Sending.{Sending}
use Rattle.sat_draw.specs.Trails.{trail_eq, left_by, comes_from}
use Rattle.sat_draw.specs.Rows.{spot_at, spot_of, after_leaving}

-- whether a trail is that of a label on a link: its site sent it, or a serializer handed it on
abbrev pub is_link : Trail → Bool
is_link t = nat_le SENT t.stop && nat_le t.stop TO_SERIALIZER

abbrev pub is_settled : Answer → Bool
is_settled (ans.Settled r n) = true
is_settled _ = false

-- whether one of these comes from a trail
abbrev pub takes : List Coming → Trail → Bool
takes [] t = false
takes (c ∷ cs) t = trail_eq c.trail t || takes cs t

-- what is then known of a label under way, by whether a settle was done, and by what was taken: a settle may have taken
-- any label
abbrev pub after_taking : Bool → List Coming → Option Spot → Trail → Option Spot
after_taking settled cs before t = if settled || takes cs t then None else before

-- the mark from which a trail was left last, if it was not taken since
unfoldable pub lost_spot : Deployed → List Entry → Trail → Option Spot
unfolding left_by comes_from
lost_spot d [] t = None
lost_spot d (entry ∷ before) t =
    after_leaving (left_by entry.act entry.answer) (spot_of d before entry)
    (after_taking (is_settled entry.answer) (comes_from entry.act entry.answer) (lost_spot d before t) t) t

-- the end of the short way of a lost label
abbrev pub beside : Spot → Spot
beside here = spot_at (here.x + 40) (here.y + 11)

-- the labels that went over a link from a mark, by the trails that were left there
abbrev pub sending : Spot → Trail → Sending
sending here t = record { trail = t; here = here; end = beside here }

abbrev pub sending_at : Spot → Trail → List Sending
sending_at here t = if is_link t then sending here t ∷ [] else []

abbrev pub sendings_at : Spot → List Trail → List Sending
sendings_at here ts = flat_map (sending_at here) ts

-- those of a history, in order
unfoldable pub sendings : Deployed → List Entry → List Sending
unfolding left_by
sendings d [] = []
sendings d (entry ∷ before) = sendings d before ++ sendings_at (spot_of d before entry) (left_by entry.act entry.answer)

abbrev pub is_spot : Option Spot → Spot → Bool
is_spot None here = false
is_spot (Some s) here = (s.x == here.x) && (s.y == here.y)

-- that way, with a cross at its end
abbrev pub lost_way : Sending → Element
lost_way s = Lost s.trail s.here s.end

-- a label that was sent here has one if it was lost
abbrev pub cross_for : (Trail → Option Spot) → Sending → List Element
cross_for found s = if is_spot (found s.trail) s.here then lost_way s ∷ [] else []

abbrev pub crosses_by : (Trail → Option Spot) → List Sending → List Element
crosses_by found ss = flat_map (cross_for found) ss

-- those of a history
unfoldable pub crosses : Deployed → List Entry → List Element
unfolding lost_spot sendings
crosses d h = crosses_by (lost_spot d h) (sendings d h)
