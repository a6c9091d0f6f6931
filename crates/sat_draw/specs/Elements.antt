-- How the elements of a drawing are spelled.
use Rattle.std.specs.Prelude.{ℕ, ◌==◌, nat_le, nat_lt, List, [], ◌∷◌, ◌++◌, length, take, codes}
use Rattle.std.specs.Prelude.{if◌then◌else◌}
use Rattle.std.specs.List.{flat_map}
use Rattle.std.specs.Fmt.{decimal}
use Rattle.sat_draw.specs.declared.element.Ink.{Ink}
use Rattle.sat_draw.specs.declared.element.Ink.TheVariants as ink
use Rattle.sat_draw.specs.declared.element.Spot.{Spot}
use Rattle.sat_draw.specs.declared.element.Element.{Element}
use Rattle.sat_draw.specs.declared.element.Element.TheVariants.{Line, Way, Lost, Rest, Small, Glow, Dot, Word}
use Rattle.sat_draw.specs.declared.trail.Trail.{Trail}
use Rattle.sat_draw.specs.declared.trail.TheConstants.{BEAT_RANK}

-- the class of an ink: all labels look like labels, and those that are no update's have a look of their own
unfoldable pub ink_word : Ink → List ℕ
ink_word ink.Lane = codes "lane"
ink_word ink.Rule = codes "rule"
ink_word ink.Edge = codes "edge"
ink_word ink.Node = codes "node"
ink_word ink.Label = codes "label"
ink_word ink.Move = codes "label move"
ink_word ink.Pulse = codes "label pulse"
ink_word ink.Close = codes "label close"
ink_word ink.Sink = codes "sink"
ink_word ink.Payload = codes "payload"
ink_word ink.Store = codes "store"
ink_word ink.Beat = codes "beat"
ink_word ink.Seat = codes "seat"
ink_word ink.Away = codes "seat away"
ink_word ink.Switch = codes "switch"
ink_word ink.View = codes "view"
ink_word ink.Dead = codes "dead"
ink_word ink.Done = codes "done"
ink_word ink.Refused = codes "refused"
ink_word ink.Title = codes "title"
ink_word ink.Name = codes "name"
ink_word ink.Client = codes "client"
ink_word ink.Epoch = codes "epoch"
ink_word ink.Act = codes "act"
ink_word ink.Said = codes "said"
ink_word ink.Denied = codes "denied"

-- a byte as it stands in a text: `&`, `<`, `>` and both quotes have words of their own
abbrev pub escape : ℕ → List ℕ
escape byte =
    if byte == 38 then codes "&amp;" else (if byte == 60 then codes "&lt;" else (if byte == 62 then codes "&gt;"
    else (if byte == 34 then codes "&quot;" else (if byte == 39 then codes "&#39;" else byte ∷ []))))

abbrev pub escaped : List ℕ → List ℕ
escaped text = flat_map escape text

abbrev pub line_text : List ℕ → Spot → Spot → List ℕ
line_text class from to =
    codes "<line class='" ++ (class ++ (codes "' x1='" ++ (decimal from.x ++ (codes "' y1='" ++ (decimal from.y
    ++ (codes "' x2='" ++ (decimal to.x ++ (codes "' y2='" ++ (decimal to.y ++ codes "'/>\n")))))))))

-- ---- ways

-- the class of all ways of one label
abbrev pub group_text : Trail → List ℕ
group_text t =
    codes "w" ++ (decimal t.ts ++ (45 ∷ (decimal t.site ++ (45 ∷ (decimal t.gear ++ (45 ∷ decimal t.rank))))))

-- what goes or waits, in words
unfoldable pub way_word : Ink → List ℕ
way_word ink.Label = codes "update"
way_word ink.Move = codes "move"
way_word ink.Pulse = codes "pulse"
way_word ink.Close = codes "close"
way_word ink.Sink = codes "in its sink:"
way_word ink.Payload = codes "payload of"
way_word ink.Store = codes "waits:"
way_word ink.Beat = codes "beat"
way_word ink.Seat = codes "client"
way_word ink.Away = codes "on its way: client"
way_word ink.Switch = codes "closed, not yet advanced: site"
way_word ink.View = codes "in a later view: site"
way_word _ = []

-- its title: with the point of its label, or with the number of a beat, a client or a site
abbrev pub label_title : List ℕ → Trail → List ℕ
label_title word t =
    word ++ (32 ∷ (decimal t.ts ++ (46 ∷ (decimal t.site ++ (46 ∷ (decimal t.gear ++ codes "</title></line>\n"))))))

abbrev pub number_title : List ℕ → ℕ → List ℕ
number_title word n = word ++ (32 ∷ (decimal n ++ codes "</title></line>\n"))

abbrev pub way_title : List ℕ → Trail → List ℕ
way_title word t = if nat_lt t.rank BEAT_RANK then label_title word t else number_title word t.ts

abbrev pub way_class : List ℕ → List ℕ
way_class class = codes "<line class='" ++ (class ++ 32 ∷ [])

abbrev pub way_start : List ℕ → List ℕ → List ℕ
way_start class group = way_class class ++ group

abbrev pub way_ends : Spot → Spot → List ℕ
way_ends from to =
    codes "' x1='" ++ (decimal from.x ++ (codes "' y1='" ++ (decimal from.y ++ (codes "' x2='" ++ (decimal to.x
    ++ (codes "' y2='" ++ (decimal to.y ++ codes "'><title>")))))))

abbrev pub way_text : List ℕ → List ℕ → Trail → Spot → Spot → List ℕ
way_text class word t from to = way_start class (group_text t) ++ (way_ends from to ++ way_title word t)

-- the class of a label that was lost: that of its kind
unfoldable pub lost_class : ℕ → List ℕ
lost_class rank =
    if rank == 1 then codes "label move lost" else (if rank == 3 then codes "label close lost" else codes "label lost")

-- the class of what a settle moved: a payload, or a label of its kind
unfoldable pub small_class : Ink → List ℕ
small_class ink.Payload = codes "payload small"
small_class ink.Move = codes "label move small"
small_class ink.Close = codes "label close small"
small_class _ = codes "label small"

-- the style by which the ways of a label stand out: where one of them is under the pointer, each is thick
abbrev pub under_pointer : List ℕ → List ℕ
under_pointer group = codes "<style>svg:has(." ++ (group ++ codes ":hover) .")

abbrev pub are_thick : List ℕ → List ℕ
are_thick group = group ++ codes "{stroke-width:4}</style>\n"

abbrev pub glow_text : List ℕ → List ℕ
glow_text group = under_pointer group ++ are_thick group

-- ---- marks and words

abbrev pub dot_start : List ℕ → Spot → List ℕ
dot_start class at =
    codes "<circle class='" ++ (class ++ (codes "' cx='" ++ (decimal at.x ++ (codes "' cy='"
    ++ (decimal at.y ++ codes "' r='4'><title>")))))

abbrev pub dot_text : List ℕ → Spot → List ℕ → List ℕ
dot_text class at text = dot_start class at ++ (escaped text ++ codes "</title></circle>\n")

-- how many bytes of a text there is room for
abbrev pub room : Ink → ℕ
room ink.Act = 27
room ink.Said = 41
room ink.Denied = 41
room ink.Client = 16
room _ = 400

-- a text for which there is no room is the title of what is shown of it
abbrev pub whole_of : ℕ → List ℕ → List ℕ
whole_of most text = if nat_le (length text) most then [] else codes "<title>" ++ (escaped text ++ codes "</title>")

-- what is shown: the front of such a text, and three dots as one character
abbrev pub front_of : ℕ → List ℕ → List ℕ
front_of most text =
    if nat_le (length text) most then escaped text else escaped (take most text) ++ 226 ∷ 128 ∷ 166 ∷ []

abbrev pub word_start : List ℕ → Spot → List ℕ
word_start class at =
    codes "<text class='"
    ++ (class ++ (codes "' x='" ++ (decimal at.x ++ (codes "' y='" ++ (decimal at.y ++ codes "'>")))))

abbrev pub word_text : List ℕ → Spot → ℕ → List ℕ → List ℕ
word_text class at most text =
    word_start class at ++ (whole_of most text ++ (front_of most text ++ codes "</text>\n"))

-- an element's line of the drawing
unfoldable pub spell : Element → List ℕ
unfolding ink_word way_word lost_class small_class
spell (Line ink from to) = line_text (ink_word ink) from to
spell (Way ink trail from to) = way_text (ink_word ink) (way_word ink) trail from to
spell (Lost trail from to) = way_text (lost_class trail.rank) (codes "never taken:") trail from to
spell (Rest ink trail from to) = way_text (ink_word ink) (way_word ink) trail from to
spell (Small ink trail from to) = way_text (small_class ink) (way_word ink) trail from to
spell (Glow trail) = glow_text (group_text trail)
spell (Dot ink at text) = dot_text (ink_word ink) at text
spell (Word ink at text) = word_text (ink_word ink) at (room ink) text

-- the lines of elements, in order
abbrev pub spelled : List Element → List ℕ
spelled xs = flat_map spell xs
