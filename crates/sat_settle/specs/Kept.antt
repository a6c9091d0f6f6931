-- What is kept of the entries that a settle makes: the first of those that move a payload or a label.
use Rattle.std.specs.Prelude.{◌≡◌, Bool, true, false, ◌&&◌, not, nat_lt, List, [], ◌∷◌, ◌++◌, length, if◌then◌else◌}
use Rattle.sat_label.specs.declared.label.Kind.{Kind}
use Rattle.sat_label.specs.declared.label.Kind.TheVariants.{Pulse}
use Rattle.sat_act.specs.declared.act.Act.{Act}
use Rattle.sat_act.specs.declared.act.Act.TheVariants as act
use Rattle.sat_act.specs.declared.answer.Answer.{Answer}
use Rattle.sat_act.specs.declared.answer.Answer.TheVariants as ans
use Rattle.sat_act.specs.declared.entry.Entry.{Entry}
use Rattle.sat_act.specs.Runs.{IsRun}
use Rattle.sat_rest.specs.Ends.{UntilRefused}
use Rattle.sat_world.specs.Seen.{WorldSeen}
use Rattle.sat_world.specs.Stands.{StandsFor}
use Rattle.sat_settle.specs.declared.keeping.TheConstants.{MOST_KEPT}

abbrev pub is_pulse : Kind → Bool
is_pulse Pulse = true
is_pulse _ = false

abbrev pub brings : Answer → Bool
brings (ans.Brought l) = true
brings _ = false

-- a label goes on that is no pulse
abbrev pub hands_on : Answer → Bool
hands_on (ans.Hopped l to) = not (is_pulse l.kind)
hands_on _ = false

-- an act with this answer moves a payload, or a label that is no pulse
unfoldable pub carries : Act → Answer → Bool
carries (act.Bulk i g j n) r = brings r
carries (act.Hop e u z) r = hands_on r
carries _ r = false

-- an entry is kept if it does, up to so many
abbrev pub added : Bool → List Entry → Entry → List Entry
added b xs e = if b && nat_lt (length xs) MOST_KEPT then xs ++ e ∷ [] else xs

abbrev pub noted : List Entry → Entry → List Entry
noted xs e = added (carries e.act e.answer) xs e

-- those of the entries that a settle made since the last act of the script, the oldest first
unfoldable pub kept : List Entry → List Entry
unfolding carries
kept [] = []
kept (e ∷ h) = if e.inner then noted (kept h) e else []

-- from each history that the world stood for, and of which these were kept, it reached one of which those are kept
abbrev pub Keeps : WorldSeen → (List Entry → List Entry) → List Entry → List Entry → Type 0
Keeps v f old new = (h : List Entry) → IsRun v.deployment h → StandsFor v h → old ≡ kept h → new ≡ kept (f h)

-- the same of an act until it is refused
abbrev pub KeepsUntil : WorldSeen → Act → List Entry → List Entry → Type 0
KeepsUntil v a old new = (h k : List Entry) → IsRun v.deployment h → StandsFor v h → UntilRefused v.deployment a h k
    → old ≡ kept h → new ≡ kept k
