-- The texts of answers, and the answers of a history.
use Rattle.std.specs.Prelude.{ℕ, ◌+◌, true, false, List, [], ◌∷◌, ◌++◌, codes}
use Rattle.std.specs.Fmt.{decimal}
use Rattle.sat_label.specs.Text.{point_text}
use Rattle.sat_label.specs.declared.label.Label.{Label}
use Rattle.sat_act.specs.declared.act.Act.{Act}
use Rattle.sat_act.specs.declared.answer.Answer.{Answer}
use Rattle.sat_act.specs.declared.answer.Answer.TheVariants as ans
use Rattle.sat_act.specs.declared.answer.Refusal.{Refusal}
use Rattle.sat_act.specs.declared.answer.Refusal.TheVariants as why
use Rattle.sat_act.specs.declared.entry.Entry.{Entry}
use Rattle.sat_act.specs.Deployed.{Deployed}
use Rattle.sat_act.specs.Done.{at_site}
use Rattle.sat_report.specs.Texts.{label_text, kind_word, nodes_text, names_of_items, names_at}

unfoldable pub refusal_text : Refusal → List ℕ
refusal_text why.NoSession = codes "NoSession"
refusal_text why.NotHere = codes "NotHere"
refusal_text why.Spent = codes "Spent"
refusal_text why.SameSite = codes "SameSite"
refusal_text why.Joined = codes "Joined"
refusal_text why.NotYet = codes "NotYet"
refusal_text why.Idle = codes "Idle"
refusal_text why.Empty = codes "Empty"
refusal_text why.Dead = codes "Dead"
refusal_text (why.NoPayload l) = codes "NoPayload " ++ label_text l
refusal_text why.StampOrder = codes "StampOrder"
refusal_text why.TreeOrder = codes "TreeOrder"
refusal_text why.NoSuch = codes "NoSuch"
refusal_text why.NoNextEpoch = codes "NoNextEpoch"
refusal_text why.Behind = codes "Behind"
refusal_text why.NotClosed = codes "NotClosed"
refusal_text why.Already = codes "Already"

-- a word and a number, a point, or a label with its kind or with those of its items that the site of an act keeps
abbrev pub with_number : List ℕ → ℕ → List ℕ
with_number word n = word ++ 32 ∷ decimal n

abbrev pub with_label : List ℕ → Label → List ℕ
with_label word l = word ++ 32 ∷ label_text l

abbrev pub with_kind : List ℕ → Label → List ℕ
with_kind word l = word ++ 32 ∷ (kind_word l.kind ++ 32 ∷ label_text l)

abbrev pub with_items : Deployed → Act → List ℕ → Label → List ℕ
with_items d a word l = word ++ 32 ∷ (names_at d (at_site a) l.kind ++ 32 ∷ label_text l)

-- what is printed of an act's answer
unfoldable pub answer_text : Deployed → Act → Answer → List ℕ
unfolding refusal_text kind_word nodes_text names_of_items
answer_text d a (ans.Ticked p) = with_number (codes "ticked") p
answer_text d a (ans.Clocked p) = with_number (codes "clocked") p
answer_text d a (ans.Wrote l) = with_label (codes "wrote") l
answer_text d a ans.ReadNone = codes "read none"
answer_text d a (ans.ReadSome l value) = with_label (codes "read") l ++ 32 ∷ value
answer_text d a (ans.Moved l) = with_label (codes "moved") l
answer_text d a (ans.Left p) = codes "left " ++ point_text p
answer_text d a ans.Attached = codes "attached"
answer_text d a (ans.Gathered n t) = codes "gathered " ++ (decimal n ++ (codes " stable " ++ decimal t))
answer_text d a (ans.Emitted l) = with_kind (codes "emitted") l
answer_text d a (ans.Pulsed l) = with_label (codes "pulsed") l
answer_text d a (ans.Hopped l to) = with_kind (codes "hopped") l ++ (codes " to " ++ nodes_text to)
answer_text d a (ans.Shown l) = with_items d a (codes "shown") l
answer_text d a (ans.Took l) = with_kind (codes "took") l
answer_text d a (ans.Brought l) = with_items d a (codes "brought") l
answer_text d a ans.Again = codes "again"
answer_text d a (ans.Beat n) = with_number (codes "beat") n
answer_text d a ans.Taken = codes "taken"
answer_text d a ans.Old = codes "old"
answer_text d a (ans.Closed e p) = codes "closed " ++ (decimal e ++ 32 ∷ point_text p)
answer_text d a ans.Fallen = codes "fallen"
answer_text d a (ans.View v) = with_number (codes "view") v
answer_text d a ans.Killed = codes "killed"
answer_text d a (ans.Settled r n) = codes "settled " ++ (decimal r ++ 32 ∷ decimal n)
answer_text d a (ans.Refused r) = codes "refused " ++ refusal_text r

-- the line of an act's answer with its number
unfoldable pub answer_line : Deployed → ℕ → Act → Answer → List ℕ
unfolding answer_text
answer_line d n a r = decimal n ++ 32 ∷ (answer_text d a r ++ 10 ∷ [])

-- the number of entries that are printed: those that are not inner
unfoldable pub printed_count : List Entry → ℕ
printed_count [] = 0
printed_count (e ∷ h) = elim e.inner [ true ↦ printed_count h | false ↦ printed_count h + 1 ]

-- the answers of a history, numbered from 1. Its newest entry stands first, and is printed last
unfoldable pub answers : Deployed → List Entry → List ℕ
unfolding answer_line printed_count
answers d [] = []
answers d (e ∷ h) =
    answers d h ++ elim e.inner [ true ↦ [] | false ↦ answer_line d (printed_count h + 1) e.act e.answer ]
