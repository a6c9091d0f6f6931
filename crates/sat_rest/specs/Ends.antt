-- How a settle goes on and ends.
use Rattle.std.specs.Prelude.{◌≡◌, ◌⊎◌, ◌<◌, ◌≤◌, ℕ, ◌+◌, ◌-◌, ◌*◌, true, false, List, [], ◌∷◌, length, Option, Some}
use Rattle.std.specs.Prelude.{None}
use Rattle.sat_label.specs.declared.label.Label.{Label}
use Rattle.sat_tree.specs.Shape.{TreeShape}
use Rattle.sat_act.specs.declared.act.Act.{Act}
use Rattle.sat_act.specs.declared.act.Act.TheVariants as act
use Rattle.sat_act.specs.declared.answer.Answer.TheVariants as ans
use Rattle.sat_act.specs.declared.entry.Entry.{Entry}
use Rattle.sat_act.specs.Deployed.{Deployed}
use Rattle.sat_act.specs.Histories.{listed}
use Rattle.sat_act.specs.Done.{sent_in}
use Rattle.sat_act.specs.Parts.{tree_of}
use Rattle.sat_act.specs.Answers.{answer}
use Rattle.sat_act.specs.Runs.{IsRun}
use Rattle.sat_act.specs.Goals.{IsValid}
use Rattle.sat_act.specs.Headline.{HasTrees}
use Rattle.sat_act.specs.Settling.{is_done, inner_entry, emit_all, opening, left, round_acts, until_refused, settle}
use Rattle.sat_label.specs.declared.limits.TheConstants.{MOST_SERIALIZERS}

-- a deployment within the limits that the laws of settle need: more than `IsValid` asks and less than `IsDeployment`
pub record IsWithin (d : Deployed) : Type 0 where
  pub valid : IsValid d
  pub some_site : 0 < d.sites
  pub trees : HasTrees d
  pub some_plan : 0 < length d.plans
  pub few_serializers : (epoch : ℕ) (tree : TreeShape) → tree_of d epoch ≡ Some tree
      → length tree.parents ≤ MOST_SERIALIZERS
  pub all_seated : (epoch : ℕ) (tree : TreeShape) → tree_of d epoch ≡ Some tree → length tree.seats ≡ d.sites

-- "again and again as long as the act is done": what that makes of a history
pub data UntilRefused (d : Deployed) (a : Act) : List Entry → List Entry → Type 0 where
  ends : {h : List Entry} → is_done (answer d h a) ≡ false → UntilRefused d a h h
  goes_on : {h k : List Entry} → is_done (answer d h a) ≡ true → UntilRefused d a (inner_entry d h a ∷ h) k
      → UntilRefused d a h k

-- a is one of the acts
abbrev pub IsAmong : List Act → Act → Type 0
IsAmong [] a = ⊥
IsAmong (b ∷ acts) a = (b ≡ a) ⊎ IsAmong acts a

-- no act of a round is done
abbrev pub IsQuiet : Deployed → List Entry → Type 0
IsQuiet d h = (a : Act) → IsAmong (round_acts d) a → is_done (answer d h a) ≡ false

-- the label that an entry sent, at any site
abbrev pub any_sent_entry : List Entry → Entry → Option Label
any_sent_entry before entry = sent_in entry.answer

-- the number of entries Emitted, Pulsed and Closed
unfoldable pub sent_count : List Entry → ℕ
unfolding listed
sent_count h = length (listed any_sent_entry h)

-- the update that an entry wrote
abbrev pub wrote_entry : List Entry → Entry → Option Label
wrote_entry before entry = elim entry.answer [ ans.Wrote l ↦ Some l | _ ↦ None ]

-- the number of updates written
unfoldable pub wrote_count : List Entry → ℕ
unfolding listed
wrote_count h = length (listed wrote_entry h)

-- the most rounds after a history: each label that was sent is handled at most once by each of 15 serializers and by
-- each other site, each update is brought to and shown at most at each other site, and each site advances to each epoch
-- at most once. With 16 sites these are 30 for a label and 30 for an update, with 64 they are 78 and 126
abbrev pub most_rounds : Deployed → List Entry → ℕ
most_rounds d h =
    ((MOST_SERIALIZERS + (d.sites - 1)) * sent_count h + (2 * (d.sites - 1)) * wrote_count h) + d.sites * length d.plans

-- what a settle keeps: it makes a run; each "until refused" of it ends by a refusal, not by its count; less is left
-- with each act of a round that is done; the rounds end with a quiet one, and their number is bounded
pub record Settles (d : Deployed) (h : List Entry) : Type 0 where
  pub is_run : IsRun d (settle d h).1
  pub emits : (i : ℕ) → i < d.sites → (k : List Entry) → IsRun d k → UntilRefused d (act.Emit i) k (emit_all d i k)
  pub acts : (a : Act) → IsAmong (round_acts d) a → (k : List Entry) → IsRun d k
      → UntilRefused d a k (until_refused d a k)
  pub falls : (a : Act) → IsAmong (round_acts d) a → (k : List Entry) → IsRun d k → is_done (answer d k a) ≡ true
      → left d (inner_entry d k a ∷ k) < left d k
  pub quiet : IsQuiet d (settle d h).1
  pub bound : (settle d h).0 ≤ most_rounds d (opening d h)
