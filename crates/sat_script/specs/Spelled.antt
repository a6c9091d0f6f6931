-- How scripts are spelled.
use Rattle.std.specs.Prelude.{ℕ, ◌≡◌, ◌≤◌, true, List, [], ◌∷◌, ◌++◌, length, map, filter, codes}
use Rattle.std.specs.List.{flat_map, join_with_byte, AllByRecursion}
use Rattle.std.specs.Fmt.{decimal}
use Rattle.sat_label.specs.Formats.{limits_of as format_limits}
use Rattle.sat_label.specs.Words.{below, bit}
use Rattle.sat_label.specs.Text.{is_name}
use Rattle.sat_label.specs.declared.site_set.SiteSet.{SiteSet}
use Rattle.sat_tree.specs.PlanLine.{tree_words}
use Rattle.sat_act.specs.declared.act.Act.{Act}
use Rattle.sat_act.specs.declared.deployment.Item.{Item}
use Rattle.sat_act.specs.declared.deployment.ClientLine.{ClientLine}
use Rattle.sat_act.specs.declared.deployment.Plan.{Plan}
use Rattle.sat_act.specs.declared.deployment.Plan.TheVariants as plan
use Rattle.sat_act.specs.Deployed.{Deployed}
use Rattle.sat_act.specs.Limits.{IsDeployment}
use Rattle.sat_act.specs.Ranges.{IsActOf}
use Rattle.sat_act.specs.Runs.{is_settle}
use Rattle.sat_script.specs.Table.{act_words}
use Rattle.sat_script.specs.declared.limits.TheConstants.{MOST_SETTLES}

-- words with one blank between them
abbrev pub line_text : List (List ℕ) → List ℕ
line_text words = join_with_byte 32 words

-- a set of sites: their numbers, ascending, with commas between them
unfoldable pub sites_text : SiteSet → List ℕ
sites_text set = join_with_byte 44 (map decimal (filter (bit set.bits) (below 64)))

-- a number at the end of such a list
abbrev pub with_comma : List ℕ → List ℕ → List ℕ
with_comma [] number = number
with_comma (byte ∷ text) number = (byte ∷ text) ++ 44 ∷ number

-- ---- the words of the header's lines

abbrev pub item_words : Item → List (List ℕ)
item_words item = codes "item" ∷ item.name ∷ sites_text item.replicas ∷ []

abbrev pub client_words : ClientLine → List (List ℕ)
client_words line = codes "client" ∷ line.name ∷ decimal line.site ∷ []

abbrev pub plan_words : Plan → List (List ℕ)
plan_words plan.Stamp = codes "plan" ∷ codes "stamp" ∷ []
plan_words (plan.Tree t) = tree_words t

-- the line of an act, without its byte 10
abbrev pub act_text : Deployed → Act → List ℕ
act_text d a = line_text (act_words d a)

-- ---- texts

-- a line with its byte 10
abbrev pub ended : List (List ℕ) → List ℕ
ended words = line_text words ++ 10 ∷ []

abbrev pub items_text : List Item → List ℕ
items_text items = flat_map (λ item. ended (item_words item)) items

abbrev pub clients_text : List ClientLine → List ℕ
clients_text lines = flat_map (λ line. ended (client_words line)) lines

abbrev pub plans_text : List Plan → List ℕ
plans_text plans = flat_map (λ p. ended (plan_words p)) plans

abbrev pub acts_text : Deployed → List Act → List ℕ
acts_text d acts = flat_map (λ a. ended (act_words d a)) acts

-- the lines before `begin`
unfoldable pub header_text : Deployed → List ℕ
header_text d =
    ended (codes "saturn" ∷ decimal d.format ∷ [])
    ++ (ended (codes "sites" ∷ decimal d.sites ∷ []) ++ (ended (codes "gears" ∷ decimal d.gears ∷ [])
    ++ (items_text d.items ++ (clients_text d.clients ++ plans_text d.plans))))

-- the one spelling of a deployment and a list of acts
unfoldable pub spelling : Deployed → List Act → List ℕ
unfolding header_text act_words
spelling d acts = header_text d ++ (ended (codes "begin" ∷ []) ++ (acts_text d acts ++ ended (codes "end" ∷ [])))

-- the names of items and clients are names
pub record HaveNames (d : Deployed) : Type 0 where
  pub items : AllByRecursion (λ (item : Item). is_name item.name ≡ true) d.items
  pub clients : AllByRecursion (λ (line : ClientLine). is_name line.name ≡ true) d.clients

-- acts of a deployment
abbrev pub AreActsOf : Deployed → List Act → Type 0
AreActsOf d acts = AllByRecursion (λ a. IsActOf d a) acts

-- how many of the acts are a settle
abbrev pub settles_of : List Act → ℕ
settles_of acts = length (filter is_settle acts)

-- the text spells this deployment and these acts, of which there are no more than its format allows
pub record Spells (text : List ℕ) (d : Deployed) (acts : List Act) : Type 0 where
  pub spelled : text ≡ spelling d acts
  pub deployment : IsDeployment d
  pub names : HaveNames d
  pub each : AreActsOf d acts
  pub few : length acts ≤ (format_limits d.format).acts
  pub settles : settles_of acts ≤ MOST_SETTLES
