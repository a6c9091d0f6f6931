-- What a good line says, where it may stand.
use Rattle.std.proofs.Common.{◌≡◌, ℕ, ◌<◌, ◌≤◌, true, false, List, [], ◌∷◌, length, arith}
use Rattle.std.specs.Prelude.{codes}
use Rattle.std.specs.Fmt.{decimal}
use Rattle.sat_label.specs.Text.{is_name}
use Rattle.sat_label.specs.Words.{are_sites}
use Rattle.sat_label.proofs.Formats.{sites_within, items_within, acts_within}
use Rattle.sat_script.specs.Dialect.{limits_of, has_form}
use Rattle.sat_act.specs.Deployed.{Deployed}
use Rattle.sat_act.specs.Ranges.{IsActOf}
use Rattle.sat_act.specs.declared.act.Act.{Act}
use Rattle.sat_act.specs.declared.deployment.Item.{Item}
use Rattle.sat_act.specs.declared.deployment.ClientLine.{ClientLine}
use Rattle.sat_act.specs.declared.deployment.Plan.{Plan}
use Rattle.sat_act.specs.declared.deployment.Plan.TheVariants as plan
use Rattle.sat_script.specs.Causes.{has_client, has_item, has_room}
use Rattle.sat_script.specs.Grammar.{is_tree}
use Rattle.sat_script.specs.Spelled.{item_words, client_words, plan_words}
use Rattle.sat_script.specs.Table.{form_of, act_words}
use Rattle.sat_script.specs.State.{State, limits_at}
use Rattle.sat_script.specs.declared.dialect.Dialect.{Dialect}
use Rattle.sat_script.specs.declared.dialect.Dialect.TheVariants as dialect
use Rattle.sat_script.specs.declared.dialect.Limits.{Limits}
use Rattle.sat_script.specs.declared.limits.TheConstants.{LAST_FORMAT, MOST_ACTS, MOST_GEARS, MOST_ITEMS, MOST_PLANS, MOST_SETTLES, MOST_SITES}
use Rattle.sat_script.specs.declared.line.Parsed.{Parsed}
use Rattle.sat_script.specs.declared.line.Parsed.TheVariants as parsed
use Rattle.sat_script.specs.declared.line.Stage.{Stage}
use Rattle.sat_script.specs.declared.line.Stage.TheVariants as stage

-- ---- limits

-- no dialect has higher limits than these in any format
pub record AreFew (l : Limits) : Type 0 where
  pub sites : l.sites ≤ MOST_SITES
  pub items : l.items ≤ MOST_ITEMS
  pub clients : l.clients ≤ 1024
  pub acts : l.acts ≤ MOST_ACTS
  pub settles : l.settles ≤ MOST_SETTLES

pub limits_few : (dialect : Dialect) (format : ℕ) → AreFew (limits_of dialect format)
limits_few dialect.Run format = record { sites = sites_within format _ (omega arith); items = items_within format _ (omega arith); clients = omega arith; acts = acts_within format _ (omega arith); settles = omega arith }
limits_few dialect.Chain format = record { sites = sites_within format _ (omega arith); items = items_within format _ (omega arith); clients = omega arith; acts = acts_within format _ (omega arith); settles = omega arith }
limits_few dialect.Lasting format = record { sites = sites_within format _ (omega arith); items = items_within format _ (omega arith); clients = omega arith; acts = acts_within format _ (omega arith); settles = omega arith }
limits_few dialect.Live format = record { sites = omega arith; items = items_within format _ (omega arith); clients = omega arith; acts = omega arith; settles = omega arith }
limits_few dialect.Audit format = record { sites = sites_within format _ (omega arith); items = items_within format _ (omega arith); clients = omega arith; acts = omega arith; settles = omega arith }

-- ---- lines

-- the words of what a line says
abbrev pub parsed_words : Deployed → Parsed → List (List ℕ)
parsed_words d (parsed.Format f) = codes "saturn" ∷ decimal f ∷ []
parsed_words d (parsed.Sites n) = codes "sites" ∷ decimal n ∷ []
parsed_words d (parsed.Gears n) = codes "gears" ∷ decimal n ∷ []
parsed_words d (parsed.Item item) = item_words item
parsed_words d (parsed.Client line) = client_words line
parsed_words d (parsed.Plan p) = plan_words p
parsed_words d parsed.Begin = codes "begin" ∷ []
parsed_words d (parsed.Act a) = act_words d a
parsed_words d parsed.End = codes "end" ∷ []

pub record ItemStands (s : State) (item : Item) : Type 0 where
  pub name : is_name item.name ≡ true
  pub sites : are_sites s.header.sites item.replicas.bits ≡ true
  pub clients : s.header.clients ≡ []
  pub plans : s.header.plans ≡ []
  pub room : length s.header.items < (limits_at s).items
  pub new : has_item s.header item.name ≡ false

pub record ClientStands (s : State) (line : ClientLine) : Type 0 where
  pub name : is_name line.name ≡ true
  pub home : line.site < s.header.sites
  pub plans : s.header.plans ≡ []
  pub room : length s.header.clients < (limits_at s).clients
  pub new : has_client s.header line.name ≡ false

-- stamp order, or a tree of so many sites
abbrev pub IsPlanFor : ℕ → Plan → Type 0
IsPlanFor sites plan.Stamp = Unit {0}
IsPlanFor sites (plan.Tree t) = is_tree sites t ≡ true

pub record PlanStands (s : State) (p : Plan) : Type 0 where
  pub fits : IsPlanFor s.header.sites p
  pub room : length s.header.plans < MOST_PLANS

pub record ActStands (s : State) (a : Act) : Type 0 where
  pub fits : IsActOf s.header a
  pub has : has_form s.dialect (form_of a) ≡ true
  pub room : has_room s (form_of a) ≡ true

-- where it stands, and after what
abbrev pub Stands : Stage → State → Parsed → Type 0
Stands stage.Start s (parsed.Format f) = (1 ≤ f) × (f ≤ LAST_FORMAT)
Stands stage.Sites s (parsed.Sites n) = (1 ≤ n) × (n ≤ (limits_at s).sites)
Stands stage.Gears s (parsed.Gears n) = (1 ≤ n) × (n ≤ MOST_GEARS)
Stands stage.Header s (parsed.Item item) = ItemStands s item
Stands stage.Header s (parsed.Client line) = ClientStands s line
Stands stage.Header s (parsed.Plan p) = PlanStands s p
Stands stage.Header s parsed.Begin = 0 < length s.header.plans
Stands stage.Body s (parsed.Act a) = ActStands s a
Stands stage.Body s parsed.End = Unit {0}
Stands _ s _ = ⊥

-- the words spell what the line says, which may stand here
pub record IsGood (here : Stage) (s : State) (words : List (List ℕ)) (p : Parsed) : Type 0 where
  pub spelled : words ≡ parsed_words s.header p
  pub stands : Stands here s p
