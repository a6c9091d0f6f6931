-- All nodes of a deployment, each with its journal, whatever carries what they say.
use Rattle.std.specs.Prelude.{◌≡◌, ℕ, true, List, map}
use Rattle.sat_label.specs.declared.node.NodeName.TheVariants as named
use Rattle.sat_label.specs.Words.{below}
use Rattle.sat_act.specs.Deployed.{Deployed}
use Rattle.sat_act.specs.Limits.{IsDeployment}
use Rattle.sat_act.specs.Runs.{IsRun}
use Rattle.sat_act.specs.Headline.{HasTrees, IsGood}
use Rattle.sat_node.specs.Meanings.{Meaning, Runs, Rises}
use Rattle.sat_node.specs.Links.{HeldSeen, Each}
use Rattle.sat_machines.specs.Acts.{ActSeen}
use Rattle.sat_machines.specs.Sites.{site_meaning}
use Rattle.sat_machines.specs.Serials.{serial_meaning}
use Rattle.sat_machines.specs.declared.site_answer.SiteAnswer.{SiteAnswer}
use Rattle.sat_machines.specs.declared.serial_act.SerialAct.{SerialAct}
use Rattle.sat_machines.specs.declared.serial_act.SerialAnswer.{SerialAnswer}
use Rattle.sat_stitch.specs.Kept.{Kept, history}
use Rattle.sat_stitch.specs.Places.{Session}
use Rattle.sat_stitch.specs.Fit.{Fit, IsMerge}
use Rattle.sat_opened.specs.Opened.{AllOpened, name_in, serial_names, lists_of}
use Rattle.sat_opened.specs.Fits.{FitsNodes, FitsSessions}
use Rattle.sat_opened.specs.Laws.{SiteHeld, SerialHeld}
use Rattle.sat_opened.specs.Delivered.{DeliveredAll, DeliveredWithin}

-- one node: each input fitted and has its answer, the numbers rise, and each entry stands
pub record IsHost {S M I A : Type 0} (m : Meaning S I A) (h : HeldSeen M I A) : Type 0 where
  pub runs : Runs m h.node.name h.node.entries
  pub rises : Rises 0 h.node.entries
  pub standing : Each h.node.entries (λ _ k. m.stands k.input k.answer ≡ true)

-- each site and each serializer once, in order, and what each took from a link was put there by the other end's journal
pub record AllHosts {M K : Type 0} (d : Deployed) (sites : List (HeldSeen M ActSeen SiteAnswer))
    (serials : List (HeldSeen K SerialAct SerialAnswer)) : Type 0 where
  pub all_sites : map name_in sites ≡ map named.Site (below d.sites)
  pub all_serials : map name_in serials ≡ serial_names d
  pub each_site : Each sites (λ _ h. IsHost (site_meaning d) h)
  pub each_serial : Each serials (λ _ h. IsHost (serial_meaning d) h)
  pub between_sites : DeliveredWithin (site_meaning d) sites
  pub between_serials : DeliveredWithin (serial_meaning d) serials
  pub from_sites : DeliveredAll (site_meaning d) (serial_meaning d) sites serials
  pub from_serials : DeliveredAll (serial_meaning d) (site_meaning d) serials sites

module _ {M K : Type 0} (d : Deployed) (sites : List (HeldSeen M ActSeen SiteAnswer))
    (serials : List (HeldSeen K SerialAct SerialAnswer)) where
  -- the journals fit, whatever the sessions kept
  abbrev pub HostsFitOf : Type 0
  HostsFitOf = (alone : ℕ → List Kept) → FitsNodes d (lists_of sites serials alone)

  -- with what sessions kept that fits, they are kept lists that fit
  abbrev pub HostsJoinOf : Type 0
  HostsJoinOf = (alone : ℕ → List Kept) (sessions : Session → List Kept)
      → FitsSessions d (lists_of sites serials alone) sessions → Fit d (lists_of sites serials alone) sessions

  -- which, merged, are one run
  abbrev pub HostsRunOf : Type 0
  HostsRunOf = (alone : ℕ → List Kept) (sessions : Session → List Kept) (all : List Kept)
      → FitsSessions d (lists_of sites serials alone) sessions → IsMerge (lists_of sites serials alone) all
      → IsRun d (history all)

  -- and the headline holds of it
  abbrev pub HostsGoodOf : Type 0
  HostsGoodOf = (alone : ℕ → List Kept) (sessions : Session → List Kept) (all : List Kept) → HasTrees d
      → FitsSessions d (lists_of sites serials alone) sessions → IsMerge (lists_of sites serials alone) all
      → IsGood d (history all)

-- of a deployment's hosts: their journals fit, whatever sessions kept
abbrev pub HostsFit : Type 0
HostsFit = (d : Deployed) (sites : List SiteHeld) (serials : List SerialHeld) → IsDeployment d
    → AllHosts d sites serials → HostsFitOf d sites serials

-- with sessions that fit them, they are kept lists that fit
abbrev pub HostsJoin : Type 0
HostsJoin = (d : Deployed) (sites : List SiteHeld) (serials : List SerialHeld) → IsDeployment d
    → AllHosts d sites serials → HostsJoinOf d sites serials

-- and these, merged, are one run
abbrev pub HostsAreRuns : Type 0
HostsAreRuns = (d : Deployed) (sites : List SiteHeld) (serials : List SerialHeld) → IsDeployment d
    → AllHosts d sites serials → HostsRunOf d sites serials

-- of which the five properties hold
abbrev pub HostsAreGood : Type 0
HostsAreGood = (d : Deployed) (sites : List SiteHeld) (serials : List SerialHeld) → IsDeployment d
    → AllHosts d sites serials → HostsGoodOf d sites serials

-- nodes whose links keep order are such hosts
abbrev pub OpenedAreHosts : Type 0
OpenedAreHosts = (d : Deployed) (sites : List SiteHeld) (serials : List SerialHeld) → AllOpened d sites serials
    → AllHosts d sites serials
