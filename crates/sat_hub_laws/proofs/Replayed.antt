-- In the run that journals of hubs and gears are, merged, each site's state is that of its hub and its gears.
use Rattle.std.specs.Prelude.{◌≡◌, ℕ, List, [], ◌∷◌, ◌++◌, refl}
use Rattle.std.proofs.Common.{sym, ap, ◌∙◌}
use Rattle.sat_act.specs.Deployed.{Deployed}
use Rattle.sat_act.specs.Runs.{IsRun}
use Rattle.sat_act.specs.Goals.{IsValid}
use Rattle.sat_model.specs.State.{SiteState}
use Rattle.sat_model.specs.Replay.{site_state}
use Rattle.sat_stitch.specs.Kept.{Kept, history}
use Rattle.sat_stitch.specs.Places.{Place, Session}
use Rattle.sat_stitch.specs.Fit.{IsMerge, LooseFit}
use Rattle.sat_stitch.specs.Nodes.{site_after}
use Rattle.sat_stitch.proofs.Steps.{Stood, stands-on}
use Rattle.sat_joint.specs.Pieces.{plains}
use Rattle.sat_joint.specs.Table.{AtHub, AtGear}
use Rattle.sat_joint.specs.Machines.{gear_after, hub_after, kept_site, whole}
use Rattle.sat_joint.proofs.Assembly.{assembled}
use Rattle.sat_joint.proofs.Copies.{Setting, view-list}
use Rattle.sat_joint.proofs.Fits.{site-fit, site-merge, site_lists, site_sessions}
use Rattle.sat_joint.proofs.Joined.{joint-runs}
use Rattle.sat_hub_laws.specs.Lines.{node_lists}
use Rattle.sat_hub_laws.specs.Laws.{JournalsAreRuns, SitesAreReplayed}
use Rattle.sat_hub_laws.proofs.Joined.{journals-join}
use Rattle.sat_hub_laws.proofs.Lines.{gears-replay, hubs-replay}

join-one : (xs : List Kept) (k : Kept) (ys : List Kept) → xs ++ k ∷ ys ≡ (xs ++ k ∷ []) ++ ys
join-one [] k ys = refl
join-one (x ∷ xs) k ys = ap (λ (zs : List Kept). x ∷ zs) (join-one xs k ys)

empty-run : (d : Deployed) → IsRun d []
unfolding IsRun
empty-run d = tt

fresh : (d : Deployed) (i : ℕ) → site_after d i [] ≡ site_state d [] i
unfolding site_after site_state
fresh d i = refl

-- along a merge each site's own entries give the state that the history gives
stood : (d : Deployed) (lists : Place → List Kept) (sessions : Session → List Kept) (all later ks : List Kept) → IsValid d → LooseFit d lists sessions → IsMerge lists all → all ≡ later ++ ks → Stood d ks
stood d lists sessions all later [] v fit m w = record { run = empty-run d; states = λ i. fresh d i }
stood d lists sessions all later (k ∷ rest) v fit m w =
    stands-on d lists sessions all later rest v fit m k w (stood d lists sessions all (later ++ k ∷ []) rest v fit m (w ∙ join-one later k rest))

-- each site's state is that of its hub and its gears, replayed from their own lists
pub replayed : (s : Setting) (i : ℕ) → kept_site s.d i (site_state s.d (history (plains s.all)) i) ≡ whole s.d i (hub_after s.d i (s.lists (AtHub i))) (λ g. gear_after s.d g (s.lists (AtGear i g)))
replayed s i =
    let all : Stood s.d (plains s.all) = stood s.d (site_lists s) (site_sessions s) (plains s.all) [] (plains s.all) s.valid (site-fit s) (site-merge s) refl in
    ap (λ (t : SiteState). kept_site s.d i t) (sym (all.states i)) ∙
    (assembled s [] s.all refl i ∙
    (λ t. whole s.d i (hub_after s.d i (sym (view-list s (AtHub i)) t)) (λ g. gear_after s.d g (sym (view-list s (AtGear i g)) t))))

pub journals-are-runs : JournalsAreRuns
journals-are-runs d hubs gears others sessions all v fit m = joint-runs d (node_lists hubs gears others) sessions all v (journals-join d hubs gears others sessions fit) m

pub sites-are-replayed : SitesAreReplayed
sites-are-replayed d hubs gears others sessions all v fit m i =
    let s : Setting = record { d = d; lists = node_lists hubs gears others; sessions = sessions; all = all; valid = v; fit = journals-join d hubs gears others sessions fit; merge = m } in
    replayed s i ∙ (λ t. whole d i (hubs-replay d i (hubs i) t) (λ g. gears-replay d i g (gears i g) t))
