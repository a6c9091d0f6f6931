-- Every list of acts has a good history, and each of its settles comes to rest.
use Rattle.std.proofs.Common.{◌≡◌, ◌<◌, ℕ, true, List, [], ◌∷◌, ◌++◌, subst}
use Rattle.std.specs.Prelude.{reverse}
use Rattle.std.specs.List.{AllByRecursion}
use Rattle.std.proofs.lemmas.List.{reverse-append}
use Rattle.sat_act.specs.declared.act.Act.{Act}
use Rattle.sat_act.specs.declared.act.Act.TheVariants.{Settle}
use Rattle.sat_act.specs.declared.entry.Entry.{Entry}
use Rattle.sat_act.specs.Deployed.{Deployed}
use Rattle.sat_act.specs.Parts.{replicates, version}
use Rattle.sat_act.specs.Goals.{IsGreatestMade}
use Rattle.sat_act.specs.Headline.{AllInRange, IsGood}
use Rattle.sat_act.specs.Limits.{IsDeployment}
use Rattle.sat_act.specs.Runs.{IsRun}
use Rattle.sat_act.specs.Settling.{run, settle}
use Rattle.sat_laws.specs.Laws.{EveryHistoryIsGood}
use Rattle.sat_rest.specs.Ends.{Settles}
use Rattle.sat_rest.specs.Rest.{IsAtRest}
use Rattle.sat_rest.specs.Laws.{EverySettleSettles, EverySettleRests}
use Rattle.sat_rest.proofs.Headlines.{run-is}
use Rattle.sat_settle.proofs.Ranges.{within}
use Rattle.sat_script.specs.Spelled.{AreActsOf}
use Rattle.sat_world.proofs.Meets.{in-range}
use Rattle.sat_runs.specs.Runs.{history}
use Rattle.sat_runs.specs.Good.{ComesToRest, SettlesRest, IsGoodRun}

all_append : {X : Type 0} (P : X → Type 0) (xs ys : List X) → AllByRecursion P xs → AllByRecursion P ys → AllByRecursion P (xs ++ ys)
all_append P [] ys a b = b
all_append P (x ∷ xs) ys a b = (a.0, all_append P xs ys a.1 b)

all_reverse : {X : Type 0} (P : X → Type 0) (xs : List X) → AllByRecursion P xs → AllByRecursion P (reverse xs)
all_reverse P [] a = tt
all_reverse P (x ∷ xs) a = rw (reverse-append (x ∷ []) xs) (all_append P (reverse xs) (x ∷ []) (all_reverse P xs a.1) (a.0, tt))

pub all_front : {X : Type 0} (P : X → Type 0) (xs ys : List X) → AllByRecursion P (xs ++ ys) → AllByRecursion P xs
all_front P [] ys a = tt
all_front P (x ∷ xs) ys a = (a.0, all_front P xs ys a.1)

ranges : (d : Deployed) (acts : List Act) → AreActsOf d acts → AllInRange d acts
ranges d [] a = tt
ranges d (x ∷ acts) a = (ranges d acts a.1, in-range d x a.0)

pub runs : (d : Deployed) (acts : List Act) → AreActsOf d acts → IsRun d (history d acts)
unfolding history
runs d acts all = run-is d (reverse acts) (ranges d (reverse acts) (all_reverse _ acts all))

-- ---- the laws, as proofs of runs take them

pub record TheLaws : Type 0 where
  pub good : EveryHistoryIsGood
  pub settles : EverySettleSettles
  pub rests : EverySettleRests

-- at rest a site holds its items' greatest versions
agrees : (d : Deployed) (h : List Entry) (v k x : ℕ) → IsGood d h → IsAtRest d h v → k < d.sites → replicates d x k ≡ true → IsGreatestMade h x (version h k x)
agrees d h v k x good rest is-site kept = good.settled k x (λ i g n l at. rest.lanes i g k n l is-site at) (rest.nothing_waits k is-site) kept

rests : (d : Deployed) (h : List Entry) → TheLaws → IsDeployment d → IsRun d h → ComesToRest d h
rests d h laws is run =
    let fits = within d is in
    let ends : Settles d h = laws.settles d h fits run in record {
      bound = ends.bound;
      rests = laws.rests d h fits run;
      agree = λ end k x is-site kept. agrees d (settle d h).1 end.epoch k x (laws.good d (settle d h).1 fits.valid fits.trees ends.is_run) (laws.rests d h fits run end) is-site kept;
    }

-- each settle of acts of the deployment
each_rests : (d : Deployed) (acts : List Act) → TheLaws → IsDeployment d → AreActsOf d acts → SettlesRest d acts
each_rests d acts laws is all front rest split =
    rests d (history d front) laws is (runs d front (all_front _ front (Settle ∷ rest) (subst (AreActsOf d) split all)))

pub good_run : (d : Deployed) (acts : List Act) → TheLaws → IsDeployment d → AreActsOf d acts → IsGoodRun d acts
good_run d acts laws is all =
    let fits = within d is in
    record { good = laws.good d (history d acts) fits.valid fits.trees (runs d acts all); settles = each_rests d acts laws is all }
