-- The headline, over the run of every list of acts.
use Rattle.std.specs.Prelude.{false, List, [], ◌∷◌, refl}
use Rattle.std.proofs.Common.{inl, inr}
use Rattle.sat_act.specs.declared.act.Act.{Act}
use Rattle.sat_act.specs.Deployed.{Deployed}
use Rattle.sat_act.specs.Answers.{InRange}
use Rattle.sat_act.specs.Runs.{IsRun}
use Rattle.sat_act.specs.Settling.{run, answer_of, with_inner}
use Rattle.sat_rest.proofs.Settles.{settle-after}
use Rattle.sat_laws.proofs.Runs.{entry}
use Rattle.sat_act.specs.declared.entry.Entry.{Entry}
use Rattle.sat_act.specs.declared.act.Act.TheVariants as act
use Rattle.sat_act.specs.Headline.{AllInRange}
use Rattle.sat_rest.specs.Laws.{EveryRunIsGood}
use Rattle.sat_laws.proofs.Headlines.{good}

-- the answer of an act, after the inner entries of a settle
pub act-is : (d : Deployed) (h : List Entry) (a : Act) → IsRun d h → InRange d a → IsRun d (entry a (answer_of d h a) false ∷ with_inner d h a)
unfolding IsRun answer_of with_inner
act-is d h act.Settle run range = ((settle-after d h run).is_run, range, inr (h, refl, refl, refl))
act-is d h a run range = (run, range, inl (refl, refl))

pub run-is : (d : Deployed) (acts : List Act) → AllInRange d acts → IsRun d (run d acts)
unfolding run
run-is d [] r = unfold IsRun in tt
run-is d (a ∷ acts) r = act-is d (run d acts) a (run-is d acts r.0) r.1

pub every-run : EveryRunIsGood
every-run d acts v t r = good d (run d acts) v t (run-is d acts r)
