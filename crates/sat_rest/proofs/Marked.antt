-- The entries of a run that are not inner are one for each act.
use Rattle.std.specs.Prelude.{◌≡◌, List, [], ◌∷◌, ◌++◌, refl}
use Rattle.std.proofs.Common.{ap, ◌∙◌}
use Rattle.std.proofs.lemmas.List.{append-nil}
use Rattle.sat_act.specs.declared.act.Act.{Act}
use Rattle.sat_act.specs.declared.act.Act.TheVariants as act
use Rattle.sat_act.specs.declared.answer.Answer.{Answer}
use Rattle.sat_act.specs.declared.entry.Entry.{Entry}
use Rattle.sat_act.specs.Deployed.{Deployed}
use Rattle.sat_act.specs.Runs.{IsRun}
use Rattle.sat_act.specs.Settling.{inner_entry, run, answer_of, with_inner}
use Rattle.sat_rest.specs.Printed.{printed}
use Rattle.sat_rest.specs.Laws.{EveryActPrintsOnce}
use Rattle.sat_rest.proofs.Rounds.{Goes, goes-keep}
use Rattle.sat_rest.proofs.Settles.{settle-after}
use Rattle.sat_rest.proofs.Headlines.{run-is}

inner-prints : (d : Deployed) (k : List Entry) (a : Act) → printed (inner_entry d k a ∷ k) ≡ printed k
unfolding printed
inner-prints d k a = append-nil (printed k)

goes-prints : (d : Deployed) (h k : List Entry) → Goes d h k → printed k ≡ printed h
goes-prints d h k g = goes-keep d (λ (k : List Entry). printed k ≡ printed h) (λ k a run m run' old. inner-prints d k a ∙ old) h k g refl

with-prints : (d : Deployed) (h : List Entry) (a : Act) → IsRun d h → printed (with_inner d h a) ≡ printed h
unfolding with_inner
with-prints d h act.Settle run = goes-prints d h _ (settle-after d h run).goes
with-prints d h a run = refl

run-prints : (d : Deployed) (a : Act) (acts : List Act) → printed (run d (a ∷ acts)) ≡ printed (with_inner d (run d acts) a) ++ answer_of d (run d acts) a ∷ []
unfolding printed run
run-prints d a acts = refl

pub prints : EveryActPrintsOnce
prints d a acts r = run-prints d a acts ∙ ap (λ (rs : List Answer). rs ++ answer_of d (run d acts) a ∷ []) (with-prints d (run d acts) a (run-is d acts r.0))
