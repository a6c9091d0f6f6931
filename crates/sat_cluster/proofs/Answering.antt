-- No node refuses for the seat.
use Rattle.std.proofs.Common.{◌≡◌, ℕ, ◌+◌, ◌==◌, max, not, nat_le, Bool, true, false, List, [], ◌∷◌, ◌++◌, length, Option, Some, None, Result, Ok, Err, IfOk, refl, sym, ap, ◌∙◌, subst}
use Rattle.sat_label.specs.declared.carried.Carried.{Carried}
use Rattle.sat_label.specs.declared.items.Items.{Items}
use Rattle.sat_label.specs.Grouped.{list_of}
use Rattle.sat_label.specs.declared.label.Kind.TheVariants as kind
use Rattle.sat_label.specs.declared.limits.TheConstants.{TS_END}
use Rattle.sat_label.specs.declared.node.NodeName.{NodeName}
use Rattle.sat_label.specs.Order.{point_at}
use Rattle.sat_act.specs.declared.act.Act.{Act}
use Rattle.sat_act.specs.declared.answer.Answer.{Answer}
use Rattle.sat_act.specs.declared.answer.Answer.TheVariants as ans
use Rattle.sat_act.specs.declared.answer.Refusal.{Refusal}
use Rattle.sat_act.specs.declared.answer.Refusal.TheVariants as why
use Rattle.sat_act.specs.Answers.{refused_if}
use Rattle.sat_act.specs.Deployed.{Deployed}
use Rattle.sat_act.specs.Parts.{keeps_all, replicates}
use Rattle.sat_model.specs.Look.{cut_of, mode_of}
use Rattle.sat_model.specs.Reply.{gear_for, write_by, read_by, move_by, may_come, outlook_of}
use Rattle.sat_model.specs.State.{Version}
use Rattle.sat_joint.specs.Machines.{GearNode, HubState, hub_alone}
use Rattle.sat_hub_laws.specs.Inputs as given
use Rattle.sat_hub_laws.specs.Gears.{gear_answer}
use Rattle.sat_hub_laws.specs.Hubs.{hub_answer}
use Rattle.sat_node.specs.declared.kept.CallFault.{CallFault}
use Rattle.sat_node.specs.declared.kept.Kept.{Kept}
use Rattle.sat_node.specs.Meanings.{Meaning, state_from, replay, RunsFrom, Runs}
use Rattle.sat_node.specs.Seen.{NodeSeen, entry}
use Rattle.sat_machines.specs.declared.serial_act.SerialAct.{SerialAct}
use Rattle.sat_machines.specs.declared.serial_act.SerialAct.TheVariants.{Kill}
use Rattle.sat_machines.specs.declared.serial_act.SerialAnswer.{SerialAnswer}
use Rattle.sat_machines.specs.Sites.{number_of}
use Rattle.sat_machines.specs.Serials.{epoch_in, serial_in, SerialAnswers, serial_meaning}
use Rattle.sat_parts.specs.declared.gear_answer.GearAnswer.{GearAnswer}
use Rattle.sat_parts.specs.declared.hub_answer.HubAnswer.{HubAnswer}
use Rattle.sat_parts.specs.Acts.{GearActSeen, HubActSeen, gear_handed, hub_handed}
use Rattle.sat_parts.specs.Gears.{GearAnswersAt, gear_meaning}
use Rattle.sat_parts.specs.Hubs.{HubAnswersAt, hub_meaning}
use Rattle.sat_session.specs.Notes.{SessionSeen}
use Rattle.sat_session.specs.Calls.{AtNodeAbove, of_serial}
use Rattle.sat_parts_session.specs.Asked.{of_gear, of_hub}
use Rattle.sat_cluster.specs.Doing.{is_of_seat}

-- ---- what gears, hubs and serializers answer

refused-so : (b : Bool) (y : Refusal) (r : Answer) → is_of_seat (ans.Refused y) ≡ false → is_of_seat r ≡ false → is_of_seat (refused_if b y r) ≡ false
refused-so true y r e f = e
refused-so false y r e f = f

write-so : (d : Deployed) (i : ℕ) (items : Items) (p t : ℕ) → is_of_seat (write_by d i items p t) ≡ false
write-so d i items p t =
    let r = ans.Wrote (record { point = point_at (max p t + 1) i (gear_for d items); kind = kind.Update items }) in
    refused-so (not (keeps_all d (list_of items) i)) why.NotHere (refused_if (nat_le TS_END (max p t)) why.Spent r) refl (refused-so (nat_le TS_END (max p t)) why.Spent r refl refl)

read-so : (d : Deployed) (i x : ℕ) (o : Option Version) → is_of_seat (read_by d i x o) ≡ false
read-so d i x None = refused-so (not (replicates d x i)) why.NotHere ans.ReadNone refl refl
read-so d i x (Some p) = refused-so (not (replicates d x i)) why.NotHere (ans.ReadSome p.label p.value) refl refl

move-so : (i j p t : ℕ) → is_of_seat (move_by i j p t) ≡ false
move-so i j p t =
    let r = ans.Moved (record { point = point_at (max p t + 1) i 0; kind = kind.Move j }) in
    refused-so (j == i) why.SameSite (refused_if (nat_le TS_END (max p t)) why.Spent r) refl (refused-so (nat_le TS_END (max p t)) why.Spent r refl refl)

pub gear-write : (d : Deployed) (i : ℕ) (n : GearNode) (seen : Carried) (items : Items) (values : List (List ℕ)) → is_of_seat (gear_answer d i n (given.Write seen items values)) ≡ false
unfolding gear_answer
gear-write d i n seen items values = write-so d i items n.gear.promise seen.point.ts

pub gear-read : (d : Deployed) (i : ℕ) (n : GearNode) (seen : Carried) (x : ℕ) → is_of_seat (gear_answer d i n (given.Read seen x)) ≡ false
unfolding gear_answer
gear-read d i n seen x = read-so d i x (n.store x)

pub gear-move : (d : Deployed) (i : ℕ) (n : GearNode) (seen : Carried) (j : ℕ) → is_of_seat (gear_answer d i n (given.Move seen j)) ≡ false
unfolding gear_answer
gear-move d i n seen j = move-so i j n.gear.promise seen.point.ts

pub hub-attach : (d : Deployed) (i : ℕ) (h : HubState) (seen : Carried) → is_of_seat (hub_answer d i h (given.Attach seen)) ≡ false
unfolding hub_answer
hub-attach d i h seen = refused-so (not (may_come d (outlook_of d (hub_alone d i h)) seen i)) why.NotYet ans.Attached refl refl

pub hub-close : (d : Deployed) (i : ℕ) (h : HubState) → is_of_seat (hub_answer d i h given.Close) ≡ false
unfolding hub_answer
hub-close d i h =
    let r = ans.Closed h.views.emission (cut_of d i (hub_alone d i h)) in
    let b = h.views.emission == h.views.view + 1 in
    refused-so (h.views.emission == length d.plans) why.NoNextEpoch (refused_if b why.Behind r) refl (refused-so b why.Behind r refl refl)

pub hub-fall : (d : Deployed) (i : ℕ) (h : HubState) → is_of_seat (hub_answer d i h given.Fall) ≡ false
unfolding hub_answer
hub-fall d i h =
    let b = h.views.emission == h.views.view in
    refused-so (mode_of d (hub_alone d i h)) why.StampOrder (refused_if b why.NotClosed ans.Fallen) refl (refused-so b why.NotClosed ans.Fallen refl refl)

-- ---- the answer of a journal's last entry

module _ {S I A : Type 0} (m : Meaning S I A) (name : NodeName) where
  last-answers : (s : S) (ks : List (Kept I A)) (k : Kept I A) → RunsFrom m name s (ks ++ k ∷ []) → m.answers name (state_from m name s ks) k.input k.answer
  last-answers s [] k runs = runs.1
  last-answers s (x ∷ ks) k runs = last-answers (m.after name s x.input x.answer) ks k runs.2

-- what a node was asked last, by its journal
node-answers : {S M I A : Type 0} (m : Meaning S I A) (last : ℕ) (a : Act) (input : I) (answer_of : A → Answer) (r : Answer) (old new : NodeSeen M I A) (before after : SessionSeen) →
    AtNodeAbove last a input answer_of (Ok r) old new before after → Runs m new.name new.entries → (x : A) × (answer_of x ≡ r) × m.answers old.name (replay m old.name old.entries) input x
node-answers m last a input answer_of r old new before after at runs =
    let x = at.entered.0 in
    let k = entry (last + 1) input x in
    let there : Runs m old.name new.entries = subst (λ (name : NodeName). Runs m name new.entries) at.name runs in
    let more : Runs m old.name (old.entries ++ k ∷ []) = subst (Runs m old.name) at.entered.2 there in
    (x, at.entered.1, last-answers m old.name (m.fresh old.name) old.entries k more)

pub never_by_gear : {M : Type 0} (d : Deployed) (last : ℕ) (a : Act) (input : GearActSeen) (result : Result Answer CallFault) (old new : NodeSeen M GearActSeen GearAnswer) (before after : SessionSeen) →
    ((i : ℕ) (n : GearNode) → is_of_seat (gear_answer d i n (gear_handed input.input)) ≡ false) → AtNodeAbove last a input of_gear result old new before after → Runs (gear_meaning d) new.name new.entries →
    IfOk result (λ r. is_of_seat r ≡ false)
never_by_gear d last a input (Ok r) old new before after never at runs =
    let is-last = node-answers (gear_meaning d) last a input of_gear r old new before after at runs in
    let n = replay (gear_meaning d) old.name old.entries in
    let is : GearAnswersAt d (number_of old.name) n input is-last.0 = is-last.2 in
    ap is_of_seat (sym is-last.1 ∙ is.answer) ∙ never (number_of old.name) n
never_by_gear d last a input (Err f) old new before after never at runs = tt

pub never_by_hub : {M : Type 0} (d : Deployed) (last : ℕ) (a : Act) (input : HubActSeen) (result : Result Answer CallFault) (old new : NodeSeen M HubActSeen HubAnswer) (before after : SessionSeen) →
    ((i : ℕ) (h : HubState) → is_of_seat (hub_answer d i h (hub_handed input.input)) ≡ false) → AtNodeAbove last a input of_hub result old new before after → Runs (hub_meaning d) new.name new.entries →
    IfOk result (λ r. is_of_seat r ≡ false)
never_by_hub d last a input (Ok r) old new before after never at runs =
    let is-last = node-answers (hub_meaning d) last a input of_hub r old new before after at runs in
    let h = replay (hub_meaning d) old.name old.entries in
    let is : HubAnswersAt d (number_of old.name) h input is-last.0 = is-last.2 in
    ap is_of_seat (sym is-last.1 ∙ is.answer) ∙ never (number_of old.name) h
never_by_hub d last a input (Err f) old new before after never at runs = tt

kill-so : (dead : Bool) → is_of_seat (refused_if dead why.Already ans.Killed) ≡ false
kill-so dead = refused-so dead why.Already ans.Killed refl refl

pub never_by_serial : {M : Type 0} (d : Deployed) (last : ℕ) (a : Act) (result : Result Answer CallFault) (old new : NodeSeen M SerialAct SerialAnswer) (before after : SessionSeen) → AtNodeAbove last a Kill of_serial result old new before after → Runs (serial_meaning d) new.name new.entries →
    IfOk result (λ r. is_of_seat r ≡ false)
never_by_serial d last a (Ok r) old new before after at runs =
    let is-last = node-answers (serial_meaning d) last a Kill of_serial r old new before after at runs in
    let dead = replay (serial_meaning d) old.name old.entries in
    let is : SerialAnswers d (epoch_in old.name) (serial_in old.name) dead Kill is-last.0 = is-last.2 in
    ap is_of_seat (sym is-last.1 ∙ is.answer) ∙ kill-so dead
never_by_serial d last a (Err f) old new before after at runs = tt
