-- What takes nothing from a link stands, whatever is answered.
use Rattle.std.proofs.Common.{◌≡◌, ◌+◌, ◌==◌, ◌&&◌, ◌||◌, ℕ, Bool, true, false, not, nat_le, max, length, Option, Some, None, is_some, refl, ap, ◌∙◌}
use Rattle.sat_label.specs.declared.items.Items.{Items}
use Rattle.sat_label.specs.declared.label.Label.{Label}
use Rattle.sat_label.specs.declared.label.Kind.TheVariants as kind
use Rattle.sat_label.specs.declared.limits.TheConstants.{PULSE_GEAR, TS_END}
use Rattle.sat_label.specs.declared.node.NodeName.{NodeName}
use Rattle.sat_label.specs.declared.node.NodeName.TheVariants as named
use Rattle.sat_label.specs.Grouped.{list_of}
use Rattle.sat_label.specs.Order.{point_at}
use Rattle.sat_act.specs.declared.answer.Answer.{Answer}
use Rattle.sat_act.specs.declared.answer.Answer.TheVariants as ans
use Rattle.sat_act.specs.declared.answer.Refusal.{Refusal}
use Rattle.sat_act.specs.declared.answer.Refusal.TheVariants as why
use Rattle.sat_act.specs.Answers.{refused_if}
use Rattle.sat_act.specs.Deployed.{Deployed}
use Rattle.sat_act.specs.Parts.{keeps_all, replicates}
use Rattle.sat_model.specs.Look.{ready_of, stable_of, mode_of, cut_of}
use Rattle.sat_model.specs.Reply.{site_answer, gear_for, write_by, move_by, may_come, may_pass, outlook_of, stamp_next}
use Rattle.sat_model.specs.State.{SiteState, Version}
use Rattle.sat_site.specs.declared.input.SiteInput.{SiteInput}
use Rattle.sat_site.specs.declared.input.SiteInput.TheVariants as input
use Rattle.sat_site.specs.Inputs.{input_of}
use Rattle.sat_node.specs.Links.{IsLocal}
use Rattle.sat_node.specs.Seen.{NodeSeen}
use Rattle.sat_machines.specs.Acts.{ActSeen}
use Rattle.sat_machines.specs.Serials.{serial_meaning}
use Rattle.sat_machines.specs.Sites.{is_standing, site_meaning, site_takes}
use Rattle.sat_machines.specs.declared.site_answer.SiteAnswer.{SiteAnswer}
use Rattle.sat_machines.specs.declared.serial_act.SerialAct.{SerialAct}
use Rattle.sat_machines.specs.declared.serial_act.SerialAct.TheVariants as serial
use Rattle.sat_machines.specs.declared.serial_act.SerialAnswer.{SerialAnswer}
use Rattle.sat_host.specs.Locals.{is_local}

-- a refusal that stands, or another answer that does
refused-stands : (b : Bool) (y : Refusal) (r : Answer) → is_standing (ans.Refused y) ≡ true → is_standing r ≡ true → is_standing (refused_if b y r) ≡ true
refused-stands true y r f g = f
refused-stands false y r f g = g

version-stands : (o : Option Version) → is_standing (elim o [ None ↦ ans.ReadNone | Some p ↦ ans.ReadSome p.label p.value ]) ≡ true
version-stands None = refl
version-stands (Some p) = refl

emit-stands : (o : Option Label) → is_standing (elim o [ None ↦ ans.Refused why.Idle | Some l ↦ ans.Emitted l ]) ≡ true
emit-stands None = refl
emit-stands (Some l) = refl

stamp-stands : (o : Option Label) → is_standing (elim o [ None ↦ ans.Refused why.NotYet | Some l ↦ ans.Shown l ]) ≡ true
stamp-stands None = refl
stamp-stands (Some l) = refl

write-stands : (d : Deployed) (i : ℕ) (items : Items) (promise seen : ℕ) → is_standing (write_by d i items promise seen) ≡ true
write-stands d i items promise seen =
    refused-stands (not (keeps_all d (list_of items) i)) why.NotHere _ refl (refused-stands (nat_le TS_END (max promise seen)) why.Spent (ans.Wrote (record { point = point_at (max promise seen + 1) i (gear_for d items); kind = kind.Update items })) refl refl)

move-stands : (i j promise seen : ℕ) → is_standing (move_by i j promise seen) ≡ true
move-stands i j promise seen = refused-stands (j == i) why.SameSite _ refl (refused-stands (nat_le TS_END (max promise seen)) why.Spent (ans.Moved (record { point = point_at (max promise seen + 1) i 0; kind = kind.Move j })) refl refl)

local-stands : (d : Deployed) (i : ℕ) (s : SiteState) (given : SiteInput) → is_local given ≡ true → is_standing (site_answer d i s (input_of given)) ≡ true
unfolding site_answer
local-stands d i s (input.Tick g t) e = refl
local-stands d i s (input.Write seen items values) e = write-stands d i items (s.gears (gear_for d items)).promise seen.point.ts
local-stands d i s (input.Read seen n) e = refused-stands (not (replicates d n i)) why.NotHere _ refl (version-stands (s.store n))
local-stands d i s (input.Move seen j) e = move-stands i j (s.gears 0).promise seen.point.ts
local-stands d i s (input.Attach seen) e = refused-stands (not (may_come d (outlook_of d s) seen i)) why.NotYet ans.Attached refl refl
local-stands d i s input.Gather e = refl
local-stands d i s input.Emit e = emit-stands (ready_of d s)
local-stands d i s input.Pulse e =
    refused-stands (is_some (ready_of d s) || nat_le (stable_of d s) s.sink.pulse) why.Idle (ans.Pulsed (record { point = point_at (stable_of d s) i PULSE_GEAR; kind = kind.Pulse })) refl refl
local-stands d i s (input.Turn front) e = absurd (cc (e))
local-stands d i s (input.Bulk from gear number p) e = absurd (cc (e))
local-stands d i s (input.Beat j) e = refl
local-stands d i s (input.BeatIn from number beat) e = absurd (cc (e))
local-stands d i s input.Stamp e = refused-stands (not (mode_of d s)) why.TreeOrder _ refl (stamp-stands (stamp_next d (outlook_of d s) i))
local-stands d i s input.Close e =
    refused-stands (s.views.emission == length d.plans) why.NoNextEpoch _ refl (refused-stands (s.views.emission == s.views.view + 1) why.Behind (ans.Closed s.views.emission (cut_of d i s)) refl refl)
local-stands d i s input.Fall e = refused-stands (mode_of d s) why.StampOrder _ refl (refused-stands (s.views.emission == s.views.view) why.NotClosed ans.Fallen refl refl)
local-stands d i s input.Advance e =
    refused-stands (s.views.emission == s.views.view) why.NotClosed _ refl (refused-stands (not (may_pass d (outlook_of d s) s.views.heard i)) why.NotYet (ans.View (s.views.view + 1)) refl refl)

takes-none : (name : NodeName) (k : ℕ) (by : Option ℕ) (given : SiteInput) (a : SiteAnswer) → is_local given ≡ true → site_takes name k (record { by = by; input = given }) a ≡ None
takes-none (named.Serializer e z) k by given a t = refl
takes-none (named.Gear e z) k by given a t = refl
takes-none (named.Site i) k by (input.Turn front) a t = absurd (cc)
takes-none (named.Site i) k by (input.Bulk from gear number payload) a t = absurd (cc)
takes-none (named.Site i) k by (input.BeatIn from number beat) a t = absurd (cc)
takes-none (named.Site i) k by _ a t = refl

pub site_local : {M : Type 0} (d : Deployed) (node : NodeSeen M ActSeen SiteAnswer) (act : ActSeen) → is_local act.input ≡ true → IsLocal (site_meaning d) node act
site_local d node act e = record {
  stands = λ a h. ap is_standing h.answer ∙ local-stands d _ _ act.input e;
  takes = λ a k h. takes-none node.name k act.by act.input a e;
}

pub kill_local : {M : Type 0} (d : Deployed) (node : NodeSeen M SerialAct SerialAnswer) → IsLocal (serial_meaning d) node serial.Kill
kill_local d node = record { stands = λ a h. refl; takes = λ a k h. refl }

-- ---- two tests

pub not_first : (a b : Bool) → a ≡ false → (a && b) ≡ false
not_first a b e = ap (λ (x : Bool). x && b) e

pub not_second : (a b : Bool) → b ≡ false → (a && b) ≡ false
not_second true b e = e
not_second false b e = refl

pub both_are : (a b : Bool) → a ≡ true → b ≡ true → (a && b) ≡ true
both_are a b e f = ap (λ (x : Bool). x && b) e ∙ f
