-- What a gear's entries put on its lane to another site is what its pieces make for that site.
use Rattle.std.proofs.Common.{◌≡◌, ℕ, ◌+◌, Bool, true, false, ◌==◌, not, max, nat_le, List, [], ◌∷◌, Option, Some, None, refl, sym, ap, ◌∙◌}
use Rattle.sat_label.specs.Words.{bit}
use Rattle.sat_label.specs.declared.items.Items.{Items}
use Rattle.sat_label.specs.declared.items.Items.TheVariants.{One, Two, Three, Four}
use Rattle.sat_label.specs.declared.label.Kind.{Kind}
use Rattle.sat_label.specs.declared.label.Kind.TheVariants as kind
use Rattle.sat_label.specs.declared.label.Label.{Label}
use Rattle.sat_label.specs.declared.limits.TheConstants.{TS_END}
use Rattle.sat_label.specs.declared.node.NodeName.TheVariants as named
use Rattle.sat_label.specs.Grouped.{list_of}
use Rattle.sat_label.specs.Order.{point_at}
use Rattle.sat_bulk.specs.Payloads.{Payload}
use Rattle.sat_act.specs.declared.answer.Answer.{Answer}
use Rattle.sat_act.specs.declared.answer.Answer.TheVariants as ans
use Rattle.sat_act.specs.declared.answer.Refusal.{Refusal}
use Rattle.sat_act.specs.declared.answer.Refusal.TheVariants as why
use Rattle.sat_act.specs.Deployed.{Deployed}
use Rattle.sat_act.specs.Answers.{refused_if}
use Rattle.sat_act.specs.Parts.{is_target, keeps_all, keeps_some, replicates}
use Rattle.sat_model.specs.Input.{SiteInput}
use Rattle.sat_model.specs.Input as site
use Rattle.sat_model.specs.Next.{payload_at}
use Rattle.sat_model.specs.Reply.{gear_for, write_by, read_by, move_by}
use Rattle.sat_model.specs.State.{Version}
use Rattle.sat_node.specs.declared.kept.Kept.{Kept as Line}
use Rattle.sat_stitch.specs.Kept.{Nothing, OfClient}
use Rattle.sat_stitch.specs.Nodes.{input_of, payload_made, with_input, makes_payload}
use Rattle.sat_joint.specs.Machines.{GearNode}
use Rattle.sat_joint.specs.Pieces.{given_of}
use Rattle.sat_hub_laws.specs.Gears.{gear_act, gear_answer, gear_handed as handed_to, values_of, write_act, written_act}
use Rattle.sat_hub_laws.specs.Lines.{GearLine, gear_replay}
use Rattle.sat_machines.specs.Layout.{peer}
use Rattle.sat_machines.specs.Sites.{payload_in}
use Rattle.sat_parts.specs.declared.gear_answer.GearAnswer.{GearAnswer}
use Rattle.sat_parts.specs.declared.gear_input.GearInput.{GearInput}
use Rattle.sat_parts.specs.declared.gear_input.GearInput.TheVariants as gear
use Rattle.sat_parts.specs.declared.gear_input.ShownBy.TheVariants as by
use Rattle.sat_parts.specs.Acts.{GearActSeen, client_in, gear_handed}
use Rattle.sat_parts.specs.Gears.{gear_puts, is_kept_at, lane_to}
use Rattle.sat_opened.proofs.Handings.{sort_of, payload_sort}
use Rattle.sat_opened.proofs.Lanes.{sorted-payload, target-is}
use Rattle.sat_opened.proofs.Says.{IsOwn}
use Rattle.sat_opened.proofs.Numbers.{same-turned}
use Rattle.sat_parts_opened.specs.Keeping.{gear_kept}
use Rattle.sat_parts_opened.proofs.Walked.{gear_plains}
use Rattle.sat_parts_opened.proofs.Steps.{GearStep}

-- ---- answers of a gear's own acts

refused-cases : (P : Answer → Type 0) (b : Bool) (y : Refusal) (r : Answer) → P (ans.Refused y) → (b ≡ false → P r) → P (refused_if b y r)
refused-cases P true y r no_ yes_ = no_
refused-cases P false y r no_ yes_ = yes_ refl

pub wrote-cases : (P : Answer → Type 0) (d : Deployed) (i : ℕ) (items : Items) (promise seen : ℕ) → ((y : Refusal) → P (ans.Refused y)) → ((l : Label) → l.kind ≡ kind.Update items → IsOwn i l → P (ans.Wrote l)) → P (write_by d i items promise seen)
wrote-cases P d i items promise seen no_ yes_ =
    refused-cases P (not (keeps_all d (list_of items) i)) why.NotHere _ (no_ why.NotHere)
    (λ _. refused-cases P (nat_le TS_END (max promise seen)) why.Spent _ (no_ why.Spent)
    (λ _. yes_ (record { point = point_at (max promise seen + 1) i (gear_for d items); kind = kind.Update items }) refl (record { site = refl; kind = tt })))

pub move-cases : (P : Answer → Type 0) (i j promise seen : ℕ) → ((y : Refusal) → P (ans.Refused y)) → ((l : Label) → IsOwn i l → P (ans.Moved l)) → P (move_by i j promise seen)
move-cases P i j promise seen no_ yes_ =
    refused-cases P (j == i) why.SameSite _ (no_ why.SameSite)
    (λ e. refused-cases P (nat_le TS_END (max promise seen)) why.Spent _ (no_ why.Spent)
    (λ _. yes_ (record { point = point_at (max promise seen + 1) i 0; kind = kind.Move j }) (record { site = refl; kind = same-turned i j ∙ e })))

version-cases : (P : Answer → Type 0) (o : Option Version) → P ans.ReadNone → ((l : Label) (value : List ℕ) → P (ans.ReadSome l value)) → P (elim o [ None ↦ ans.ReadNone | Some p ↦ ans.ReadSome p.label p.value ])
version-cases P None none some = none
version-cases P (Some v) none some = some v.label v.value

pub read-cases : (P : Answer → Type 0) (d : Deployed) (i x : ℕ) (o : Option Version) → ((y : Refusal) → P (ans.Refused y)) → P ans.ReadNone → ((l : Label) (value : List ℕ) → P (ans.ReadSome l value)) → P (read_by d i x o)
read-cases P d i x o no_ none some = refused-cases P (not (replicates d x i)) why.NotHere _ (no_ why.NotHere) (λ _. version-cases P o none some)

-- ---- a part of another node's write was handed nothing that a machine of a site takes

write-nothing : (c : ℕ) (items : Items) (values : List (List ℕ)) → input_of (write_act c items values) Nothing ≡ None
write-nothing c (One x) (value ∷ []) = refl
write-nothing c (One x) [] = refl
write-nothing c (One x) (value ∷ more ∷ values) = refl
write-nothing c (Two x y) values = refl
write-nothing c (Three x y z) values = refl
write-nothing c (Four x y z w) values = refl

written-nothing : (c : ℕ) (k : Kind) (values : List (List ℕ)) → input_of (written_act c k values) Nothing ≡ None
written-nothing c (kind.Update items) values = write-nothing c items values
written-nothing c (kind.Move j) values = refl
written-nothing c kind.Pulse values = refl
written-nothing c (kind.Close e) values = refl

pub write-given : (c i : ℕ) (seen : _) (items : Items) (values : List (List ℕ)) → input_of (write_act c items values) (OfClient seen (Some i)) ≡ Some (site.Write seen items values)
write-given c i seen (One x) (value ∷ []) = refl
write-given c i seen (One x) [] = refl
write-given c i seen (One x) (value ∷ more ∷ values) = refl
write-given c i seen (Two x y) values = refl
write-given c i seen (Three x y z) values = refl
write-given c i seen (Four x y z w) values = refl

-- ---- each entry

module _ (d : Deployed) (i j g k : ℕ) (ne : (j == i) ≡ false) (at : peer i k ≡ j) where
  abbrev makes : Option SiteInput → Answer → Option Payload
  makes o r = with_input o (λ input. payload_made d g j input r)

  tick-makes : (n : GearNode) (ts : ℕ) → None ≡ makes (Some (site.Tick g ts)) (gear_answer d i n (gear_handed (gear.Tick ts)))
  unfolding gear_answer
  tick-makes n ts = refl

  read-makes : (n : GearNode) (seen : _) (x : ℕ) → None ≡ makes (Some (site.Read seen x)) (gear_answer d i n (gear_handed (gear.Read seen x)))
  unfolding gear_answer
  read-makes n seen x = read-cases (λ r. None ≡ makes (Some (site.Read seen x)) r) d i x (n.store x) (λ y. refl) refl (λ l value. refl)

  move-makes : (n : GearNode) (seen : _) (m : ℕ) → None ≡ makes (Some (site.Move seen m)) (gear_answer d i n (gear_handed (gear.Move seen m)))
  unfolding gear_answer
  move-makes n seen m = move-cases (λ r. None ≡ makes (Some (site.Move seen m)) r) i m n.gear.promise seen.point.ts (λ y. refl) (λ l own. refl)

  drain-makes : (n : GearNode) (given : _) (labels stable : ℕ) → None ≡ makes (Some site.Gather) (gear_answer d i n (gear_handed (gear.Drain given labels stable)))
  unfolding gear_answer
  drain-makes n given labels stable = refl

  stamp-makes : (n : GearNode) (p : Payload) → None ≡ makes (Some site.Stamp) (gear_answer d i n (gear_handed (gear.Show by.Stamp p)))
  unfolding gear_answer
  stamp-makes n p = refl

  write-makes : (n : GearNode) (seen : _) (items : Items) (values : List (List ℕ)) (bits : ℕ) → ((m : ℕ) → bit bits m ≡ keeps_some d (list_of items) m) →
      sort_of (payload_sort g) (payload_in (bit bits (peer i k)) values (gear_answer d i n (gear_handed (gear.Write seen items values)))) ≡ makes (Some (site.Write seen items values)) (gear_answer d i n (gear_handed (gear.Write seen items values)))
  unfolding gear_answer
  write-makes n seen items values bits keepers =
      wrote-cases (λ r. sort_of (payload_sort g) (payload_in (bit bits (peer i k)) values r) ≡ makes (Some (site.Write seen items values)) r) d i items n.gear.promise seen.point.ts (λ y. refl)
      (λ l e own. sorted-payload g l.point.gear (bit bits (peer i k)) (is_target d l j) (payload_at l values) (ap (bit bits) at ∙ (keepers j ∙ sym (target-is d i j items l e own.site ne))))

  abbrev entry_makes : ℕ → GearInput → Answer → Option Payload
  entry_makes c input r = makes (input_of (gear_act i g c (gear_handed input)) (given_of (handed_to i (gear_handed input)))) r

  input-makes : (c : ℕ) (n : GearNode) (input : GearInput) (a : GearAnswer) → a.answer ≡ gear_answer d i n (gear_handed input) → ((m : ℕ) → bit a.keepers.bits m ≡ is_kept_at d input m) →
      sort_of (payload_sort g) (lane_to (peer i k) input a) ≡ entry_makes c input a.answer
  input-makes c n (gear.Tick ts) a w keepers = tick-makes n ts ∙ ap (makes (Some (site.Tick g ts))) (sym w)
  input-makes c n (gear.Write seen items values) a w keepers =
      ap (λ (r : Answer). sort_of (payload_sort g) (payload_in (bit a.keepers.bits (peer i k)) values r)) w ∙
      (write-makes n seen items values a.keepers.bits keepers ∙
      (λ t. makes (sym (write-given c i seen items values) t) (sym w t)))
  input-makes c n (gear.Read seen x) a w keepers = read-makes n seen x ∙ ap (makes (Some (site.Read seen x))) (sym w)
  input-makes c n (gear.Move seen m) a w keepers = move-makes n seen m ∙ ap (makes (Some (site.Move seen m))) (sym w)
  input-makes c n (gear.Drain given labels stable) a w keepers = drain-makes n given labels stable ∙ ap (makes (Some site.Gather)) (sym w)
  input-makes c n (gear.Show by.Turn p) a w keepers = refl
  input-makes c n (gear.Show by.Stamp p) a w keepers = stamp-makes n p ∙ ap (makes (Some site.Stamp)) (sym w)
  input-makes c n (gear.Show by.Write p) a w keepers = ap (λ (o : Option SiteInput). makes o a.answer) (sym (written-nothing c p.label.kind (values_of p)))

  -- what an entry puts on the lane to site j is what it makes for it
  pub lane-puts : (ls : List GearLine) (x : Line GearActSeen GearAnswer) → GearStep d i g ls x → sort_of (payload_sort g) (gear_puts (named.Gear i g) k x.input x.answer) ≡ makes_payload d g j (gear_plains i g ls) (gear_kept i g x)
  lane-puts ls x step = input-makes (client_in x.input.by) (gear_replay d g ls) x.input.input x.answer step.answers_there.answer step.answers_there.keepers
