-- Parts of gears and gathers take nothing from a link, and stand.
use Rattle.std.specs.Prelude.{◌≡◌, ℕ, true, Option, None, refl}
use Rattle.std.proofs.Common.{ap, ◌∙◌}
use Rattle.sat_label.specs.declared.node.NodeName.{NodeName}
use Rattle.sat_label.specs.declared.node.NodeName.TheVariants as named
use Rattle.sat_act.specs.Deployed.{Deployed}
use Rattle.sat_stitch.specs.Nodes.{stands}
use Rattle.sat_joint.specs.Machines.{HubState, GearNode}
use Rattle.sat_hub_laws.specs.Gears.{gear_answer}
use Rattle.sat_hub_laws.specs.Hubs.{hub_answer}
use Rattle.sat_parts.specs.declared.hub_answer.HubAnswer.{HubAnswer}
use Rattle.sat_parts.specs.declared.hub_input.HubInput.{HubInput}
use Rattle.sat_parts.specs.declared.hub_input.HubInput.TheVariants as hub
use Rattle.sat_parts.specs.declared.gear_input.GearInput.{GearInput}
use Rattle.sat_parts.specs.declared.gear_input.GearInput.TheVariants as gear
use Rattle.sat_parts.specs.declared.gear_input.ShownBy.TheVariants as by
use Rattle.sat_parts.specs.Acts.{HubActSeen, gear_handed, hub_handed}
use Rattle.sat_parts.specs.Hubs.{hub_takes_from}
use Rattle.sat_parts.specs.Locals.{GathersAreLocal, PartsAreLocal, is_gather, is_part}

part-stands : (d : Deployed) (i : ℕ) (n : GearNode) (given : GearInput) → is_part given ≡ true → stands (gear_answer d i n (gear_handed given)) ≡ true
unfolding gear_answer
part-stands d i n (gear.Drain given labels stable) e = refl
part-stands d i n (gear.Show by.Turn p) e = refl
part-stands d i n (gear.Show by.Stamp p) e = refl
part-stands d i n (gear.Show by.Write p) e = refl
part-stands d i n _ e = absurd (cc)

pub parts-are-local : PartsAreLocal
parts-are-local d node act e = record {
  stands = λ a w. ap stands w.answer ∙ part-stands d _ _ act.input e;
  takes = λ a k w. refl;
}

gather-stands : (d : Deployed) (i : ℕ) (h : HubState) (given : HubInput) → is_gather given ≡ true → stands (hub_answer d i h (hub_handed given)) ≡ true
unfolding hub_answer
gather-stands d i h (hub.Gather drained) e = refl
gather-stands d i h _ e = absurd (cc)

abbrev with_input : Option ℕ → HubInput → HubActSeen
with_input by given = record { by = by; input = given }

gather-takes : (d : Deployed) (name : NodeName) (k : ℕ) (by : Option ℕ) (given : HubInput) (a : HubAnswer) → is_gather given ≡ true → hub_takes_from d name k (with_input by given) a ≡ None
gather-takes d (named.Site i) k by (hub.Gather drained) a e = refl
gather-takes d (named.Site i) k by _ a e = absurd (cc)
gather-takes d (named.Serializer f z) k by given a e = refl
gather-takes d (named.Gear i g) k by given a e = refl

pub gathers-are-local : GathersAreLocal
gathers-are-local d node act e = record {
  stands = λ a w. ap stands w.answer ∙ gather-stands d _ _ act.input e;
  takes = λ a k w. gather-takes d node.name k act.by act.input a e;
}
