-- What is looked up at a gear before a read.
use Rattle.std.proofs.Common.{◌≡◌, ◌<◌, ◌≤◌, ℕ, true, false, length, Some, None, sym, ap, ◌∙◌, subst}
use Rattle.sat_label.specs.declared.limits.TheConstants.{TS_END}
use Rattle.sat_label.specs.declared.node.NodeName.{NodeName}
use Rattle.sat_label.specs.declared.node.NodeName.TheVariants as named
use Rattle.sat_label.specs.Versions.{Version as Held}
use Rattle.sat_sites.specs.Interested.{keeps}
use Rattle.sat_sites.specs.declared.shape.Shape.{Shape}
use Rattle.sat_act.specs.declared.answer.Answer.TheVariants as ans
use Rattle.sat_act.specs.Answers.{gear_of}
use Rattle.sat_act.specs.Deployed.{Deployed}
use Rattle.sat_act.specs.Parts.{replicates}
use Rattle.sat_gear.specs.Gear.{GearSeen, version_of}
use Rattle.sat_site.specs.Stands.{version_seen}
use Rattle.sat_site.proofs.Interests.{keeps-is}
use Rattle.sat_joint.specs.Machines.{GearNode}
use Rattle.sat_parts.specs.Gears.{GearStands, StandsGearNode}
use Rattle.sat_session.specs.Replies.{Looked}
use Rattle.sat_session.proofs.Looks.{none-looked, some-looked}
use Rattle.sat_parts_session.specs.Asked.{as_site}

-- only a gear's machine stands for a gear, and its shape is that of its site
pub stands_shape : (d : Deployed) (name : NodeName) (x : GearSeen) (n : GearNode) → GearStands d name x n → (x.shape.gears ≡ d.gears) × (x.shape.sites ≡ d.sites)
stands_shape d (named.Site i) x n st = absurd st
stands_shape d (named.Serializer e z) x n st = absurd st
stands_shape d (named.Gear i g) x n st = (ap (λ (s : Shape). s.gears) st.shape, ap (λ (s : Shape). s.sites) st.shape)

pub stands_at : (d : Deployed) (name : NodeName) (i g : ℕ) (x : GearSeen) (n : GearNode) → name ≡ named.Gear i g → GearStands d name x n → StandsGearNode d i g x n
stands_at d name i g x n at st = subst (λ (m : NodeName). GearStands d m x n) at st

module _ (d : Deployed) (i g : ℕ) (x : GearSeen) (n : GearNode) (st : StandsGearNode d i g x n) (item : ℕ) where
  -- the site does not keep it
  pub looked_away : keeps x.shape.interest item x.shape.site ≡ false → Looked d i (as_site d i n) item None
  looked_away e =
      let w : replicates d item i ≡ false = sym (keeps-is d item i) ∙ (ap (λ (s : Shape). keeps s.interest item s.site) (sym st.shape) ∙ e) in
      none-looked d i (as_site d i n) item (λ kept. absurd (let v : true ≡ false = sym kept ∙ w in cc (v)))

  module _ (known : item < length d.items) (own : g ≡ gear_of d item) where
    -- there is no version
    pub looked_none : version_of x item ≡ None → Looked d i (as_site d i n) item None
    looked_none e = none-looked d i (as_site d i n) item (λ kept. sym (st.versions item known kept (sym own)) ∙ ap version_seen e)

    -- there is this one
    pub looked_some : (version : Held) (sites : ℕ) → version_of x item ≡ Some version → version.label.point.ts ≤ TS_END → version.label.point.site < sites → sites ≡ d.sites → Looked d i (as_site d i n) item (Some (ans.ReadSome version.label version.value))
    looked_some version sites e le lt there =
        some-looked d i (as_site d i n) item version.label version.value (λ kept. sym (st.versions item known kept (sym own)) ∙ ap version_seen e) le (subst (λ (m : ℕ). version.label.point.site < m) there lt)
