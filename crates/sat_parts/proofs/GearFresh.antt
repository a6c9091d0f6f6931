-- A gear that has promised and made nothing.
use Rattle.std.specs.Prelude.{◌≡◌, ◌/◌, ℕ, [], length, None, refl}
use Rattle.std.proofs.Common.{subst, sym, ap, ◌∙◌}
use Rattle.sat_act.specs.Deployed.{Deployed}
use Rattle.sat_gear.specs.Gear.{GearSeen, fresh_gear, places}
use Rattle.sat_hub.specs.Changes.{shape_for}
use Rattle.sat_hub.proofs.Fresh.{always}
use Rattle.sat_sites.specs.declared.shape.Shape.{Shape}
use Rattle.sat_site.specs.Stands.{version_seen}
use Rattle.sat_joint.specs.Machines.{fresh_gear as fresh_state}
use Rattle.sat_parts.specs.Gears.{StandsGearNode}

stands-new : (d : Deployed) (i g : ℕ) → StandsGearNode d i g (fresh_gear (shape_for d i) g) fresh_state
stands-new d i g = record {
  shape = refl;
  number = refl;
  gear = record { promise = refl; fresh = refl; lanes = λ j lt. always d.sites j [] };
  beyond = λ j past. refl;
  versions = λ m lt kept at. ap version_seen (always (places (length (shape_for d i).interest.replicas) d.gears) (m / d.gears) None);
}

pub made-stands : (d e : Deployed) (i g : ℕ) (shape : Shape) (x : GearSeen) → e ≡ d → shape ≡ shape_for d i → x ≡ fresh_gear shape g → StandsGearNode e i g x fresh_state
made-stands d e i g shape x same of is =
    subst (λ (e : Deployed). StandsGearNode e i g x fresh_state) (sym same)
    (subst (λ (y : GearSeen). StandsGearNode d i g y fresh_state) (sym (is ∙ ap (λ (s : Shape). fresh_gear s g) of)) (stands-new d i g))
