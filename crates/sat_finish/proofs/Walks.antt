-- What a walk finds of a gear and the homes that there are not.
use Rattle.std.proofs.Common.{◌≡◌, ◌≤◌, ℕ, List, [], Option, Some, None, Result, Ok, Err, IfOk, slice_get, sym, subst, ap, ◌∙◌}
use Rattle.std.specs.List.{flat_map}
use Rattle.sat_label.specs.declared.node.NodeName.TheVariants as named
use Rattle.sat_act.specs.Deployed.{Deployed}
use Rattle.sat_node.specs.declared.kept.Kept.{Kept as Line}
use Rattle.sat_parts.specs.declared.hub_answer.HubAnswer.{HubAnswer}
use Rattle.sat_parts.specs.declared.gear_answer.GearAnswer.{GearAnswer}
use Rattle.sat_parts.specs.Acts.{HubActSeen, GearActSeen}
use Rattle.sat_parts_opened.specs.Laws.{GearHeld, HubHeld}
use Rattle.sat_finish.specs.declared.walk.Parting.{Parting}
use Rattle.sat_finish.specs.Parts.{PartSeen, gear_parts, home_parts, hub_part, kept_part, written_part}
use Rattle.sat_finish.specs.Partings.{IsPartingOf}
use Rattle.sat_finish.specs.Walking.{HasNames, IsStray, IsWalked, IsWalkedAt, IsWalkedFar, parts_of}

-- a home that there is not kept nothing: where the gear has parts of it, they are apart
pub strays_end : {E : Type 0} (n i g h : ℕ) (es fs : List (Line GearActSeen GearAnswer)) (r : Result (Option Parting) E) → es ≡ fs → n ≤ h → ((j m : ℕ) → parts_of j m h es ≡ [] → ⊥) → IfOk r (λ o. IsWalked (named.Gear i h) (named.Gear i g) [] (parts_of i g h fs) o) → IfOk r (λ o. IsStray n i g fs o)
strays_end n i g h es fs (Ok None) e le some w = absurd (some i g (ap (parts_of i g h) e ∙ sym w))
strays_end n i g h es fs (Ok (Some p)) e le some w = (h, le, w)
strays_end n i g h es fs (Err f) e le some w = w

-- ---- nodes by their names

module _ (d : Deployed) (hubs : List HubHeld) (gears : List GearHeld) where
  -- a home that there is not kept nothing
  far-parts : HasNames d hubs gears → (i g h : ℕ) → d.gears ≤ h → home_parts d hubs gears i g (Some h) ≡ []
  far-parts names i g h le = ap (λ (es : List (Line GearActSeen GearAnswer)). flat_map (written_part d i h g) es) (names.far i h le)

  kept-at : HasNames d hubs gears → (i g h m : ℕ) (k : GearHeld) → slice_get gears m ≡ Some k → k.node.name ≡ named.Gear i g → parts_of i g h k.node.entries ≡ gear_parts gears i g (Some h)
  kept-at names i g h m k there own = ap (λ (es : List (Line GearActSeen GearAnswer)). flat_map (kept_part i g (Some h)) es) (sym (names.gear m i g k there own))

  pub at-none : HasNames d hubs gears → (i g m : ℕ) (k : GearHeld) (found : Option Parting) → slice_get gears m ≡ Some k → k.node.name ≡ named.Gear i g → IsStray d.gears i g k.node.entries found → IsWalkedFar d hubs gears i g found
  at-none names i g m k None there own w = λ h le. far-parts names i g h le ∙ (sym (w h le) ∙ kept-at names i g h m k there own)
  at-none names i g m k (Some p) there own w = (
    w.0,
    subst (λ (vs : List PartSeen). IsPartingOf (named.Gear i w.0) (named.Gear i g) vs (gear_parts gears i g (Some w.0)) p.lamport p.home p.other) (sym (far-parts names i g w.0 w.1))
        (subst (λ (vs : List PartSeen). IsPartingOf (named.Gear i w.0) (named.Gear i g) [] vs p.lamport p.home p.other) (kept-at names i g w.0 m k there own) w.2),
  )

  -- the same of what a call answers, which takes how many gears a site has
  pub none-ends : {E : Type 0} → HasNames d hubs gears → (i g m n : ℕ) (k : GearHeld) (r : Result (Option Parting) E) → n ≡ d.gears → slice_get gears m ≡ Some k → k.node.name ≡ named.Gear i g → IfOk r (λ o. IsStray n i g k.node.entries o) → IfOk r (λ o. IsWalkedFar d hubs gears i g o)
  none-ends names i g m n k (Ok found) count there own w = at-none names i g m k found there own (subst (λ (c : ℕ). IsStray c i g k.node.entries found) count w)
  none-ends names i g m n k (Err e) count there own w = w

  -- what a walk of a hub and a gear finds is of the nodes of their names
  pub hub_walked : {E : Type 0} → HasNames d hubs gears → (i g n m : ℕ) (h : HubHeld) (k : GearHeld) (r : Result (Option Parting) E) → slice_get hubs n ≡ Some h → h.node.name ≡ named.Site i → slice_get gears m ≡ Some k → k.node.name ≡ named.Gear i g → IfOk r (λ o. IsWalked (named.Site i) (named.Gear i g) (flat_map (hub_part d i g) h.node.entries) (flat_map (kept_part i g None) k.node.entries) o) → IfOk r (λ o. IsWalkedAt d hubs gears i g None o)
  hub_walked {E} names i g n m h k r at name own is w = go r w
    where
      home : home_parts d hubs gears i g None ≡ flat_map (hub_part d i g) h.node.entries
      home = ap (λ (es : List (Line HubActSeen HubAnswer)). flat_map (hub_part d i g) es) (names.hub n i h at name)

      kept : gear_parts gears i g None ≡ flat_map (kept_part i g None) k.node.entries
      kept = ap (λ (es : List (Line GearActSeen GearAnswer)). flat_map (kept_part i g None) es) (names.gear m i g k own is)

      go : (r : Result (Option Parting) E) → IfOk r (λ o. IsWalked (named.Site i) (named.Gear i g) (flat_map (hub_part d i g) h.node.entries) (flat_map (kept_part i g None) k.node.entries) o) → IfOk r (λ o. IsWalkedAt d hubs gears i g None o)
      go (Ok None) w = home ∙ (w ∙ sym kept)
      go (Ok (Some p)) w =
          subst (λ (vs : List PartSeen). IsPartingOf (named.Site i) (named.Gear i g) vs (gear_parts gears i g None) p.lamport p.home p.other) (sym home)
          (subst (λ (vs : List PartSeen). IsPartingOf (named.Site i) (named.Gear i g) (flat_map (hub_part d i g) h.node.entries) vs p.lamport p.home p.other) (sym kept) w)
      go (Err e) w = w
