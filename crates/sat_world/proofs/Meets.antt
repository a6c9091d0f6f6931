-- What each deployment and each act of it meet.
use Rattle.std.specs.Prelude.{◌≡◌, ℕ, Option, Some, None, slice_get}
use Rattle.std.proofs.Common.{ap}
use Rattle.sat_act.specs.declared.act.Act.{Act}
use Rattle.sat_act.specs.declared.act.Act.TheVariants as act
use Rattle.sat_act.specs.declared.deployment.ClientLine.{ClientLine}
use Rattle.sat_act.specs.Deployed.{Deployed}
use Rattle.sat_act.specs.Ranges.{IsActOf}
use Rattle.sat_act.specs.Answers.{InRange}
use Rattle.sat_act.specs.Parts.{home}

pub home-is : (d : Deployed) (c : ℕ) (o : Option ClientLine) → slice_get d.clients c ≡ o → home d c ≡ elim o [ None ↦ None | Some line ↦ Some line.site ]
unfolding home
home-is d c o e = ap (λ (o : Option ClientLine). elim o [ None ↦ None | Some line ↦ Some line.site ]) e

pub in-range : (d : Deployed) (a : Act) → IsActOf d a → InRange d a
in-range d (act.Tick i g t) k = k
in-range d (act.Writes c items values) k = (k.1.values_all, k.1.order)
in-range d (act.Move c j) k = k.1
in-range d (act.Attach c j) k = k.1
in-range d (act.Gather i) k = k
in-range d (act.Emit i) k = k
in-range d (act.Pulse i) k = k
in-range d (act.Turn i) k = k
in-range d (act.Bulk i g j n) k = (k.0.0, k.1, k.0.1, k.0.2)
in-range d (act.Beat i j) k = k
in-range d (act.BeatIn i j n) k = k.0
in-range d (act.Stamp i) k = k
in-range d (act.Close i) k = k
in-range d (act.Fall i) k = k
in-range d (act.Advance i) k = k
in-range d (act.Hop e u z) k = (k.0, k.2, k.4)
in-range d _ k = tt
