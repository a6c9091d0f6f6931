-- What a serializer would take it takes.
use Rattle.std.proofs.Common.{◌≡◌, ℕ, ◌+◌, ◌-◌, ◌==◌, max, nat_le, Bool, true, false, if◌then◌else◌, get_or, Option, Some, None, slice_get, refl, sym, ap, ◌∙◌, arith}
use Rattle.std.specs.Prelude.{is_some}
use Rattle.std.proofs.lemmas.Bool.Decides.{nat_tests}
use Rattle.sat_label.specs.declared.label.Label.{Label}
use Rattle.sat_label.specs.declared.node.NodeId.{NodeId}
use Rattle.sat_tree.specs.Cut.{neighbours}
use Rattle.sat_act.specs.Deployed.{Deployed}
use Rattle.sat_node.specs.declared.kept.Body.{Body}
use Rattle.sat_node.specs.declared.kept.Body.TheVariants as body
use Rattle.sat_node.specs.Seen.{last_number}
use Rattle.sat_machines.specs.declared.serial_act.SerialAct.{SerialAct}
use Rattle.sat_machines.specs.declared.serial_act.SerialAct.TheVariants as serial
use Rattle.sat_machines.specs.Serials.{SerialSeen, serial_takes_in}
use Rattle.sat_machines.specs.Sites.{some_if}
use Rattle.sat_passes.specs.Relays.{hop_from, hop_with}
use Rattle.sat_message.specs.declared.message.Message.{Message}
use Rattle.sat_host.specs.declared.received.Received.{Received}
use Rattle.sat_host.specs.declared.received.Received.TheVariants as received
use Rattle.sat_host.specs.Receptions.{hop_reception, if_hop, serial_reception}
use Rattle.sat_host.specs.Turns.{turn_of}
use Rattle.sat_host_laws.specs.Messages.{SerialHost}
use Rattle.sat_handed.specs.declared.handed.Handed.TheVariants as given
use Rattle.sat_process.specs.declared.hosted.Became.{Became}
use Rattle.sat_process.specs.declared.hosted.Became.TheVariants.{Taken, Unfit, Worn}
use Rattle.sat_process.specs.Sites.{if_taken, would_count}
use Rattle.sat_process.specs.Serials.{asked_at_serializer, took_at_serializer, would_body, would_come, would_hop, would_kill}
use Rattle.sat_process.proofs.SiteTurns.{both_taken, count_turn, when_turn, worn_by}

hop-by : (k : Bool) (o : Option SerialAct) → (if k then Unfit else if_taken (is_some o)) ≡ Taken → (if k then received.Unfit else if_hop o) ≡ received.Taken
hop-by true o is = absurd (cc (is))
hop-by false None is = absurd (cc (is))
hop-by false (Some hop) is = refl

body-taken : (d : Deployed) (h : SerialHost) (link number : ℕ) (b : Body) → would_body d h link number b ≡ Taken →
    (turn_of (get_or h.wanted link 0) number b ≡ received.Taken) × (hop_reception d h.node.machine link b ≡ received.Taken)
body-taken d h link number (body.Label l) is =
    let p = both_taken (would_count (get_or h.wanted link 0) number) (would_hop d h link l) is in
    (count_turn (get_or h.wanted link 0) number p.0, hop-by h.node.machine.serial.killed (hop_with d h.node.machine link (body.Label l)) p.1)
body-taken d h link number (body.Payload g n p) is = absurd (cc (is))
body-taken d h link number (body.Beat n b) is = absurd (cc (is))

-- the two numbers are less than the greatest, and it is taken
pub record IsHopped (d : Deployed) (h : SerialHost) (link : ℕ) (m : Message) : Type 0 where
  pub reception : serial_reception d h link m ≡ received.Taken
  pub heard : (m.sent.lamport == last_number) ≡ false
  pub own : (h.node.number == last_number) ≡ false

-- ---- what a hop takes

abbrev IsHopOf : Body → SerialAct → Type 0
IsHopOf b i = ((n : ℕ) → asked_at_serializer n i ≡ None) × (took_at_serializer i ≡ Some b)

some-hop : (t : Bool) (u : NodeId) (l : Label) (i : SerialAct) → some_if t (serial.Hop u l) ≡ Some i → IsHopOf (body.Label l) i
some-hop true u l i is =
    let same : serial.Hop u l ≡ i = cc (is) in
    ((λ n. ap (asked_at_serializer n) (sym same)), ap took_at_serializer (sym same))
some-hop false u l i is = absurd (cc (is))

from-hop : (d : Deployed) (x : SerialSeen) (o : Option NodeId) (l : Label) (i : SerialAct) → hop_from d x o l ≡ Some i → IsHopOf (body.Label l) i
from-hop d x None l i is = absurd (cc (is))
from-hop d x (Some u) l i is = some-hop (serial_takes_in d x (serial.Hop u l)) u l i is

hop-of : (d : Deployed) (x : SerialSeen) (link : ℕ) (b : Body) (i : SerialAct) → hop_with d x link b ≡ Some i → IsHopOf b i
hop-of d x link (body.Label l) i is = from-hop d x (slice_get (neighbours x.serial.tree x.serial.number) link) l i is
hop-of d x link (body.Payload g n p) i is = absurd (cc (is))
hop-of d x link (body.Beat n b) i is = absurd (cc (is))

pub hop_not_asked : (d : Deployed) (x : SerialSeen) (link : ℕ) (b : Body) (i : SerialAct) → hop_with d x link b ≡ Some i → (n : ℕ) → asked_at_serializer n i ≡ None
hop_not_asked d x link b i is = (hop-of d x link b i is).0

pub hop_took : (d : Deployed) (x : SerialSeen) (link : ℕ) (b : Body) (i : SerialAct) → hop_with d x link b ≡ Some i → took_at_serializer i ≡ Some b
hop_took d x link b i is = (hop-of d x link b i is).1

-- ---- kills

kill-by : (b : Bool) → (if b then Unfit else Taken) ≡ Taken → b ≡ false
kill-by true is = absurd (cc (is))
kill-by false is = refl

pub kill_taken : (h : SerialHost) (number : ℕ) → would_kill h number ≡ Taken → nat_le number h.node.number ≡ false
kill_taken h number is = kill-by (nat_le number h.node.number) is

pub killed_is : (number own : ℕ) → nat_le number own ≡ false → asked_at_serializer (max own (number - 1) + 1) serial.Kill ≡ Some (given.Killed number)
killed_is number own above = (let same : max own (number - 1) + 1 ≡ number = grind (arith, nat_tests, above) in ap (λ (n : ℕ). Some (given.Killed n)) same)
