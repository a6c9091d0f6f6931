-- What a hub's node sends.
use Rattle.std.specs.Prelude.{◌≡◌, ◌≢◌, ℕ, ◌<◌, ◌&&◌, Bool, true, false, List, [], ◌∷◌, ◌++◌, length, Some, None}
use Rattle.sat_sink.specs.Pending.{all_of}
use Rattle.sat_act.specs.Deployed.{Deployed}
use Rattle.sat_act.specs.Settling.{is_done}
use Rattle.sat_hub.specs.Changes.{beat_for, made_for}
use Rattle.sat_hub.specs.Seen.{HubSeen, IsHub}
use Rattle.sat_joint.specs.Machines.{HubState}
use Rattle.sat_hub_laws.specs.Hubs.{hub_answer, hub_then}
use Rattle.sat_node.specs.declared.kept.Kept.{Kept}
use Rattle.sat_node.specs.Links.{HeldSeen}
use Rattle.sat_parts.specs.declared.hub_answer.HubAnswer.{HubAnswer}
use Rattle.sat_parts.specs.declared.hub_input.HubInput.{HubInput}
use Rattle.sat_parts.specs.declared.hub_input.HubInput.TheVariants as hub
use Rattle.sat_parts.specs.Acts.{HubActSeen, hub_handed}
use Rattle.sat_parts.specs.HubSteps.{hub_answers, hub_takes, HasTimes}
use Rattle.sat_parts.specs.Hubs.{StandsHub}
use Rattle.sat_passes.specs.Sendings.{last_made}

-- a hub's node with its link ends
abbrev pub HubHeld : Type 0
HubHeld = HeldSeen HubSeen HubActSeen HubAnswer

-- an entry of a hub's journal
abbrev pub HubKept : Type 0
HubKept = Kept HubActSeen HubAnswer

-- an input that is no client's act
abbrev pub of_hub : HubInput → HubActSeen
of_hub given = record { by = None; input = given }

-- whether the hub may be handed it and would do it
abbrev pub would_do : HubSeen → HubInput → Bool
would_do x given = hub_takes x given && is_done (hub_answers x given)

-- site j is the hub's own, or the last beat that was made for it is the one that would be made
abbrev pub IsTold : HubSeen → ℕ → Type 0
IsTold x j = j ≢ x.shape.site → last_made (made_for x j) ≡ Some (beat_for x j)

-- of each of the first n sites
abbrev pub AreTold : ℕ → HubSeen → Type 0
AreTold n x = (j : ℕ) → j < n → IsTold x j

-- nothing is left to emit, no pulse is left to send, and the last beat that was made for each other site is the one
-- that would be made
pub record IsIdle (x : HubSeen) : Type 0 where
  pub emit : would_do x hub.Emit ≡ false
  pub pulse : would_do x hub.Pulse ≡ false
  pub beats : AreTold x.shape.sites x

-- whether it is an emission, a pulse or a beat
abbrev pub is_sending : HubInput → Bool
is_sending hub.Emit = true
is_sending hub.Pulse = true
is_sending (hub.Beat j) = true
is_sending _ = false

-- each of these entries is an emission, a pulse or a beat, which was done
abbrev pub AreSent : List HubKept → Type 0
AreSent [] = Unit {0}
AreSent (k ∷ ks) = (is_sending k.input.input ≡ true) × (is_done k.answer.answer ≡ true) × AreSent ks

-- the node kept some of these more, or none
pub record Sent (old new : HubHeld) : Type 0 where
  pub name : new.node.name ≡ old.node.name
  pub added : (more : List HubKept) × (new.node.entries ≡ old.node.entries ++ more) × AreSent more

-- ---- its parts

-- hub i did it, and then stands for what the machine of the model makes of the state that it stood for
pub record Follows (d : Deployed) (i : ℕ) (given : HubInput) (x y : HubSeen) : Type 0 where
  pub state : HubState
  pub before : StandsHub d i x state
  pub hub : IsHub x
  pub times : HasTimes x
  pub done : is_done (hub_answer d i state (hub_handed given)) ≡ true
  pub after : StandsHub d i y (hub_then d i state (hub_handed given) (hub_answer d i state (hub_handed given)))
  pub stays : IsHub y
  pub timely : HasTimes y

-- how many labels were gathered and not emitted
abbrev pub pending_count : HubSeen → ℕ
pending_count x = length (all_of x.sink.pending)

-- nothing that was sent is left to send again, to the first n sites
pub record StaysSent (n : ℕ) (x y : HubSeen) : Type 0 where
  pub shape : y.shape ≡ x.shape
  pub emit : would_do y hub.Emit ≡ would_do x hub.Emit
  pub pulse : would_do y hub.Pulse ≡ would_do x hub.Pulse
  pub told : (j : ℕ) → j < n → IsTold x j → IsTold y j
