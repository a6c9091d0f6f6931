-- What acts leave alone: an act that is none of a few handles no label, an act of no client leaves the clients.
use Rattle.std.specs.Prelude.{◌≡◌, ℕ, Bool, true, false, ◌==◌, Option, Some, None, if◌then◌else◌, refl}
use Rattle.std.proofs.Common.{ap, sym, ◌∙◌}
use Rattle.sat_label.specs.declared.point.Point.{Point}
use Rattle.sat_label.specs.declared.label.Label.{Label}
use Rattle.sat_label.specs.declared.label.Kind.TheVariants as kind
use Rattle.sat_label.specs.declared.node.NodeId.TheVariants.{Site, Serializer}
use Rattle.sat_label.specs.Order.{greater_point}
use Rattle.sat_act.specs.declared.act.Act.{Act}
use Rattle.sat_act.specs.declared.act.Act.TheVariants as act
use Rattle.sat_act.specs.declared.answer.Answer.{Answer}
use Rattle.sat_act.specs.declared.answer.Answer.TheVariants as ans
use Rattle.sat_act.specs.Deployed.{Deployed}
use Rattle.sat_act.specs.Done.{is_of, is_kill}
use Rattle.sat_act.specs.Parts.{Handling, seat_in}
use Rattle.sat_act.specs.Settling.{is_done}
use Rattle.sat_label.specs.declared.carried.Carried.{Carried}
use Rattle.sat_client.specs.declared.client.Client.{Client}
use Rattle.sat_world.specs.Stands.{StandsClient}
use Rattle.sat_world.specs.Steps.{is_local, told}
use Rattle.sat_model.specs.World.{ClientState, handled_by, dead_next, point_next, moving_next, seat_next, client_next}

-- an act that moves no label and kills nothing
abbrev pub is_still : Act → Bool
is_still (act.Emit i) = false
is_still (act.Pulse i) = false
is_still (act.Close i) = false
is_still (act.Hop e u z) = false
is_still (act.Turn j) = false
is_still (act.Kill e z) = false
is_still _ = true

abbrev in_emit : (ℕ → Option Handling) → Act → Option Handling
in_emit f a = elim a [ act.Emit i ↦ f i | _ ↦ None ]

emits-none : (f : ℕ → Option Handling) (a : Act) → is_still a ≡ true → in_emit f a ≡ None
emits-none f (act.Emit i) e = absurd (cc)
emits-none f _ e = refl

abbrev in_pulse : (ℕ → Option Handling) → Act → Option Handling
in_pulse f a = elim a [ act.Pulse i ↦ f i | _ ↦ None ]

pulses-none : (f : ℕ → Option Handling) (a : Act) → is_still a ≡ true → in_pulse f a ≡ None
pulses-none f (act.Pulse i) e = absurd (cc)
pulses-none f _ e = refl

abbrev in_close : (ℕ → Option Handling) → Act → Option Handling
in_close f a = elim a [ act.Close i ↦ f i | _ ↦ None ]

closes-none : (f : ℕ → Option Handling) (a : Act) → is_still a ≡ true → in_close f a ≡ None
closes-none f (act.Close i) e = absurd (cc)
closes-none f _ e = refl

abbrev in_turn : (ℕ → Option Handling) → Act → Option Handling
in_turn f a = elim a [ act.Turn i ↦ f i | _ ↦ None ]

turns-none : (f : ℕ → Option Handling) (a : Act) → is_still a ≡ true → in_turn f a ≡ None
turns-none f (act.Turn i) e = absurd (cc)
turns-none f _ e = refl

abbrev in_hop : Label → Act → Option Handling
in_hop l a = elim a [ act.Hop f u z ↦ Some (record { epoch = f; node = Serializer z; from = Some u; label = l }) | _ ↦ None ]

hops-none : (l : Label) (a : Act) → is_still a ≡ true → in_hop l a ≡ None
hops-none l (act.Hop f u z) e = absurd (cc)
hops-none l _ e = refl

pub handles-none : (d : Deployed) (emission view : ℕ → ℕ) (a : Act) (r : Answer) → is_still a ≡ true → handled_by d emission view a r ≡ None
unfolding handled_by
handles-none d emission view a (ans.Emitted l) e = emits-none (λ i. Some (record { epoch = emission i; node = Site i; from = None; label = l })) a e
handles-none d emission view a (ans.Pulsed l) e = pulses-none (λ i. Some (record { epoch = emission i; node = Site i; from = None; label = l })) a e
handles-none d emission view a (ans.Closed f p) e = closes-none (λ i. Some (record { epoch = f; node = Site i; from = None; label = record { point = p; kind = kind.Close f } })) a e
handles-none d emission view a (ans.Hopped l to) e = hops-none l a e
handles-none d emission view a (ans.Shown l) e = turns-none (λ j. Some (record { epoch = view j; node = Site j; from = seat_in d (view j) j; label = l })) a e
handles-none d emission view a (ans.Took l) e = turns-none (λ j. Some (record { epoch = view j; node = Site j; from = seat_in d (view j) j; label = l })) a e
handles-none d emission view a _ e = refl

still-kill : (a : Act) (epoch z : ℕ) → is_still a ≡ true → is_kill a epoch z ≡ false
still-kill (act.Kill e y) epoch z h = absurd (cc)
still-kill _ epoch z h = refl

pub if-not : {X : Type 0} (b : Bool) (x y : X) → b ≡ false → (if b then x else y) ≡ y
if-not true x y e = absurd (cc)
if-not false x y e = refl

-- an act that kills nothing
pub same-dead : (epoch z : ℕ) (b : Bool) (a : Act) (r : Answer) → is_kill a epoch z ≡ false → dead_next epoch z b a r ≡ b
same-dead epoch z b a ans.Killed e = if-not (is_kill a epoch z) true b e
same-dead epoch z b a _ e = refl

pub kills-none : (epoch z : ℕ) (b : Bool) (a : Act) (r : Answer) → is_still a ≡ true → dead_next epoch z b a r ≡ b
kills-none epoch z b a r e = same-dead epoch z b a r (still-kill a epoch z e)

-- an act at one site is still, and no client's
pub local-still : (a : Act) → is_local a ≡ true → is_still a ≡ true
local-still (act.Tick i g ts) e = refl
local-still (act.Gather i) e = refl
local-still (act.Bulk i g j o) e = refl
local-still (act.Beat i j) e = refl
local-still (act.BeatIn i j n) e = refl
local-still (act.Stamp i) e = refl
local-still (act.Fall i) e = refl
local-still (act.Advance i) e = refl
local-still _ e = absurd (cc)

pub local-client : (a : Act) (c : ℕ) → is_local a ≡ true → is_of a c ≡ false
local-client (act.Tick i g ts) c e = refl
local-client (act.Gather i) c e = refl
local-client (act.Bulk i g j o) c e = refl
local-client (act.Beat i j) c e = refl
local-client (act.BeatIn i j n) c e = refl
local-client (act.Stamp i) c e = refl
local-client (act.Fall i) c e = refl
local-client (act.Advance i) c e = refl
local-client _ c e = absurd (cc)

-- ---- clients

same-point : (c : ℕ) (p : Point) (a : Act) (r : Answer) → is_of a c ≡ false → point_next c p a r ≡ p
same-point c p a (ans.Wrote l) e = if-not (is_of a c) (greater_point l.point p) p e
same-point c p a (ans.ReadSome l v) e = if-not (is_of a c) (greater_point l.point p) p e
same-point c p a (ans.Moved l) e = if-not (is_of a c) (greater_point l.point p) p e
same-point c p a _ e = refl

same-moving : (c : ℕ) (o : Option ℕ) (a : Act) (r : Answer) → is_of a c ≡ false → moving_next c o a r ≡ o
same-moving c o a ans.Attached e = if-not (is_of a c) None o e
same-moving c o a (ans.Left p) e = if-not (is_of a c) None o e
same-moving c o a (ans.Moved l) e = if-not (is_of a c) (elim l.kind [ kind.Move j ↦ Some j | _ ↦ o ]) o e
same-moving c o a _ e = refl

joins-none : (c : ℕ) (o : Option ℕ) (a : Act) → is_of a c ≡ false → elim a [ act.Attach b j ↦ if b == c then Some j else o | _ ↦ o ] ≡ o
joins-none c o (act.Attach b j) e = if-not (b == c) (Some j) o e
joins-none c o _ e = refl

same-seat : (c : ℕ) (o : Option ℕ) (a : Act) (r : Answer) → is_of a c ≡ false → seat_next c o a r ≡ o
same-seat c o a ans.Attached e = joins-none c o a e
same-seat c o a (ans.Left p) e = if-not (is_of a c) None o e
same-seat c o a (ans.Moved l) e = if-not (is_of a c) None o e
same-seat c o a _ e = refl

pub other-client : (c : ℕ) (s : ClientState) (a : Act) (r : Answer) → is_of a c ≡ false → client_next c s a r ≡ s
other-client c s a r e = λ j. record { carried = record { point = same-point c s.carried.point a r e j; moving = same-moving c s.carried.moving a r e j }; seat = same-seat c s.seat a r e j }

-- ---- a client's write or read

abbrev pub is_told : Answer → Bool
is_told (ans.Wrote l) = true
is_told (ans.ReadSome l v) = true
is_told ans.ReadNone = true
is_told (ans.Refused y) = true
is_told _ = false

pub if-so : {X : Type 0} (b : Bool) (x y : X) → b ≡ true → (if b then x else y) ≡ x
if-so true x y e = refl
if-so false x y e = absurd (cc)

-- what the answer to it makes of the client is what the machine makes of it
pub told-client : (c : ℕ) (x : Client) (s : ClientState) (a : Act) (r : Answer) → is_of a c ≡ true → is_told r ≡ true → StandsClient x s → StandsClient (told r x) (client_next c s a r)
told-client c x s a (ans.Wrote l) e t st = record {
  carried = λ j. record { point = (ap (greater_point l.point) (ap (λ (k : Carried). k.point) st.carried) ∙ sym (if-so (is_of a c) (greater_point l.point s.carried.point) s.carried.point e)) j; moving = (st.carried j).moving };
  seat = st.seat;
}
told-client c x s a (ans.ReadSome l v) e t st = record {
  carried = λ j. record { point = (ap (greater_point l.point) (ap (λ (k : Carried). k.point) st.carried) ∙ sym (if-so (is_of a c) (greater_point l.point s.carried.point) s.carried.point e)) j; moving = (st.carried j).moving };
  seat = st.seat;
}
told-client c x s a ans.ReadNone e t st = st
told-client c x s a (ans.Refused y) e t st = st
told-client c x s a _ e t st = absurd (cc)

-- and a refusal leaves it
pub told-none : (r : Answer) (x : Client) → is_told r ≡ true → is_done r ≡ false → told r x ≡ x
told-none (ans.Refused y) x t f = refl
told-none (ans.Wrote l) x t f = absurd (cc)
told-none (ans.ReadSome l v) x t f = absurd (cc)
told-none ans.ReadNone x t f = absurd (cc)
told-none _ x t f = absurd (cc)
