-- What each call of a session comes to.
use Rattle.std.proofs.Common.{◌≡◌, ◌<◌, ◌≤◌, ℕ, ◌+◌, max, true, false, List, [], ◌∷◌, ◌++◌, Option, Some, None, Result, Ok, Err, IfOk, IfErr, OnOk, refl, sym, ap, ◌∙◌, subst, arith, inl, inr}
use Rattle.sat_label.specs.declared.carried.Carried.{Carried}
use Rattle.sat_label.specs.declared.items.Items.{Items}
use Rattle.sat_label.specs.declared.items.Items.TheVariants.{One}
use Rattle.sat_label.specs.declared.node.NodeName.{NodeName}
use Rattle.sat_label.specs.declared.node.NodeName.TheVariants as named
use Rattle.sat_act.specs.declared.act.Act.{Act}
use Rattle.sat_act.specs.declared.act.Act.TheVariants as act
use Rattle.sat_act.specs.declared.answer.Answer.{Answer}
use Rattle.sat_act.specs.Answers.{gear_of}
use Rattle.sat_act.specs.Deployed.{Deployed}
use Rattle.sat_model.specs.Reply.{gear_for}
use Rattle.sat_node.specs.declared.kept.CallFault.{CallFault}
use Rattle.sat_node.specs.declared.kept.CallFault.TheVariants as fault
use Rattle.sat_node.specs.Links.{HeldSeen}
use Rattle.sat_node.specs.Meanings.{Runs}
use Rattle.sat_node.specs.Seen.{NodeSeen, last_number}
use Rattle.sat_node.specs.Together.{heard_from, most, top_of}
use Rattle.sat_machines.specs.declared.serial_act.SerialAct.{SerialAct}
use Rattle.sat_machines.specs.declared.serial_act.SerialAct.TheVariants.{Kill}
use Rattle.sat_machines.specs.declared.serial_act.SerialAnswer.{SerialAnswer}
use Rattle.sat_machines.specs.Serials.{serial_meaning}
use Rattle.sat_parts.specs.declared.gear_answer.GearAnswer.{GearAnswer}
use Rattle.sat_parts.specs.declared.gear_input.GearInput.TheVariants as gear
use Rattle.sat_parts.specs.declared.hub_answer.HubAnswer.{HubAnswer}
use Rattle.sat_parts.specs.declared.hub_input.HubInput.TheVariants as hub
use Rattle.sat_parts.specs.Acts.{GearActSeen, HubActSeen}
use Rattle.sat_parts.specs.Gears.{gear_meaning}
use Rattle.sat_parts.specs.Hubs.{hub_meaning}
use Rattle.sat_stitch.specs.Kept.{OfClient}
use Rattle.sat_stitch.specs.Nodes.{IsSessionAnswer}
use Rattle.sat_stitch.specs.Places.{InSession, places, Client as Owner, session_of}
use Rattle.sat_passes.specs.Faults.{Fails}
use Rattle.sat_passes.specs.Sendings.{FailsAlone}
use Rattle.sat_parts_passes.specs.Gathers.{FailsAll, GearHeld}
use Rattle.sat_parts_passes.specs.Sendings.{HubHeld}
use Rattle.sat_parts_passes.specs.Shows.{FailsShown}
use Rattle.sat_parts_pump.specs.declared.coming.Next.{Next}
use Rattle.sat_parts_pump.specs.declared.coming.Next.TheVariants as next
use Rattle.sat_parts_pump.specs.Shows.{FailsNext, view_link}
use Rattle.sat_session.specs.Notes.{SessionSeen}
use Rattle.sat_session.specs.Calls.{note, Notes, IsFault, AtNone, AtNode, AtNodeAbove, of_serial}
use Rattle.sat_parts_session.specs.Asked.{gear_asked, hub_asked, of_gear, of_hub}
use Rattle.sat_cluster.specs.Doing.{gear_named, attach_node, node_of, is_of_seat, Did}
use Rattle.sat_cluster.proofs.Answering.{gear-write, gear-read, gear-move, hub-attach, hub-close, hub-fall, never_by_gear, never_by_hub, never_by_serial}

-- ---- of any result

if-all : {P : Answer → Type 0} (result : Result Answer CallFault) → ((r : Answer) → P r) → IfOk result P
if-all (Ok r) all = all r
if-all (Err f) all = tt

if-then : {P Q : Answer → Type 0} (result : Result Answer CallFault) → ((r : Answer) → P r → Q r) → IfOk result P → IfOk result Q
if-then (Ok r) f p = f r p
if-then (Err y) f p = tt

-- under the session's new number, at this node
noted-as : (a : Act) (number : ℕ) (place want : Option NodeName) (result : Result Answer CallFault) (old new : SessionSeen) → want ≡ place → Notes number place a result old new →
    IfOk result (λ r. new.noted ≡ old.noted ++ note new.lamport want old.client.carried a r ∷ [])
noted-as a number place want (Ok r) old new is n = n.noted ∙ (λ i. old.noted ++ note (sym n.lamport i) (sym is i) old.client.carried a r ∷ [])
noted-as a number place want (Err f) old new is n = tt

rises-to : (a : Act) (number : ℕ) (place : Option NodeName) (result : Result Answer CallFault) (old new : SessionSeen) → old.lamport < number → Notes number place a result old new → OnOk result (old.lamport < new.lamport)
rises-to a number place (Ok r) old new less n = subst (λ (m : ℕ). old.lamport < m) (sym n.lamport) less
rises-to a number place (Err f) old new less n = tt

one-above : (n : ℕ) → n < n + 1
one-above n = omega arith

above-one : (n last : ℕ) → n ≤ last → n < last + 1
above-one n last le = omega arith

in-both : (m n : ℕ) → n ≤ max m n
in-both m n = omega arith

-- ---- without a node

-- an act of a client that touches no node stands in its session
pub alone_places : (d : Deployed) (a : Act) (c : ℕ) (seen : Carried) (seat : Option ℕ) → session_of a ≡ Some (Owner c) → node_of d a seat ≡ None → places a (OfClient seen seat) ≡ InSession c ∷ []
alone_places d (act.Write b n value) c seen None own e = let is : b ≡ c = cc in ap (λ (x : ℕ). InSession x ∷ []) is
alone_places d (act.Write b n value) c seen (Some i) own e = absurd (cc)
alone_places d (act.Writes b items values) c seen None own e = let is : b ≡ c = cc in ap (λ (x : ℕ). InSession x ∷ []) is
alone_places d (act.Writes b items values) c seen (Some i) own e = absurd (cc)
alone_places d (act.Read b n) c seen None own e = let is : b ≡ c = cc in ap (λ (x : ℕ). InSession x ∷ []) is
alone_places d (act.Read b n) c seen (Some i) own e = absurd (cc)
alone_places d (act.Move b j) c seen None own e = let is : b ≡ c = cc in ap (λ (x : ℕ). InSession x ∷ []) is
alone_places d (act.Move b j) c seen (Some i) own e = absurd (cc)
alone_places d (act.Leave b) c seen seat own e = let is : b ≡ c = cc in ap (λ (x : ℕ). InSession x ∷ []) is
alone_places d (act.Attach b j) c seen None own e = absurd (cc)
alone_places d (act.Attach b j) c seen (Some i) own e = let is : b ≡ c = cc in ap (λ (x : ℕ). InSession x ∷ []) is
alone_places d _ c seen seat own e = absurd (cc)

pub did_alone : (d : Deployed) (a : Act) (result : Result Answer CallFault) (old new : SessionSeen) → node_of d a old.client.seat ≡ None → AtNone a result old new → IfOk result (λ r. IsSessionAnswer a (OfClient old.client.carried old.client.seat) r) → Did d a result old new
did_alone d a result old new nowhere at answers = record {
  noted = noted-as a (old.lamport + 1) None (node_of d a old.client.seat) result old new nowhere at.notes;
  rises = rises-to a (old.lamport + 1) None result old new (one-above old.lamport) at.notes;
  client = at.notes.client;
  same = at.notes.same;
  err = at.notes.err;
  only = at.only;
  alone = λ e. answers;
  worn = λ e. at.worn;
  asked = if-all result (λ r e. nowhere);
}

-- the session has no number left
pub did_worn : (d : Deployed) (a : Act) (x : SessionSeen) → x.lamport ≡ last_number → Did d a (Err (fault.Worn last_number)) x x
did_worn d a x last = record {
  noted = tt;
  rises = tt;
  client = tt;
  same = refl;
  err = refl;
  only = inl refl;
  alone = λ e. tt;
  worn = λ e. (λ w. last, λ w. refl);
  asked = tt;
}

-- it has one, but there was no memory
pub did_stop : (d : Deployed) (a : Act) (x : SessionSeen) → (x.lamport ≡ last_number → ⊥) → Did d a (Err fault.Memory) x x
did_stop d a x left = record {
  noted = tt;
  rises = tt;
  client = tt;
  same = refl;
  err = refl;
  only = inr refl;
  alone = λ e. tt;
  worn = λ e. (λ w. absurd (cc), λ w. absurd (left w));
  asked = tt;
}

-- ---- at a node

some-none : (name : NodeName) (o : Option NodeName) → o ≡ Some name → o ≡ None → ⊥
some-none name o e f = let w : ◌≡◌ {A = Option NodeName} (Some name) None = sym e ∙ f in cc

-- no node was asked, since there was none of this name
pub did_not : (d : Deployed) (a : Act) (x : SessionSeen) (name : NodeName) → node_of d a x.client.seat ≡ Some name → Did d a (Err fault.Memory) x x
did_not d a x name at = record {
  noted = tt;
  rises = tt;
  client = tt;
  same = refl;
  err = refl;
  only = inr refl;
  alone = λ e. tt;
  worn = λ e. absurd (some-none name (node_of d a x.client.seat) at e);
  asked = tt;
}

did-at : {M I A : Type 0} (d : Deployed) (last : ℕ) (a : Act) (asked : I) (answer_of : A → Answer) (result : Result Answer CallFault) (old new : NodeSeen M I A) (before after : SessionSeen) → before.lamport ≤ last → node_of d a before.client.seat ≡ Some old.name → AtNodeAbove last a asked answer_of result old new before after →
    IfOk result (λ r. is_of_seat r ≡ false) → Did d a result before after
did-at d last a asked answer_of result old new before after above is at never = record {
  noted = noted-as a (last + 1) (Some old.name) (node_of d a before.client.seat) result before after is at.notes;
  rises = rises-to a (last + 1) (Some old.name) result before after (above-one before.lamport last above) at.notes;
  client = at.notes.client;
  same = at.notes.same;
  err = at.notes.err;
  only = at.only;
  alone = λ e. absurd (some-none old.name (node_of d a before.client.seat) is e);
  worn = λ e. absurd (some-none old.name (node_of d a before.client.seat) is e);
  asked = if-then result (λ r f e. absurd (let w : true ≡ false = sym e ∙ f in cc)) never;
}

gear-is : (name : NodeName) (i g : ℕ) (seat : Option ℕ) → seat ≡ Some i → name ≡ named.Gear i g → gear_named g seat ≡ Some name
gear-is name i g seat e f = ap (gear_named g) e ∙ ap (λ (n : NodeName). Some n) (sym f)

-- at a gear of the client's site
pub did_write : {M : Type 0} (d : Deployed) (item : ℕ) (value : List ℕ) (i : ℕ) (result : Result Answer CallFault) (old new : NodeSeen M GearActSeen GearAnswer) (before after : SessionSeen) → before.client.seat ≡ Some i → old.name ≡ named.Gear i (gear_of d item) →
    AtNode (act.Write before.number item value) (gear_asked (Some before.number) (gear.Write before.client.carried (One item) (value ∷ []))) of_gear result old new before after → Runs (gear_meaning d) new.name new.entries → Did d (act.Write before.number item value) result before after
did_write d item value i result old new before after seat name at runs =
    let asked = gear_asked (Some before.number) (gear.Write before.client.carried (One item) (value ∷ [])) in
    let last = max old.number before.lamport in
    did-at d last (act.Write before.number item value) asked of_gear result old new before after (in-both old.number before.lamport) (gear-is old.name i (gear_of d item) before.client.seat seat name) at
    (never_by_gear d last (act.Write before.number item value) asked result old new before after (λ k n. gear-write d k n before.client.carried (One item) (value ∷ [])) at runs)

most-least : {M I A : Type 0} (n : ℕ) (hs : List (HeldSeen M I A)) → n ≤ most n hs
most-least n [] = omega arith
most-least n (h ∷ hs) = (let e = most-least (max n h.node.number) hs in omega arith)

-- the number heard is no greater than the greatest
pub said_below : {M I A N J B : Type 0} (said : ℕ) (link : Option ℕ) (home : HeldSeen M I A) (others : List (HeldSeen N J B)) → said ≤ top_of said link home others
said_below said link home others = (let l = most-least (max (max said (heard_from link home.ins)) home.node.number) others in omega arith)

-- at all gears of its items there, of which the least item's answers
pub did_writes : {M : Type 0} (d : Deployed) (last : ℕ) (items : Items) (values : List (List ℕ)) (i : ℕ) (result : Result Answer CallFault) (old new : NodeSeen M GearActSeen GearAnswer) (before after : SessionSeen) → before.lamport ≤ last → before.client.seat ≡ Some i → old.name ≡ named.Gear i (gear_for d items) →
    AtNodeAbove last (act.Writes before.number items values) (gear_asked (Some before.number) (gear.Write before.client.carried items values)) of_gear result old new before after → Runs (gear_meaning d) new.name new.entries → Did d (act.Writes before.number items values) result before after
did_writes d last items values i result old new before after above seat name at runs =
    let asked = gear_asked (Some before.number) (gear.Write before.client.carried items values) in
    did-at d last (act.Writes before.number items values) asked of_gear result old new before after above (gear-is old.name i (gear_for d items) before.client.seat seat name) at
    (never_by_gear d last (act.Writes before.number items values) asked result old new before after (λ k n. gear-write d k n before.client.carried items values) at runs)

pub did_read : {M : Type 0} (d : Deployed) (item : ℕ) (i : ℕ) (result : Result Answer CallFault) (old new : NodeSeen M GearActSeen GearAnswer) (before after : SessionSeen) → before.client.seat ≡ Some i → old.name ≡ named.Gear i (gear_of d item) →
    AtNode (act.Read before.number item) (gear_asked (Some before.number) (gear.Read before.client.carried item)) of_gear result old new before after → Runs (gear_meaning d) new.name new.entries → Did d (act.Read before.number item) result before after
did_read d item i result old new before after seat name at runs =
    let asked = gear_asked (Some before.number) (gear.Read before.client.carried item) in
    let last = max old.number before.lamport in
    did-at d last (act.Read before.number item) asked of_gear result old new before after (in-both old.number before.lamport) (gear-is old.name i (gear_of d item) before.client.seat seat name) at
    (never_by_gear d last (act.Read before.number item) asked result old new before after (λ k n. gear-read d k n before.client.carried item) at runs)

pub did_move : {M : Type 0} (d : Deployed) (j : ℕ) (i : ℕ) (result : Result Answer CallFault) (old new : NodeSeen M GearActSeen GearAnswer) (before after : SessionSeen) → before.client.seat ≡ Some i → old.name ≡ named.Gear i 0 →
    AtNode (act.Move before.number j) (gear_asked (Some before.number) (gear.Move before.client.carried j)) of_gear result old new before after → Runs (gear_meaning d) new.name new.entries → Did d (act.Move before.number j) result before after
did_move d j i result old new before after seat name at runs =
    let asked = gear_asked (Some before.number) (gear.Move before.client.carried j) in
    let last = max old.number before.lamport in
    did-at d last (act.Move before.number j) asked of_gear result old new before after (in-both old.number before.lamport) (gear-is old.name i 0 before.client.seat seat name) at
    (never_by_gear d last (act.Move before.number j) asked result old new before after (λ k n. gear-move d k n before.client.carried j) at runs)

-- at the hub of the site that a client goes to
pub did_attach : {M : Type 0} (d : Deployed) (j : ℕ) (result : Result Answer CallFault) (old new : NodeSeen M HubActSeen HubAnswer) (before after : SessionSeen) → before.client.seat ≡ None → old.name ≡ named.Site j →
    AtNode (act.Attach before.number j) (hub_asked (Some before.number) (hub.Attach before.client.carried)) of_hub result old new before after → Runs (hub_meaning d) new.name new.entries → Did d (act.Attach before.number j) result before after
did_attach d j result old new before after seat name at runs =
    let asked = hub_asked (Some before.number) (hub.Attach before.client.carried) in
    let last = max old.number before.lamport in
    did-at d last (act.Attach before.number j) asked of_hub result old new before after (in-both old.number before.lamport) (ap (attach_node j) seat ∙ ap (λ (n : NodeName). Some n) (sym name)) at
    (never_by_hub d last (act.Attach before.number j) asked result old new before after (λ k h. hub-attach d k h before.client.carried) at runs)

-- at the operator's nodes
pub did_close : {M : Type 0} (d : Deployed) (j : ℕ) (result : Result Answer CallFault) (old new : NodeSeen M HubActSeen HubAnswer) (before after : SessionSeen) → old.name ≡ named.Site j →
    AtNode (act.Close j) (hub_asked None hub.Close) of_hub result old new before after → Runs (hub_meaning d) new.name new.entries → Did d (act.Close j) result before after
did_close d j result old new before after name at runs =
    let last = max old.number before.lamport in
    did-at d last (act.Close j) (hub_asked None hub.Close) of_hub result old new before after (in-both old.number before.lamport) (ap (λ (n : NodeName). Some n) (sym name)) at
    (never_by_hub d last (act.Close j) (hub_asked None hub.Close) result old new before after (hub-close d) at runs)

pub did_fall : {M : Type 0} (d : Deployed) (j : ℕ) (result : Result Answer CallFault) (old new : NodeSeen M HubActSeen HubAnswer) (before after : SessionSeen) → old.name ≡ named.Site j →
    AtNode (act.Fall j) (hub_asked None hub.Fall) of_hub result old new before after → Runs (hub_meaning d) new.name new.entries → Did d (act.Fall j) result before after
did_fall d j result old new before after name at runs =
    let last = max old.number before.lamport in
    did-at d last (act.Fall j) (hub_asked None hub.Fall) of_hub result old new before after (in-both old.number before.lamport) (ap (λ (n : NodeName). Some n) (sym name)) at
    (never_by_hub d last (act.Fall j) (hub_asked None hub.Fall) result old new before after (hub-fall d) at runs)

pub did_kill : {M : Type 0} (d : Deployed) (e z : ℕ) (result : Result Answer CallFault) (old new : NodeSeen M SerialAct SerialAnswer) (before after : SessionSeen) → old.name ≡ named.Serializer e z →
    AtNode (act.Kill e z) Kill of_serial result old new before after → Runs (serial_meaning d) new.name new.entries → Did d (act.Kill e z) result before after
did_kill d e z result old new before after name at runs =
    let last = max old.number before.lamport in
    did-at d last (act.Kill e z) Kill of_serial result old new before after (in-both old.number before.lamport) (ap (λ (n : NodeName). Some n) (sym name)) at
    (never_by_serial d last (act.Kill e z) result old new before after at runs)

-- ---- passes

pub fails_fault : {M I A : Type 0} (h : HeldSeen M I A) (f : CallFault) → Fails h f → IsFault f
fails_fault h f (inl e) = inr e
fails_fault h f (inr w) = inl w.0

pub pass_fault : {M I A : Type 0} (h : HeldSeen M I A) (result : Result ℕ CallFault) → IfErr result (Fails h) → IfErr result IsFault
pass_fault h (Ok n) f = tt
pass_fault h (Err y) f = fails_fault h y f

pub alone_fault : {M I A : Type 0} (h : HeldSeen M I A) (f : CallFault) → FailsAlone h f → IsFault f
alone_fault h f (inl e) = inr e
alone_fault h f (inr w) = inl w.0

pub memory_fault : (f : CallFault) → f ≡ fault.Memory → IsFault f
memory_fault f e = inr e

pub send_fault : {M I A : Type 0} (h : HeldSeen M I A) (result : Result ℕ CallFault) → IfErr result (FailsAlone h) → IfErr result IsFault
send_fault h (Ok n) f = tt
send_fault h (Err y) f = alone_fault h y f

pub all_fault : (h : HubHeld) (gears : List GearHeld) (f : CallFault) → FailsAll h gears f → IsFault f
all_fault h gears f (inl e) = inr e
all_fault h gears f (inr w) = inl w.0

shown-fault : (link : Option ℕ) (h : HubHeld) (gears : List GearHeld) (f : CallFault) → FailsShown link h gears f → IsFault f
shown-fault link h gears f (inl e) = inr e
shown-fault link h gears f (inr w) = inl w.0

pub next_fault : (d : Deployed) (todo : Next) (h : HubHeld) (gears : List GearHeld) (f : CallFault) → FailsNext d todo h gears f → IsFault f
next_fault d next.Nothing h gears f fails = absurd fails
next_fault d (next.Turn shown) h gears f fails = shown-fault (Some (view_link d h)) h gears f fails
next_fault d (next.Stamp shown) h gears f fails = shown-fault None h gears f fails
next_fault d next.Advance h gears f fails = alone_fault h f fails

-- ---- the same act by the same client

module _ (d : Deployed) (n c : ℕ) (result : Result Answer CallFault) (old new : SessionSeen) (same : n ≡ c) where
  pub as_write : (item : ℕ) (value : List ℕ) → Did d (act.Write n item value) result old new → Did d (act.Write c item value) result old new
  as_write item value = subst (λ (x : ℕ). Did d (act.Write x item value) result old new) same

  pub as_writes : (items : Items) (values : List (List ℕ)) → Did d (act.Writes n items values) result old new → Did d (act.Writes c items values) result old new
  as_writes items values = subst (λ (x : ℕ). Did d (act.Writes x items values) result old new) same

  pub as_read : (item : ℕ) → Did d (act.Read n item) result old new → Did d (act.Read c item) result old new
  as_read item = subst (λ (x : ℕ). Did d (act.Read x item) result old new) same

  pub as_move : (j : ℕ) → Did d (act.Move n j) result old new → Did d (act.Move c j) result old new
  as_move j = subst (λ (x : ℕ). Did d (act.Move x j) result old new) same

  pub as_leave : Did d (act.Leave n) result old new → Did d (act.Leave c) result old new
  as_leave = subst (λ (x : ℕ). Did d (act.Leave x) result old new) same

  pub as_attach : (j : ℕ) → Did d (act.Attach n j) result old new → Did d (act.Attach c j) result old new
  as_attach j = subst (λ (x : ℕ). Did d (act.Attach x j) result old new) same

-- ---- where an act is done

pub gear_seat : (i g : ℕ) (seat : Option ℕ) → seat ≡ Some i → gear_named g seat ≡ Some (named.Gear i g)
gear_seat i g seat e = ap (gear_named g) e

pub no_seat : (j : ℕ) (seat : Option ℕ) → seat ≡ None → attach_node j seat ≡ Some (named.Site j)
no_seat j seat e = ap (attach_node j) e
