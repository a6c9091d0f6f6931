-- What a hub's node sends.
use Rattle.std.proofs.Common.{◌≡◌, ◌≢◌, ℕ, ◌+◌, ◌<◌, ◌&&◌, max, Bool, true, false, List, [], ◌∷◌, ◌++◌, Option, Some, None, Result, Ok, Err, IfOk, IfErr, OnOk, inl, inr, refl, sym, ap, ◌∙◌, subst, append_assoc, arith, ⊎_elim}
use Rattle.std.specs.Prelude.{is_some, if◌then◌else◌}
use Rattle.std.proofs.lemmas.Bool.{and_parts, cases_eq}
use Rattle.std.proofs.lemmas.List.{append-nil}
use Rattle.sat_label.specs.declared.node.NodeName.{NodeName}
use Rattle.sat_label.specs.declared.node.NodeName.TheVariants as named
use Rattle.sat_label.specs.declared.label.Label.{Label}
use Rattle.sat_sink.specs.Sink.{may_pulse, pulse_of, ready_of}
use Rattle.sat_act.specs.declared.answer.Answer.{Answer}
use Rattle.sat_act.specs.declared.answer.Answer.TheVariants as ans
use Rattle.sat_act.specs.Deployed.{Deployed}
use Rattle.sat_act.specs.Limits.{IsDeployment}
use Rattle.sat_act.specs.Settling.{is_done}
use Rattle.sat_hub.specs.Changes.{beat_for, made_for}
use Rattle.sat_hub.specs.HubSteps.{emit_answer, pulse_answer}
use Rattle.sat_hub.specs.Seen.{HubSeen, IsHub}
use Rattle.sat_site.specs.Laws.{EachStep}
use Rattle.sat_stitch.specs.Nodes.{stands}
use Rattle.sat_joint.specs.Machines.{HubState}
use Rattle.sat_hub_laws.specs.Hubs.{hub_answer, hub_then}
use Rattle.sat_node.specs.declared.kept.CallFault.{CallFault}
use Rattle.sat_node.specs.declared.kept.CallFault.TheVariants as fault
use Rattle.sat_node.specs.Meanings.{replay}
use Rattle.sat_node.specs.Seen.{NodeSeen, entry, last_number, Takes}
use Rattle.sat_node.specs.Links.{IsLocal}
use Rattle.sat_machines.specs.Sites.{number_of}
use Rattle.sat_parts.specs.declared.hub_answer.HubAnswer.{HubAnswer}
use Rattle.sat_parts.specs.declared.hub_input.HubInput.{HubInput}
use Rattle.sat_parts.specs.declared.hub_input.HubInput.TheVariants as hub
use Rattle.sat_parts.specs.Acts.{HubActSeen, hub_handed, site_handed}
use Rattle.sat_parts.specs.HubSteps.{hub_answers, hub_takes, HasTimes}
use Rattle.sat_parts.specs.Hubs.{HubAnswersAt, HubStands, StandsHub, hub_meaning, hub_takes_from, taken_at}
use Rattle.sat_parts.proofs.Instead.{answers-is, gears_for, is_gather, site_for, takes-is}
use Rattle.sat_parts.proofs.HubReplies.{answers-hub}
use Rattle.sat_passes.specs.Sendings.{FailsAlone, is_told, last_made}
use Rattle.sat_passes.specs.Sendings as site
use Rattle.sat_passes.proofs.Hops.{state_next}
use Rattle.sat_passes.proofs.Sendings.{told_is as site_told_is, beat_done as site_beat_done}
use Rattle.sat_parts_passes.specs.Sendings.{AreSent, AreTold, Follows, HubHeld, HubKept, IsTold, Sent, is_sending, of_hub, would_do}

-- ---- what a hub would do

-- a site with this hub would do the same
pub would-is : (x : HubSeen) (given : HubInput) → is_gather given ≡ false → would_do x given ≡ site.would_do (site_for x) (site_handed given)
would-is x given e = λ n. takes-is x (gears_for x) given e n && is_done (answers-is x (gears_for x) given e n)

pub told_is : (x : HubSeen) (j : ℕ) (told : Bool) → told ≡ is_told (last_made (made_for x j)) (beat_for x j) → told ≡ true → IsTold x j
told_is x j told e is = site_told_is (site_for x) j told e is

pub shape_sites : (d : Deployed) (name : NodeName) (x : HubSeen) (h : HubState) → HubStands d name x h → x.shape.sites ≡ d.sites
shape_sites d (named.Site i) x h st = λ n. (st.shape n).sites
shape_sites d (named.Serializer e z) x h st = absurd st
shape_sites d (named.Gear i g) x h st = absurd st

pub shape_site : (d : Deployed) (name : NodeName) (x : HubSeen) (h : HubState) → HubStands d name x h → x.shape.site ≡ number_of name
shape_site d (named.Site i) x h st = λ n. (st.shape n).site
shape_site d (named.Serializer e z) x h st = absurd st
shape_site d (named.Gear i g) x h st = absurd st

pub beat_done : (x : HubSeen) (j : ℕ) → j < x.shape.sites → j ≢ x.shape.site → would_do x (hub.Beat j) ≡ true
beat_done x j less differ = would-is x (hub.Beat j) refl ∙ site_beat_done (site_for x) j less differ

pub would_fit : (x : HubSeen) (given : HubInput) → would_do x given ≡ true → hub_takes x given ≡ true
would_fit x given e = (let w = and_parts (hub_takes x given) (is_done (hub_answers x given)) e in w.0)

-- whether it would emit, and send a pulse
pub emit_can : (x : HubSeen) (can : Bool) → can ≡ is_some (ready_of x.sink) → can ≡ would_do x hub.Emit
unfolding hub_takes hub_answers
emit_can x can e = e ∙ go (ready_of x.sink) where
  go : (o : Option Label) → is_some o ≡ is_done (emit_answer o)
  go None = refl
  go (Some l) = refl

pub pulse_can : (x : HubSeen) (can : Bool) → can ≡ may_pulse x.sink → can ≡ would_do x hub.Pulse
unfolding hub_takes hub_answers
pulse_can x can e = e ∙ go (may_pulse x.sink) where
  go : (b : Bool) → b ≡ is_done (pulse_answer (if b then Some (pulse_of x.sink) else None))
  go true = refl
  go false = refl

pub sending-other : (given : HubInput) → is_sending given ≡ true → is_gather given ≡ false
sending-other hub.Emit e = refl
sending-other hub.Pulse e = refl
sending-other (hub.Beat j) e = refl
sending-other (hub.Attach seen) e = refl
sending-other (hub.Gather drained) e = absurd (cc (e))
sending-other (hub.Turn front) e = refl
sending-other (hub.Bulk from gear number p) e = refl
sending-other (hub.BeatIn from number beat) e = refl
sending-other hub.Stamp e = refl
sending-other hub.Close e = refl
sending-other hub.Fall e = refl
sending-other hub.Advance e = refl

pub done_stands : (r : Answer) → is_done r ≡ true → stands r ≡ true
done_stands (ans.Refused why') e = absurd (cc (e))
done_stands _ e = refl

-- the model's answer is done where the hub's is
pub done_by : (d : Deployed) (name : NodeName) (x : HubSeen) (h : HubState) (given : HubInput) → EachStep → IsDeployment d → IsHub x → HasTimes x → HubStands d name x h → is_gather given ≡ false → would_do x given ≡ true
    → is_done (hub_answer d (number_of name) h (hub_handed given)) ≡ true
done_by d (named.Serializer e z) x h given law dep k times st other would = absurd st
done_by d (named.Gear i g) x h given law dep k times st other would = absurd st
done_by d (named.Site i) x h given law dep k times st other would =
    let w = and_parts (hub_takes x given) (is_done (hub_answers x given)) would in
    ap is_done (sym (answers-hub law d i x h given dep k times st other w.0)) ∙ w.1

sending-takes : (d : Deployed) (i k : ℕ) (given : HubInput) (a : HubAnswer) → is_sending given ≡ true → taken_at d i k given a ≡ None
sending-takes d i k hub.Emit a e = refl
sending-takes d i k hub.Pulse a e = refl
sending-takes d i k (hub.Beat j) a e = refl
sending-takes d i k (hub.Attach seen) a e = refl
sending-takes d i k (hub.Gather drained) a e = refl
sending-takes d i k (hub.Turn front) a e = absurd (cc (e))
sending-takes d i k (hub.Bulk from gear number p) a e = absurd (cc (e))
sending-takes d i k (hub.BeatIn from number beat) a e = absurd (cc (e))
sending-takes d i k hub.Stamp a e = refl
sending-takes d i k hub.Close a e = refl
sending-takes d i k hub.Fall a e = refl
sending-takes d i k hub.Advance a e = refl

takes-none : (d : Deployed) (name : NodeName) (k : ℕ) (given : HubInput) (a : HubAnswer) → is_sending given ≡ true → hub_takes_from d name k (of_hub given) a ≡ None
takes-none d (named.Site i) k given a e = sending-takes d i k given a e
takes-none d (named.Serializer g z) k given a e = refl
takes-none d (named.Gear g z) k given a e = refl

module _ (d : Deployed) (old : HubHeld) (given : HubInput) (law : EachStep) (dep : IsDeployment d) (is : IsHub old.node.machine) (times : HasTimes old.node.machine)
    (st : HubStands d old.node.name old.node.machine (replay (hub_meaning d) old.node.name old.node.entries)) (sends : is_sending given ≡ true) (would : would_do old.node.machine given ≡ true) where
  abbrev state : HubState
  state = replay (hub_meaning d) old.node.name old.node.entries

  done : is_done (hub_answer d (number_of old.node.name) state (hub_handed given)) ≡ true
  done = done_by d old.node.name old.node.machine state given law dep is times st (sending-other given sends) would

  pub sending_local : IsLocal (hub_meaning d) old.node (of_hub given)
  sending_local = record {
    stands = λ a h. done_stands a.answer (ap is_done h.answer ∙ done);
    takes = λ a k h. takes-none d old.node.name k given a sends;
  }

  given-sent : (r : Result HubAnswer CallFault) (number : ℕ) (may : Bool) (new : HubHeld) → Takes number (of_hub given) may r old.node new.node
      → IfOk r (λ a. HubAnswersAt d (number_of old.node.name) state (of_hub given) a) → Sent old new
  given-sent (Err f) number may new takes h = record { name = takes.err.0.0; added = ([], takes.err.0.2 ∙ sym (append-nil old.node.entries), tt) }
  given-sent (Ok a) number may new takes h = record {
    name = takes.name;
    added = (entry (max old.node.number number + 1) (of_hub given) a ∷ [], takes.taken, (sends, ap is_done h.answer ∙ done, tt));
  }

  pub act_sent : (r : Result HubAnswer CallFault) (number : ℕ) (may : Bool) (new : HubHeld) (act : HubActSeen) → act ≡ of_hub given → Takes number act may r old.node new.node
      → IfOk r (λ a. HubAnswersAt d (number_of old.node.name) state act a) → Sent old new
  act_sent r number may new act same takes h =
      given-sent r number may new (subst (λ (x : HubActSeen). Takes number x may r old.node new.node) same takes)
      (subst (λ (x : HubActSeen). IfOk r (λ a. HubAnswersAt d (number_of old.node.name) state x a)) same h)

  -- ---- and then stands for

  at-hub : (name : NodeName) (x : HubSeen) (h : HubState) → HubStands d name x h → StandsHub d (number_of name) x h
  at-hub (named.Site i) x h st = st
  at-hub (named.Serializer e z) x h st = absurd st
  at-hub (named.Gear i g) x h st = absurd st

  given-follows : (r : Result HubAnswer CallFault) (number : ℕ) (may : Bool) (new : HubHeld) → IsHub new.node.machine → HasTimes new.node.machine
      → HubStands d new.node.name new.node.machine (replay (hub_meaning d) new.node.name new.node.entries) → Takes number (of_hub given) may r old.node new.node
      → IfOk r (λ a. HubAnswersAt d (number_of old.node.name) state (of_hub given) a) → OnOk r (Follows d (number_of old.node.name) given old.node.machine new.node.machine)
  given-follows (Err f) number may new stays timely sn takes h = tt
  given-follows (Ok a) number may new stays timely sn takes h =
      let next : replay (hub_meaning d) new.node.name new.node.entries ≡ hub_then d (number_of old.node.name) state (hub_handed given) (hub_answer d (number_of old.node.name) state (hub_handed given)) =
      (λ j. replay (hub_meaning d) (takes.name j) (takes.taken j))
      ∙ (state_next (hub_meaning d) old.node.name _ old.node.entries (entry (max old.node.number number + 1) (of_hub given) a)
      ∙ ap (hub_then d (number_of old.node.name) state (hub_handed given)) h.answer) in
      record {
        state = state;
        before = at-hub old.node.name old.node.machine state st;
        hub = is;
        times = times;
        done = done;
        after = subst (λ (t : HubState). StandsHub d (number_of old.node.name) new.node.machine t) next
            (subst (λ (n : NodeName). StandsHub d (number_of n) new.node.machine (replay (hub_meaning d) new.node.name new.node.entries)) takes.name
            (at-hub new.node.name new.node.machine (replay (hub_meaning d) new.node.name new.node.entries) sn));
        stays = stays;
        timely = timely;
      }

  pub act_follows : (r : Result HubAnswer CallFault) (number : ℕ) (may : Bool) (new : HubHeld) (act : HubActSeen) → act ≡ of_hub given → IsHub new.node.machine → HasTimes new.node.machine
      → HubStands d new.node.name new.node.machine (replay (hub_meaning d) new.node.name new.node.entries) → Takes number act may r old.node new.node
      → IfOk r (λ a. HubAnswersAt d (number_of old.node.name) state act a) → OnOk r (Follows d (number_of old.node.name) given old.node.machine new.node.machine)
  act_follows r number may new act same stays timely sn takes h =
      given-follows r number may new stays timely sn (subst (λ (x : HubActSeen). Takes number x may r old.node new.node) same takes)
      (subst (λ (x : HubActSeen). IfOk r (λ a. HubAnswersAt d (number_of old.node.name) state x a)) same h)

-- ---- some entries, and then some more

aresent-append : (xs ys : List HubKept) → AreSent xs → AreSent ys → AreSent (xs ++ ys)
aresent-append [] ys a b = b
aresent-append (x ∷ xs) ys a b = (a.0, a.1, aresent-append xs ys a.2 b)

pub sent_then : (a b c : HubHeld) → Sent a b → Sent b c → Sent a c
sent_then a b c ab bc = record {
  name = bc.name ∙ ab.name;
  added = (
    ab.added.0 ++ bc.added.0,
    bc.added.1 ∙ (ap (λ (l : List HubKept). l ++ bc.added.0) ab.added.1 ∙ append_assoc a.node.entries ab.added.0 bc.added.0),
    aresent-append ab.added.0 bc.added.0 ab.added.2 bc.added.2,
  );
}

pub sent_same : (a b : HubHeld) → b.node ≡ a.node → Sent a b
sent_same a b node = record {
  name = ap (λ (n : NodeSeen HubSeen HubActSeen HubAnswer). n.name) node;
  added = ([], ap (λ (n : NodeSeen HubSeen HubActSeen HubAnswer). n.entries) node ∙ sym (append-nil a.node.entries), tt);
}

pub act_fails : (r : Result HubAnswer CallFault) (may : Bool) (old new : HubHeld) (act : HubActSeen) → Takes 0 act may r old.node new.node → IfErr r (FailsAlone new)
act_fails (Ok a) may old new act takes = tt
act_fails (Err f) may old new act takes = ⊎_elim worn (λ (is : f ≡ fault.Memory). inl is) takes.only where
  worn : f ≡ fault.Worn last_number → FailsAlone new f
  worn is = inr (is, takes.err.0.3 ∙ (let m : max old.node.number 0 ≡ last_number = takes.worn.0 (ap Err is) in let z : max old.node.number 0 ≡ old.node.number = grind (arith) in sym z ∙ m))

-- ---- site by site

pub told_none : (x : HubSeen) → AreTold 0 x
told_none x = λ j less. absurd (omega arith)

pub told_more : (x : HubSeen) (n : ℕ) → AreTold n x → IsTold x n → AreTold (n + 1) x
told_more x n all here = λ j less. elim (cases_eq j n) [
  | inl same ↦ subst (IsTold x) (sym same) here
  | inr other ↦ all j (omega arith)
]
