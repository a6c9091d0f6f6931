-- Messages that a hub's node hears.
use Rattle.std.proofs.Common.{◌≡◌, ◌≢◌, ℕ, zero, suc, ◌+◌, ◌-◌, ◌<◌, ◌≤◌, ◌==◌, ◌&&◌, max, nat_le, nat_lt, Bool, true, false, List, [], ◌∷◌, ◌++◌, length, map, drop, if◌then◌else◌, Option, Some, None, MatchOption, Result, Ok, Err, OnOk, slice_get, inl, inr, refl, sym, ap, ◌∙◌, subst, append_assoc, arith}
use Rattle.std.proofs.lemmas.Bool.Decides.{nat_tests}
use Rattle.std.proofs.lemmas.List.{append-nil, map-append}
use Rattle.sat_label.specs.declared.node.NodeName.{NodeName}
use Rattle.sat_label.specs.declared.node.NodeName.TheVariants as named
use Rattle.sat_label.specs.Words.{has}
use Rattle.sat_bulk.specs.Payloads.{Payload}
use Rattle.sat_beat.specs.declared.Beat.{Beat}
use Rattle.sat_proxy.specs.Proxy.{note_of}
use Rattle.sat_act.specs.declared.answer.Answer.{Answer}
use Rattle.sat_act.specs.declared.answer.Answer.TheVariants as ans
use Rattle.sat_act.specs.Deployed.{Deployed}
use Rattle.sat_act.specs.Parts.{BeatNote}
use Rattle.sat_model.specs.Look.{best_of, numbers_of}
use Rattle.sat_hub.specs.Seen.{HubSeen}
use Rattle.sat_stitch.specs.Nodes.{stands}
use Rattle.sat_joint.specs.Machines.{HubState, hub_alone}
use Rattle.sat_hub_laws.specs.Hubs.{hub_answer}
use Rattle.sat_link.specs.Ends.{rise}
use Rattle.sat_node.specs.declared.kept.Body.{Body}
use Rattle.sat_node.specs.declared.kept.Body.TheVariants as body
use Rattle.sat_node.specs.declared.kept.CallFault.{CallFault}
use Rattle.sat_node.specs.declared.kept.Envelope.{Envelope}
use Rattle.sat_node.specs.Meanings.{replay}
use Rattle.sat_node.specs.Seen.{NodeSeen, entry, Takes}
use Rattle.sat_node.specs.Links.{InSeen, IsOf, OnlyAt, PassedOver, Popped, Pulled, Cleared, front_at, front_list, kept_front, may_pass, passes}
use Rattle.sat_machines.specs.Layout.{peer}
use Rattle.sat_machines.specs.Sites.{number_of, some_if}
use Rattle.sat_parts.specs.declared.hub_answer.HubAnswer.{HubAnswer}
use Rattle.sat_parts.specs.declared.hub_input.HubInput.{HubInput}
use Rattle.sat_parts.specs.declared.hub_input.HubInput.TheVariants as hub
use Rattle.sat_parts.specs.Acts.{HubActSeen, hub_handed}
use Rattle.sat_parts.specs.Hubs.{HubStands, hub_meaning, taken_at}
use Rattle.sat_parts.specs.Layout.{lane_end}
use Rattle.sat_passes.proofs.Members.{only_as, only_same, only_then}
use Rattle.sat_passes.proofs.Drains.{only_know}
use Rattle.sat_parts_passes.specs.Sendings.{HubHeld, HubKept, of_hub}
use Rattle.sat_parts_hearing.specs.declared.ends.Source.{Source}
use Rattle.sat_parts_hearing.specs.declared.ends.Source.TheVariants as source
use Rattle.sat_parts_hearing.specs.Along.{FoundEmpty, GaveNone, HeardAt, HeardLink, IsEnd, IsMessage, Passed}
use Rattle.sat_parts_hearing.specs.Hearings.{AreHeard, Came, Heard, Hears, IsEmptied, came_at, if_taken, input_from, is_heard, may_take, on_link, taken_as}
use Rattle.sat_parts_hearing.proofs.Numbers.{is_one, not_one, peers_apart, same_one}

-- ---- what a message is

-- a payload of the lane's gear, or a beat
by-message : (P : Source → Body → HubInput → Type 0) → ((j g n : ℕ) (p : Payload) → P (source.Lane j g) (body.Payload g n p) (hub.Bulk j g n p)) → ((j n : ℕ) (beat : Beat) → P (source.Beats j) (body.Beat n beat) (hub.BeatIn j n beat))
    → (s : Source) (b : Body) (given : HubInput) → input_from s b ≡ Some given → P s b given
by-message P lane beat-in (source.Lane j g) (body.Label l) given e = absurd (cc (e))
by-message P lane beat-in (source.Lane j g) (body.Beat n beat) given e = absurd (cc (e))
by-message P lane beat-in (source.Lane j g) (body.Payload h n p) given e = go (h == g) refl e where
  go : (t : Bool) → (h == g) ≡ t → some_if t (hub.Bulk j h n p) ≡ Some given → P (source.Lane j g) (body.Payload h n p) given
  go false q f = absurd (cc (f))
  go true q f =
      let is : hub.Bulk j h n p ≡ given = cc (f) in
      let same : h ≡ g = is_one h g q in
      subst (λ (x : HubInput). P (source.Lane j g) (body.Payload h n p) x) is (subst (λ (y : ℕ). P (source.Lane j y) (body.Payload h n p) (hub.Bulk j h n p)) same (lane j h n p))
by-message P lane beat-in (source.Beats j) (body.Label l) given e = absurd (cc (e))
by-message P lane beat-in (source.Beats j) (body.Payload h n p) given e = absurd (cc (e))
by-message P lane beat-in (source.Beats j) (body.Beat n beat) given e =
    let is : hub.BeatIn j n beat ≡ given = cc (e) in
    subst (λ (x : HubInput). P (source.Beats j) (body.Beat n beat) x) is (beat-in j n beat)

-- ---- what a message takes

either-stands : (b : Bool) (r s : Answer) → stands r ≡ true → stands s ≡ true → stands (if b then r else s) ≡ true
either-stands true r s hr hs = hr
either-stands false r s hr hs = hs

message-stands : (d : Deployed) (i : ℕ) (h : HubState) (s : Source) (b : Body) (given : HubInput) → input_from s b ≡ Some given → stands (hub_answer d i h (hub_handed given)) ≡ true
unfolding hub_answer
message-stands d i h s b given e = by-message (λ s b given. stands (hub_answer d i h (hub_handed given)) ≡ true)
    (λ j g n p. either-stands (has ◌==◌ (h.proxy.taken j g) n) ans.Again (ans.Brought p.label) refl refl)
    (λ j n beat. go j n (best_of d (hub_alone d i h) j)) s b given e where
      go : (j n : ℕ) (o : Option (ℕ × BeatNote)) → stands (elim o [ None ↦ if has ◌==◌ (numbers_of (hub_alone d i h) j) n then ans.Again else ans.Taken | Some b ↦ if nat_le n b.0 then ans.Old else (if has ◌==◌ (numbers_of (hub_alone d i h) j) n then ans.Again else ans.Taken) ]) ≡ true
      go j n None = either-stands (has ◌==◌ (numbers_of (hub_alone d i h) j) n) ans.Again ans.Taken refl refl
      go j n (Some b) = either-stands (nat_le n b.0) ans.Old (if has ◌==◌ (numbers_of (hub_alone d i h) j) n then ans.Again else ans.Taken) refl (either-stands (has ◌==◌ (numbers_of (hub_alone d i h) j) n) ans.Again ans.Taken refl refl)

taken-here : (d : Deployed) (i k : ℕ) (a : HubAnswer) (s : Source) (b : Body) (given : HubInput) → input_from s b ≡ Some given → IsEnd d i s k → taken_at d i k given a ≡ Some b
taken-here d i k a s b given e = by-message (λ s b given. IsEnd d i s k → taken_at d i k given a ≡ Some b)
    (λ j g n p end. ap (λ (t : Bool). some_if t (body.Payload g n p)) (same_one k (lane_end d i j g) end))
    (λ j n beat end. ap (λ (t : Bool). some_if t (body.Beat n beat)) (same_one j (peer i k) end)) s b given e

taken-away : (d : Deployed) (i k m : ℕ) (a : HubAnswer) (s : Source) (b : Body) (given : HubInput) → m ≢ k → input_from s b ≡ Some given → IsEnd d i s k → taken_at d i m given a ≡ None
taken-away d i k m a s b given differ e = by-message (λ s b given. IsEnd d i s k → taken_at d i m given a ≡ None)
    (λ j g n p end. ap (λ (t : Bool). some_if t (body.Payload g n p)) (not_one m (lane_end d i j g) (λ same. differ (same ∙ sym end))))
    (λ j n beat end. ap (λ (t : Bool). some_if t (body.Beat n beat)) (ap (λ (x : ℕ). x == peer i m) end ∙ peers_apart i m k differ)) s b given e

-- a message takes itself from its own link
message-of : (d : Deployed) (name : NodeName) (x : HubSeen) (entries : List HubKept) (number room : ℕ) (s : Source) (k : ℕ) (b : Body) (act : HubActSeen) → HubStands d name x (replay (hub_meaning d) name entries)
    → IsEnd d (number_of name) s k → input_from s b ≡ Some act.input → IsOf (hub_meaning d) (record { name = name; machine = x; entries = entries; number = number; room = room }) k b act
message-of d (named.Serializer e z) x entries number room s k b act st end is = absurd st
message-of d (named.Gear e z) x entries number room s k b act st end is = absurd st
message-of d (named.Site i) x entries number room s k b act st end is = record {
  stands = λ a h. ap stands h.answer ∙ message-stands d i (replay (hub_meaning d) (named.Site i) entries) s b act.input is;
  takes = λ a h. taken-here d i k a s b act.input is end;
  others = λ a m h differ. taken-away d i k m a s b act.input differ is end;
}

pub message_is_of : (d : Deployed) (held : HubHeld) (s : Source) (k : ℕ) (e : Envelope) (act : HubActSeen) → HubStands d held.node.name held.node.machine (replay (hub_meaning d) held.node.name held.node.entries)
    → IsEnd d (number_of held.node.name) s k → IsMessage s held k e act → IsOf (hub_meaning d) held.node k e.body act
message_is_of d held s k e act st end m = message-of d held.node.name held.node.machine held.node.entries held.node.number held.node.room s k e.body act st end m.input

-- ---- what fits at its turn

match-some : {X : Type 0} (A : Type 0) (B : X → Type 0) (o : Option X) (x : X) → o ≡ Some x → B x → MatchOption o A B
match-some A B o x e h = subst (λ p. MatchOption p A B) (sym e) h

match-none : {X : Type 0} (A : Type 0) (B : X → Type 0) (o : Option X) → o ≡ None → A → MatchOption o A B
match-none A B o e h = subst (λ p. MatchOption p A B) (sym e) h

pub match_is : {X : Type 0} (A : Type 0) (B : X → Type 0) (o : Option X) (x : X) → o ≡ Some x → MatchOption o A B → B x
match_is A B o x e h = subst (λ p. MatchOption p A B) e h

match-map : {X : Type 0} (A C : Type 0) (B D : X → Type 0) (o : Option X) → (A → C) → ((x : X) → B x → D x) → MatchOption o A B → MatchOption o C D
match-map A C B D None f g h = f h
match-map A C B D (Some x) f g h = g x h

pub hears_append : (d : Deployed) (name : NodeName) (ks : List HubKept) (cs ds : List Came) (m n : List HubKept) → Hears d name ks cs m → Hears d name (ks ++ m) ds n → Hears d name ks (cs ++ ds) (m ++ n)
hears_append d name ks [] ds m n h second = subst (λ (l : List HubKept). Hears d name ks ds (l ++ n)) (sym h) (subst (λ (l : List HubKept). Hears d name l ds n) (ap (λ (l : List HubKept). ks ++ l) h ∙ append-nil ks) second)
hears_append d name ks (c ∷ cs) ds m n h second =
    match-map (Hears d name ks cs m) (Hears d name ks (cs ++ ds) (m ++ n))
    (λ given. (k : HubKept) × (rest : List HubKept) × (m ≡ k ∷ rest) × (k.input ≡ of_hub given) × Hears d name (ks ++ k ∷ []) cs rest)
    (λ given. (k : HubKept) × (rest : List HubKept) × (m ++ n ≡ k ∷ rest) × (k.input ≡ of_hub given) × Hears d name (ks ++ k ∷ []) (cs ++ ds) rest)
    (taken_as d name ks c)
    (λ a. hears_append d name ks cs ds m n a second)
    (λ given b. (
      b.0,
      b.1 ++ n,
      ap (λ (l : List HubKept). l ++ n) b.2,
      b.3,
      hears_append d name (ks ++ b.0 ∷ []) cs ds b.1 n b.4 (subst (λ (l : List HubKept). Hears d name l ds n) (ap (λ (l : List HubKept). ks ++ l) b.2 ∙ sym (append_assoc ks (b.0 ∷ []) b.1)) second),
    )) h

pub message_heard : (s : Source) (b : Body) (given : HubInput) → input_from s b ≡ Some given → is_heard given ≡ true
message_heard s b given e = by-message (λ s b given. is_heard given ≡ true) (λ j g n p. refl) (λ j n beat. refl) s b given e

-- ---- some entries, and then some more

areheard-append : (xs ys : List HubKept) → AreHeard xs → AreHeard ys → AreHeard (xs ++ ys)
areheard-append [] ys a b = b
areheard-append (x ∷ xs) ys a b = (a.0, areheard-append xs ys a.1 b)

pub heard_then : (a b c : HubHeld) → Heard a b → Heard b c → Heard a c
heard_then a b c ab bc = record {
  name = bc.name ∙ ab.name;
  added = (
    ab.added.0 ++ bc.added.0,
    bc.added.1 ∙ (ap (λ (l : List HubKept). l ++ bc.added.0) ab.added.1 ∙ append_assoc a.node.entries ab.added.0 bc.added.0),
    areheard-append ab.added.0 bc.added.0 ab.added.2 bc.added.2,
  );
}

pub heard_none : (a b : HubHeld) → b.node.name ≡ a.node.name → b.node.entries ≡ a.node.entries → Heard a b
heard_none a b name entries = record { name = name; added = ([], entries ∙ sym (append-nil a.node.entries), tt) }

pub heard_same : (a b : HubHeld) → b.node ≡ a.node → Heard a b
heard_same a b node = heard_none a b (ap (λ (n : NodeSeen HubSeen HubActSeen HubAnswer). n.name) node) (ap (λ (n : NodeSeen HubSeen HubActSeen HubAnswer). n.entries) node)

-- a message that was taken or not
pub take_heard : (r : Result HubAnswer CallFault) (number : ℕ) (may : Bool) (old new : HubHeld) (s : Source) (k : ℕ) (e : Envelope) (act : HubActSeen) → IsMessage s old k e act → Takes number act may r old.node new.node → Heard old new
take_heard (Err f) number may old new s k e act is takes = heard_none old new takes.err.0.0 takes.err.0.2
take_heard (Ok a) number may old new s k e act is takes = record {
  name = takes.name;
  added = (entry (max old.node.number number + 1) act a ∷ [], takes.taken, (message_heard s e.body act.input is.input, tt));
}

-- ---- one message

only_from : {X : Type 0} (R : X → X → Type 0) (link : ℕ) (a b : List X) → OnlyAt link R a b → OnlyAt link (λ x y. R x y × (slice_get a link ≡ Some x)) a b
only_from {X} R link a b ab = (ab.0, each) where
  each : (k : ℕ) (y : X) → slice_get b k ≡ Some y → (x : X) × (slice_get a k ≡ Some x) × ((k ≢ link → y ≡ x) × (k ≡ link → R x y × (slice_get a link ≡ Some x)))
  each k y at = let h = ab.1 k y at in (h.0, h.1, (h.2.0, (λ e. (h.2.1 e, subst (λ (n : ℕ). slice_get a n ≡ Some h.0) e h.1))))

cleared-passed : (a : List InSeen) (k : ℕ) (e : Envelope) (j i : InSeen) → front_at a k ≡ Some e → slice_get a k ≡ Some j → Cleared j i → Passed (e ∷ []) j i
cleared-passed a k e j i front at cleared =
    let here : j.front ≡ Some e = ap kept_front (sym at) ∙ front in
    record {
      empties = ap (λ (x : InSeen). x.link.empties) cleared;
      popped = (
        [],
        ap (λ (x : InSeen). x.link.received) cleared ∙ sym (append-nil j.link.received),
        append-nil (front_list j.front) ∙ (ap front_list here ∙ sym (ap (λ (x : InSeen). e ∷ front_list x.front) cleared)),
      );
    }

pub take_dealt : (d : Deployed) (r : Result HubAnswer CallFault) (number : ℕ) (may : Bool) (old new : HubHeld) (s : Source) (k : ℕ) (e : Envelope) (act : HubActSeen) → IsMessage s old k e act
    → may_take d old.node.name old.node.entries act.input ≡ true → Takes number act may r old.node new.node → new.outs ≡ old.outs → OnOk r (OnlyAt k Cleared old.ins new.ins)
    → OnOk r ((e : Envelope) × HeardAt d s k (e ∷ []) old new)
take_dealt d (Err f) number may old new s k e act is fit takes outs ins = tt
take_dealt d (Ok a) number may old new s k e act is fit takes outs ins =
    let n = max old.node.number number + 1 in
    let taken : taken_as d old.node.name old.node.entries (on_link s e) ≡ Some act.input =
    ap (if_taken d old.node.name old.node.entries) is.input ∙ ap (λ (b : Bool). some_if b act.input) fit in (
      e,
      record {
        name = takes.name;
        outs = outs;
        added = (
          entry n act a ∷ [],
          takes.taken,
          match-some (Hears d old.node.name old.node.entries [] (entry n act a ∷ []))
              (λ given. (x : HubKept) × (rest : List HubKept) × (entry n act a ∷ [] ≡ x ∷ rest) × (x.input ≡ of_hub given) × Hears d old.node.name (old.node.entries ++ x ∷ []) [] rest)
              (taken_as d old.node.name old.node.entries (on_link s e)) act.input taken
              (entry n act a, [], refl, (λ i. record { by = is.by i; input = act.input }), refl),
        );
        ins = only_as (λ j i. Cleared j i × (slice_get old.ins k ≡ Some j)) (Passed (e ∷ [])) k old.ins new.ins (λ j i h. cleared-passed old.ins k e j i is.front h.1 h.0) (only_from Cleared k old.ins new.ins ins);
      },
    )

may-pass : (s : Source) (b : Body) (given : HubInput) → input_from s b ≡ Some given → may_pass b ≡ true
may-pass s b given e = by-message (λ s b given. may_pass b ≡ true) (λ j g n p. refl) (λ j n beat. refl) s b given e

over-cleared : (over : Bool) (j i : InSeen) → passes j.front ≡ true → PassedOver over j i → Cleared j i
over-cleared true j i may h = h.1
over-cleared false j i may h = absurd (let wrong : false ≡ true = h.0 ∙ may in cc (wrong))

pub pass_dealt : (d : Deployed) (over : Bool) (old new : HubHeld) (s : Source) (k : ℕ) (e : Envelope) (act : HubActSeen) → IsMessage s old k e act
    → may_take d old.node.name old.node.entries act.input ≡ false → new.node ≡ old.node → new.outs ≡ old.outs → OnlyAt k (PassedOver over) old.ins new.ins → (e : Envelope) × HeardAt d s k (e ∷ []) old new
pass_dealt d over old new s k e act is fit node outs ins =
    let taken : taken_as d old.node.name old.node.entries (on_link s e) ≡ None =
    ap (if_taken d old.node.name old.node.entries) is.input ∙ ap (λ (b : Bool). some_if b act.input) fit in (
      e,
      record {
        name = ap (λ (n : NodeSeen HubSeen HubActSeen HubAnswer). n.name) node;
        outs = outs;
        added = (
          [],
          ap (λ (n : NodeSeen HubSeen HubActSeen HubAnswer). n.entries) node ∙ sym (append-nil old.node.entries),
          match-none (Hears d old.node.name old.node.entries [] [])
              (λ given. (x : HubKept) × (rest : List HubKept) × ([] ≡ x ∷ rest) × (x.input ≡ of_hub given) × Hears d old.node.name (old.node.entries ++ x ∷ []) [] rest)
              (taken_as d old.node.name old.node.entries (on_link s e)) taken refl,
        );
        ins = only_as (λ j i. PassedOver over j i × (slice_get old.ins k ≡ Some j)) (Passed (e ∷ [])) k old.ins new.ins
            (λ j i h. cleared-passed old.ins k e j i is.front h.1 (over-cleared over j i (ap passes (ap kept_front (sym h.1) ∙ is.front) ∙ may-pass s e.body act.input is.input) h.0))
            (only_from (PassedOver over) k old.ins new.ins ins);
      },
    )

-- ---- messages of one link

pub dealt_none : (d : Deployed) (s : Source) (k : ℕ) (old : HubHeld) → HeardAt d s k [] old old
dealt_none d s k old = record {
  name = refl;
  outs = refl;
  added = ([], sym (append-nil old.node.entries), refl);
  ins = only_same (Passed []) k old.ins (λ i. record { empties = refl; popped = ([], sym (append-nil i.link.received), append-nil (front_list i.front)) });
}

passed-then : (cs ds : List Envelope) (j i h : InSeen) → Passed cs j i → Passed ds i h → Passed (cs ++ ds) j h
passed-then cs ds j i h a b =
    let p = a.popped in let q = b.popped in
    record {
      empties = b.empties ∙ a.empties;
      popped = (
        p.0 ++ q.0,
        q.1 ∙ (ap (λ (l : List Envelope). l ++ q.0) p.1 ∙ append_assoc j.link.received p.0 q.0),
        sym (append_assoc (front_list j.front) p.0 q.0)
            ∙ (ap (λ (l : List Envelope). l ++ q.0) p.2 ∙ (append_assoc cs (front_list i.front) q.0 ∙ (ap (λ (l : List Envelope). cs ++ l) q.2 ∙ sym (append_assoc cs ds (front_list h.front))))),
      );
    }

pub dealt_then : (d : Deployed) (s : Source) (k : ℕ) (cs ds : List Envelope) (a b c : HubHeld) → HeardAt d s k cs a b → HeardAt d s k ds b c → HeardAt d s k (cs ++ ds) a c
dealt_then d s k cs ds a b c ab bc =
    let m = ab.added in let n = bc.added in
    record {
      name = bc.name ∙ ab.name;
      outs = bc.outs ∙ ab.outs;
      added = (
        m.0 ++ n.0,
        n.1 ∙ (ap (λ (l : List HubKept). l ++ n.0) m.1 ∙ append_assoc a.node.entries m.0 n.0),
        subst (λ (l : List Came). Hears d a.node.name a.node.entries l (m.0 ++ n.0)) (sym (map-append (on_link s) cs ds))
            (hears_append d a.node.name a.node.entries (map (on_link s) cs) (map (on_link s) ds) m.0 n.0 m.2
            (subst (λ (x : NodeName × List HubKept). Hears d x.0 x.1 (map (on_link s) ds) n.0) (λ i. (ab.name i, m.1 i)) n.2)),
      );
      ins = only_then (Passed cs) (Passed ds) (Passed (cs ++ ds)) k a.ins b.ins c.ins (passed-then cs ds) ab.ins bc.ins;
    }

pulled-passed : (f : Option Envelope) (e : Envelope) (j i : InSeen) → j.front ≡ f → i.front ≡ Some e → MatchOption f ((i.place ≡ j.place) × Popped i.front j.link i.link) (λ _. i ≡ j) → Passed [] j i
pulled-passed None e j i fj fi h =
    let p = subst (λ (g : Option Envelope). Popped g j.link i.link) fi h.1 in
    record { empties = p.3; popped = (e ∷ [], p.2, ap (λ (g : Option Envelope). front_list g ++ e ∷ []) fj ∙ sym (ap front_list fi)) }
pulled-passed (Some x) e j i fj fi h = record {
  empties = ap (λ (y : InSeen). y.link.empties) h;
  popped = ([], ap (λ (y : InSeen). y.link.received) h ∙ sym (append-nil j.link.received), append-nil (front_list j.front) ∙ sym (ap (λ (y : InSeen). front_list y.front) h));
}

pub dealt_pull : (d : Deployed) (s : Source) (k : ℕ) (e : Envelope) (old new : HubHeld) → new.node ≡ old.node → new.outs ≡ old.outs → OnlyAt k Pulled old.ins new.ins → front_at new.ins k ≡ Some e → HeardAt d s k [] old new
dealt_pull d s k e old new node outs ins front = record {
  name = ap (λ (n : NodeSeen HubSeen HubActSeen HubAnswer). n.name) node;
  outs = outs;
  added = ([], ap (λ (n : NodeSeen HubSeen HubActSeen HubAnswer). n.entries) node ∙ sym (append-nil old.node.entries), refl);
  ins = only_as (λ j i. Pulled j i × (slice_get new.ins k ≡ Some i)) (Passed []) k old.ins new.ins (λ j i h. pulled-passed j.front e j i refl (ap kept_front (sym h.1) ∙ front) h.0) (only_know Pulled k old.ins new.ins ins);
}

gave-none : (f : Option Envelope) (j i : InSeen) → j.front ≡ f → i.front ≡ None → MatchOption f ((i.place ≡ j.place) × Popped i.front j.link i.link) (λ _. i ≡ j) → GaveNone j i
gave-none None j i fj fi h =
    let p = subst (λ (g : Option Envelope). Popped g j.link i.link) fi h.1 in
    record { before = fj; front = fi; empties = p.3; received = p.2 }
gave-none (Some x) j i fj fi h = absurd (let wrong : None ≡ Some x = sym fi ∙ (ap (λ (y : InSeen). y.front) h ∙ fj) in cc (wrong))

pub pull_empty : (k : ℕ) (old new : HubHeld) → new.node ≡ old.node → new.outs ≡ old.outs → OnlyAt k Pulled old.ins new.ins → front_at new.ins k ≡ None → FoundEmpty k old new
pull_empty k old new node outs ins front = record {
  node = node;
  outs = outs;
  ins = only_as (λ j i. Pulled j i × (slice_get new.ins k ≡ Some i)) GaveNone k old.ins new.ins (λ j i h. gave-none j.front j i refl (ap kept_front (sym h.1) ∙ front) h.0) (only_know Pulled k old.ins new.ins ins);
}

-- ---- all messages of a link

drop-front : {X : Type 0} (xs ys : List X) → drop (length xs) (xs ++ ys) ≡ ys
drop-front [] ys = refl
drop-front (x ∷ xs) ys = drop-front xs ys

pub get_there : {X : Type 0} (xs : List X) (k : ℕ) → k < length xs → (x : X) × (slice_get xs k ≡ Some x)
get_there [] k less = absurd (omega arith)
get_there (x ∷ xs) zero less = (x, refl)
get_there (x ∷ xs) (suc k) less = get_there xs k (omega arith)

pub get_none : {X : Type 0} (xs : List X) (k : ℕ) → length xs ≤ k → slice_get xs k ≡ None
get_none [] k le = refl
get_none (x ∷ xs) zero le = absurd (omega arith)
get_none (x ∷ xs) (suc k) le = get_none xs k (omega arith)

-- it was emptied, and these came
Ended : List Envelope → InSeen → InSeen → Type 0
Ended cs j i = IsEmptied j i × (front_list j.front ++ drop (length j.link.received) i.link.received ≡ cs)

passed-ended : (cs : List Envelope) (j m i : InSeen) → Passed cs j m → GaveNone m i → Ended cs j i
unfolding Ended
passed-ended cs j m i a b =
    let p = a.popped in
    let received : i.link.received ≡ j.link.received ++ p.0 = b.received ∙ p.1 in (
      record { front = b.front; empties = b.empties ∙ ap rise a.empties; popped = (p.0, received) },
      ap (λ (l : List Envelope). front_list j.front ++ drop (length j.link.received) l) received
          ∙ (ap (λ (l : List Envelope). front_list j.front ++ l) (drop-front j.link.received p.0) ∙ (p.2 ∙ (ap (λ (f : Option Envelope). cs ++ front_list f) b.before ∙ append-nil cs))),
    )

pub link_ended : (d : Deployed) (s : Source) (k : ℕ) (cs : List Envelope) (a b c : HubHeld) → k < length a.ins → HeardAt d s k cs a b → FoundEmpty k b c → HeardLink d s k a c
unfolding Ended
link_ended d s k cs a b c less ab bc =
    let ends : OnlyAt k (Ended cs) a.ins c.ins = only_then (Passed cs) GaveNone (Ended cs) k a.ins b.ins c.ins (passed-ended cs) ab.ins bc.ins in
    let there = get_there c.ins k (let same = ends.0 in omega arith) in
    let was = ends.1 k there.0 there.1 in
    let came : came_at s (slice_get a.ins k) (slice_get c.ins k) ≡ map (on_link s) cs =
    (λ i. came_at s (was.1 i) (there.1 i)) ∙ ap (map (on_link s)) ((was.2.1 refl).1) in
    record {
      name = ap (λ (n : NodeSeen HubSeen HubActSeen HubAnswer). n.name) bc.node ∙ ab.name;
      outs = bc.outs ∙ ab.outs;
      added = (
        ab.added.0,
        ap (λ (n : NodeSeen HubSeen HubActSeen HubAnswer). n.entries) bc.node ∙ ab.added.1,
        subst (λ (l : List Came). Hears d a.node.name a.node.entries l ab.added.0) (sym came) ab.added.2,
      );
      ins = only_as (Ended cs) IsEmptied k a.ins c.ins (λ j i h. h.0) ends;
    }
