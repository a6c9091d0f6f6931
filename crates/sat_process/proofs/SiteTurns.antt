-- What a site would take it takes.
use Rattle.std.proofs.Common.{◌≡◌, ◌⊎◌, ℕ, ◌+◌, ◌-◌, ◌==◌, ◌||◌, max, nat_le, nat_lt, Bool, true, false, if◌then◌else◌, not, get_or, Option, Some, None, refl, sym, ap, ◌∙◌, arith}
use Rattle.std.proofs.lemmas.Bool.Decides.{nat_tests}
use Rattle.sat_label.specs.declared.label.Label.{Label}
use Rattle.sat_label.specs.declared.node.NodeName.{NodeName}
use Rattle.sat_label.specs.declared.node.NodeName.TheVariants as named
use Rattle.sat_act.specs.Deployed.{Deployed}
use Rattle.sat_epoch.specs.Epochs.{in_stamp}
use Rattle.sat_site.specs.declared.input.SiteInput.{SiteInput}
use Rattle.sat_site.specs.declared.input.SiteInput.TheVariants as input
use Rattle.sat_site.specs.Inputs.{fits_in}
use Rattle.sat_node.specs.declared.kept.Body.{Body}
use Rattle.sat_node.specs.declared.kept.Body.TheVariants as body
use Rattle.sat_node.specs.Seen.{last_number}
use Rattle.sat_machines.specs.Acts.{ActSeen}
use Rattle.sat_machines.specs.Layout.{label_link, peer}
use Rattle.sat_machines.specs.Sites.{number_of}
use Rattle.sat_passes.specs.Hearings.{input_from}
use Rattle.sat_host.specs.Locals.{is_local}
use Rattle.sat_passes.specs.Sendings.{would_do}
use Rattle.sat_message.specs.declared.message.Message.{Message}
use Rattle.sat_host.specs.declared.received.Received.{Received}
use Rattle.sat_host.specs.declared.received.Received.TheVariants as received
use Rattle.sat_host.specs.Receptions.{act_with, body_reception, bulk_reception, if_fits, label_reception, site_reception}
use Rattle.sat_host.specs.Turns.{is_taken, label_turn, turn_of}
use Rattle.sat_host_laws.specs.Messages.{SiteHost}
use Rattle.sat_handed.specs.declared.handed.Handed.TheVariants as given
use Rattle.sat_process.specs.declared.hosted.Became.{Became}
use Rattle.sat_process.specs.declared.hosted.Became.TheVariants.{Taken, Early, Again, Unfit, Unspelled, Worn, Full, Memory}
use Rattle.sat_process.specs.Sites.{asked_at_site, asked_if, has_come, if_now, is_by, if_taken, peer_in, peer_of, took_at_site, when_taken, would_ask, would_body, would_bulk, would_come, would_count, would_fit, would_keep, would_turn}

-- both have to be
pub both_taken : (a b : Became) → when_taken a b ≡ Taken → (a ≡ Taken) × (b ≡ Taken)
both_taken Taken b is = (refl, is)
both_taken Early b is = absurd (cc (is))
both_taken Again b is = absurd (cc (is))
both_taken Unfit b is = absurd (cc (is))
both_taken Unspelled b is = absurd (cc (is))
both_taken Worn b is = absurd (cc (is))
both_taken Full b is = absurd (cc (is))
both_taken Memory b is = absurd (cc (is))

count-by : (a b c : Bool) → (if a then Again else if b then Early else if c then Worn else Taken) ≡ Taken → (a ≡ false) × (b ≡ false) × (c ≡ false)
count-by true b c is = absurd (cc (is))
count-by false true c is = absurd (cc (is))
count-by false false true is = absurd (cc (is))
count-by false false false is = (refl, refl, refl)

turn-by : (a b c : Bool) → a ≡ false → b ≡ false → c ≡ false → (if a then received.Again else if b then received.Early else if c then received.Unfit else received.Taken) ≡ received.Taken
turn-by true b c x y z = absurd (cc (x))
turn-by false true c x y z = absurd (cc (y))
turn-by false false true x y z = absurd (cc (z))
turn-by false false false x y z = refl

-- a label whose turn it is
pub count_turn : (wanted number : ℕ) → would_count wanted number ≡ Taken → label_turn wanted number ≡ received.Taken
count_turn wanted number is = (let p = count-by (nat_lt number wanted) (nat_lt wanted number) (number == last_number) is in turn-by (nat_lt number wanted) (nat_lt wanted number) (number == last_number) p.0 p.1 p.2)

stamp-by : (a b c : Bool) → (if a then Early else if b then if_now c else Early) ≡ Taken → (if a then received.Early else if b then (if c then received.Taken else received.Early) else received.Early) ≡ received.Taken
stamp-by true b c is = absurd (cc (is))
stamp-by false false c is = absurd (cc (is))
stamp-by false true true is = refl
stamp-by false true false is = absurd (cc (is))

pub turn_taken : (d : Deployed) (h : SiteHost) (link : ℕ) (l : Label) → would_turn d h link l ≡ Taken → label_reception d h.node.machine link l ≡ received.Taken
turn_taken d h link l is = stamp-by (in_stamp h.node.machine.views) (link == label_link d h.node.machine.views.view) (would_do h.node.machine (input.Turn (Some l))) is

fits-by : (b : Bool) → if_taken b ≡ Taken → b ≡ true
fits-by true is = refl
fits-by false is = absurd (cc (is))

again-by : (a b : Bool) → (if a then Again else if_taken b) ≡ Taken → b ≡ true
again-by true b is = absurd (cc (is))
again-by false b is = fits-by b is

received-if : (b : Bool) → b ≡ true → (if b then received.Taken else received.Unfit) ≡ received.Taken
received-if true is = refl
received-if false is = absurd (cc (is))

-- ---- payloads and beats

pub peer_is : (name : NodeName) (link from : ℕ) → peer_in name link ≡ Some from → from ≡ peer (number_of name) link
peer_is (named.Site i) link from is = (let same : peer i link ≡ from = cc (is) in sym same)
peer_is (named.Serializer e z) link from is = absurd (cc (is))
peer_is (named.Gear i g) link from is = absurd (cc (is))

peer-by : (d : Deployed) (h : SiteHost) (link from : ℕ) (b : Bool) → nat_le (d.sites - 1) link ≡ b → (if b then None else peer_in h.node.name link) ≡ Some from → (nat_lt link (d.sites - 1) ≡ true) × (from ≡ peer (number_of h.node.name) link)
peer-by d h link from true is e = absurd (cc (e))
peer-by d h link from false is e = (grind (arith, nat_tests, is), peer_is h.node.name link from e)

pub peer_found : (d : Deployed) (h : SiteHost) (link from : ℕ) → peer_of d h link ≡ Some from → (nat_lt link (d.sites - 1) ≡ true) × (from ≡ peer (number_of h.node.name) link)
peer_found d h link from is = peer-by d h link from (nat_le (d.sites - 1) link) refl is

fit-there : (d : Deployed) (h : SiteHost) (link from : ℕ) (b : Body) (to : ℕ → SiteInput) → ((j : ℕ) → input_from j b ≡ Some (to j)) → (nat_lt link (d.sites - 1) ≡ true) × (from ≡ peer (number_of h.node.name) link) → fits_in h.node.machine (to from) ≡ true →
    bulk_reception d h link b ≡ received.Taken
fit-there d h link from b to is p fits =
    let j = peer (number_of h.node.name) link in
    ap (λ (t : Bool). if t then if_fits h.node.machine (input_from j b) else received.Unfit) p.0
    ∙ (ap (if_fits h.node.machine) (is j) ∙ received-if (fits_in h.node.machine (to j)) (ap (λ (n : ℕ). fits_in h.node.machine (to n)) (sym p.1) ∙ fits))

bulk-by : (d : Deployed) (h : SiteHost) (link : ℕ) (b : Body) (o : Option ℕ) → peer_of d h link ≡ o → would_bulk d h o b ≡ Taken → bulk_reception d h link b ≡ received.Taken
bulk-by d h link b None o is = absurd (cc (is))
bulk-by d h link (body.Label l) (Some from) o is = absurd (cc (is))
bulk-by d h link (body.Payload g n p) (Some from) o is =
    fit-there d h link from (body.Payload g n p) (λ j. input.Bulk j g n p) (λ j. refl) (peer_found d h link from o) (again-by (has_come d h from g n) (fits_in h.node.machine (input.Bulk from g n p)) is)
bulk-by d h link (body.Beat n b) (Some from) o is =
    fit-there d h link from (body.Beat n b) (λ j. input.BeatIn j n b) (λ j. refl) (peer_found d h link from o) (fits-by (fits_in h.node.machine (input.BeatIn from n b)) is)

-- ---- messages

pub when_turn : (t : Received) (rest : Received) → t ≡ received.Taken → rest ≡ received.Taken → (if is_taken t then rest else t) ≡ received.Taken
when_turn t rest e f = ap (λ (x : Received). if is_taken x then rest else x) e ∙ f

body-taken : (d : Deployed) (h : SiteHost) (link : ℕ) (m : Message) (b : Body) → b ≡ m.sent.body → would_body d h link m.number b ≡ Taken →
    (turn_of (get_or h.wanted link 0) m.number b ≡ received.Taken) × (body_reception d h link b ≡ received.Taken)
body-taken d h link m (body.Label l) e is =
    let p = both_taken (would_count (get_or h.wanted link 0) m.number) (would_turn d h link l) is in
    (count_turn (get_or h.wanted link 0) m.number p.0, turn_taken d h link l p.1)
body-taken d h link m (body.Payload g n p) e is = (refl, bulk-by d h link (body.Payload g n p) (peer_of d h link) refl is)
body-taken d h link m (body.Beat n b) e is = (refl, bulk-by d h link (body.Beat n b) (peer_of d h link) refl is)

pub worn_by : (b c : Bool) (rest : Became) → (if b || c then Worn else rest) ≡ Taken → (b ≡ false) × (c ≡ false) × (rest ≡ Taken)
worn_by true c rest is = absurd (cc (is))
worn_by false true rest is = absurd (cc (is))
worn_by false false rest is = (refl, refl, is)

-- the two numbers are less than the greatest, and it is taken
pub record IsReceived (d : Deployed) (h : SiteHost) (link : ℕ) (m : Message) : Type 0 where
  pub reception : site_reception d h link m ≡ received.Taken
  pub heard : (m.sent.lamport == last_number) ≡ false
  pub own : (h.node.number == last_number) ≡ false

pub come_taken : (d : Deployed) (h : SiteHost) (link : ℕ) (m : Message) → would_come d h link m ≡ Taken → IsReceived d h link m
come_taken d h link m is =
    let w = worn_by (m.sent.lamport == last_number) (h.node.number == last_number) (would_body d h link m.number m.sent.body) is in
    let p = body-taken d h link m m.sent.body refl w.2 in
    record { reception = when_turn (turn_of (get_or h.wanted link 0) m.number m.sent.body) (body_reception d h link m.sent.body) p.0 p.1; heard = w.0; own = w.1 }

-- what the site answers to a message that it would take
pub reception_of : (n d : Deployed) (h : SiteHost) (link : ℕ) (m : Message) (r : Received) → n ≡ d → would_come d h link m ≡ Taken → r ≡ site_reception n h link m → r ≡ received.Taken
reception_of n d h link m r same is got = got ∙ (ap (λ (x : Deployed). site_reception x h link m) same ∙ (come_taken d h link m is).reception)

pub never_early : (r : Received) → r ≡ received.Early → r ≡ received.Taken → ⊥
never_early r a b = (let e : received.Early ≡ received.Taken = sym a ∙ b in absurd (cc (e)))

pub never_unfit : (r : Received) → r ≡ received.Unfit → r ≡ received.Taken → ⊥
never_unfit r a b = (let e : received.Unfit ≡ received.Taken = sym a ∙ b in absurd (cc (e)))

-- what the message is, as what the site is handed
pub came_not_asked : (name : NodeName) (link : ℕ) (b : Body) (i : ActSeen) → Some (act_with name link b) ≡ Some i → (n : ℕ) → asked_at_site n i ≡ None
came_not_asked name link (body.Label l) i e n = (let same : act_with name link (body.Label l) ≡ i = cc (e) in ap (asked_at_site n) (sym same))
came_not_asked name link (body.Payload g k p) i e n = (let same : act_with name link (body.Payload g k p) ≡ i = cc (e) in ap (asked_at_site n) (sym same))
came_not_asked name link (body.Beat k b) i e n = (let same : act_with name link (body.Beat k b) ≡ i = cc (e) in ap (asked_at_site n) (sym same))

pub came_took : (name : NodeName) (link : ℕ) (b : Body) (i : ActSeen) → Some (act_with name link b) ≡ Some i → took_at_site i ≡ Some b
came_took name link (body.Label l) i e = (let same : act_with name link (body.Label l) ≡ i = cc (e) in ap took_at_site (sym same))
came_took name link (body.Payload g k p) i e = (let same : act_with name link (body.Payload g k p) ≡ i = cc (e) in ap took_at_site (sym same))
came_took name link (body.Beat k b) i e = (let same : act_with name link (body.Beat k b) ≡ i = cc (e) in ap took_at_site (sym same))

-- ---- what is asked

asked-by : (a b c e : Bool) → (if a then Unfit else if not b then Unfit else if not c then Unfit else if_taken e) ≡ Taken → (a ≡ false) × (b ≡ true) × (c ≡ true) × (e ≡ true)
asked-by true b c e is = absurd (cc (is))
asked-by false false c e is = absurd (cc (is))
asked-by false true false e is = absurd (cc (is))
asked-by false true true true is = (refl, refl, refl, refl)
asked-by false true true false is = absurd (cc (is))

-- what is asked and taken: its number is above the last one, it is no message, its client is right, and it fits
pub ask_taken : (d : Deployed) (h : SiteHost) (number : ℕ) (by : Option ℕ) (i : SiteInput) → would_ask d h number by i ≡ Taken →
    (nat_le number h.node.number ≡ false) × (is_local i ≡ true) × (is_by d by i ≡ true) × (fits_in h.node.machine i ≡ true)
ask_taken d h number by i is = asked-by (nat_le number h.node.number) (is_local i) (is_by d by i) (fits_in h.node.machine i) is

pub asked_is : (number own : ℕ) (by : Option ℕ) (i : SiteInput) → nat_le number own ≡ false → is_local i ≡ true → asked_at_site (max own (number - 1) + 1) (record { by = by; input = i }) ≡ Some (given.Asked number by i)
asked_is number own by i above local =
    let same : max own (number - 1) + 1 ≡ number = grind (arith, nat_tests, above) in
    ap (λ (b : Bool). asked_if b (given.Asked (max own (number - 1) + 1) by i)) local ∙ ap (λ (n : ℕ). Some (given.Asked n by i)) same
