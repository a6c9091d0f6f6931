-- Hosts and sessions note the same.
use Rattle.std.proofs.Common.{◌≡◌, ◌⊎◌, ◌<◌, ◌≤◌, ◌+◌, max, ℕ, zero, suc, false, List, [], ◌∷◌, ◌++◌, length, map, set, Option, Some, None, Ok, slice_get, refl, sym, ap, ◌∙◌, subst, append_assoc, arith, inl, inr}
use Rattle.std.specs.List.{flat_map}
use Rattle.sat_label.specs.Members.{In}
use Rattle.sat_label.specs.Grouped.{list_of}
use Rattle.sat_label.specs.declared.items.Items.{Items}
use Rattle.sat_label.specs.declared.items.Items.TheVariants.{One, Two, Three, Four}
use Rattle.sat_label.specs.declared.node.NodeName.{NodeName}
use Rattle.sat_label.specs.declared.node.NodeName.TheVariants as named
use Rattle.sat_label.proofs.Members.{In-left, In-right, In-parts, In-get}
use Rattle.sat_laws.proofs.Labels.{some_is}
use Rattle.sat_laws.proofs.Links.{In-place}
use Rattle.sat_act.specs.declared.act.Act.{Act}
use Rattle.sat_act.specs.declared.act.Act.TheVariants as act
use Rattle.sat_act.specs.declared.answer.Answer.{Answer}
use Rattle.sat_act.specs.Deployed.{Deployed}
use Rattle.sat_act.specs.Parts.{seat}
use Rattle.sat_node.specs.declared.kept.Kept.{Kept as Line}
use Rattle.sat_node.specs.Links.{Each}
use Rattle.sat_node.specs.Seen.{entry}
use Rattle.sat_machines.specs.Acts.{ActSeen}
use Rattle.sat_machines.specs.Sites.{number_of}
use Rattle.sat_machines.specs.Serials.{epoch_in, serial_in}
use Rattle.sat_machines.specs.declared.site_answer.SiteAnswer.{SiteAnswer}
use Rattle.sat_machines.specs.declared.serial_act.SerialAct.{SerialAct}
use Rattle.sat_machines.specs.declared.serial_act.SerialAct.TheVariants as serial
use Rattle.sat_machines.specs.declared.serial_act.SerialAnswer.{SerialAnswer}
use Rattle.sat_stitch.specs.Kept.{Kept, history}
use Rattle.sat_stitch.specs.Places.{AtSite, AtSerializer, attach_places, Session, Client as Owner, Operator}
use Rattle.sat_opened.specs.Keeping.{client_in, write_act, site_act, owner_of, serial_owner}
use Rattle.sat_opened.specs.Opened.{place_at}
use Rattle.sat_session.specs.declared.noted.Noted.{Noted}
use Rattle.sat_session.specs.Notes.{SessionSeen, session_at, owned_by, nothing_carried, carried_with, site_note, site_notes, serial_note, serial_notes, notes_at_site, notes_at_serial, node_notes, at_node, own_notes, notes_of, session_notes}
use Rattle.sat_session.specs.Owned.{Owned}
use Rattle.sat_session.specs.Sessions.{IsNote, IsSession, SameNotes}
use Rattle.sat_session.specs.Calls.{note, AtNone, AtNode, of_site, of_serial}
use Rattle.sat_session.proofs.Begins.{of-client, of-operator}
use Rattle.sat_session.proofs.Owned.{in-flat, into-flat}
use Rattle.sat_session.proofs.Walks.{Comes, note-comes}
use Rattle.sat_host_laws.specs.Messages.{SiteHost, SerialHost, held_of}
use Rattle.sat_host_store.specs.Noting.{StoreSeen, Begins, IsAsked, write, writes, read, move_to, attach, close, fall, Took, IsSites, IsHop, Goes, asked, killed, alone, at_site, at_serial, HasGone, begins, goes, StoresNote}

-- ---- one member of a list changes

module _ {X : Type 0} where
  set-back : (xs : List X) (n : ℕ) (y h : X) → In (set xs n y) h → (y ≡ h) ⊎ In xs h
  set-back [] n y h i = absurd i
  set-back (x ∷ xs) zero y h (inl e) = inl e
  set-back (x ∷ xs) zero y h (inr i) = inr (inr i)
  set-back (x ∷ xs) (suc n) y h (inl e) = inr (inl e)
  set-back (x ∷ xs) (suc n) y h (inr i) = elim (set-back xs n y h i) [ inl e ↦ inl e | inr j ↦ inr (inr j) ]

  set-kept : (xs : List X) (n : ℕ) (old y h : X) → slice_get xs n ≡ Some old → In xs h → (old ≡ h) ⊎ In (set xs n y) h
  set-kept [] n old y h at i = absurd i
  set-kept (x ∷ xs) zero old y h at (inl e) = inl (sym (some_is x old at) ∙ e)
  set-kept (x ∷ xs) zero old y h at (inr i) = inr (inr i)
  set-kept (x ∷ xs) (suc n) old y h at (inl e) = inr (inl e)
  set-kept (x ∷ xs) (suc n) old y h at (inr i) = elim (set-kept xs n old y h at i) [ inl e ↦ inl e | inr j ↦ inr (inr j) ]

  set-there : (xs : List X) (n : ℕ) (old y : X) → slice_get xs n ≡ Some old → In (set xs n y) y
  set-there [] n old y at = absurd (cc)
  set-there (x ∷ xs) zero old y at = inl refl
  set-there (x ∷ xs) (suc n) old y at = inr (set-there xs n old y at)

-- a list has the members of another, and these more
record Grows (more a b : List Owned) : Type 0 where
  back : (y : Owned) → In b y → In a y ⊎ In more y
  into : (y : Owned) → In a y ⊎ In more y → In b y

none-more : (a : List Owned) → Grows [] a a
none-more a = record { back = λ y i. inl i; into = λ y i. elim i [ inl j ↦ j | inr j ↦ absurd j ] }

same-grows : (more a b : List Owned) → b ≡ a ++ more → Grows more a b
same-grows more a b e = record {
  back = λ y i. In-parts a more y (subst (λ (ys : List Owned). In ys y) e i);
  into = λ y i. subst (λ (ys : List Owned). In ys y) (sym e) (elim i [ inl j ↦ In-left a more y j | inr j ↦ In-right a more y j ]);
}

first-grows : (more a b c : List Owned) → Grows more a b → Grows more (a ++ c) (b ++ c)
first-grows more a b c g = record {
  back = λ y i. elim (In-parts b c y i) [
    | inl j ↦ elim (g.back y j) [ inl k ↦ inl (In-left a c y k) | inr k ↦ inr k ]
    | inr j ↦ inl (In-right a c y j)
  ];
  into = λ y i. elim i [
    | inl j ↦ elim (In-parts a c y j) [ inl k ↦ In-left b c y (g.into y (inl k)) | inr k ↦ In-right b c y k ]
    | inr j ↦ In-left b c y (g.into y (inr j))
  ];
}

second-grows : (more a b c : List Owned) → Grows more a b → Grows more (c ++ a) (c ++ b)
second-grows more a b c g = record {
  back = λ y i. elim (In-parts c b y i) [
    | inl j ↦ inl (In-left c a y j)
    | inr j ↦ elim (g.back y j) [ inl k ↦ inl (In-right c a y k) | inr k ↦ inr k ]
  ];
  into = λ y i. elim i [
    | inl j ↦ elim (In-parts c a y j) [ inl k ↦ In-left c b y k | inr k ↦ In-right c b y (g.into y (inl k)) ]
    | inr j ↦ In-right c b y (g.into y (inr j))
  ];
}

-- the notes of some, where those of one of them grew
module _ {X : Type 0} (f : X → List Owned) (xs : List X) (n : ℕ) (old new : X) (more : List Owned) (at : slice_get xs n ≡ Some old) (adds : f new ≡ f old ++ more) where
  one : Grows more (f old) (f new)
  one = same-grows more (f old) (f new) adds

  all-back : (y : Owned) → In (flat_map f (set xs n new)) y → In (flat_map f xs) y ⊎ In more y
  all-back y i =
      let w : (x : X) × In (set xs n new) x × In (f x) y = in-flat f (set xs n new) y i in
      elim (set-back xs n new w.0 w.1) [
        | inr j ↦ inl (into-flat f xs w.0 y j w.2)
        | inl e ↦ elim (one.back y (subst (λ (x : X). In (f x) y) (sym e) w.2)) [ inl k ↦ inl (into-flat f xs old y (In-get xs n old at) k) | inr k ↦ inr k ]
      ]

  abbrev grown : (y : Owned) → In (f old) y ⊎ In more y → In (flat_map f (set xs n new)) y
  grown y i = into-flat f (set xs n new) new y (set-there xs n old new at) (one.into y i)

  all-into : (y : Owned) → In (flat_map f xs) y ⊎ In more y → In (flat_map f (set xs n new)) y
  all-into y (inr i) = grown y (inr i)
  all-into y (inl i) =
      let w : (x : X) × In xs x × In (f x) y = in-flat f xs y i in
      elim (set-kept xs n old new w.0 at w.1) [
        | inl e ↦ grown y (inl (subst (λ (x : X). In (f x) y) (sym e) w.2))
        | inr j ↦ into-flat f (set xs n new) w.0 y j w.2
      ]

  all-grow : Grows more (flat_map f xs) (flat_map f (set xs n new))
  all-grow = record { back = all-back; into = all-into }

both-grow : (more a b c e : List Owned) → Grows more a b → Grows more c e → SameNotes a c → SameNotes b e
both-grow more a b c e g h same s n = (
  λ i. h.into (s, n) (elim (g.back (s, n) i) [ inl j ↦ inl ((same s n).0 j) | inr j ↦ inr j ]),
  λ i. g.into (s, n) (elim (h.back (s, n) i) [ inl j ↦ inl ((same s n).1 j) | inr j ↦ inr j ]),
)

-- ---- notes of longer journals

site-append : (name : NodeName) (es fs : List (Line ActSeen SiteAnswer)) → site_notes name (es ++ fs) ≡ site_notes name es ++ site_notes name fs
site-append name [] fs = refl
site-append name (k ∷ es) fs =
    ap (λ (os : List Owned). owned_by (owner_of k.input.by k.input.input) (site_note name k) ++ os) (site-append name es fs) ∙
    sym (append_assoc (owned_by (owner_of k.input.by k.input.input) (site_note name k)) (site_notes name es) (site_notes name fs))

serial-append : (name : NodeName) (es fs : List (Line SerialAct SerialAnswer)) → serial_notes name (es ++ fs) ≡ serial_notes name es ++ serial_notes name fs
serial-append name [] fs = refl
serial-append name (k ∷ es) fs =
    ap (λ (os : List Owned). owned_by (serial_owner k.input) (serial_note name k) ++ os) (serial-append name es fs) ∙
    sym (append_assoc (owned_by (serial_owner k.input) (serial_note name k)) (serial_notes name es) (serial_notes name fs))

own-append : (s : Session) (ns ms : List Noted) → own_notes s (ns ++ ms) ≡ own_notes s ns ++ own_notes s ms
own-append s [] ms = refl
own-append s (n ∷ ns) ms = ap (λ (os : List Owned). at_node s n n.at ++ os) (own-append s ns ms) ∙ sym (append_assoc (at_node s n n.at) (own_notes s ns) (own_notes s ms))

-- nobody asked for these
no-sites : (name : NodeName) (ks : List (Line ActSeen SiteAnswer)) → Each ks (λ _ k. IsSites k) → site_notes name ks ≡ []
no-sites name [] e = refl
no-sites name (k ∷ ks) e = λ i. owned_by (e 0 k refl i) (site_note name k) ++ no-sites name ks (λ n x at. e (suc n) x at) i

no-hops : (name : NodeName) (ks : List (Line SerialAct SerialAnswer)) → Each ks (λ _ k. IsHop k) → serial_notes name ks ≡ []
no-hops name [] e = refl
no-hops name (k ∷ ks) e = λ i. owned_by (e 0 k refl i) (serial_note name k) ++ no-hops name ks (λ n x at. e (suc n) x at) i

-- ---- hosts and sessions

abbrev site_side : SiteHost → List Owned
site_side h = site_notes h.node.name h.node.entries

abbrev serial_side : SerialHost → List Owned
serial_side h = serial_notes h.node.name h.node.entries

abbrev nodes_side : List SiteHost → List SerialHost → List Owned
nodes_side sites serials = flat_map site_side sites ++ flat_map serial_side serials

flat-mapped : {X Y : Type 0} (g : X → Y) (f : Y → List Owned) (xs : List X) → flat_map f (map g xs) ≡ flat_map (λ x. f (g x)) xs
flat-mapped g f [] = refl
flat-mapped g f (x ∷ xs) = ap (λ (os : List Owned). f (g x) ++ os) (flat-mapped g f xs)

nodes-are : (sites : List SiteHost) (serials : List SerialHost) → node_notes (map held_of sites) (map held_of serials) ≡ nodes_side sites serials
nodes-are sites serials = λ i. flat-mapped held_of notes_at_site sites i ++ flat-mapped held_of notes_at_serial serials i

abbrev Side : Deployed → StoreSeen → Type 0
Side d x = SameNotes (nodes_side x.sites x.serials) (session_notes d x.sessions)

site-took : (old new : SiteHost) (more : List (Line ActSeen SiteAnswer)) → Took more old new → site_side new ≡ site_side old ++ site_notes old.node.name more
site-took old new more t = (λ i. site_notes (t.name i) (t.entries i)) ∙ site-append old.node.name old.node.entries more

serial-took : (old new : SerialHost) (more : List (Line SerialAct SerialAnswer)) → Took more old new → serial_side new ≡ serial_side old ++ serial_notes old.node.name more
serial-took old new more t = (λ i. serial_notes (t.name i) (t.entries i)) ∙ serial-append old.node.name old.node.entries more

session-took : (d : Deployed) (before after : SessionSeen) (m : Noted) → after.number ≡ before.number → after.noted ≡ before.noted ++ m ∷ [] → notes_of d after ≡ notes_of d before ++ own_notes (session_at d before.number) (m ∷ [])
session-took d before after m same noted = (λ i. own_notes (session_at d (same i)) (noted i)) ∙ own-append (session_at d before.number) before.noted (m ∷ [])

-- the last note of a session is one
note-is : (d : Deployed) (before after : SessionSeen) (m : Noted) → IsSession d after → after.number ≡ before.number → after.noted ≡ before.noted ++ m ∷ [] → (ks : List Kept) × IsNote d (session_at d before.number) ks m
note-is d before after m is same noted =
    let s : Session = session_at d after.number in
    let w : (k : Kept) × (c : Comes d s [] [] after.noted k) × (c.note ≡ m) = note-comes d s [] [] after.noted m is.notes (subst (λ (ns : List Noted). In ns m) (sym noted) (In-right before.noted (m ∷ []) m (inl refl))) in
    (w.1.before, subst (λ (t : Session). IsNote d t w.1.before m) (ap (session_at d) same) (subst (λ (n : Noted). IsNote d s w.1.before n) w.2 w.1.is_note))

-- ---- what was asked is what the session notes

two-one : 2 ≤ 1 → ⊥
two-one lt = omega arith

writes-are : (c : ℕ) (items : Items) (values : List (List ℕ)) → 2 ≤ length (list_of items) → write_act c items values ≡ act.Writes c items values
writes-are c (One x) values lt = absurd (two-one lt)
writes-are c (Two a b) values lt = refl
writes-are c (Three a b e) values lt = refl
writes-are c (Four a b e f) values lt = refl

site-at : (i : ℕ) (name : NodeName) → AtSite i ∷ [] ≡ place_at name ∷ [] → number_of name ≡ i
site-at i (named.Site j) e = cc
site-at i (named.Serializer f z) e = absurd (cc)
site-at i (named.Gear j g) e = cc

attach-at : (c j : ℕ) (o : Option ℕ) (name : NodeName) → attach_places c j o ≡ place_at name ∷ [] → number_of name ≡ j
attach-at c j None name e = site-at j name e
attach-at c j (Some k) (named.Site i) e = absurd (cc)
attach-at c j (Some k) (named.Serializer f z) e = absurd (cc)
attach-at c j (Some k) (named.Gear i g) e = absurd (cc)

kill-at : (e z : ℕ) (name : NodeName) → AtSerializer e z ∷ [] ≡ place_at name ∷ [] → act.Kill (epoch_in name) (serial_in name) ≡ act.Kill e z
kill-at e z (named.Site j) w = absurd (cc)
kill-at e z (named.Gear j g) w = absurd (cc)
kill-at e z (named.Serializer f y) w =
    let a : f ≡ e = cc in
    let b : y ≡ z = cc in
    λ i. act.Kill (a i) (b i)

operators : (d : Deployed) (x : SessionSeen) → x.number ≡ length d.clients → session_at d x.number ≡ Operator
operators d x e = ap (session_at d) e ∙ of-operator d

-- an act and its input, by a session whose note of it stands at the node of this name
record Says (d : Deployed) (x : SessionSeen) (name : NodeName) (a : Act) (i : ActSeen) : Type 0 where
  owner : owner_of i.by i.input ≡ Some (session_at d x.number)
  carried : carried_with i.input ≡ x.client.carried
  is : site_act (number_of name) (client_in i.by) i.input ≡ a

module _ (d : Deployed) (x : SessionSeen) (name : NodeName) (number : ℕ) (r : Answer) (ks : List Kept) where
  abbrev IsOne : Act → Type 0
  IsOne a = IsNote d (session_at d x.number) ks (note number (Some name) x.client.carried a r)

  client : x.number < length d.clients → Some (Owner x.number) ≡ Some (session_at d x.number)
  client lt = ap (λ (s : Session). Some s) (sym (of-client d x.number lt))

  operator : x.number ≡ length d.clients → Some Operator ≡ Some (session_at d x.number)
  operator e = ap (λ (s : Session). Some s) (sym (operators d x e))

  carries-none : (a : Act) → x.number ≡ length d.clients → IsOne a → nothing_carried ≡ x.client.carried
  carries-none a e n = sym (subst (λ (s : Session). IsNote d s ks (note number (Some name) x.client.carried a r)) (operators d x e) n).knew

  attached-at : (j : ℕ) → x.number < length d.clients → IsOne (act.Attach x.number j) → number_of name ≡ j
  attached-at j lt n =
      let of : IsNote d (Owner x.number) ks (note number (Some name) x.client.carried (act.Attach x.number j) r) = subst (λ (s : Session). IsNote d s ks (note number (Some name) x.client.carried (act.Attach x.number j) r)) (of-client d x.number lt) n in
      attach-at x.number j (seat d (history ks) x.number) name of.placed

  says : (a : Act) (i : ActSeen) → IsAsked d x a i → IsOne a → Says d x name a i
  says a i (write n value lt) o = record { owner = client lt; carried = refl; is = refl }
  says a i (writes items values lt group) o = record { owner = client lt; carried = refl; is = writes-are x.number items values group.some }
  says a i (read n lt) o = record { owner = client lt; carried = refl; is = refl }
  says a i (move_to j lt) o = record { owner = client lt; carried = refl; is = refl }
  says a i (attach j lt) o = record { owner = client lt; carried = refl; is = ap (act.Attach x.number) (attached-at j lt o) }
  says a i (close j e) o = record { owner = operator e; carried = carries-none (act.Close j) e o; is = ap act.Close (site-at j name o.placed) }
  says a i (fall j e) o = record { owner = operator e; carried = carries-none (act.Fall j) e o; is = ap act.Fall (site-at j name o.placed) }

-- ---- each thing more

owned-one : (o : Option Session) (s : Session) (m n : Noted) → o ≡ Some s → m ≡ n → owned_by o m ++ [] ≡ (s, n) ∷ []
owned-one o s m n e w = λ i. owned_by (e i) (w i) ++ []

module _ (d : Deployed) (x : StoreSeen) (same : Side d x) where
  after-asked : (n k : ℕ) (old new : SiteHost) (before after : SessionSeen) (a : Act) (i : ActSeen) (r : Answer) → slice_get x.sites n ≡ Some old → slice_get x.sessions k ≡ Some before → IsAsked d before a i →
      AtNode a i of_site (Ok r) old.node new.node before after → IsSession d after → SameNotes (nodes_side (set x.sites n new) x.serials) (session_notes d (set x.sessions k after))
  after-asked n k old new before after a i r there here ask did is =
      let number : ℕ = max old.node.number before.lamport + 1 in
      let s : Session = session_at d before.number in
      let m : Noted = note number (Some old.node.name) before.client.carried a r in
      let line : Line ActSeen SiteAnswer = entry number i did.entered.0 in
      let w : (ks : List Kept) × IsNote d s ks m = note-is d before after m is did.notes.same did.notes.noted in
      let t : Says d before old.node.name a i = says d before old.node.name number r w.0 a i ask w.1 in
      let noted : site_note old.node.name line ≡ m = λ j. record { lamport = number; at = Some old.node.name; carried = t.carried j; entry = record { act = t.is j; answer = did.entered.1 j; inner = false } } in
      let more : List Owned = (s, m) ∷ [] in
      let node : site_side new ≡ site_side old ++ more =
      site-took old new (line ∷ []) (record { name = did.name; entries = did.entered.2 }) ∙ ap (λ (os : List Owned). site_side old ++ os) (owned-one (owner_of i.by i.input) s (site_note old.node.name line) m t.owner noted) in
      both-grow more (nodes_side x.sites x.serials) (nodes_side (set x.sites n new) x.serials) (session_notes d x.sessions) (session_notes d (set x.sessions k after))
      (first-grows more (flat_map site_side x.sites) (flat_map site_side (set x.sites n new)) (flat_map serial_side x.serials) (all-grow site_side x.sites n old new more there node))
      (all-grow (notes_of d) x.sessions k before after more here (session-took d before after m did.notes.same did.notes.noted)) same

  after-killed : (n k : ℕ) (old new : SerialHost) (before after : SessionSeen) (e z : ℕ) (r : Answer) → slice_get x.serials n ≡ Some old → slice_get x.sessions k ≡ Some before → before.number ≡ length d.clients →
      AtNode (act.Kill e z) serial.Kill of_serial (Ok r) old.node new.node before after → IsSession d after → SameNotes (nodes_side x.sites (set x.serials n new)) (session_notes d (set x.sessions k after))
  after-killed n k old new before after e z r there here last did is =
      let number : ℕ = max old.node.number before.lamport + 1 in
      let s : Session = session_at d before.number in
      let m : Noted = note number (Some old.node.name) before.client.carried (act.Kill e z) r in
      let line : Line SerialAct SerialAnswer = entry number serial.Kill did.entered.0 in
      let w : (ks : List Kept) × IsNote d s ks m = note-is d before after m is did.notes.same did.notes.noted in
      let none : nothing_carried ≡ before.client.carried = carries-none d before old.node.name number r w.0 (act.Kill e z) last w.1 in
      let kills : act.Kill (epoch_in old.node.name) (serial_in old.node.name) ≡ act.Kill e z = kill-at e z old.node.name w.1.placed in
      let noted : serial_note old.node.name line ≡ m = λ j. record { lamport = number; at = Some old.node.name; carried = none j; entry = record { act = kills j; answer = did.entered.1 j; inner = false } } in
      let more : List Owned = (s, m) ∷ [] in
      let node : serial_side new ≡ serial_side old ++ more =
      serial-took old new (line ∷ []) (record { name = did.name; entries = did.entered.2 }) ∙ ap (λ (os : List Owned). serial_side old ++ os) (owned-one (Some Operator) s (serial_note old.node.name line) m (operator d before old.node.name number r w.0 last) noted) in
      both-grow more (nodes_side x.sites x.serials) (nodes_side x.sites (set x.serials n new)) (session_notes d x.sessions) (session_notes d (set x.sessions k after))
      (second-grows more (flat_map serial_side x.serials) (flat_map serial_side (set x.serials n new)) (flat_map site_side x.sites) (all-grow serial_side x.serials n old new more there node))
      (all-grow (notes_of d) x.sessions k before after more here (session-took d before after m did.notes.same did.notes.noted)) same

  after-alone : (k : ℕ) (before after : SessionSeen) (a : Act) (r : Answer) → slice_get x.sessions k ≡ Some before → AtNone a (Ok r) before after → SameNotes (nodes_side x.sites x.serials) (session_notes d (set x.sessions k after))
  after-alone k before after a r here did =
      both-grow [] (nodes_side x.sites x.serials) (nodes_side x.sites x.serials) (session_notes d x.sessions) (session_notes d (set x.sessions k after)) (none-more (nodes_side x.sites x.serials))
      (all-grow (notes_of d) x.sessions k before after [] here (session-took d before after (note (before.lamport + 1) None before.client.carried a r) did.notes.same did.notes.noted)) same

  after-site : (n : ℕ) (old new : SiteHost) (more : List (Line ActSeen SiteAnswer)) → slice_get x.sites n ≡ Some old → Took more old new → Each more (λ _ k. IsSites k) → SameNotes (nodes_side (set x.sites n new) x.serials) (session_notes d x.sessions)
  after-site n old new more there took none =
      both-grow [] (nodes_side x.sites x.serials) (nodes_side (set x.sites n new) x.serials) (session_notes d x.sessions) (session_notes d x.sessions)
      (first-grows [] (flat_map site_side x.sites) (flat_map site_side (set x.sites n new)) (flat_map serial_side x.serials)
      (all-grow site_side x.sites n old new [] there (site-took old new more took ∙ ap (λ (os : List Owned). site_side old ++ os) (no-sites old.node.name more none))))
      (none-more (session_notes d x.sessions)) same

  after-serial : (n : ℕ) (old new : SerialHost) (more : List (Line SerialAct SerialAnswer)) → slice_get x.serials n ≡ Some old → Took more old new → Each more (λ _ k. IsHop k) → SameNotes (nodes_side x.sites (set x.serials n new)) (session_notes d x.sessions)
  after-serial n old new more there took none =
      both-grow [] (nodes_side x.sites x.serials) (nodes_side x.sites (set x.serials n new)) (session_notes d x.sessions) (session_notes d x.sessions)
      (second-grows [] (flat_map serial_side x.serials) (flat_map serial_side (set x.serials n new)) (flat_map site_side x.sites)
      (all-grow serial_side x.serials n old new [] there (serial-took old new more took ∙ ap (λ (os : List Owned). serial_side old ++ os) (no-hops old.node.name more none))))
      (none-more (session_notes d x.sessions)) same

  pub step : (y : StoreSeen) → Goes d x y → Side d y
  step y (asked n k old new before after a i r there here ask did is) = after-asked n k old new before after a i r there here ask did is
  step y (killed n k old new before after e z r there here last did is) = after-killed n k old new before after e z r there here last did is
  step y (alone k before after a r here did) = after-alone k before after a r here did
  step y (at_site n old new more there took none) = after-site n old new more there took none
  step y (at_serial n old new more there took none) = after-serial n old new more there took none

-- ---- from the beginning

nothing-in : {X : Type 0} (f : X → List Owned) (xs : List X) → Each xs (λ _ x. f x ≡ []) → (y : Owned) → In (flat_map f xs) y → ⊥
nothing-in {X} f xs none y i =
    let w : (x : X) × In xs x × In (f x) y = in-flat f xs y i in
    let v : (n : ℕ) × (slice_get xs n ≡ Some w.0) = In-place xs w.0 w.1 in
    subst (λ (ys : List Owned). In ys y) (none v.0 w.0 v.1) w.2

nothing-noted : (d : Deployed) (x : StoreSeen) → Begins x → Side d x
nothing-noted d x b s n = (
  λ i. absurd (elim (In-parts (flat_map site_side x.sites) (flat_map serial_side x.serials) (s, n) i) [
    | inl j ↦ nothing-in site_side x.sites (λ k h at. ap (site_notes h.node.name) (b.sites k h at)) (s, n) j
    | inr j ↦ nothing-in serial_side x.serials (λ k h at. ap (serial_notes h.node.name) (b.serials k h at)) (s, n) j
  ]),
  λ i. absurd (nothing-in (notes_of d) x.sessions (λ k y at. ap (own_notes (session_at d y.number)) (b.sessions k y at)) (s, n) i),
)

always : (d : Deployed) (x : StoreSeen) → HasGone d x → Side d x
always d x (begins y b) = nothing-noted d y b
always d x (goes w y gone more) = step d w (always d w gone) y more

pub stores_note : StoresNote
stores_note d x gone = subst (λ (os : List Owned). SameNotes os (session_notes d x.sessions)) (sym (nodes-are x.sites x.serials)) (always d x gone)
