-- A session that notes one thing more keeps what every session keeps.
use Rattle.std.proofs.Common.{◌≡◌, ◌<◌, ◌≤◌, ◌+◌, ◌==◌, ◌&&◌, ℕ, Bool, true, false, nat_lt, nat_le, List, [], ◌∷◌, ◌++◌, length, Option, Some, None, if◌then◌else◌, refl, sym, ap, ◌∙◌, subst, arith, inl, inr}
use Rattle.std.proofs.lemmas.Bool.{and_from, and_parts, false_from_ne_true}
use Rattle.sat_label.proofs.Truth.{same-number}
use Rattle.sat_label.proofs.Orders.{point_lt-trans, point_le-self, point_le_lt-absurd}
use Rattle.sat_label.specs.declared.carried.Carried.{Carried}
use Rattle.sat_label.specs.declared.label.Kind.{Kind}
use Rattle.sat_label.specs.declared.label.Kind.TheVariants as kind
use Rattle.sat_label.specs.declared.label.Label.{Label}
use Rattle.sat_label.specs.declared.node.NodeName.{NodeName}
use Rattle.sat_label.specs.declared.point.Point.{Point}
use Rattle.sat_label.specs.Order.{greater_point, point_lt}
use Rattle.sat_laws.proofs.Labels.{some_is}
use Rattle.sat_laws.proofs.Runs.{entry}
use Rattle.sat_act.specs.declared.act.Act.{Act}
use Rattle.sat_act.specs.declared.act.Act.TheVariants as act
use Rattle.sat_act.specs.declared.answer.Answer.{Answer}
use Rattle.sat_act.specs.declared.answer.Answer.TheVariants as ans
use Rattle.sat_act.specs.declared.entry.Entry.{Entry}
use Rattle.sat_act.specs.Deployed.{Deployed}
use Rattle.sat_act.specs.Done.{is_of, of_client}
use Rattle.sat_act.specs.Parts.{seat, carried, moving}
use Rattle.sat_act.specs.Histories.{latest, highest}
use Rattle.sat_act.specs.Answers.{InRange}
use Rattle.sat_client.specs.declared.client.Client.{Client}
use Rattle.sat_client.specs.Clients.{is_move, destination}
use Rattle.sat_model.specs.Fits.{is_point, is_site, is_goal, is_carried}
use Rattle.sat_model.specs.Replay.{carrying}
use Rattle.sat_model.specs.World.{point_next, moving_next, seat_next}
use Rattle.sat_stitch.specs.Kept.{Given, Nothing, OfClient, Kept, history}
use Rattle.sat_stitch.specs.Places.{Place, places, Session, Client as Owner, Operator, session_by, session_of, is_operators}
use Rattle.sat_stitch.specs.Nodes.{IsSessionAnswer}
use Rattle.sat_session.specs.declared.noted.Noted.{Noted}
use Rattle.sat_session.specs.Notes.{SessionSeen, session_at, nothing_carried}
use Rattle.sat_session.specs.Sessions.{note_given, note_kept, kept_behind, kept_notes, client_after, note_places, IsNote, NotesFrom, NotesRise, last_note, IsSession}
use Rattle.sat_session.specs.Calls.{note, told}
use Rattle.sat_session.proofs.Written.{write-operator}
use Rattle.sat_session.specs.Replies.{IsReply, refuses, wrote, read_none, read_some, moved, left, attached, closed, fallen, killed, MayMove, given_of}

-- ---- lists of notes with one more

module _ (d : Deployed) (s : Session) where
  pub kept-more : (ks : List Kept) (ns : List Noted) (n : Noted) → kept_behind d s ks (ns ++ n ∷ []) ≡ note_kept d s (kept_behind d s ks ns) n ∷ kept_behind d s ks ns
  kept-more ks [] n = refl
  kept-more ks (m ∷ ns) n = kept-more (note_kept d s ks m ∷ ks) ns n

  notes-more : (ks : List Kept) (ns : List Noted) (n : Noted) → NotesFrom d s ks ns → IsNote d s (kept_behind d s ks ns) n → NotesFrom d s ks (ns ++ n ∷ [])
  notes-more ks [] n a is = (is, tt)
  notes-more ks (m ∷ ns) n a is = (a.0, notes-more (note_kept d s ks m ∷ ks) ns n a.1 is)

rise-more : (m : ℕ) (ns : List Noted) (n : Noted) → NotesRise m ns → last_note m ns < n.lamport → NotesRise m (ns ++ n ∷ [])
rise-more m [] n r lt = (lt, tt)
rise-more m (x ∷ ns) n r lt = (r.0, rise-more x.lamport ns n r.1 lt)

last-more : (m : ℕ) (ns : List Noted) (n : Noted) → last_note m (ns ++ n ∷ []) ≡ n.lamport
last-more m [] n = refl
last-more m (x ∷ ns) n = last-more x.lamport ns n

-- ---- what an entry makes of a client

if-so : {X : Type 0} (b : Bool) (x y : X) → b ≡ true → (if b then x else y) ≡ x
if-so true x y e = refl
if-so false x y e = absurd (cc)

if-not : {X : Type 0} (b : Bool) (x y : X) → b ≡ false → (if b then x else y) ≡ y
if-not true x y e = absurd (cc)
if-not false x y e = refl

-- of two points the greater is the one above
above-stays : (p q : Point) → point_lt q p ≡ true → greater_point p q ≡ p
above-stays p q e = if-not (point_lt p q) q p (false_from_ne_true (point_lt p q) (λ t. point_le_lt-absurd q q (point_le-self q) (point_lt-trans q p q e t)))

-- what a client carries and where it sits, after a history
abbrev client_at : Deployed → List Entry → ℕ → Client
client_at d h c = record { carried = carrying h c; seat = seat d h c }

-- and what an act and its answer make of it
abbrev client_then : ℕ → Client → Act → Answer → Client
client_then c x a r = record { carried = record { point = point_next c x.carried.point a r; moving = moving_next c x.carried.moving a r }; seat = seat_next c x.seat a r }

latest-picks : {X : Type 0} (b : Bool) (y old : X) → (if b then y else old) ≡ elim (if b then Some y else None) [ None ↦ old | Some z ↦ z ]
latest-picks true y old = refl
latest-picks false y old = refl

greater-picks : (b : Bool) (q p : Point) → (if b then greater_point q p else p) ≡ elim (if b then Some q else None) [ None ↦ p | Some y ↦ greater_point y p ]
greater-picks true q p = refl
greater-picks false q p = refl

abbrev moved_to : Bool → Kind → Option (Option ℕ)
moved_to b k = if b then elim k [ kind.Move j ↦ Some (Some j) | _ ↦ None ] else None

move-picks : (b : Bool) (k : Kind) (o : Option ℕ) → (if b then elim k [ kind.Move j ↦ Some j | _ ↦ o ] else o) ≡ elim (moved_to b k) [ None ↦ o | Some y ↦ y ]
move-picks true (kind.Move j) o = refl
move-picks true _ o = refl
move-picks false k o = refl

point-agrees : (h : List Entry) (a : Act) (r : Answer) (c : ℕ) → point_next c (carried h c) a r ≡ carried (entry a r false ∷ h) c
unfolding carried
point-agrees h a (ans.Wrote l) c = greater-picks (is_of a c) l.point (carried h c)
point-agrees h a (ans.ReadSome l v) c = greater-picks (is_of a c) l.point (carried h c)
point-agrees h a (ans.Moved l) c = greater-picks (is_of a c) l.point (carried h c)
point-agrees h a _ c = refl

moving-agrees : (h : List Entry) (a : Act) (r : Answer) (c : ℕ) → moving_next c (moving h c) a r ≡ moving (entry a r false ∷ h) c
unfolding moving
moving-agrees h a ans.Attached c = latest-picks (is_of a c) None (moving h c)
moving-agrees h a (ans.Left p) c = latest-picks (is_of a c) None (moving h c)
moving-agrees h a (ans.Moved l) c = move-picks (is_of a c) l.kind (moving h c)
moving-agrees h a _ c = refl

seat-agrees : (d : Deployed) (h : List Entry) (a : Act) (r : Answer) (c : ℕ) → seat_next c (seat d h c) a r ≡ seat d (entry a r false ∷ h) c
unfolding seat
seat-agrees d h (act.Attach b j) ans.Attached c = latest-picks (b == c) (Some j) (seat d h c)
seat-agrees d h a (ans.Moved l) c = latest-picks (is_of a c) None (seat d h c)
seat-agrees d h a (ans.Left p) c = latest-picks (is_of a c) None (seat d h c)
seat-agrees d h _ _ c = refl

client-agrees : (d : Deployed) (h : List Entry) (a : Act) (r : Answer) (c : ℕ) → client_then c (client_at d h c) a r ≡ client_at d (entry a r false ∷ h) c
client-agrees d h a r c = λ i. record { carried = record { point = point-agrees h a r c i; moving = moving-agrees h a r c i }; seat = seat-agrees d h a r c i }

-- an act of this client
of-self : (a : Act) (c : ℕ) → of_client a ≡ Some c → is_of a c ≡ true
of-self a c e = ap (λ (o : Option ℕ). elim o [ None ↦ false | Some b ↦ b == c ]) e ∙ same-number c

told-then : (d : Deployed) (c : ℕ) (x : Client) (a : Act) (r : Answer) → IsReply d x.carried a r → of_client a ≡ Some c → told a r x ≡ client_then c x a r
told-then d c x a r (refuses b y p) e = refl
told-then d c x a r (wrote b v l is p) e =
    let w : is_of b c ≡ true = of-self b c e in
    λ i. record { carried = record { point = sym (if-so (is_of b c) (greater_point l.point x.carried.point) x.carried.point w) i; moving = x.carried.moving }; seat = x.seat }
told-then d c x a r (read_none b n) e = refl
told-then d c x a r (read_some b n l value p) e =
    let w : is_of (act.Read b n) c ≡ true = of-self (act.Read b n) c e in
    λ i. record { carried = record { point = sym (if-so (is_of (act.Read b n) c) (greater_point l.point x.carried.point) x.carried.point w) i; moving = x.carried.moving }; seat = x.seat }
told-then d c x a r (moved b j l p q kind_is above) e =
    let w : is_of (act.Move b j) c ≡ true = of-self (act.Move b j) c e in
    let point : l.point ≡ (if is_of (act.Move b j) c then greater_point l.point x.carried.point else x.carried.point) =
    sym (if-so (is_of (act.Move b j) c) (greater_point l.point x.carried.point) x.carried.point w ∙ above-stays l.point x.carried.point above) in
    let goal : destination l.kind ≡ (if is_of (act.Move b j) c then elim l.kind [ kind.Move j ↦ Some j | _ ↦ x.carried.moving ] else x.carried.moving) =
    ap destination kind_is ∙ sym (if-so (is_of (act.Move b j) c) (elim l.kind [ kind.Move j ↦ Some j | _ ↦ x.carried.moving ]) x.carried.moving w ∙ ap (λ (k : Kind). elim k [ kind.Move j ↦ Some j | _ ↦ x.carried.moving ]) kind_is) in
    λ i. record { carried = record { point = point i; moving = goal i }; seat = sym (if-so (is_of (act.Move b j) c) None x.seat w) i }
told-then d c x a r (left b p) e =
    let w : is_of (act.Leave b) c ≡ true = of-self (act.Leave b) c e in
    λ i. record { carried = record { point = x.carried.point; moving = sym (if-so (is_of (act.Leave b) c) None x.carried.moving w) i }; seat = sym (if-so (is_of (act.Leave b) c) None x.seat w) i }
told-then d c x a r (attached b j q) e =
    let w : is_of (act.Attach b j) c ≡ true = of-self (act.Attach b j) c e in
    λ i. record { carried = record { point = x.carried.point; moving = sym (if-so (is_of (act.Attach b j) c) None x.carried.moving w) i }; seat = sym (if-so (b == c) (Some j) x.seat w) i }
told-then d c x a r (closed i f p) e = absurd (cc)
told-then d c x a r (fallen j) e = absurd (cc)
told-then d c x a r (killed f z) e = absurd (cc)

-- an act of the operator changes no client
told-operator : (d : Deployed) (x : Client) (a : Act) (r : Answer) → IsReply d x.carried a r → session_of a ≡ Some Operator → told a r x ≡ x
told-operator d x a r (refuses b y p) e = refl
told-operator d x a r (wrote b v l is p) e = absurd (write-operator b v is e)
told-operator d x a r (read_none b n) e = absurd (cc)
told-operator d x a r (read_some b n l value p) e = absurd (cc)
told-operator d x a r (moved b j l p q k u) e = absurd (cc)
told-operator d x a r (left b p) e = absurd (cc)
told-operator d x a r (attached b j q) e = absurd (cc)
told-operator d x a r (closed i f p) e = refl
told-operator d x a r (fallen j) e = refl
told-operator d x a r (killed f z) e = refl

of-owner : (o : Option ℕ) (b : Bool) (c : ℕ) → session_by o b ≡ Some (Owner c) → o ≡ Some c
of-owner (Some x) b c e = cc
of-owner None true c e = absurd (cc)
of-owner None false c e = absurd (cc)

told-after : (d : Deployed) (s : Session) (ks : List Kept) (x : Client) (number : ℕ) (given : Given) (a : Act) (r : Answer) → x ≡ client_after d s ks → session_of a ≡ Some s → IsReply d x.carried a r →
    told a r x ≡ client_after d s (record { number = number; act = a; given = given; answer = r } ∷ ks)
told-after d (Owner c) ks x number given a r e own reply =
    told-then d c x a r reply (of-owner (of_client a) (is_operators a) c own) ∙ (ap (λ (y : Client). client_then c y a r) e ∙ client-agrees d (history ks) a r c)
told-after d Operator ks x number given a r e own reply = told-operator d x a r reply own ∙ e

-- ---- its point, its goal and its seat are of the deployment

module _ (d : Deployed) where
  greater-is : (p q : Point) → is_point d p ≡ true → is_point d q ≡ true → is_point d (greater_point p q) ≡ true
  greater-is p q a b = go (point_lt p q)
    where
      go : (t : Bool) → is_point d (if t then q else p) ≡ true
      go true = b
      go false = a

  seen-more : (l : Label) (seen : Carried) → is_point d l.point ≡ true → is_carried d seen ≡ true → is_carried d (record { point = greater_point l.point seen.point; moving = seen.moving }) ≡ true
  seen-more l seen p e =
      let w = and_parts (is_point d seen.point) (is_goal d seen.moving) e in
      and_from (is_point d (greater_point l.point seen.point)) (is_goal d seen.moving) (greater-is l.point seen.point p w.0) w.1

  seen-still : (seen : Carried) → is_carried d seen ≡ true → is_carried d (record { point = seen.point; moving = None }) ≡ true
  seen-still seen e = and_from (is_point d seen.point) true (and_parts (is_point d seen.point) (is_goal d seen.moving) e).0 refl

  reply-carries : (x : Client) (a : Act) (r : Answer) → IsReply d x.carried a r → is_carried d x.carried ≡ true → is_carried d (told a r x).carried ≡ true
  reply-carries x a r (refuses b y p) e = e
  reply-carries x a r (wrote b v l is p) e = seen-more l x.carried p e
  reply-carries x a r (read_none b n) e = e
  reply-carries x a r (read_some b n l value p) e = seen-more l x.carried p e
  reply-carries x a r (moved b j l p q k u) e = and_from (is_point d l.point) (is_goal d (destination l.kind)) p (ap (λ (k : Kind). is_goal d (destination k)) k ∙ q)
  reply-carries x a r (left b p) e = seen-still x.carried e
  reply-carries x a r (attached b j q) e = seen-still x.carried e
  reply-carries x a r (closed i f p) e = e
  reply-carries x a r (fallen j) e = e
  reply-carries x a r (killed f z) e = e

  reply-sits : (x : Client) (a : Act) (r : Answer) → IsReply d x.carried a r → is_goal d x.seat ≡ true → is_goal d (told a r x).seat ≡ true
  reply-sits x a r (refuses b y p) e = e
  reply-sits x a r (wrote b v l is p) e = e
  reply-sits x a r (read_none b n) e = e
  reply-sits x a r (read_some b n l value p) e = e
  reply-sits x a r (moved b j l p q k u) e = refl
  reply-sits x a r (left b p) e = refl
  reply-sits x a r (attached b j q) e = q
  reply-sits x a r (closed i f p) e = e
  reply-sits x a r (fallen j) e = e
  reply-sits x a r (killed f z) e = e

  pub may-move : (x : Client) (a : Act) (r : Answer) → IsReply d x.carried a r → MayMove r x
  may-move x a r (refuses b y p) = λ l e. absurd (cc)
  may-move x a r (wrote b v l is p) = λ m e. absurd (cc)
  may-move x a r (read_none b n) = λ l e. absurd (cc)
  may-move x a r (read_some b n l value p) = λ m e. absurd (cc)
  may-move x a r (moved b j m p q kind_is above) = λ l e.
      let f : m ≡ l = cc in
      (subst (λ (l : Label). is_move l.kind ≡ true) f (ap is_move kind_is), subst (λ (l : Label). point_lt x.carried.point l.point ≡ true) f above)
  may-move x a r (left b p) = λ l e. absurd (cc)
  may-move x a r (attached b j q) = λ l e. absurd (cc)
  may-move x a r (closed i f p) = λ l e. absurd (cc)
  may-move x a r (fallen j) = λ l e. absurd (cc)
  may-move x a r (killed f z) = λ l e. absurd (cc)

-- ---- the session

note-given-is : (d : Deployed) (s : Session) (ks : List Kept) (x : Client) (n : Noted) → x ≡ client_after d s ks → n.carried ≡ x.carried → note_given d s ks n ≡ given_of s x
note-given-is d (Owner c) ks x n e w = λ i. OfClient (w i) (sym (ap (λ (y : Client). y.seat) e) i)
note-given-is d Operator ks x n e w = refl

is-note : (d : Deployed) (s : Session) (ks : List Kept) (x : Client) (number : ℕ) (place : Option NodeName) (a : Act) (r : Answer) → x ≡ client_after d s ks → session_of a ≡ Some s → places a (given_of s x) ≡ note_places s place →
    (place ≡ None → InRange d a) → (place ≡ None → IsSessionAnswer a (given_of s x) r) → IsNote d s ks (note number place x.carried a r)
is-note d s ks x number place a r e own placed range answer =
    let same : note_given d s ks (note number place x.carried a r) ≡ given_of s x = note-given-is d s ks x (note number place x.carried a r) e refl in
    record {
      own = own;
      outer = refl;
      knew = ap (λ (y : Client). y.carried) e;
      placed = ap (places a) same ∙ placed;
      ranges = range;
      answers = λ w. subst (λ (g : Given). IsSessionAnswer a g r) (sym same) (answer w);
    }

-- what a session is after it noted this
abbrev pub session_then : ℕ → Option NodeName → Act → Answer → SessionSeen → SessionSeen
session_then number place a r x = record { number = x.number; client = told a r x.client; lamport = number; noted = x.noted ++ note number place x.client.carried a r ∷ [] }

pub session-more : (d : Deployed) (x : SessionSeen) (number : ℕ) (place : Option NodeName) (a : Act) (r : Answer) → IsSession d x → x.lamport < number → session_of a ≡ Some (session_at d x.number) →
    places a (given_of (session_at d x.number) x.client) ≡ note_places (session_at d x.number) place → (place ≡ None → InRange d a) → (place ≡ None → IsSessionAnswer a (given_of (session_at d x.number) x.client) r) →
    IsReply d x.client.carried a r → IsSession d (session_then number place a r x)
session-more d x number place a r is lt own placed range answer reply =
    let s : Session = session_at d x.number in
    let ks : List Kept = kept_notes d (session_at d x.number) x.noted in
    let n : Noted = note number place x.client.carried a r in
    record {
      limit = is.limit;
      rises = rise-more 0 x.noted n is.rises (subst (λ (m : ℕ). m < number) is.last lt);
      last = sym (last-more 0 x.noted n);
      notes = notes-more d s [] x.noted n is.notes (is-note d s ks x.client number place a r is.made own placed range answer);
      made = told-after d s ks x.client number (note_given d s ks n) a r is.made own reply ∙ ap (client_after d s) (sym (kept-more d s [] x.noted n));
      carries = reply-carries d x.client a r reply is.carries;
      sits = reply-sits d x.client a r reply is.sits;
    }
