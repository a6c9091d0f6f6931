-- The paths of clients are at their seats.
use Rattle.std.proofs.Common.{◌≡◌, ◌⊎◌, ◌<◌, ℕ, zero, suc, ◌==◌, Bool, true, false, List, [], ◌∷◌, ◌++◌, length, map, refl, sym, ap, subst, ◌∙◌, inl, inr, arith}
use Rattle.std.specs.Prelude.{◌||◌, ◌&&◌, ◌-◌, nat_lt, Option, Some, None, if◌then◌else◌}
use Rattle.std.specs.List.{list_any}
use Rattle.std.proofs.lemmas.Bool.{or_parts, eqb-true}
use Rattle.std.proofs.lemmas.List.{append-nil, append_assoc}
use Rattle.std.proofs.lemmas.Bool.Decides.{nat_tests}
use Rattle.sat_label.specs.declared.label.Label.{Label}
use Rattle.sat_label.specs.declared.label.Kind.{Kind}
use Rattle.sat_label.specs.declared.label.Kind.TheVariants as kind
use Rattle.sat_label.specs.declared.node.NodeId.{NodeId}
use Rattle.sat_label.specs.declared.node.NodeId.TheVariants.{Site, Serializer}
use Rattle.sat_label.specs.Order.{kind_rank}
use Rattle.sat_label.specs.Members.{In}
use Rattle.sat_label.specs.Words.{has}
use Rattle.sat_label.proofs.Members.{In-left, In-right}
use Rattle.sat_act.specs.declared.act.Act.{Act}
use Rattle.sat_act.specs.declared.act.Act.TheVariants as act
use Rattle.sat_act.specs.declared.answer.Answer.{Answer}
use Rattle.sat_act.specs.declared.answer.Answer.TheVariants as ans
use Rattle.sat_act.specs.declared.answer.Refusal.{Refusal}
use Rattle.sat_act.specs.declared.entry.Entry.{Entry}
use Rattle.sat_act.specs.Deployed.{Deployed}
use Rattle.sat_act.specs.Done.{of_client}
use Rattle.sat_act.specs.Histories.{latest}
use Rattle.sat_act.specs.Parts.{home, seat}
use Rattle.sat_draw.specs.declared.element.Ink.{Ink}
use Rattle.sat_draw.specs.declared.element.Ink.TheVariants as ink
use Rattle.sat_draw.specs.declared.element.Spot.{Spot}
use Rattle.sat_draw.specs.declared.element.Element.{Element}
use Rattle.sat_draw.specs.declared.element.Element.TheVariants.{Rest}
use Rattle.sat_draw.specs.declared.trail.Trail.{Trail}
use Rattle.sat_draw.specs.declared.trail.Coming.{Coming}
use Rattle.sat_draw.specs.declared.trail.TheConstants.{SEATED, AWAY, CLIENT_RANK}
use Rattle.sat_draw.specs.declared.geometry.TheConstants.{ABOVE}
use Rattle.sat_draw.specs.Columns.{act_column, seat_column, site_column, column_x, rows_top, row_y}
use Rattle.sat_draw.specs.Trails.{trail_eq, client_at, client_trail, client_coming, comes, attaching, is_not_yet, waiting, beat_left, hopped_from, shown_from, took_from, taken_from, toward, left_by, comes_from, reseated, after_change}
use Rattle.sat_draw.specs.Rows.{spot_at, spot_of, last_spot, top_of, first_spot, or_else, begin, marks, ways}
use Rattle.sat_draw.specs.Lost.{lost_spot, crosses}
use Rattle.sat_draw.specs.Rests.{rest, client_rest, client_rests, site_rests, rests}
use Rattle.sat_draw.specs.Head.{head}
use Rattle.sat_draw.specs.Drawing.{lines, elements}
use Rattle.sat_draw.specs.Laws.{IsLeft, IsFirst, Begins, IsWay}
use Rattle.sat_draw.specs.Seats.{IsOfRun, Sits, SitsSince, SitsFirst, IsPath, IsAtSeat, IsAtLastSeat, HasLastSeat, PathsAreAtSeats}
use Rattle.sat_draw.proofs.Arrowed.{IsStaying, begins-at, never-left, in-all, stays-in}
use Rattle.sat_draw.proofs.Following.{seat-step}
use Rattle.sat_draw.proofs.BySeats.{is_attach, at_a_seat, without_one, GoesBySeats, some-number, goes_by_seats}

-- ---- what a step leaves of a seat

same : (n : ℕ) → (n == n) ≡ true
same n = grind (arith, nat_tests)

-- who is freed sits nowhere
freed-none : (q : Option ℕ) (c i : ℕ) (o : Option ℕ) → after_change (elim q [ None ↦ None | Some b ↦ Some (b, None) ]) o c ≡ Some i → o ≡ Some i
freed-none None c i o e = e
freed-none (Some b) c i o e = go (b == c) e
  where
    go : (t : Bool) → (if t then None else o) ≡ Some i → o ≡ Some i
    go true e = absurd (cc)
    go false e = e

-- and where that client did not leave, nothing changes
freed-other : (q : Option ℕ) (c : ℕ) (o : Option ℕ) → has trail_eq (client_trail AWAY q) (client_at AWAY c) ≡ false → after_change (elim q [ None ↦ None | Some b ↦ Some (b, None) ]) o c ≡ None → o ≡ None
freed-other None c o out e = e
freed-other (Some b) c o out e = go (b == c) out e
  where
    go : (t : Bool) → ((t && true) || false) ≡ false → (if t then None else o) ≡ None → o ≡ None
    go true out e = absurd (cc)
    go false out e = e

seated-attach : (a : Act) (c i : ℕ) (o : Option ℕ) → has trail_eq (left_by a ans.Attached) (client_at SEATED c) ≡ false
    → after_change (reseated a ans.Attached) o c ≡ Some i → o ≡ Some i
unfolding left_by reseated
seated-attach (act.Attach b j) c site o out e = go (b == c) out e
  where
    go : (t : Bool) → ((t && true) || false) ≡ false → (if t then Some j else o) ≡ Some site → o ≡ Some site
    go true out e = absurd (cc)
    go false out e = e
seated-attach a c site o out e = e

still-seated : (a : Act) (r : Answer) (c i : ℕ) (o : Option ℕ) → has trail_eq (left_by a r) (client_at SEATED c) ≡ false
    → after_change (reseated a r) o c ≡ Some i → o ≡ Some i
unfolding left_by reseated
still-seated a (ans.Moved l) c i o out e = freed-none (of_client a) c i o e
still-seated a (ans.Left p) c i o out e = freed-none (of_client a) c i o e
still-seated a ans.Attached c i o out e = seated-attach a c i o out e
still-seated a r c i o out e = e

away-attach : (a : Act) (c : ℕ) (o : Option ℕ) → after_change (reseated a ans.Attached) o c ≡ None → o ≡ None
unfolding reseated
away-attach (act.Attach b j) c o e = go (b == c) e
  where
    go : (t : Bool) → (if t then Some j else o) ≡ None → o ≡ None
    go true e = absurd (cc)
    go false e = e
away-attach a c o e = e

still-away : (a : Act) (r : Answer) (c : ℕ) (o : Option ℕ) → has trail_eq (left_by a r) (client_at AWAY c) ≡ false
    → after_change (reseated a r) o c ≡ None → o ≡ None
unfolding left_by reseated
still-away a (ans.Moved l) c o out e = freed-other (of_client a) c o out e
still-away a (ans.Left p) c o out e = freed-other (of_client a) c o out e
still-away a ans.Attached c o out e = away-attach a c o e
still-away a r c o out e = e

-- ---- so a client sits where it sat since it was seen last

-- each of these entries leaves what is known of a seat
since : (d : Deployed) (c : ℕ) (t : Trail) (x : Option ℕ)
    → ((a : Act) (r : Answer) (o : Option ℕ) → has trail_eq (left_by a r) t ≡ false → after_change (reseated a r) o c ≡ x → o ≡ x)
    → (newer older : List Entry) → list_any (λ e. has trail_eq (left_by e.act e.answer) t) newer ≡ false → seat d (newer ++ older) c ≡ x → seat d older c ≡ x
since d c t x step [] older none e = e
since d c t x step (entry ∷ newer) older none e =
    let parts : (has trail_eq (left_by entry.act entry.answer) t ≡ false) × (list_any (λ e. has trail_eq (left_by e.act e.answer) t) newer ≡ false) = or_parts _ _ none in
    since d c t x step newer older parts.1 (step entry.act entry.answer (seat d (newer ++ older) c) parts.0 (sym (seat-step d (newer ++ older) c entry.inner entry.act entry.answer) ∙ e))

-- a part of such entries are such
fewer : (p : Entry → Bool) (newer older : List Entry) → list_any p (newer ++ older) ≡ false → list_any p newer ≡ false
fewer p [] older none = refl
fewer p (entry ∷ newer) older none = go (p entry) none (fewer p newer older)
  where
    go : (b : Bool) → (b || list_any p (newer ++ older)) ≡ false → (list_any p (newer ++ older) ≡ false → list_any p newer ≡ false) → (b || list_any p newer) ≡ false
    go true none rest = absurd (cc)
    go false none rest = rest none

-- ---- at each moment since

-- what an entry that leaves no such trail does not change
abbrev Keeps : ℕ → Trail → Option ℕ → Type 0
Keeps c t x = (a : Act) (r : Answer) (o : Option ℕ) → has trail_eq (left_by a r) t ≡ false → after_change (reseated a r) o c ≡ x → o ≡ x

since-left : (d : Deployed) (h : List Entry) (c : ℕ) (t : Trail) (x : Option ℕ) (from : Spot) → Keeps c t x → (w : IsLeft d h t from) → seat d h c ≡ x → SitsSince d h c x from
since-left d h c t x from step w sits = record {
  later = w.later;
  start = w.entry;
  first = w.before;
  parts = w.parts;
  from_is = w.there_is;
  stays = λ newer older e.
      since d c t x step newer (older ++ w.entry ∷ w.before)
      (fewer (λ e. has trail_eq (left_by e.act e.answer) t) newer older (ap (λ (k : List Entry). list_any (λ e. has trail_eq (left_by e.act e.answer) t) k) (sym e) ∙ w.last))
      (ap (λ (k : List Entry). seat d k c) (sym (append_assoc newer older (w.entry ∷ w.before)) ∙ (ap (λ (k : List Entry). k ++ w.entry ∷ w.before) (sym e) ∙ sym w.parts)) ∙ sits);
}

since-first : (d : Deployed) (h : List Entry) (c : ℕ) (t : Trail) (x : Option ℕ) (from : Spot) → Keeps c t x → (w : IsFirst d h t from) → first_spot d (client_at SEATED c) ≡ Some from → seat d h c ≡ x → SitsFirst d h c x from
since-first d h c t x from step w at sits = record {
  from_is = at;
  stays = λ newer older e.
      since d c t x step newer older
      (fewer (λ e. has trail_eq (left_by e.act e.answer) t) newer older (ap (λ (k : List Entry). list_any (λ e. has trail_eq (left_by e.act e.answer) t) k) (sym e) ∙ w.never))
      (ap (λ (k : List Entry). seat d k c) (sym e) ∙ sits);
}

-- a trail of a seat may begin at the top, one of a way does not
sits-seated : (d : Deployed) (h : List Entry) (c i : ℕ) (from : Spot) → Begins d h (client_at SEATED c) from → seat d h c ≡ Some i → Sits d h c (Some i) from
sits-seated d h c i from (inl w) sits = inl (since-left d h c (client_at SEATED c) (Some i) from (λ a r o. still-seated a r c i o) w sits)
sits-seated d h c i from (inr w) sits = inr (since-first d h c (client_at SEATED c) (Some i) from (λ a r o. still-seated a r c i o) w w.there_is sits)

no-first : (d : Deployed) (c : ℕ) (from : Spot) → first_spot d (client_at AWAY c) ≡ Some from → ⊥
unfolding first_spot
no-first d c from e = absurd (cc)

sits-away : (d : Deployed) (h : List Entry) (c : ℕ) (from : Spot) → Begins d h (client_at AWAY c) from → seat d h c ≡ None → Sits d h c None from
sits-away d h c from (inl w) sits = inl (since-left d h c (client_at AWAY c) None from (λ a r o. still-away a r c o) w sits)
sits-away d h c from (inr w) sits = absurd (no-first d c from w.there_is)

-- ---- of what client a trail is, and what its act did

trail-of : (q : Option ℕ) (c : ℕ) → has trail_eq (client_trail SEATED q) (client_at SEATED c) ≡ true → q ≡ Some c
trail-of None c e = absurd (cc)
trail-of (Some b) c e = go (b == c) refl e
  where
    go : (t : Bool) → (b == c) ≡ t → ((t && true) || false) ≡ true → Some b ≡ Some c
    go true k e = ap Some (eqb-true b c k)
    go false k e = absurd (cc)

other-stop : (q : Option ℕ) (c : ℕ) → has trail_eq (client_trail AWAY q) (client_at SEATED c) ≡ true → ⊥
other-stop None c e = absurd (cc)
other-stop (Some b) c e = absurd (cc)

no-nodes : (l : Label) (to : List NodeId) (c : ℕ) → has trail_eq (map (toward l) to) (client_at SEATED c) ≡ true → ⊥
no-nodes l [] c e = absurd (cc)
no-nodes l (Site j ∷ to) c e = no-nodes l to c e
no-nodes l (Serializer z ∷ to) c e = no-nodes l to c e

no-beat : (a : Act) (n c : ℕ) → has trail_eq (beat_left a n) (client_at SEATED c) ≡ true → ⊥
no-beat (act.Beat i j) n c e = absurd (cc)
no-beat a n c e = absurd (cc)

-- it was seated here
record Starts (a : Act) (r : Answer) (c : ℕ) : Type 0 where
  client : of_client a ≡ Some c
  does : ((at_a_seat r ≡ true) × ((o : Option ℕ) → after_change (reseated a r) o c ≡ o)) ⊎ (r ≡ ans.Attached)

starts : (a : Act) (r : Answer) (c : ℕ) → has trail_eq (left_by a r) (client_at SEATED c) ≡ true → Starts a r c
unfolding left_by reseated
starts a (ans.Wrote l) c e = record { client = trail-of (of_client a) c e; does = inl (refl, λ o. refl) }
starts a ans.ReadNone c e = record { client = trail-of (of_client a) c e; does = inl (refl, λ o. refl) }
starts a (ans.ReadSome l v) c e = record { client = trail-of (of_client a) c e; does = inl (refl, λ o. refl) }
starts a (ans.Moved l) c e = absurd (other-stop (of_client a) c e)
starts a (ans.Left p) c e = absurd (other-stop (of_client a) c e)
starts a ans.Attached c e = record { client = trail-of (of_client a) c e; does = inr refl }
starts a (ans.Hopped l to) c e = absurd (no-nodes l to c e)
starts a (ans.Beat n) c e = absurd (no-beat a n c e)
starts a (ans.Refused y) c e = absurd (other-stop (waiting a y) c e)
starts a r c e = absurd (cc)

-- the column of what is no attach
own-column : (d : Deployed) (f : ℕ → Option ℕ) (a : Act) (c i : ℕ) → of_client a ≡ Some c → is_attach a ≡ false → f c ≡ Some i → act_column d f a ≡ site_column d i
own-column d f (act.Write b x v) c i of other e = ap (λ (m : ℕ). seat_column d (f m)) (some-number b c of) ∙ ap (seat_column d) e
own-column d f (act.Writes b things values) c i of other e = ap (λ (m : ℕ). seat_column d (f m)) (some-number b c of) ∙ ap (seat_column d) e
own-column d f (act.Read b x) c i of other e = ap (λ (m : ℕ). seat_column d (f m)) (some-number b c of) ∙ ap (seat_column d) e
own-column d f (act.Move b j) c i of other e = ap (λ (m : ℕ). seat_column d (f m)) (some-number b c of) ∙ ap (seat_column d) e
own-column d f (act.Leave b) c i of other e = ap (λ (m : ℕ). seat_column d (f m)) (some-number b c of) ∙ ap (seat_column d) e
own-column d f a c i of other e = absurd (cc)

-- and of one by which a client came to its seat
new-column : (d : Deployed) (f : ℕ → Option ℕ) (a : Act) (c i : ℕ) → of_client a ≡ Some c → after_change (reseated a ans.Attached) (f c) c ≡ Some i → act_column d f a ≡ site_column d i
unfolding reseated
new-column d f (act.Attach b j) c i of e = go (b == c) (ap (λ (m : ℕ). m == c) (some-number b c of) ∙ same c) e
  where
    go : (t : Bool) → t ≡ true → (if t then Some j else f c) ≡ Some i → site_column d j ≡ site_column d i
    go true k e = ap (site_column d) (some-number j i e)
    go false k e = absurd (cc)
new-column d f (act.Write b x v) c i of e = own-column d f (act.Write b x v) c i of refl e
new-column d f (act.Writes b things values) c i of e = own-column d f (act.Writes b things values) c i of refl e
new-column d f (act.Read b x) c i of e = own-column d f (act.Read b x) c i of refl e
new-column d f (act.Move b j) c i of e = own-column d f (act.Move b j) c i of refl e
new-column d f (act.Leave b) c i of e = own-column d f (act.Leave b) c i of refl e
new-column d f a c i of e = absurd (cc)

-- ---- what ends with the ink of a client

-- what a mark comes from is a client's path, of the client that did the act, or no path
data IsEnd (a : Act) (r : Answer) (x : Coming) : Type 0 where
  seat-end : (c : ℕ) → x ≡ comes ink.Seat (client_at SEATED c) → of_client a ≡ Some c → at_a_seat r ≡ true → IsEnd a r x
  away-end : (c : ℕ) → x ≡ comes ink.Away (client_at AWAY c) → of_client a ≡ Some c → without_one r ≡ true → IsEnd a r x
  no-path : (x.trail.rank == CLIENT_RANK) ≡ false → IsEnd a r x

seat-ends : (a : Act) (r : Answer) (x : Coming) (q : Option ℕ) → q ≡ of_client a → at_a_seat r ≡ true → In (client_coming ink.Seat SEATED q) x → IsEnd a r x
seat-ends a r x None is does within = absurd within
seat-ends a r x (Some c) is does (inl e) = seat-end c (sym e) (sym is) does
seat-ends a r x (Some c) is does (inr none) = absurd none

away-ends : (a : Act) (r : Answer) (x : Coming) (q : Option ℕ) → ((c : ℕ) → q ≡ Some c → (of_client a ≡ Some c) × (without_one r ≡ true)) → In (client_coming ink.Away AWAY q) x → IsEnd a r x
away-ends a r x None is within = absurd within
away-ends a r x (Some c) is (inl e) = let found : (of_client a ≡ Some c) × (without_one r ≡ true) = is c refl in away-end c (sym e) found.0 found.1
away-ends a r x (Some c) is (inr none) = absurd none

one-end : (a : Act) (r : Answer) (x y : Coming) → (y.trail.rank == CLIENT_RANK) ≡ false → In (y ∷ []) x → IsEnd a r x
one-end a r x y other (inl e) = no-path (ap (λ (z : Coming). z.trail.rank == CLIENT_RANK) (sym e) ∙ other)
one-end a r x y other (inr none) = absurd none

-- a label has another rank
low-rank : (k : Kind) → (kind_rank k == CLIENT_RANK) ≡ false
low-rank (kind.Update items) = refl
low-rank (kind.Move j) = refl
low-rank kind.Pulse = refl
low-rank (kind.Close n) = refl

hop-end : (a b : Act) (r : Answer) (l : Label) (x : Coming) → In (hopped_from b l) x → IsEnd a r x
hop-end a (act.Hop n (Site i) z) r l x within = one-end a r x _ (low-rank l.kind) within
hop-end a (act.Hop n (Serializer y) z) r l x within = one-end a r x _ (low-rank l.kind) within
hop-end a b r l x within = absurd within

show-end : (a b : Act) (r : Answer) (l : Label) (x : Coming) → In (shown_from b l) x → IsEnd a r x
show-end a (act.Turn j) r l x (inl e) = one-end a r x _ (low-rank l.kind) (inl e)
show-end a (act.Turn j) r l x (inr rest) = one-end a r x _ (low-rank l.kind) rest
show-end a (act.Stamp j) r l x within = one-end a r x _ (low-rank l.kind) within
show-end a b r l x within = absurd within

take-end : (a b : Act) (r : Answer) (l : Label) (x : Coming) → In (took_from b l) x → IsEnd a r x
take-end a (act.Turn j) r l x within = one-end a r x _ (low-rank l.kind) within
take-end a b r l x within = absurd within

beat-end : (a b : Act) (r : Answer) (x : Coming) → In (taken_from b) x → IsEnd a r x
beat-end a (act.BeatIn i j n) r x within = one-end a r x _ refl within
beat-end a b r x within = absurd within

attaching-of : (a : Act) (c : ℕ) → attaching a ≡ Some c → of_client a ≡ Some c
attaching-of (act.Attach b j) c e = e
attaching-of a c e = absurd (cc)

waiting-of : (a : Act) (y : Refusal) (c : ℕ) → waiting a y ≡ Some c → (of_client a ≡ Some c) × (is_not_yet y ≡ true)
waiting-of a y c e = go (is_not_yet y) refl e
  where
    go : (t : Bool) → is_not_yet y ≡ t → (if t then attaching a else None) ≡ Some c → (of_client a ≡ Some c) × (is_not_yet y ≡ true)
    go true k e = (attaching-of a c e, k)
    go false k e = absurd (cc)

end-of : (a : Act) (r : Answer) (x : Coming) → In (comes_from a r) x → IsEnd a r x
unfolding comes_from
end-of a (ans.Wrote l) x within = seat-ends a (ans.Wrote l) x (of_client a) refl refl within
end-of a ans.ReadNone x within = seat-ends a ans.ReadNone x (of_client a) refl refl within
end-of a (ans.ReadSome l v) x within = seat-ends a (ans.ReadSome l v) x (of_client a) refl refl within
end-of a (ans.Moved l) x within = seat-ends a (ans.Moved l) x (of_client a) refl refl within
end-of a (ans.Left p) x within = seat-ends a (ans.Left p) x (of_client a) refl refl within
end-of a ans.Attached x within = away-ends a ans.Attached x (of_client a) (λ c e. (e, refl)) within
end-of a (ans.Refused y) x within = away-ends a (ans.Refused y) x (waiting a y) (λ c e. waiting-of a y c e) within
end-of a (ans.Emitted l) x within = one-end a (ans.Emitted l) x _ (low-rank l.kind) within
end-of a (ans.Hopped l to) x within = hop-end a a (ans.Hopped l to) l x within
end-of a (ans.Shown l) x within = show-end a a (ans.Shown l) l x within
end-of a (ans.Took l) x within = take-end a a (ans.Took l) l x within
end-of a (ans.Brought l) x within = one-end a (ans.Brought l) x _ (low-rank l.kind) within
end-of a ans.Taken x within = beat-end a a ans.Taken x within
end-of a (ans.View v) x within = one-end a (ans.View v) x _ refl within
end-of a (ans.Closed n p) x within = one-end a (ans.Closed n p) x _ refl within
end-of a r x within = absurd within

client-is : (i j : Ink) (s t b c : ℕ) → comes i (client_at s b) ≡ comes j (client_at t c) → (s ≡ t) × (b ≡ c)
client-is i j s t b c e = (ap (λ (x : Coming). x.trail.stop) e, ap (λ (x : Coming). x.trail.ts) e)

-- a solid path ends where its client does something at its seat
ends-seated : (a : Act) (r : Answer) (c : ℕ) → IsEnd a r (comes ink.Seat (client_at SEATED c)) → (of_client a ≡ Some c) × (at_a_seat r ≡ true)
ends-seated a r c (seat-end b e of does) = (of ∙ ap Some (sym (client-is ink.Seat ink.Seat SEATED SEATED c b e).1), does)
ends-seated a r c (away-end b e of does) = let two : SEATED ≡ AWAY = (client-is ink.Seat ink.Away SEATED AWAY c b e).0 in absurd (cc)
ends-seated a r c (no-path other) = absurd (cc)

-- a dashed one where it comes to a seat, or waits for one
ends-away : (a : Act) (r : Answer) (c : ℕ) → IsEnd a r (comes ink.Away (client_at AWAY c)) → (of_client a ≡ Some c) × (without_one r ≡ true)
ends-away a r c (away-end b e of does) = (of ∙ ap Some (sym (client-is ink.Away ink.Away AWAY AWAY c b e).1), does)
ends-away a r c (seat-end b e of does) = let two : AWAY ≡ SEATED = (client-is ink.Away ink.Seat AWAY SEATED c b e).0 in absurd (cc)
ends-away a r c (no-path other) = absurd (cc)

-- ---- where paths begin

-- the mark at which a path begins stands at the seat
start-x : (d : Deployed) (h : List Entry) → GoesBySeats d h → (c i : ℕ) (later : List Entry) (entry : Entry) (before : List Entry) → h ≡ later ++ entry ∷ before
    → has trail_eq (left_by entry.act entry.answer) (client_at SEATED c) ≡ true → seat d (entry ∷ before) c ≡ Some i → (spot_of d before entry).x ≡ column_x (site_column d i)
start-x d h goes c i later entry before parts left sits =
    let is : Starts entry.act entry.answer c = starts entry.act entry.answer c left in
    let after : after_change (reseated entry.act entry.answer) (seat d before c) c ≡ Some i = sym (seat-step d before c entry.inner entry.act entry.answer) ∙ sits in
    ap column_x (elim is.does [
      | inl done ↦ own-column d (seat d before) entry.act c i is.client ((goes.each later entry before parts).seated c is.client done.0).0 (sym (done.1 (seat d before c)) ∙ after)
      | inr new ↦ new-column d (seat d before) entry.act c i is.client (ap (λ (r : Answer). after_change (reseated entry.act r) (seat d before c) c) (sym new) ∙ after)
    ])

-- and so does the place above the first row
seat-first : (d : Deployed) (c : ℕ) → seat d [] c ≡ home d c
unfolding seat latest
seat-first d c = refl

first-is : (d : Deployed) (c : ℕ) → first_spot d (client_at SEATED c) ≡ top_of d (home d c)
unfolding first_spot
first-is d c = refl

top-x : (d : Deployed) (o : Option ℕ) (i : ℕ) (from : Spot) → o ≡ Some i → top_of d o ≡ Some from → from.x ≡ column_x (site_column d i)
top-x d None i from is e = absurd (cc)
top-x d (Some j) i from is e =
    sym (ap (λ (s : Option Spot). elim s [ None ↦ 0 | Some r ↦ r.x ]) e) ∙ ap (λ (k : ℕ). column_x (site_column d k)) (some-number j i is)

-- where a client sits from there on, up to the end of a part of a history
from-x : (d : Deployed) (h : List Entry) → GoesBySeats d h → (c i : ℕ) (newer before : List Entry) (from : Spot) → h ≡ newer ++ before → Begins d before (client_at SEATED c) from → seat d before c ≡ Some i
    → from.x ≡ column_x (site_column d i)
unfolding since-left
from-x d h goes c i newer before from parts (inl w) sits =
    let stays : SitsSince d before c (Some i) from = since-left d before c (client_at SEATED c) (Some i) from (λ a r o. still-seated a r c i o) w sits in
    ap (λ (s : Spot). s.x) w.there_is
    ∙ start-x d h goes c i (newer ++ w.later) w.entry w.before
    (parts ∙ (ap (λ (k : List Entry). newer ++ k) w.parts ∙ sym (append_assoc newer w.later (w.entry ∷ w.before)))) w.left
    (stays.stays w.later [] (sym (append-nil w.later)))
from-x d h goes c i newer before from parts (inr w) sits =
    let stays : SitsFirst d before c (Some i) from = since-first d before c (client_at SEATED c) (Some i) from (λ a r o. still-seated a r c i o) w w.there_is sits in
    top-x d (home d c) i from (sym (seat-first d c) ∙ stays.stays before [] (sym (append-nil before))) (sym (first-is d c) ∙ w.there_is)

-- ---- the law

at-seat : (d : Deployed) (h : List Entry) → GoesBySeats d h → (c : ℕ) (from to : Spot) → IsWay d h ink.Seat (client_at SEATED c) from to → IsAtSeat d h c from to
at-seat d h goes c from to w =
    let ends : (of_client w.entry.act ≡ Some c) × (at_a_seat w.entry.answer ≡ true) = ends-seated w.entry.act w.entry.answer c (end-of w.entry.act w.entry.answer _ w.comes_from_it) in
    let good : (is_attach w.entry.act ≡ false) × ((i : ℕ) × (seat d w.before c ≡ Some i)) = (goes.each w.later w.entry w.before w.parts).seated c ends.0 ends.1 in
    let sits : Sits d w.before c (Some good.1.0) from = sits-seated d w.before c good.1.0 from w.begins good.1.1 in
    record {
      site = good.1.0;
      path = record { later = w.later; entry = w.entry; before = w.before; parts = w.parts; since = sits; to_is = w.ends };
      from_x = from-x d h goes c good.1.0 (w.later ++ w.entry ∷ []) w.before from (w.parts ∙ sym (append_assoc w.later (w.entry ∷ []) w.before)) w.begins good.1.1;
      to_x = ap (λ (s : Spot). s.x) w.ends ∙ ap column_x (own-column d (seat d w.before) w.entry.act c good.1.0 ends.0 good.0 good.1.1);
    }

at-none : (d : Deployed) (h : List Entry) → GoesBySeats d h → (c : ℕ) (from to : Spot) → IsWay d h ink.Away (client_at AWAY c) from to → IsPath d h c None from to
at-none d h goes c from to w =
    let ends : (of_client w.entry.act ≡ Some c) × (without_one w.entry.answer ≡ true) = ends-away w.entry.act w.entry.answer c (end-of w.entry.act w.entry.answer _ w.comes_from_it) in
    record {
      later = w.later;
      entry = w.entry;
      before = w.before;
      parts = w.parts;
      since = sits-away d w.before c from w.begins ((goes.each w.later w.entry w.before w.parts).seatless c ends.0 ends.1);
      to_is = w.ends;
    }

-- to the end
at-last : (d : Deployed) (h : List Entry) → GoesBySeats d h → (c i : ℕ) (from to : Spot) → seat d h c ≡ Some i → begin d (last_spot d h) (client_at SEATED c) ≡ Some from
    → to ≡ spot_at from.x (row_y d (length h)) → IsAtLastSeat d h c from to
at-last d h goes c i from to sits found down =
    let begins : Begins d h (client_at SEATED c) from = begins-at d h (client_at SEATED c) from found in
    let since : Sits d h c (Some i) from = sits-seated d h c i from begins sits in
    let x : from.x ≡ column_x (site_column d i) = from-x d h goes c i [] h from refl begins sits in
    record { site = i; since = since; from_x = x; to_is = down ∙ ap (λ (n : ℕ). spot_at n (row_y d (length h))) x }

to-end : (d : Deployed) (h : List Entry) → GoesBySeats d h → (c : ℕ) (from to : Spot) → IsStaying d h (client_at SEATED c) from to → IsAtLastSeat d h c from to
to-end d h goes c from to (inl of) =
    let is : of.client ≡ c = ap (λ (t : Trail). t.ts) of.stays.trail_is in
    at-last d h goes c of.site from to (ap (seat d h) (sym is) ∙ of.seat_is)
    (ap (λ (n : ℕ). begin d (last_spot d h) (client_at SEATED n)) (sym is) ∙ of.stays.found) of.stays.down
to-end d h goes c from to (inr of) =
    let stop : of.trail.stop ≡ SEATED = ap (λ (t : Trail). t.stop) of.stays.trail_is in
    let yes : (of.trail.stop == SEATED) ≡ true = ap (λ (n : ℕ). n == SEATED) stop in
    let no : true ≡ false = sym yes ∙ of.no_seat in
    absurd (cc)

-- a client that has a seat at the end has such a line
last-found : (d : Deployed) (h : List Entry) (c i : ℕ) → seat d h c ≡ Some i → (from : Spot) × (begin d (last_spot d h) (client_at SEATED c) ≡ Some from)
last-found d h c i sits = go (last_spot d h (client_at SEATED c)) refl
  where
    go : (o : Option Spot) → last_spot d h (client_at SEATED c) ≡ o → (from : Spot) × (or_else o (first_spot d (client_at SEATED c)) ≡ Some from)
    go (Some s) e = (s, refl)
    go None e =
        let none = never-left d h (client_at SEATED c) e in
        let at : seat d [] c ≡ Some i = since d c (client_at SEATED c) (Some i) (λ a r o. still-seated a r c i o) h [] none (ap (λ (k : List Entry). seat d k c) (append-nil h) ∙ sits) in
        (spot_at (column_x (site_column d i)) (rows_top d - ABOVE), first-is d c ∙ ap (top_of d) (sym (seat-first d c) ∙ at))

last-or-before : (c n : ℕ) → c < suc n → (c < n) ⊎ (c ≡ n)
last-or-before c n low = go (nat_lt c n) refl
  where
    go : (b : Bool) → nat_lt c n ≡ b → (c < n) ⊎ (c ≡ n)
    go true e = inl (grind (arith, nat_tests))
    go false e = inr (grind (arith, nat_tests))

at-client : (found : Trail → Option Spot) (y c i : ℕ) (from : Spot) (o : Option ℕ) → o ≡ Some i → found (client_at SEATED c) ≡ Some from
    → In (client_rest found y c o) (Rest ink.Seat (client_at SEATED c) from (spot_at from.x y))
at-client found y c i from None is at = absurd (cc)
at-client found y c i from (Some j) is at =
    subst (λ (q : Option Spot). In (rest ink.Seat (client_at SEATED c) y q) (Rest ink.Seat (client_at SEATED c) from (spot_at from.x y))) (sym at) (inl refl)

client-in : (seats : ℕ → Option ℕ) (found : Trail → Option Spot) (y n c i : ℕ) (from : Spot) → c < n → seats c ≡ Some i → found (client_at SEATED c) ≡ Some from
    → In (client_rests seats found y n) (Rest ink.Seat (client_at SEATED c) from (spot_at from.x y))
unfolding client_rests
client-in seats found y zero c i from low sits at = absurd (omega arith)
client-in seats found y (suc m) c i from low sits at = go (last-or-before c m low) (λ less. client-in seats found y m c i from less sits at)
  where
    go : (c < m) ⊎ (c ≡ m) → (c < m → In (client_rests seats found y m) (Rest ink.Seat (client_at SEATED c) from (spot_at from.x y)))
        → In (client_rests seats found y m ++ client_rest found y m (seats m)) (Rest ink.Seat (client_at SEATED c) from (spot_at from.x y))
    go (inl less) earlier = In-left (client_rests seats found y m) (client_rest found y m (seats m)) _ (earlier less)
    go (inr is) earlier = In-right (client_rests seats found y m) (client_rest found y m (seats m)) _
        (subst (λ (n : ℕ). In (client_rest found y n (seats n)) (Rest ink.Seat (client_at SEATED c) from (spot_at from.x y))) is (at-client found y c i from (seats c) sits at))

stays-drawn : (d : Deployed) (h : List Entry) (x : Element) → In (client_rests (seat d h) (begin d (last_spot d h)) (row_y d (length h)) (length d.clients)) x → In (elements d h) x
unfolding elements rests
stays-drawn d h x within =
    In-right (head d (length h)) (lines d h ++ marks d h) x (In-left (lines d h) (marks d h) x
    (In-right (ways d h) (crosses d h ++ rests d h) x (In-right (crosses d h) (rests d h) x
    (In-left (client_rests (seat d h) (begin d (last_spot d h)) (row_y d (length h)) (length d.clients)) (site_rests (lost_spot d h) (row_y d (length h)) d.sites) x within))))

has-last : (d : Deployed) (h : List Entry) → GoesBySeats d h → (c i : ℕ) → c < length d.clients → seat d h c ≡ Some i → HasLastSeat d h c i
has-last d h goes c i low sits =
    let y = row_y d (length h) in
    let found : (from : Spot) × (begin d (last_spot d h) (client_at SEATED c) ≡ Some from) = last-found d h c i sits in
    let begins : Begins d h (client_at SEATED c) found.0 = begins-at d h (client_at SEATED c) found.0 found.1 in
    let x : found.0.x ≡ column_x (site_column d i) = from-x d h goes c i [] h found.0 refl begins sits in
    let drawn : In (elements d h) (Rest ink.Seat (client_at SEATED c) found.0 (spot_at found.0.x y)) =
    stays-drawn d h _ (client-in (seat d h) (begin d (last_spot d h)) y (length d.clients) c i found.0 low sits found.1) in
    (found.0, subst (λ (n : ℕ). In (elements d h) (Rest ink.Seat (client_at SEATED c) found.0 (spot_at n y))) x drawn)

pub paths_at_seats : (d : Deployed) (h : List Entry) → IsOfRun d h → PathsAreAtSeats d h
paths_at_seats d h of =
    let goes : GoesBySeats d h = goes_by_seats d h of in
    record {
      solid = λ c from to within. at-seat d h goes c from to (in-all d h ink.Seat (client_at SEATED c) from to within);
      dashed = λ c from to within. at-none d h goes c from to (in-all d h ink.Away (client_at AWAY c) from to within);
      to_end = λ c from to within. to-end d h goes c from to (stays-in d h ink.Seat (client_at SEATED c) from to within);
      each = has-last d h goes;
    }
