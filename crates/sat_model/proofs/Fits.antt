-- What the history hands to a site fits.
use Rattle.std.specs.Prelude.{◌≡◌, ◌<◌, ◌≤◌, ℕ, ◌+◌, Bool, true, false, ◌&&◌, ◌||◌, not, ◌==◌, List, [], ◌∷◌, length, Option, Some, None, slice_get, if◌then◌else◌, refl}
use Rattle.std.specs.List.{list_all, list_any}
use Rattle.std.proofs.Common.{sym, subst, ap, arith, inl, inr, ◌∙◌}
use Rattle.std.proofs.lemmas.Bool.{and_from, and_parts, not_from_false, eqb-true, eqb-false, eq-eqb, lt-ltb, le-leb, ne_eqb, or_from, or_cases}
use Rattle.std.proofs.lemmas.Bool.Decides.{nat_tests}
use Rattle.sat_label.specs.declared.items.Items.{Items}
use Rattle.sat_label.specs.declared.items.Items.TheVariants.{One}
use Rattle.sat_label.specs.declared.label.Kind.{Kind}
use Rattle.sat_label.specs.declared.label.Kind.TheVariants as kind
use Rattle.sat_label.specs.declared.label.Label.{Label}
use Rattle.sat_label.specs.declared.limits.TheConstants.{TS_END}
use Rattle.sat_label.specs.declared.node.NodeId.{NodeId}
use Rattle.sat_label.specs.declared.node.NodeId.TheVariants.{Site, Serializer}
use Rattle.sat_label.specs.declared.point.Point.{Point}
use Rattle.sat_label.specs.Grouped.{are_items, list_of}
use Rattle.sat_label.specs.Members.{In, is_made}
use Rattle.sat_label.specs.Order.{point_eq, label_eq}
use Rattle.sat_label.specs.Words.{below, has}
use Rattle.sat_label.proofs.Members.{In-get, In-filter, in-has}
use Rattle.sat_label.proofs.Orders.{same-point}
use Rattle.sat_label.proofs.Truth.{same-number}
use Rattle.sat_sites.specs.Interested.{AreBelow}
use Rattle.sat_tree.specs.Shape.{TreeShape}
use Rattle.sat_tree.specs.Cut.{beyond, seat_of, hangs_on, over, under}
use Rattle.sat_act.specs.declared.act.Act.{Act}
use Rattle.sat_act.specs.declared.act.Act.TheVariants as act
use Rattle.sat_act.specs.declared.entry.Entry.{Entry}
use Rattle.sat_act.specs.Deployed.{Deployed}
use Rattle.sat_act.specs.Parts.{BeatNote, keeps_some, items_of, values_of, is_update_of, is_target, cut, close_cut, seat, moving, carried, beats, beat_entry, shown, lane, brought, waiting, tree_of, view, seat_in, link_front, entered, taken, goes_beyond}
use Rattle.sat_act.specs.Ranges.{IsActOf}
use Rattle.sat_act.specs.Runs.{IsRun}
use Rattle.sat_act.specs.Goals.{Made, IsKeptAt, IsValid}
use Rattle.sat_laws.proofs.Runs.{before_of}
use Rattle.sat_laws.proofs.Labels.{some_is, made-point, made-placed, seat-range}
use Rattle.sat_laws.proofs.Sinks.{Sent}
use Rattle.sat_laws.proofs.Cuts.{sent-site}
use Rattle.sat_laws.proofs.Shows.{IsFor, in-lane, for-kept}
use Rattle.sat_laws.proofs.Written.{kept-some}
use Rattle.sat_laws.proofs.Links.{SentIn}
use Rattle.sat_laws.proofs.Handlings.{seat-is}
use Rattle.sat_laws.proofs.Order.{sent-in}
use Rattle.sat_laws.proofs.Closes.{close-epoch}
use Rattle.sat_laws.proofs.Moves.{IsMoving, moving-source, move-away}
use Rattle.sat_laws.proofs.Origins.{sent-made, closed-sent}
use Rattle.sat_laws.proofs.BeatTimes.{Later, later-run, gave-at, note_of, is-note, beats-gave}
use Rattle.sat_model.specs.Input.{SiteInput}
use Rattle.sat_model.specs.Input as given
use Rattle.sat_model.specs.Look.{waiting_of}
use Rattle.sat_model.specs.Replay.{handed, site_state, turn_front, carrying, given_at, given_seat, given_number}
use Rattle.sat_model.specs.Fits.{is_site, is_item, are_known, is_group, is_time, is_point, is_goal, is_other, is_carried, is_kind, is_front, is_kept_kind, is_new_point, is_bulk, is_close_cut, is_note, fits}
use Rattle.sat_model.specs.OnLinks.{HasKind, IsOnLink}
use Rattle.sat_model.specs.Parts.{valued}
use Rattle.sat_model.proofs.Windows.{Window, window-agrees, lane-of, brought-made}
use Rattle.sat_model.proofs.Pools.{waiting-agrees}
use Rattle.sat_model.proofs.Simple.{view-agrees}
use Rattle.sat_model.proofs.Ranges.{made-has-kind}
use Rattle.sat_model.proofs.Writing.{parts-all, values-many}
use Rattle.sat_model.proofs.Times.{made-ends, sent-ends, cut-ends, cut-site, carried-all, carried-ends, greatest-ends}
use Rattle.sat_model.specs.World.{link_left}
use Rattle.sat_model.proofs.OnLinks.{entered-leads, In-drop}
use Rattle.sat_model.proofs.Parts.{link-agrees}

-- ---- over plain values

all-true : {X : Type 0} (f : X → Bool) (xs : List X) → ((x : X) → f x ≡ true) → list_all f xs ≡ true
all-true f [] each = refl
all-true f (x ∷ xs) each = and_from (f x) (list_all f xs) (each x) (all-true f xs each)

none-true : {X : Type 0} (f : X → Bool) (xs : List X) → ((x : X) → In xs x → f x ≡ false) → list_any f xs ≡ false
none-true f [] each = refl
none-true f (x ∷ xs) each = or_from (f x) (list_any f xs) (each x (inl refl)) (none-true f xs (λ y m. each y (inr m)))

some-true : {X : Type 0} (f : X → Bool) (xs : List X) → list_any f xs ≡ true → (x : X) × (f x ≡ true)
some-true f [] e = absurd (cc)
some-true f (x ∷ xs) e = elim (or_cases (f x) (list_any f xs) e) [ inl w ↦ (x, w) | inr w ↦ some-true f xs w ]

distinct : (m n : ℕ) → not (m == n) ≡ true → m ≡ n → ⊥
distinct m n e k = grind (arith, nat_tests)

inside : (i n : ℕ) → i < n → 0 < n
inside i n b = omega arith

other-site : (d : Deployed) (i k : ℕ) → k < d.sites → (k ≡ i → ⊥) → is_other d i k ≡ true
other-site d i k b e = and_from (is_site d k) (not (k == i)) (lt-ltb k d.sites b) (not_from_false (k == i) (ne_eqb k i e))

-- ---- clients

goal-fits : (d : Deployed) (h : List Entry) (c : ℕ) → IsRun d h → is_goal d (moving h c) ≡ true
goal-fits d h c run = go (moving h c) refl
  where
    go : (o : Option ℕ) → moving h c ≡ o → is_goal d o ≡ true
    go None e = refl
    go (Some j) e =
        let m : IsMoving d h c j = moving-source d h c j run e in
        let b : HasKind d m.label.kind = made-has-kind d h m.label run m.made in
        let b' : j < d.sites = subst (λ (k : Kind). HasKind d k) m.kind b in
        lt-ltb j d.sites b'

point-fits : (d : Deployed) (p : Point) → p.ts ≤ TS_END → p.site < d.sites → is_point d p ≡ true
point-fits d p t s = and_from (is_time p.ts) (is_site d p.site) (le-leb p.ts TS_END t) (lt-ltb p.site d.sites s)

carried-fits : (d : Deployed) (h : List Entry) (c : ℕ) → 0 < d.sites → IsValid d → IsRun d h → is_carried d (carrying h c) ≡ true
carried-fits d h c some v run =
    and_from (is_point d (carried h c)) (is_goal d (moving h c))
    (point-fits d (carried h c) (carried-ends d h c run) (carried-all (λ p. p.site < d.sites) d h c run (λ l m. (made-placed d h l v run m).site) some))
    (goal-fits d h c run)

-- ---- payloads

waits-brought : (h : List Entry) (j : ℕ) (q : Label) → In (waiting h j) q → In (brought h j) q
unfolding waiting
waits-brought h j q m = (In-filter (λ l. not (has label_eq (shown h j) l)) (brought h j) q m).0

all-known : (d : Deployed) (xs : List ℕ) → AreBelow (length d.items) xs → are_known d xs ≡ true
all-known d [] b = refl
all-known d (x ∷ xs) b = and_from (is_item d x) (are_known d xs) (lt-ltb x (length d.items) b.0) (all-known d xs b.1)

group-fits : (d : Deployed) (items : Items) → HasKind d (kind.Update items) → is_group d items ≡ true
group-fits d items b = and_from (are_items (list_of items)) (are_known d (list_of items)) b.1 (all-known d (list_of items) b.0)

kept-kind : (d : Deployed) (j : ℕ) (l : Label) → HasKind d l.kind → IsKeptAt d j l → is_kept_kind d j l.kind ≡ true
kept-kind d j l b k = go l.kind b k.1
  where
    go : (y : Kind) → HasKind d y → is_update_of y k.0 ≡ true → is_kept_kind d j y ≡ true
    go (kind.Update items) b e = and_from (is_group d items) (keeps_some d (list_of items) j) (group-fits d items b) (kept-some d (list_of items) k.0 j e k.2)
    go (kind.Move y) b e = absurd (cc)
    go kind.Pulse b e = absurd (cc)
    go (kind.Close f) b e = absurd (cc)

-- where the number of a payload is new, no waiting label has its point: that label would be the payload's own, and brought
new-point : (d : Deployed) (h : List Entry) (j : ℕ) (l : Label) → IsValid d → IsRun d h → Made h l → has label_eq (brought h j) l ≡ false → is_new_point (waiting h j) l.point ≡ true
new-point d h j l v run m t = not_from_false _ (none-true (λ q. point_eq q.point l.point) (waiting h j) each)
  where
    clash : (q : Label) → In (waiting h j) q → q.point ≡ l.point → ⊥
    clash q k p =
        let b : In (brought h j) q = waits-brought h j q k in
        let s : q ≡ l = made-point d h q l v run (brought-made d h j q run b) m p in
        let y : has label_eq (brought h j) l ≡ true = in-has (brought h j) l (subst (λ (z : Label). In (brought h j) z) s b) in
        cc

    each : (q : Label) → In (waiting h j) q → point_eq q.point l.point ≡ false
    each q k = go (point_eq q.point l.point) refl
      where
        go : (b : Bool) → point_eq q.point l.point ≡ b → b ≡ false
        go true e = absurd (clash q k (same-point q.point l.point e))
        go false e = refl

pub bulk-fits : (d : Deployed) (h : List Entry) (i g j n : ℕ) (l : Label) → IsValid d → IsRun d h → i < d.sites → g < d.gears → (i == j) ≡ false → slice_get (lane d h i g j) n ≡ Some l →
    is_bulk d j (site_state d h j) i g n (valued h l) ≡ true
bulk-fits d h i g j n l v run bi bg ne e =
    let m : In (lane d h i g j) l = In-get (lane d h i g j) n l e in
    let f : IsFor d h j l = in-lane d h i g j l m in
    let w : Window d h i g j ((site_state d h j).proxy.taken i g) = window-agrees d h i g j v run in
    let s : l.point.site ≡ i = (lane-of d h i g j l m).0 in
    and_from _ _ (and_from _ _ (other-site d j i bi (eqb-false i j ne)) (lt-ltb g d.gears bg))
    (and_from _ _
    (and_from _ _ (and_from _ _ (and_from _ _ (le-leb l.point.ts TS_END (made-ends d h l run f.made)) (eq-eqb l.point.site i s)) (kept-kind d j l (made-has-kind d h l run f.made) (for-kept d h j l f).0))
    (parts-all d j (items_of l.kind) (values_of h l) (values-many d h l v run f.made f.update)))
    (go (has ◌==◌ ((site_state d h j).proxy.taken i g) n) (w.known n l e) f.made))
  where
    go : (b : Bool) → b ≡ has label_eq (brought h j) l → Made h l → (b || is_new_point (waiting_of (site_state d h j)) l.point) ≡ true
    go true t m = refl
    go false t m = subst (λ (ls : List Label). is_new_point ls l.point ≡ true) (sym (waiting-agrees d h j v run)) (new-point d h j l v run m (sym t))

-- ---- fronts

-- beyond the link to a site from its serializer lies that site alone
beyond-seat : (t : TreeShape) (j k : ℕ) → beyond t (Serializer (seat_of t j)) (Site j) (Site k) ≡ true → k ≡ j
unfolding beyond hangs_on over under
beyond-seat t j k e = go (seat_of t j == seat_of t j) (same-number (seat_of t j)) e
  where
    go : (b : Bool) → b ≡ true → (if (b || false) then (j == k) else not (under t (Serializer (seat_of t j)) (Site k))) ≡ true → k ≡ j
    go true w e = sym (eqb-true j k e)
    go false w e = absurd (cc)

-- who finds a label at the front of its link is its target
front-target : (d : Deployed) (t : TreeShape) (j : ℕ) (l : Label) → goes_beyond d t (Serializer (seat_of t j)) (Site j) l ≡ true → is_target d l j ≡ true
unfolding goes_beyond
front-target d t j l e =
    let w : (k : ℕ) × ((is_target d l k && beyond t (Serializer (seat_of t j)) (Site j) (Site k)) ≡ true) = some-true (λ k. is_target d l k && beyond t (Serializer (seat_of t j)) (Site j) (Site k)) (below d.sites) e in
    let p : (is_target d l w.0 ≡ true) × (beyond t (Serializer (seat_of t j)) (Site j) (Site w.0) ≡ true) = and_parts (is_target d l w.0) _ w.1 in
    subst (λ (k : ℕ). is_target d l k ≡ true) (beyond-seat t j w.0 p.1) p.0

-- no site is a target of what it sent
target-other : (d : Deployed) (h : List Entry) (j : ℕ) (l : Label) → IsRun d h → Sent h l.point.site l → is_target d l j ≡ true → l.point.site ≡ j → ⊥
unfolding is_target
target-other d h j l run s e = go l.kind refl e
  where
    go : (k : Kind) → l.kind ≡ k → elim k [ kind.Update items ↦ keeps_some d (list_of items) j && not (j == l.point.site) | kind.Move y ↦ j == y | kind.Pulse ↦ not (j == l.point.site) | kind.Close f ↦ not (j == l.point.site) ] ≡ true → l.point.site ≡ j → ⊥
    go (kind.Update items) w e q = distinct j l.point.site (and_parts (keeps_some d (list_of items) j) _ e).1 (sym q)
    go (kind.Move y) w e q =
        let m : Made h l = sent-made d h l.point.site l run s (subst (λ (k : Kind). is_made k ≡ true) (sym w) refl) in
        move-away d h l j run m (w ∙ ap (λ (n : ℕ). kind.Move n) (sym (eqb-true j y e))) q
    go kind.Pulse w e q = distinct j l.point.site e (sym q)
    go (kind.Close f) w e q = distinct j l.point.site e (sym q)

kind-fits : (d : Deployed) (h : List Entry) (j : ℕ) (l : Label) → IsValid d → IsRun d h → HasKind d l.kind → SentIn h l.point.site (view h j) l → is_kind d (site_state d h j).views.view l.kind ≡ true
kind-fits d h j l v run has s = go l.kind refl has
  where
    go : (k : Kind) → l.kind ≡ k → HasKind d k → is_kind d (site_state d h j).views.view k ≡ true
    go (kind.Update items) w b = group-fits d items b
    go (kind.Move y) w b = lt-ltb y d.sites b
    go kind.Pulse w b = refl
    go (kind.Close f) w b = eq-eqb f (site_state d h j).views.view (sym (close-epoch d h l.point.site (view h j) f l v run s w) ∙ sym (view-agrees d h j run))

-- a label that was put on the link to a site, in the epoch that it views
link-fits : (d : Deployed) (h : List Entry) (j : ℕ) (l : Label) (t : TreeShape) (z : NodeId) → IsValid d → IsRun d h → z ≡ Serializer (seat_of t j) → In (entered d h (view h j) t z (Site j)) l → is_front d j (site_state d h j) l ≡ true
link-fits d h j l t z v run w m =
    let q : SentIn h l.point.site (view h j) l × IsOnLink d t z (Site j) l = entered-leads d h (view h j) t z (Site j) l run m in
    let s : Sent h l.point.site l = sent-in h l.point.site (view h j) l q.0 in
    let g : goes_beyond d t (Serializer (seat_of t j)) (Site j) l ≡ true = subst (λ (n : NodeId). goes_beyond d t n (Site j) l ≡ true) w q.1.target in
    and_from _ _ (le-leb l.point.ts TS_END (sent-ends d h l.point.site l run s))
    (and_from _ _ (other-site d j l.point.site q.1.site (target-other d h j l run s (front-target d t j l g))) (kind-fits d h j l v run q.1.kind q.0))

-- one that stands there still
pub left-fits : (d : Deployed) (h : List Entry) (j : ℕ) (l : Label) (t : TreeShape) → IsValid d → IsRun d h → tree_of d (view h j) ≡ Some t → In (link_left d h (view h j) (Serializer (seat_of t j)) (Site j)) l → is_front d j (site_state d h j) l ≡ true
left-fits d h j l t v run is m =
    link-fits d h j l t (Serializer (seat_of t j)) v run refl
    (In-drop (taken d h (view h j) (Serializer (seat_of t j)) (Site j)) (entered d h (view h j) t (Serializer (seat_of t j)) (Site j)) l
    (subst (λ (ls : List Label). In ls l) (link-agrees d h (view h j) t (Serializer (seat_of t j)) (Site j) is) m))

pub front-fits : (d : Deployed) (h : List Entry) (j : ℕ) (l : Label) → IsValid d → IsRun d h → turn_front d h j ≡ Some l → is_front d j (site_state d h j) l ≡ true
unfolding turn_front link_front
front-fits d h j l v run e = tree (tree_of d (view h j)) refl e
  where
    node : (t : TreeShape) → tree_of d (view h j) ≡ Some t → (o : Option NodeId) → seat_in d (view h j) j ≡ o → elim o [ None ↦ None | Some z ↦ slice_get (entered d h (view h j) t z (Site j)) (taken d h (view h j) z (Site j)) ] ≡ Some l → is_front d j (site_state d h j) l ≡ true
    node t k None s e = absurd (cc)
    node t k (Some z) s e = link-fits d h j l t z v run (seat-is d (view h j) j t z k s) (In-get (entered d h (view h j) t z (Site j)) (taken d h (view h j) z (Site j)) l e)

    tree : (o : Option TreeShape) → tree_of d (view h j) ≡ o → elim o [ None ↦ None | Some t ↦ elim (seat_in d (view h j) j) [ None ↦ None | Some z ↦ slice_get (entered d h (view h j) t z (Site j)) (taken d h (view h j) z (Site j)) ] ] ≡ Some l → is_front d j (site_state d h j) l ≡ true
    tree None k e = absurd (cc)
    tree (Some t) k e = node t k (seat_in d (view h j) j) refl e

turn-fits : (d : Deployed) (h : List Entry) (j : ℕ) → IsValid d → IsRun d h → (o : Option Label) → turn_front d h j ≡ o → fits d j (site_state d h j) (given.Turn o) ≡ true
unfolding fits
turn-fits d h j v run None e = refl
turn-fits d h j v run (Some l) e = front-fits d h j l v run e

-- ---- beats

-- what a beat would say after a history fits
said-fits : (d : Deployed) (b : List Entry) (i j : ℕ) → i < d.sites → IsRun d b → is_note d (note_of d i j b) ≡ true
said-fits d b i j at run =
    and_from _ _ (point-fits d (cut d b i) (cut-ends d b i run) (subst (λ (k : ℕ). k < d.sites) (sym (cut-site d b i run)) at))
    (all-true (λ n. is_close_cut d (close_cut b i (n + 1))) (below (length d.plans)) (λ n. closes (n + 1) (close_cut b i (n + 1)) refl))
  where
    closes : (e : ℕ) (o : Option Point) → close_cut b i e ≡ o → is_close_cut d o ≡ true
    closes e None w = refl
    closes e (Some p) w =
        let s : Sent b i (record { point = p; kind = kind.Close e }) = closed-sent d b i e p run w in
        point-fits d p (sent-ends d b i (record { point = p; kind = kind.Close e }) run s)
        (subst (λ (k : ℕ). k < d.sites) (sym (sent-site d b i (record { point = p; kind = kind.Close e }) run s)) at)

pub note-fits : (d : Deployed) (h : List Entry) (i j n : ℕ) (note : BeatNote) → i < d.sites → IsRun d h → slice_get (beats d h i j) n ≡ Some note → is_note d note ≡ true
note-fits d h i j n note at run e =
    let g : (b : List Entry) × (x : Entry) × Later (x ∷ b) h × (beat_entry d i j b x ≡ Some note) = gave-at (beat_entry d i j) h note (beats-gave d h i j note (In-get (beats d h i j) n note e)) in
    subst (λ (y : BeatNote). is_note d y ≡ true) (is-note d i j g.0 g.1 note g.3)
    (said-fits d g.0 i j at (before_of d g.0 g.1 (later-run d (g.1 ∷ g.0) h g.2 run)))

-- ---- what is handed

-- where an act hands x to site t, and x fits there
fits-here : (d : Deployed) (h : List Entry) (t i : ℕ) (x input : SiteInput) → given_at t i x ≡ Some input → fits d t (site_state d h t) x ≡ true → fits d i (site_state d h i) input ≡ true
fits-here d h t i x input e k = go (t == i) refl e
  where
    go : (b : Bool) → (t == i) ≡ b → (if b then Some x else None) ≡ Some input → fits d i (site_state d h i) input ≡ true
    go true w e = subst (λ (y : SiteInput). fits d i (site_state d h i) y ≡ true) (some_is x input e) (subst (λ (j : ℕ). fits d j (site_state d h j) x ≡ true) (eqb-true t i w) k)
    go false w e = absurd (cc)

-- where it hands x to the seat of a client, which is a site
fits-seat : (d : Deployed) (h : List Entry) (c i : ℕ) (x input : SiteInput) → IsValid d → IsRun d h → given_seat (seat d h c) i x ≡ Some input → ((t : ℕ) → 0 < d.sites → fits d t (site_state d h t) x ≡ true) → fits d i (site_state d h i) input ≡ true
fits-seat d h c i x input v run e k = go (seat d h c) refl e
  where
    go : (o : Option ℕ) → seat d h c ≡ o → given_seat o i x ≡ Some input → fits d i (site_state d h i) input ≡ true
    go None w e = absurd (cc)
    go (Some t) w e = fits-here d h t i x input e (k t (inside t d.sites (seat-range d h c t v run w)))

-- one item, which is known, and its value
one-fits : (d : Deployed) (x : ℕ) (value : List ℕ) → x < length d.items → (is_group d (One x) && (length (value ∷ []) == length (list_of (One x)))) ≡ true
one-fits d x value b = and_from (is_group d (One x)) true (and_from (is_item d x) true (lt-ltb x (length d.items) b) refl) refl

-- all that an act hands fits
pub given-fits : (d : Deployed) (h : List Entry) (a : Act) (i : ℕ) (input : SiteInput) → IsValid d → IsRun d h → IsActOf d a → handed d h a i ≡ Some input → fits d i (site_state d h i) input ≡ true
unfolding handed fits
given-fits d h (act.Tick t g u) i input v run ok e = fits-here d h t i (given.Tick g u) input e (and_from _ _ (lt-ltb g d.gears ok.1) (le-leb u TS_END ok.2))
given-fits d h act.Clock i input v run ok e = subst (λ (y : SiteInput). fits d i (site_state d h i) y ≡ true) (some_is _ input e) (le-leb _ TS_END (greatest-ends d h d.sites d.gears run))
given-fits d h (act.Write c x value) i input v run ok e =
    fits-seat d h c i (given.Write (carrying h c) (One x) (value ∷ [])) input v run e (λ t some. and_from (is_carried d (carrying h c)) _ (carried-fits d h c some v run) (one-fits d x value ok.1))
given-fits d h (act.Writes c items values) i input v run ok e =
    fits-seat d h c i (given.Write (carrying h c) items values) input v run e (λ t some. and_from _ _ (carried-fits d h c some v run)
    (and_from (is_group d items) (length values == length (list_of items)) (and_from (are_items (list_of items)) (are_known d (list_of items)) ok.1.order ok.1.known) (eq-eqb (length values) (length (list_of items)) ok.1.values_all)))
given-fits d h (act.Read c x) i input v run ok e =
    fits-seat d h c i (given.Read (carrying h c) x) input v run e (λ t some. and_from _ _ (carried-fits d h c some v run) (lt-ltb x (length d.items) ok.1))
given-fits d h (act.Move c j) i input v run ok e =
    fits-seat d h c i (given.Move (carrying h c) j) input v run e (λ t some. and_from _ _ (carried-fits d h c some v run) (lt-ltb j d.sites ok.1))
given-fits d h (act.Attach c j) i input v run ok e = go (seat d h c) e
  where
    go : (o : Option ℕ) → elim o [ None ↦ given_at j i (given.Attach (carrying h c)) | Some k ↦ None ] ≡ Some input → fits d i (site_state d h i) input ≡ true
    go None e = fits-here d h j i (given.Attach (carrying h c)) input e (carried-fits d h c (inside j d.sites ok.1) v run)
    go (Some k) e = absurd (cc)
given-fits d h (act.Gather t) i input v run ok e = fits-here d h t i given.Gather input e refl
given-fits d h (act.Emit t) i input v run ok e = fits-here d h t i given.Emit input e refl
given-fits d h (act.Pulse t) i input v run ok e = fits-here d h t i given.Pulse input e refl
given-fits d h (act.Turn t) i input v run ok e = fits-here d h t i (given.Turn (turn_front d h t)) input e (turn-fits d h t v run (turn_front d h t) refl)
given-fits d h (act.Bulk k g j o) i input v run ok e = go (slice_get (lane d h k g j) (given_number d h k g j o)) refl e
  where
    go : (x : Option Label) → slice_get (lane d h k g j) (given_number d h k g j o) ≡ x → elim x [ None ↦ None | Some l ↦ given_at j i (given.Bulk k g (given_number d h k g j o) (valued h l)) ] ≡ Some input → fits d i (site_state d h i) input ≡ true
    go None w e = absurd (cc)
    go (Some l) w e =
        fits-here d h j i (given.Bulk k g (given_number d h k g j o) (valued h l)) input e
        (bulk-fits d h k g j (given_number d h k g j o) l v run ok.0.0 ok.1 ok.0.2 w)
given-fits d h (act.Beat t j) i input v run ok e = fits-here d h t i (given.Beat j) input e (other-site d t j ok.1 (λ k. eqb-false t j ok.2 (sym k)))
given-fits d h (act.BeatIn k j n) i input v run ok e = go (slice_get (beats d h k j) n) refl e
  where
    go : (x : Option BeatNote) → slice_get (beats d h k j) n ≡ x → elim x [ None ↦ None | Some b ↦ given_at j i (given.BeatIn k n b) ] ≡ Some input → fits d i (site_state d h i) input ≡ true
    go None w e = absurd (cc)
    go (Some b) w e =
        fits-here d h j i (given.BeatIn k n b) input e
        (and_from _ _ (other-site d j k ok.0.0 (eqb-false k j ok.0.2)) (note-fits d h k j n b ok.0.0 run w))
given-fits d h (act.Stamp t) i input v run ok e = fits-here d h t i given.Stamp input e refl
given-fits d h (act.Close t) i input v run ok e = fits-here d h t i given.Close input e refl
given-fits d h (act.Fall t) i input v run ok e = fits-here d h t i given.Fall input e refl
given-fits d h (act.Advance t) i input v run ok e = fits-here d h t i given.Advance input e refl
given-fits d h _ i input v run ok e = absurd (cc)
