-- What fits: what the code uses of it, and that it is what the machine asks.
use Rattle.std.specs.Prelude.{◌≡◌, ◌<◌, ◌≤◌, ◌+◌, ◌-◌, ◌^◌, ℕ, Bool, true, false, ◌&&◌, ◌||◌, not, ◌==◌, nat_le, nat_lt, List, [], ◌∷◌, length, map, slice_get, Option, Some, None, is_none, is_some, if◌then◌else◌, refl}
use Rattle.std.specs.List.{list_any}
use Rattle.std.proofs.Common.{subst, ap, sym, ◌∙◌, arith, inl, inr}
use Rattle.std.proofs.lemmas.Bool.{and_parts, or_left, or_right, or_cases, not-true, ltb-true, leb-true, eqb-true, ne_eqb}
use Rattle.sat_label.specs.Members.{In}
use Rattle.sat_label.specs.Grouped.{are_items, list_of}
use Rattle.sat_label.specs.Words.{below}
use Rattle.sat_label.proofs.Orders.{same-point}
use Rattle.sat_beat.specs.declared.Beat.{Beat}
use Rattle.sat_pool.specs.Pool.{waiting_at}
use Rattle.sat_pool.proofs.Members.{found-in, in-found}
use Rattle.sat_proxy.specs.Proxy.{close_in, note_of, window_of}
use Rattle.sat_site.proofs.Equals.{point_eq-self}
use Rattle.sat_site.proofs.Parts.{count-is, sites-are}
use Rattle.sat_label.specs.declared.carried.Carried.{Carried}
use Rattle.sat_label.specs.declared.items.Items.{Items}
use Rattle.sat_label.specs.declared.label.Kind.{Kind}
use Rattle.sat_label.specs.declared.label.Kind.TheVariants.{Update, Move, Pulse, Close}
use Rattle.sat_label.specs.declared.label.Label.{Label}
use Rattle.sat_label.specs.declared.point.Point.{Point}
use Rattle.sat_label.specs.Order.{point_eq}
use Rattle.sat_bulk.specs.Payloads.{Payload}
use Rattle.sat_bulk.specs.Windows.{has_number}
use Rattle.sat_sites.specs.Interested.{are_below, keeps_one, AreBelow}
use Rattle.sat_sites.proofs.Below.{below_is}
use Rattle.sat_model.specs.Interests.{interest_of}
use Rattle.sat_sites.specs.declared.shape.Shape.{Shape}
use Rattle.sat_act.specs.Deployed.{Deployed}
use Rattle.sat_act.specs.Parts.{items_of}
use Rattle.sat_model.specs.Fits.{fits, has_parts, is_time, is_site, is_gear, is_group, is_item, is_other, is_carried, are_known, is_kind, is_kept_kind, is_new_point, is_bulk, is_note, is_point}
use Rattle.sat_model.specs.Look.{label_of, waiting_of}
use Rattle.sat_model.specs.State.{SiteState}
use Rattle.sat_site.specs.declared.input.SiteInput as code
use Rattle.sat_site.specs.declared.input.SiteInput.TheVariants as input
use Rattle.sat_site.specs.Changes.{shape_for}
use Rattle.sat_site.specs.Inputs.{fits_here, fits_in, input_of, is_beat_here, is_counted, is_cut_here, is_goal_here, is_point_here, is_site_here, is_sized, is_gear_here, is_item_here, is_other_here, is_carried_here, is_kind_here, is_front_here, is_group_here, is_kept_here, is_guest_here, is_bulk_here, BulkFits, IsFront}
use Rattle.sat_site.specs.Laws.{EachFits}
use Rattle.sat_site.specs.Seen.{SiteSeen, IsSite, has_parts_here}
use Rattle.sat_site.specs.Stands.{StandsSite}
use Rattle.sat_site.proofs.Interests.{all-by, keeps-is, keeps-one-is, items-are}

-- ---- what the code uses

pub fits-tick : (x : SiteSeen) (g t : ℕ) → fits_in x (input.Tick g t) ≡ true → (g < x.shape.gears) × (t ≤ 2 ^ 62)
unfolding fits_here
fits-tick x g t e =
    let w = and_parts (is_gear_here x.shape g) (is_time t) (and_parts (fits_here x (input.Tick g t)) true e).0 in
    (ltb-true g x.shape.gears w.0, leb-true t (2 ^ 62) w.1)

pub fits-write : (x : SiteSeen) (seen : Carried) (items : Items) (values : List (List ℕ)) → fits_in x (input.Write seen items values) ≡ true → AreBelow (length x.shape.interest.replicas) (list_of items) × (length values ≡ length (list_of items))
unfolding fits_here
fits-write x seen items values e =
    let w = and_parts (is_carried_here x.shape seen) (is_group_here x.shape items && (length values == length (list_of items))) (and_parts (fits_here x (input.Write seen items values)) true e).0 in
    let v = and_parts (is_group_here x.shape items) (length values == length (list_of items)) w.1 in
    (below_is (length x.shape.interest.replicas) (list_of items) (and_parts (are_items (list_of items)) _ v.0).1, eqb-true (length values) (length (list_of items)) v.1)

pub fits-read : (x : SiteSeen) (seen : Carried) (n : ℕ) → fits_in x (input.Read seen n) ≡ true → n < length x.shape.interest.replicas
unfolding fits_here
fits-read x seen n e =
    ltb-true n (length x.shape.interest.replicas) (and_parts (is_carried_here x.shape seen) (is_item_here x.shape n) (and_parts (fits_here x (input.Read seen n)) true e).0).1

close-epoch : (shape : Shape) (view : ℕ) (kind : Kind) (e : ℕ) → is_kind_here shape view kind ≡ true → kind ≡ Close e → e ≡ view
close-epoch shape view kind e h same = eqb-true e view (subst (λ (k : Kind). is_kind_here shape view k ≡ true) same h)

pub front-fits : (x : SiteSeen) (l : Label) → is_front_here x.shape x.views.view l ≡ true → IsFront x l
front-fits x l e =
    let w = and_parts (is_time l.point.ts) (is_other_here x.shape l.point.site && is_kind_here x.shape x.views.view l.kind) e in
    let v = and_parts (is_other_here x.shape l.point.site) (is_kind_here x.shape x.views.view l.kind) w.1 in
    let u = and_parts (nat_lt l.point.site x.shape.sites) (not (l.point.site == x.shape.site)) v.0 in
    record { from = ltb-true l.point.site x.shape.sites u.0; other = not-true (l.point.site == x.shape.site) u.1; close = λ e same. close-epoch x.shape x.views.view l.kind e v.1 same }

pub fits-turn : (x : SiteSeen) (front : Option Label) → fits_in x (input.Turn front) ≡ true → (l : Label) → front ≡ Some l → IsFront x l
unfolding fits_here
fits-turn x None e l same = absurd (cc)
fits-turn x (Some m) e l same = let q : m ≡ l = cc in subst (IsFront x) q (front-fits x m (and_parts (is_front_here x.shape x.views.view m) true e).0)

kept-kind : (shape : Shape) (kind : Kind) → is_kept_here shape kind ≡ true →
    (items : Items) × (kind ≡ Update items) × AreBelow (length shape.interest.replicas) (list_of items) × (keeps_one shape.interest (list_of items) shape.site ≡ true)
kept-kind shape (Update items) e =
    let w = and_parts (is_group_here shape items) (keeps_one shape.interest (list_of items) shape.site) e in
    (items, refl, below_is (length shape.interest.replicas) (list_of items) (and_parts (are_items (list_of items)) _ w.0).1, w.1)
kept-kind shape (Move j) e = absurd (cc)
kept-kind shape Pulse e = absurd (cc)
kept-kind shape (Close n) e = absurd (cc)

none-there : (o : Option Payload) → is_none o ≡ true → o ≡ None
none-there None e = refl
none-there (Some p) e = absurd (cc)

pub fits-bulk : (x : SiteSeen) (from gear number : ℕ) (p : Payload) → fits_in x (input.Bulk from gear number p) ≡ true → BulkFits x from gear number p
unfolding fits_here
fits-bulk x from gear number p e =
    let w = and_parts (is_bulk_here x.shape x.proxy from gear number p) (nat_lt number (2 ^ 63)) e in
    let v = and_parts (is_other_here x.shape from && is_gear_here x.shape gear) ((is_guest_here x.shape from p.label && has_parts_here x.shape (items_of p.label.kind) p.values) && (has_number (window_of x.proxy from gear) number || is_none (waiting_at x.proxy.pool p.label.point))) w.0 in
    let u = and_parts (is_other_here x.shape from) (is_gear_here x.shape gear) v.0 in
    let t = and_parts (is_guest_here x.shape from p.label && has_parts_here x.shape (items_of p.label.kind) p.values) (has_number (window_of x.proxy from gear) number || is_none (waiting_at x.proxy.pool p.label.point)) v.1 in
    let q = and_parts (is_guest_here x.shape from p.label) (has_parts_here x.shape (items_of p.label.kind) p.values) t.0 in
    let g = and_parts (is_time p.label.point.ts && (p.label.point.site == from)) (is_kept_here x.shape p.label.kind) q.0 in
    let lt : from < x.shape.sites = ltb-true from x.shape.sites (and_parts (nat_lt from x.shape.sites) (not (from == x.shape.site)) u.0).0 in
    let own : p.label.point.site ≡ from = eqb-true p.label.point.site from (and_parts (is_time p.label.point.ts) (p.label.point.site == from) g.0).1 in
    record {
      sender = lt;
      number = ltb-true gear x.shape.gears u.1;
      small = ltb-true number (2 ^ 63) w.1;
      made = own;
      guest = record { items = kept-kind x.shape p.label.kind g.1; parts = q.1; from = subst (λ (k : ℕ). k < x.shape.sites) (sym own) lt };
      alone = λ new. none-there (waiting_at x.proxy.pool p.label.point) (subst (λ (b : Bool). (b || is_none (waiting_at x.proxy.pool p.label.point)) ≡ true) new t.1);
    }

carried-site : (x : SiteSeen) (seen : Carried) → is_carried_here x.shape seen ≡ true → seen.point.site < x.shape.sites
carried-site x seen e =
    let w = and_parts (is_point_here x.shape seen.point) (is_goal_here x.shape seen.moving) e in
    ltb-true seen.point.site x.shape.sites (and_parts (is_time seen.point.ts) (is_site_here x.shape seen.point.site) w.0).1

pub fits-move : (x : SiteSeen) (seen : Carried) (j : ℕ) → fits_in x (input.Move seen j) ≡ true → j < x.shape.sites
unfolding fits_here
fits-move x seen j e = ltb-true j x.shape.sites (and_parts (is_carried_here x.shape seen) (is_site_here x.shape j) (and_parts (fits_here x (input.Move seen j)) true e).0).1

pub fits-attach : (x : SiteSeen) (seen : Carried) → fits_in x (input.Attach seen) ≡ true → seen.point.site < x.shape.sites
unfolding fits_here
fits-attach x seen e = carried-site x seen (and_parts (fits_here x (input.Attach seen)) true e).0

pub fits-beat : (x : SiteSeen) (j : ℕ) → fits_in x (input.Beat j) ≡ true → j < x.shape.sites
unfolding fits_here
fits-beat x j e = ltb-true j x.shape.sites (and_parts (nat_lt j x.shape.sites) (not (j == x.shape.site)) (and_parts (fits_here x (input.Beat j)) true e).0).0

-- a beat that comes has one count for each gear
pub fits-beat-in : (x : SiteSeen) (from n : ℕ) (beat : Beat) → fits_in x (input.BeatIn from n beat) ≡ true → (from < x.shape.sites) × (length beat.counts ≡ x.shape.gears)
unfolding fits_here
fits-beat-in x from n beat e =
    let w = and_parts (is_other_here x.shape from && is_beat_here x.shape (length x.views.stamp) beat) (nat_lt n (2 ^ 63) && is_counted x beat) e in
    let v = and_parts (is_other_here x.shape from) (is_beat_here x.shape (length x.views.stamp) beat) w.0 in
    let u = and_parts (nat_lt n (2 ^ 63)) (is_counted x beat) w.1 in (
      ltb-true from x.shape.sites (and_parts (nat_lt from x.shape.sites) (not (from == x.shape.site)) v.0).0,
      eqb-true (length beat.counts) x.shape.gears (and_parts (length beat.counts == x.shape.gears) (nat_le (length beat.closes) (length x.views.stamp)) u.1).0,
    )

-- ---- what the machine asks

item-is : (d : Deployed) (i n : ℕ) → is_item_here (shape_for d i) n ≡ is_item d n
item-is d i n = ap (nat_lt n) (items-are d)

known-is : (d : Deployed) (xs : List ℕ) → are_below (length (interest_of d).replicas) xs ≡ are_known d xs
known-is d [] = refl
known-is d (x ∷ xs) = λ j. nat_lt x (items-are d j) && known-is d xs j

group-is : (d : Deployed) (i : ℕ) (items : Items) → is_group_here (shape_for d i) items ≡ is_group d items
group-is d i items = ap (λ (b : Bool). are_items (list_of items) && b) (known-is d (list_of items))

parts-is : (d : Deployed) (i : ℕ) (xs : List ℕ) (ps : List (Option (List ℕ))) → has_parts_here (shape_for d i) xs ps ≡ has_parts d i xs ps
parts-is d i [] [] = refl
parts-is d i [] (p ∷ ps) = refl
parts-is d i (x ∷ xs) [] = refl
parts-is d i (x ∷ xs) (p ∷ ps) = λ j. (not (keeps-is d x i j) || is_some p) && parts-is d i xs ps j

kind-is : (d : Deployed) (i view : ℕ) (kind : Kind) → is_kind_here (shape_for d i) view kind ≡ is_kind d view kind
kind-is d i view (Update items) = group-is d i items
kind-is d i view (Move j) = refl
kind-is d i view Pulse = refl
kind-is d i view (Close e) = refl

kept-is : (d : Deployed) (i : ℕ) (kind : Kind) → is_kept_here (shape_for d i) kind ≡ is_kept_kind d i kind
kept-is d i (Update items) = (λ j. group-is d i items j && keeps-one-is d (list_of items) i j)
kept-is d i (Move j) = refl
kept-is d i Pulse = refl
kept-is d i (Close e) = refl

and-then : (a b c : Bool) → (a ≡ true → b ≡ c) → (a && b) ≡ (a && c)
and-then true b c f = f refl
and-then false b c f = refl

-- some label of a list has a point
point-in : (ps : List Payload) (q : Point) (p : Payload) → In ps p → p.label.point ≡ q → list_any (λ l. point_eq l.point q) (map label_of ps) ≡ true
point-in [] q p i e = absurd i
point-in (x ∷ ps) q p (inl same) e = or_left (point_eq x.label.point q) _ (subst (λ (r : Point). point_eq x.label.point r ≡ true) (ap (λ (y : Payload). y.label.point) same ∙ e) (point_eq-self x.label.point))
point-in (x ∷ ps) q p (inr i) e = or_right (point_eq x.label.point q) _ (point-in ps q p i e)

in-point : (ps : List Payload) (q : Point) → list_any (λ l. point_eq l.point q) (map label_of ps) ≡ true → (p : Payload) × In ps p × (p.label.point ≡ q)
in-point [] q e = absurd (cc)
in-point (x ∷ ps) q e = elim (or_cases (point_eq x.label.point q) (list_any (λ l. point_eq l.point q) (map label_of ps)) e) [
  | inl here ↦ (x, inl refl, same-point x.label.point q here)
  | inr there ↦ let w = in-point ps q there in (w.0, inr w.1, w.2)
]

-- no payload waits at a point where none does in the machine
same-new : (d : Deployed) (i : ℕ) (x : SiteSeen) (s : SiteState) (q : Point) → IsSite x → StandsSite d i x s → is_none (waiting_at x.proxy.pool q) ≡ is_new_point (waiting_of s) q
same-new d i x s q k st = go (waiting_at x.proxy.pool q) refl (list_any (λ l. point_eq l.point q) (waiting_of s)) refl
  where
    go : (o : Option Payload) → waiting_at x.proxy.pool q ≡ o → (b : Bool) → list_any (λ l. point_eq l.point q) (waiting_of s) ≡ b → is_none o ≡ not b
    go None e true f =
        let w = in-point s.proxy.pool q f in
        let a : waiting_at x.proxy.pool w.0.label.point ≡ Some w.0 = in-found x.proxy.pool w.0 k.proxy.sound.pool (st.proxy.pool.back w.0 w.1) in
        let b : Some w.0 ≡ None = sym a ∙ (ap (waiting_at x.proxy.pool) w.2 ∙ e) in
        absurd (cc)
    go None e false f = refl
    go (Some p) e true f = refl
    go (Some p) e false f =
        let w = found-in x.proxy.pool q p e in
        let a : true ≡ false = sym (point-in s.proxy.pool q p (st.proxy.pool.there p w.0) w.1) ∙ f in
        absurd (cc)

bulk-is : (d : Deployed) (i : ℕ) (x : SiteSeen) (s : SiteState) (from gear n : ℕ) (p : Payload) → IsSite x → StandsSite d i x s → is_bulk_here x.shape x.proxy from gear n p ≡ is_bulk d i s from gear n p
bulk-is d i x s from gear n p k st =
    ap (λ (shape : Shape). (is_other_here shape from && is_gear_here shape gear) && ((is_guest_here shape from p.label && has_parts_here shape (items_of p.label.kind) p.values) && (has_number (window_of x.proxy from gear) n || is_none (waiting_at x.proxy.pool p.label.point)))) st.shape ∙
    and-then (is_other d i from && is_gear d gear) _ _ (λ e.
    let w = and_parts (is_other d i from) (is_gear d gear) e in
    let lf : from < x.proxy.sites = subst (λ (m : ℕ). from < m) (sym (k.proxy.sites ∙ sites-are d i x s st)) (ltb-true from d.sites (and_parts (is_site d from) (not (from == i)) w.0).0) in
    let lg : gear < x.proxy.gears = subst (λ (m : ℕ). gear < m) (sym (k.proxy.gears ∙ count-is d i x s st)) (ltb-true gear d.gears w.1) in
    λ j. (((is_time p.label.point.ts && (p.label.point.site == from)) && kept-is d i p.label.kind j) && parts-is d i (items_of p.label.kind) p.values j) && (sym (st.proxy.taken from gear n lf lg) j || same-new d i x s p.label.point k st j))

-- ---- beats

-- the close cut of the epoch behind n others
close-at : (beat : Beat) (n : ℕ) → slice_get beat.closes n ≡ close_in beat (n + 1)
close-at beat n = sym (ap (λ (b : Bool). if b then None else slice_get beat.closes (n + 1 - 1)) (ne_eqb (n + 1) 0 (λ w. omega arith)) ∙ ap (slice_get beat.closes) (let e : n + 1 - 1 ≡ n = omega arith in e))

beat-is : (d : Deployed) (i : ℕ) (x : SiteSeen) (s : SiteState) (from : ℕ) (beat : Beat) → StandsSite d i x s → (is_other_here x.shape from && is_beat_here x.shape (length x.views.stamp) beat) ≡ (is_other d i from && is_note d (note_of beat))
beat-is d i x s from beat st =
    (λ j. is_other_here (st.shape j) from && is_beat_here (st.shape j) (st.views.count j) beat) ∙
    ap (λ (b : Bool). is_other d i from && (is_point d beat.cut && b)) (all-by _ _ (below (length d.plans)) (λ n. ap (is_cut_here (shape_for d i)) (close-at beat n)))

fits-is : (x : SiteSeen) (given : code.SiteInput) (d : Deployed) (i : ℕ) (s : SiteState) → IsSite x → StandsSite d i x s → fits_here x given ≡ fits d i s (input_of given)
unfolding fits_here fits
fits-is x (input.Tick g t) d i s k st = ap (λ (shape : Shape). is_gear_here shape g && is_time t) st.shape
fits-is x (input.Write seen items values) d i s k st =
    ap (λ (shape : Shape). is_carried_here shape seen && (is_group_here shape items && (length values == length (list_of items)))) st.shape ∙
    ap (λ (b : Bool). is_carried d seen && (b && (length values == length (list_of items)))) (group-is d i items)
fits-is x (input.Read seen n) d i s k st = ap (λ (shape : Shape). is_carried_here shape seen && is_item_here shape n) st.shape ∙ ap (λ (b : Bool). is_carried d seen && b) (item-is d i n)
fits-is x (input.Move seen j) d i s k st = ap (λ (shape : Shape). is_carried_here shape seen && is_site_here shape j) st.shape
fits-is x (input.Attach seen) d i s k st = ap (λ (shape : Shape). is_carried_here shape seen) st.shape
fits-is x input.Gather d i s k st = refl
fits-is x input.Emit d i s k st = refl
fits-is x input.Pulse d i s k st = refl
fits-is x (input.Beat j) d i s k st = ap (λ (shape : Shape). is_other_here shape j) st.shape
fits-is x (input.BeatIn from n beat) d i s k st = beat-is d i x s from beat st
fits-is x input.Stamp d i s k st = refl
fits-is x input.Close d i s k st = refl
fits-is x input.Fall d i s k st = refl
fits-is x input.Advance d i s k st = refl
fits-is x (input.Turn None) d i s k st = refl
fits-is x (input.Turn (Some l)) d i s k st =
    (λ j. is_front_here (st.shape j) (st.views.view j) l) ∙ ap (λ (b : Bool). is_time l.point.ts && (is_other d i l.point.site && b)) (kind-is d i s.views.view l.kind)
fits-is x (input.Bulk from gear n p) d i s k st = bulk-is d i x s from gear n p k st

pub each-fits : EachFits
each-fits x given d i s limits k st = ap (λ (b : Bool). b && is_sized x given) (fits-is x given d i s k st)
