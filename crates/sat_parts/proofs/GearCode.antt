-- What the calls of a gear ask, answer and do, by each input, and what they show.
use Rattle.std.specs.Prelude.{◌≡◌, ◌<◌, ◌≤◌, ◌+◌, ◌%◌, ◌^◌, ◌==◌, ℕ, zero, suc, Bool, true, false, ◌&&◌, ◌||◌, not, List, [], ◌∷◌, length, map, drop, get_or, set, Option, Some, None, is_some, Result, IfOk, OnErr, OnOk, refl}
use Rattle.std.specs.List.{list_all}
use Rattle.std.proofs.Common.{Ok, Err, subst, ap, sym, ◌∙◌, arith}
use Rattle.std.proofs.lemmas.Bool.{and_parts, eqb-true, leb-true, ltb-true}
use Rattle.std.proofs.lemmas.List.{drop-set-lt, drop_all, drop_more, length-map}
use Rattle.sat_label.specs.declared.label.Kind.TheVariants.{Update}
use Rattle.sat_label.specs.declared.carried.Carried.{Carried}
use Rattle.sat_label.specs.declared.items.Items.{Items}
use Rattle.sat_label.specs.declared.items.Items.TheVariants.{One, Two, Three, Four}
use Rattle.sat_bulk.specs.declared.Drained.{Drained}
use Rattle.sat_model.specs.Fits.{is_time}
use Rattle.sat_label.specs.declared.label.Label.{Label}
use Rattle.sat_label.specs.Grouped.{are_items, least_item, list_of}
use Rattle.sat_sites.specs.declared.shape.Shape.{Shape}
use Rattle.sat_sites.specs.Interested.{AreBelow, are_below, keeps}
use Rattle.sat_sites.proofs.Below.{below_is}
use Rattle.sat_gear.specs.Gear.{AreItemsOf, GearSeen, drained_of, payload_with}
use Rattle.sat_gear.specs.Lanes.{count_of}
use Rattle.sat_act.specs.declared.answer.Answer.{Answer}
use Rattle.sat_bulk.specs.Payloads.{Payload, version_for}
use Rattle.sat_hub.specs.Inputs.{is_carried_here, is_group_here, is_item_here, is_site_here}
use Rattle.sat_hub.specs.Seen.{has_parts_here}
use Rattle.sat_parts.specs.declared.gear_input.GearInput.{GearInput}
use Rattle.sat_parts.specs.declared.gear_input.GearInput.TheVariants as gear
use Rattle.sat_parts.specs.declared.gear_input.ShownBy.{ShownBy}
use Rattle.sat_parts.specs.declared.gear_step.Twice.{Twice}
use Rattle.sat_hub_laws.specs.Gears.{has_all}
use Rattle.sat_parts.specs.GearSteps.{drained_eq, gear_after, gear_answers, gear_may_fail, gear_takes, is_of, is_written, keeps_here, may_show, shown_all, shown_if, shows_item, write_after}

-- ---- parts, from a place on

pub parts_more : (shape : Shape) (k : ℕ) (ks : List ℕ) (ps : List (Option (List ℕ))) (place : ℕ) → place < length ps →
    has_parts_here shape (k ∷ ks) (drop place ps) ≡ ((not (keeps shape.interest k shape.site) || is_some (get_or ps place None)) && has_parts_here shape ks (drop (place + 1) ps))
parts_more shape k ks ps place lt = ap (has_parts_here shape (k ∷ ks)) (drop_more ps place None lt)

parts-count : (shape : Shape) (ns : List ℕ) (ps : List (Option (List ℕ))) → has_parts_here shape ns ps ≡ true → length ps ≡ length ns
parts-count shape [] [] e = refl
parts-count shape [] (p ∷ ps) e = absurd (cc)
parts-count shape (m ∷ ns) [] e = absurd (cc)
parts-count shape (m ∷ ns) (p ∷ ps) e = let w : length ps ≡ length ns = parts-count shape ns ps (and_parts (not (keeps shape.interest m shape.site) || is_some p) (has_parts_here shape ns ps) e).1 in omega (arith, w)

pub parts_uneven : (shape : Shape) (ks : List ℕ) (ps : List (Option (List ℕ))) → (length ps ≡ length ks → ⊥) → false ≡ has_parts_here shape ks ps
parts_uneven shape ks ps uneven = go (has_parts_here shape ks ps) refl
  where
    go : (b : Bool) → has_parts_here shape ks ps ≡ b → false ≡ b
    go true e = absurd (uneven (parts-count shape ks ps e))
    go false e = refl

-- each part is there, from a place on
pub all_none : (ps : List (Option (List ℕ))) (place : ℕ) → place ≡ length ps → true ≡ has_all (drop place ps)
all_none ps place e = ap has_all (sym (drop_all place ps (omega (arith, e))))

pub all_more : (ps : List (Option (List ℕ))) (place : ℕ) → place < length ps → has_all (drop place ps) ≡ (is_some (get_or ps place None) && has_all (drop (place + 1) ps))
all_more ps place lt = ap has_all (drop_more ps place None lt)

-- a payload that may be shown has as many parts as items
pub shown-count : (s : Shape) (act : ShownBy) (p : Payload) (l : Label) (items : Items) → l ≡ p.label → l.kind ≡ Update items → may_show s act p p.label.kind ≡ true → length p.values ≡ length (list_of items)
shown-count s act p l items same is may =
    let e : may_show s act p (Update items) ≡ true = ap (may_show s act p) (sym is ∙ ap (λ (m : Label). m.kind) same) ∙ may in
    parts-count s (list_of items) p.values (and_parts (are_below (length s.interest.replicas) (list_of items)) (has_parts_here s (list_of items) p.values) (and_parts (are_below (length s.interest.replicas) (list_of items) && has_parts_here s (list_of items) p.values) (is_written act s items p.values) e).0).1

-- what a write makes has as many parts as values
pub made-count : (l : Label) (p : Payload) (values : List (List ℕ)) (items : Items) → p ≡ payload_with l values → length values ≡ length (list_of items) → length p.values ≡ length (list_of items)
made-count l p values items e many = ap (λ (q : Payload). length q.values) e ∙ (length-map values Some ∙ many)

pub shown_none : (x : GearSeen) (l : Label) (ks : List ℕ) (ps : List (Option (List ℕ))) → length ks ≡ 0 → x ≡ shown_all x l ks ps
unfolding shown_all
shown_none x l [] ps e = refl
shown_none x l (k ∷ ks) ps e = absurd (omega (arith, e))

pub shown_step : (x y r : GearSeen) (l m : Label) (k : ℕ) (ks : List ℕ) (ps qs : List (Option (List ℕ))) (place : ℕ) → place < length ps → y ≡ shown_if (shows_item x k) x k (version_for l (get_or ps place None)) → m ≡ l → qs ≡ set ps place None →
    r ≡ shown_all y m ks (drop (place + 1) qs) → r ≡ shown_all x l (k ∷ ks) (drop place ps)
unfolding shown_all
shown_step x y r l m k ks ps qs place lt at label left e =
    e ∙ ((λ j. shown_all (at j) (label j) ks (drop (place + 1) (left j))) ∙
    (ap (shown_all (shown_if (shows_item x k) x k (version_for l (get_or ps place None))) l ks) (drop-set-lt (place + 1) ps place None (omega arith)) ∙
    ap (shown_all x l (k ∷ ks)) (sym (drop_more ps place None lt))))

pub counts_none : (lanes : List (List Payload)) (to : ℕ) → length lanes ≤ to → drop to (map count_of lanes) ≡ []
counts_none lanes to past = drop_all to (map count_of lanes) (omega (arith, length-map lanes count_of))

lane-count : (lanes : List (List Payload)) (j : ℕ) → get_or (map count_of lanes) j 0 ≡ length (get_or lanes j [])
lane-count [] j = refl
lane-count (l ∷ lanes) zero = refl
lane-count (l ∷ lanes) (suc j) = lane-count lanes j

pub counts_more : (lanes : List (List Payload)) (to : ℕ) → to < length lanes → drop to (map count_of lanes) ≡ length (get_or lanes to []) ∷ drop (to + 1) (map count_of lanes)
counts_more lanes to lt =
    drop_more (map count_of lanes) to 0 (omega (arith, length-map lanes count_of)) ∙ ap (λ (n : ℕ). n ∷ drop (to + 1) (map count_of lanes)) (lane-count lanes to)

-- ---- what it takes, by what the code asks

pub asks-tick : (x : GearSeen) (ts : ℕ) (r : Bool) (given : GearInput) → given ≡ gear.Tick ts → r ≡ is_time ts → r ≡ gear_takes x given
unfolding gear_takes
asks-tick x ts r given is e = e ∙ ap (gear_takes x) (sym is)

pub asks-write : (s : Shape) (m : ℕ) (x : GearSeen) (seen : Carried) (items : Items) (values : List (List ℕ)) (r : Bool) (given : GearInput) → s ≡ x.shape → m ≡ x.gear → given ≡ gear.Write seen items values →
    r ≡ ((is_carried_here s seen && (is_group_here s items && (length values == length (list_of items)))) && (least_item (list_of items) % s.gears == m)) → r ≡ gear_takes x given
unfolding gear_takes
asks-write s m x seen items values r given same at is e =
    e ∙ ((λ j. (is_carried_here (same j) seen && (is_group_here (same j) items && (length values == length (list_of items)))) && (least_item (list_of items) % (same j).gears == at j)) ∙ ap (gear_takes x) (sym is))

pub asks-read : (s : Shape) (m : ℕ) (x : GearSeen) (seen : Carried) (n : ℕ) (r : Bool) (given : GearInput) → s ≡ x.shape → m ≡ x.gear → given ≡ gear.Read seen n →
    r ≡ ((is_carried_here s seen && is_item_here s n) && (n % s.gears == m)) → r ≡ gear_takes x given
unfolding gear_takes
asks-read s m x seen n r given same at is e = e ∙ ((λ j. (is_carried_here (same j) seen && is_item_here (same j) n) && (n % (same j).gears == at j)) ∙ ap (gear_takes x) (sym is))

pub asks-move : (s : Shape) (m : ℕ) (x : GearSeen) (seen : Carried) (to : ℕ) (r : Bool) (given : GearInput) → s ≡ x.shape → m ≡ x.gear → given ≡ gear.Move seen to →
    r ≡ ((is_carried_here s seen && is_site_here s to) && (0 == m)) → r ≡ gear_takes x given
unfolding gear_takes
asks-move s m x seen to r given same at is e = e ∙ ((λ j. (is_carried_here (same j) seen && is_site_here (same j) to) && (0 == at j)) ∙ ap (gear_takes x) (sym is))

pub asks-drain : (x : GearSeen) (d : Drained) (labels stable : ℕ) (r : Bool) (given : GearInput) → given ≡ gear.Drain d labels stable → r ≡ drained_eq d (drained_of x) → r ≡ gear_takes x given
unfolding gear_takes
asks-drain x d labels stable r given is e = e ∙ ap (gear_takes x) (sym is)

pub asks-show : (s : Shape) (x : GearSeen) (act : ShownBy) (p : Payload) (r : Bool) (given : GearInput) → s ≡ x.shape → given ≡ gear.Show act p → r ≡ may_show s act p p.label.kind → r ≡ gear_takes x given
unfolding gear_takes
asks-show s x act p r given same is e = e ∙ (ap (λ (s : Shape). may_show s act p p.label.kind) same ∙ ap (gear_takes x) (sym is))

-- ---- what it asks of what it takes

pub takes-tick : (x : GearSeen) (given : GearInput) (ts : ℕ) → given ≡ gear.Tick ts → gear_takes x given ≡ true → ts ≤ 2 ^ 62
unfolding gear_takes
takes-tick x given ts is e = leb-true ts (2 ^ 62) (ap (gear_takes x) (sym is) ∙ e)

pub takes-write : (x : GearSeen) (given : GearInput) (seen : Carried) (items : Items) (values asked : List (List ℕ)) → given ≡ gear.Write seen items values → asked ≡ values → gear_takes x given ≡ true → gear_takes x (gear.Write seen items asked) ≡ true
takes-write x given seen items values asked is same e = ap (λ (vs : List (List ℕ)). gear_takes x (gear.Write seen items vs)) same ∙ (ap (gear_takes x) (sym is) ∙ e)

pub takes-show : (x : GearSeen) (given : GearInput) (act : ShownBy) (p : Payload) → given ≡ gear.Show act p → gear_takes x given ≡ true → gear_takes x (gear.Show act p) ≡ true
takes-show x given act p is e = ap (gear_takes x) (sym is) ∙ e

pub shown-takes : (x : GearSeen) (act : ShownBy) (p : Payload) → gear_takes x (gear.Show act p) ≡ true → may_show x.shape act p p.label.kind ≡ true
unfolding gear_takes
shown-takes x act p e = e

pub takes-move : (x : GearSeen) (given : GearInput) (seen : Carried) (to : ℕ) → given ≡ gear.Move seen to → gear_takes x given ≡ true → (x.gear ≡ 0) × (to < x.shape.sites)
unfolding gear_takes
takes-move x given seen to is e =
    let w = and_parts (is_carried_here x.shape seen && is_site_here x.shape to) (0 == x.gear) (ap (gear_takes x) (sym is) ∙ e) in
    (sym (eqb-true 0 x.gear w.1), ltb-true to x.shape.sites (and_parts (is_carried_here x.shape seen) (is_site_here x.shape to) w.0).1)

pub takes-read : (x : GearSeen) (given : GearInput) (seen : Carried) (n : ℕ) → given ≡ gear.Read seen n → gear_takes x given ≡ true → (n < length x.shape.interest.replicas) × (is_of x n ≡ true)
unfolding gear_takes
takes-read x given seen n is e =
    let w = and_parts (is_carried_here x.shape seen && is_item_here x.shape n) (is_of x n) (ap (gear_takes x) (sym is) ∙ e) in
    (ltb-true n (length x.shape.interest.replicas) (and_parts (is_carried_here x.shape seen) (is_item_here x.shape n) w.0).1, w.1)

pub record Written (x : GearSeen) (items : Items) (values : List (List ℕ)) : Type 0 where
  pub known : AreBelow (length x.shape.interest.replicas) (list_of items)
  pub many : length values ≡ length (list_of items)
  pub least : is_of x (least_item (list_of items)) ≡ true

pub written-takes : (x : GearSeen) (seen : Carried) (items : Items) (values : List (List ℕ)) → gear_takes x (gear.Write seen items values) ≡ true → Written x items values
unfolding gear_takes
written-takes x seen items values e =
    let w = and_parts (is_carried_here x.shape seen && (is_group_here x.shape items && (length values == length (list_of items)))) (is_of x (least_item (list_of items))) e in
    let v = and_parts (is_carried_here x.shape seen) (is_group_here x.shape items && (length values == length (list_of items))) w.0 in
    let u = and_parts (is_group_here x.shape items) (length values == length (list_of items)) v.1 in
    record {
      known = below_is (length x.shape.interest.replicas) (list_of items) (and_parts (are_items (list_of items)) _ u.0).1;
      many = eqb-true (length values) (length (list_of items)) u.1;
      least = w.1;
    }

least-below : (n : ℕ) (items : Items) → AreBelow n (list_of items) → least_item (list_of items) < n
least-below n (One a) e = e.0
least-below n (Two a b) e = e.0
least-below n (Three a b c) e = e.0
least-below n (Four a b c d) e = e.0

least-kept : (f : ℕ → Bool) (items : Items) → list_all f (list_of items) ≡ true → f (least_item (list_of items)) ≡ true
least-kept f (One a) e = (and_parts (f a) (list_all f []) e).0
least-kept f (Two a b) e = (and_parts (f a) (list_all f (b ∷ [])) e).0
least-kept f (Three a b c) e = (and_parts (f a) (list_all f (b ∷ c ∷ [])) e).0
least-kept f (Four a b c d) e = (and_parts (f a) (list_all f (b ∷ c ∷ d ∷ [])) e).0

pub items-written : (s : Shape) (x : GearSeen) (items : Items) (values : List (List ℕ)) → s ≡ x.shape → Written x items values → list_all (λ n. keeps s.interest n s.site) (list_of items) ≡ true → AreItemsOf x (list_of items)
items-written s x items values same w kept =
    let all : list_all (keeps_here x) (list_of items) ≡ true = subst (λ (s : Shape). list_all (λ n. keeps s.interest n s.site) (list_of items) ≡ true) same kept in
    record {
      known = w.known;
      least = record {
        item = least-below (length x.shape.interest.replicas) items w.known;
        gear = eqb-true (least_item (list_of items) % x.shape.gears) x.gear w.least;
        kept = least-kept (keeps_here x) items all;
      };
      kept = all;
    }

-- ---- a result, by what the input is

pub ok-answer : {E : Type 0} (x : GearSeen) (given g : GearInput) (r : Result Answer E) → given ≡ g → IfOk r (λ a. a ≡ gear_answers x g) → IfOk r (λ a. a ≡ gear_answers x given)
ok-answer x given g (Ok a) is e = e ∙ ap (gear_answers x) (sym is)
ok-answer x given g (Err f) is e = tt

pub ok-after : {E : Type 0} (x y : GearSeen) (given g : GearInput) (r : Result Answer E) → given ≡ g → OnOk r (y ≡ gear_after x g) → OnOk r (y ≡ gear_after x given)
ok-after x y given g (Ok a) is e = e ∙ ap (gear_after x) (sym is)
ok-after x y given g (Err f) is e = tt

pub ok-written : {E : Type 0} (x y : GearSeen) (given : GearInput) (seen : Carried) (items : Items) (values asked : List (List ℕ)) (r : Result Answer E) → given ≡ gear.Write seen items values → asked ≡ values →
    OnOk r (y ≡ write_after (list_all (keeps_here x) (list_of items)) x seen.point items asked) → OnOk r (y ≡ gear_after x given)
unfolding gear_after
ok-written x y given seen items values asked (Ok a) is same e = e ∙ (ap (λ (vs : List (List ℕ)). write_after (list_all (keeps_here x) (list_of items)) x seen.point items vs) same ∙ ap (gear_after x) (sym is))
ok-written x y given seen items values asked (Err f) is same e = tt

pub err-may : {A E : Type 0} (x y : GearSeen) (given g : GearInput) (r : Result A E) → given ≡ g → gear_may_fail g ≡ true → OnErr r (y ≡ x) → OnErr r ((y ≡ x) × (gear_may_fail given ≡ true))
err-may x y given g (Ok a) is may e = tt
err-may x y given g (Err f) is may e = (e, ap gear_may_fail is ∙ may)

pub ok-twice : {E : Type 0} (x : GearSeen) (given g : GearInput) (r : Result Twice E) → given ≡ g → IfOk r (λ t. t.answer ≡ gear_answers x g) → IfOk r (λ t. t.answer ≡ gear_answers x given)
ok-twice x given g (Ok a) is e = e ∙ ap (gear_answers x) (sym is)
ok-twice x given g (Err f) is e = tt

pub twice-stays : {E : Type 0} (x : GearSeen) (given : GearInput) (seen : Carried) (n : ℕ) (r : Result Twice E) → given ≡ gear.Read seen n → OnOk r (x ≡ gear_after x given)
unfolding gear_after
twice-stays x given seen n (Ok a) is = ap (gear_after x) (sym is)
twice-stays x given seen n (Err f) is = tt
