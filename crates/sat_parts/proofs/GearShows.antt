-- What a gear shows is what the model's gear shows.
use Rattle.std.specs.Prelude.{◌≡◌, ◌<◌, ℕ, ◌/◌, ◌%◌, ◌==◌, Bool, true, false, ◌&&◌, ◌||◌, not, List, [], ◌∷◌, length, Option, Some, None, get_or, is_some, unwrap_or, if◌then◌else◌, refl}
use Rattle.std.proofs.Common.{subst, ap, sym, ◌∙◌}
use Rattle.std.proofs.lemmas.Bool.{and_parts, eqb-true, eqb-false, ne_eqb}
use Rattle.std.proofs.lemmas.List.{length-set}
use Rattle.sat_label.specs.declared.label.Label.{Label}
use Rattle.sat_label.specs.declared.label.Kind.{Kind}
use Rattle.sat_label.specs.declared.label.Kind.TheVariants.{Update, Move, Pulse, Close}
use Rattle.sat_label.specs.Grouped.{list_of}
use Rattle.sat_label.specs.Order.{label_lt}
use Rattle.sat_label.specs.Words.{has}
use Rattle.sat_label.proofs.Orders.{label_lt-self}
use Rattle.sat_bulk.specs.Payloads.{Payload, version_for}
use Rattle.sat_sites.specs.declared.shape.Shape.{Shape}
use Rattle.sat_sites.specs.Interested.{AreBelow, are_below, keeps}
use Rattle.sat_sites.proofs.Below.{below_is}
use Rattle.sat_gear.specs.Gear.{GearSeen, IsGear, after_show, places, version_of}
use Rattle.sat_gear.proofs.Places.{within_places}
use Rattle.sat_act.specs.Deployed.{Deployed}
use Rattle.sat_act.specs.Answers.{gear_of}
use Rattle.sat_act.specs.Parts.{is_update_of, items_of, replicates}
use Rattle.sat_model.specs.Next.{part_for, put, version_at}
use Rattle.sat_model.specs.State.{Version}
use Rattle.sat_hub.specs.Changes.{shape_for}
use Rattle.sat_hub.specs.Seen.{has_parts_here}
use Rattle.sat_hub.proofs.Lists.{passed}
use Rattle.sat_site.specs.Stands.{StandsGear, version_seen}
use Rattle.sat_site.proofs.Interests.{items-are, keeps-is}
use Rattle.sat_site.proofs.Shows.{put_parts}
use Rattle.sat_site.proofs.Stores.{newer-stored}
use Rattle.sat_joint.specs.Machines.{GearNode, gear_shows}
use Rattle.sat_parts.specs.declared.gear_input.ShownBy.{ShownBy}
use Rattle.sat_parts.specs.GearSteps.{is_of, is_written, keeps_here, may_show, shown_all, shown_if, shown_of, shows_item}
use Rattle.sat_parts.specs.Gears.{StandsGearNode}

-- ---- but for its versions a gear stays as it was

pub record SameGear (x y : GearSeen) : Type 0 where
  pub shape : y.shape ≡ x.shape
  pub gear : y.gear ≡ x.gear
  pub promise : y.promise ≡ x.promise
  pub fresh : y.fresh ≡ x.fresh
  pub lanes : y.lanes ≡ x.lanes
  pub versions : length y.versions ≡ length x.versions

same-self : (x : GearSeen) → SameGear x x
same-self x = record { shape = refl; gear = refl; promise = refl; fresh = refl; lanes = refl; versions = refl }

same-then : (x y z : GearSeen) → SameGear x y → SameGear y z → SameGear x z
same-then x y z a b = record {
  shape = b.shape ∙ a.shape;
  gear = b.gear ∙ a.gear;
  promise = b.promise ∙ a.promise;
  fresh = b.fresh ∙ a.fresh;
  lanes = b.lanes ∙ a.lanes;
  versions = b.versions ∙ a.versions;
}

pub same-shown : (b : Bool) (x : GearSeen) (k : ℕ) (o : Option _) → SameGear x (shown_if b x k o)
same-shown false x k o = same-self x
same-shown true x k None = same-self x
same-shown true x k (Some v) = record { shape = refl; gear = refl; promise = refl; fresh = refl; lanes = refl; versions = length-set x.versions _ _ }

pub same-all : (x : GearSeen) (l : Label) (ks : List ℕ) (ps : List (Option (List ℕ))) → SameGear x (shown_all x l ks ps)
unfolding shown_all
same-all x l [] ps = same-self x
same-all x l (k ∷ ks) [] = same-self x
same-all x l (k ∷ ks) (p ∷ ps) =
    let y : GearSeen = shown_if (shows_item x k) x k (version_for l p) in
    same-then x y (shown_all y l ks ps) (same-shown (shows_item x k) x k (version_for l p)) (same-all y l ks ps)

-- ---- the versions of its items that the site keeps

-- a gear of site i with a place for each of its items
pub record IsOf (d : Deployed) (i g : ℕ) (x : GearSeen) : Type 0 where
  pub shape : x.shape ≡ shape_for d i
  pub number : x.gear ≡ g
  pub some : 0 < x.shape.gears
  pub places : length x.versions ≡ places (length x.shape.interest.replicas) x.shape.gears

of-same : (d : Deployed) (i g : ℕ) (x y : GearSeen) → IsOf d i g x → SameGear x y → IsOf d i g y
of-same d i g x y k same = record {
  shape = same.shape ∙ k.shape;
  number = same.gear ∙ k.number;
  some = subst (λ (s : Shape). 0 < s.gears) (sym same.shape) k.some;
  places = same.versions ∙ (k.places ∙ (λ j. places (length (sym same.shape j).interest.replicas) (sym same.shape j).gears));
}

abbrev pub Versions : Deployed → ℕ → ℕ → GearSeen → (ℕ → Option Version) → Type 0
Versions d i g x f = (m : ℕ) → m < length d.items → replicates d m i ≡ true → gear_of d m ≡ g → version_seen (version_of x m) ≡ f m

-- what a part makes of the versions
abbrev put_one : (ℕ → Option Version) → Label → ℕ → Option (List ℕ) → ℕ → Option Version
put_one f l k p m = if k == m then put (f m) (version_at l (unwrap_or p [])) else f m

module _ (d : Deployed) (i g : ℕ) (x : GearSeen) (l : Label) (k : ℕ) (f : ℕ → Option Version) (of : IsOf d i g x) (item : k < length x.shape.interest.replicas) (st : Versions d i g x f) where
  kept-is : keeps_here x k ≡ replicates d k i
  kept-is = ap (λ (shape : Shape). keeps shape.interest k shape.site) of.shape ∙ keeps-is d k i

  count : x.shape.gears ≡ d.gears
  count = λ j. (of.shape j).gears

  known : k < length d.items
  known = subst (λ (n : ℕ). k < n) ((λ j. length (of.shape j).interest.replicas) ∙ items-are d) item

  here : is_of x k ≡ true → gear_of d k ≡ g
  here e = (λ j. k % sym count j) ∙ (eqb-true (k % x.shape.gears) x.gear e ∙ of.number)

  -- an item that it doesn't show is none of these
  leaves : (p : Option (List ℕ)) → ((m : ℕ) → replicates d m i ≡ true → gear_of d m ≡ g → k ≡ m → ⊥) → Versions d i g x (put_one f l k p)
  leaves p other m lt kept at = st m lt kept at ∙ sym (passed (k == m) (put (f m) (version_at l (unwrap_or p []))) (f m) (ne_eqb k m (other m kept at)))

  shows : (value : List ℕ) → is_of x k ≡ true → replicates d k i ≡ true → Versions d i g (after_show x k (record { label = l; value = value })) (put_one f l k (Some value))
  shows value own kept m lt keeps at =
      newer-stored x.versions k m x.shape.gears l value f
      (subst (λ (n : ℕ). k / x.shape.gears < n) (sym of.places) (within_places k (length x.shape.interest.replicas) x.shape.gears of.some item))
      ((λ j. m % count j) ∙ (at ∙ (sym of.number ∙ sym (eqb-true (k % x.shape.gears) x.gear own)))) (st k known kept (here own)) (st m lt keeps at)

  one-shown : (a b : Bool) (p : Option (List ℕ)) → is_of x k ≡ a → keeps_here x k ≡ b → (not (keeps_here x k) || is_some p) ≡ true → Versions d i g (shown_if (a && b) x k (version_for l p)) (put_one f l k p)
  one-shown true true (Some value) own keep full = shows value own (sym kept-is ∙ keep)
  one-shown true true None own keep full = absurd (let clash : false ≡ true = ap (λ (b : Bool). not b || false) (sym keep) ∙ full in cc)
  one-shown true false p own keep full = leaves p (λ m kept at same. let clash : true ≡ false = sym kept ∙ (ap (λ (n : ℕ). replicates d n i) (sym same) ∙ (sym kept-is ∙ keep)) in cc)
  one-shown false b p own keep full = leaves p (λ m kept at same. eqb-false (k % x.shape.gears) x.gear own ((λ j. k % count j) ∙ (ap (gear_of d) same ∙ (at ∙ sym of.number))))

  pub part-shown : (p : Option (List ℕ)) → (not (keeps_here x k) || is_some p) ≡ true → Versions d i g (shown_if (shows_item x k) x k (version_for l p)) (put_one f l k p)
  part-shown p full = one-shown (is_of x k) (keeps_here x k) p refl refl full

-- where a label was put it is not put again
own : (l : Label) (v w : List ℕ) → put (Some (version_at l v)) (version_at l w) ≡ Some (version_at l v)
own l v w = ap (λ (b : Bool). if b then Some (version_at l w) else Some (version_at l v)) (label_lt-self l)

again : (o : Option Version) (l : Label) (v w : List ℕ) → put (put o (version_at l v)) (version_at l w) ≡ put o (version_at l v)
again None l v w = own l v w
again (Some q) l v w = go (label_lt q.label l) refl
  where
    go : (b : Bool) → label_lt q.label l ≡ b → put (if b then Some (version_at l v) else Some q) (version_at l w) ≡ (if b then Some (version_at l v) else Some q)
    go true e = own l v w
    go false e = ap (λ (b : Bool). if b then Some (version_at l w) else Some q) e

twice : (a b : Bool) (o : Option Version) (l : Label) (v w : List ℕ) → (if b then put (if a then put o (version_at l v) else o) (version_at l w) else (if a then put o (version_at l v) else o)) ≡ (if a || b then put o (version_at l (if a then v else w)) else o)
twice true true o l v w = again o l v w
twice true false o l v w = refl
twice false b o l v w = refl

pub all-shown : (d : Deployed) (i g : ℕ) (x : GearSeen) (l : Label) (ks : List ℕ) (ps : List (Option (List ℕ))) (f : ℕ → Option Version) → IsOf d i g x → AreBelow (length x.shape.interest.replicas) ks → has_parts_here x.shape ks ps ≡ true → Versions d i g x f →
    Versions d i g (shown_all x l ks ps) (put_parts f l ks ps)
unfolding shown_all
all-shown d i g x l [] ps f of known full st = st
all-shown d i g x l (k ∷ ks) [] f of known full st = absurd (cc)
all-shown d i g x l (k ∷ ks) (p ∷ ps) f of known full st = λ m lt kept at.
    let w = and_parts (not (keeps_here x k) || is_some p) (has_parts_here x.shape ks ps) full in
    let y : GearSeen = shown_if (shows_item x k) x k (version_for l p) in
    let same : SameGear x y = same-shown (shows_item x k) x k (version_for l p) in
    all-shown d i g y l ks ps (put_one f l k p) (of-same d i g x y of same)
    (subst (λ (s : Shape). AreBelow (length s.interest.replicas) ks) (sym same.shape) known.1) (subst (λ (s : Shape). has_parts_here s ks ps ≡ true) (sym same.shape) w.1)
    (part-shown d i g x l k f of known.0 st p w.0) m lt kept at
    ∙ twice (k == m) (has ◌==◌ ks m) (f m) l (unwrap_or p []) (part_for ks ps m)

-- ---- a payload

pub stands-of : (d : Deployed) (i g : ℕ) (x : GearSeen) (n : GearNode) → IsGear x → StandsGearNode d i g x n → IsOf d i g x
stands-of d i g x n k st = record { shape = st.shape; number = st.number; some = k.shape.gears; places = k.versions }

-- a gear of the same promise, labels and lanes stands for the same
pub gear-same : (d : Deployed) (x y : GearSeen) (n : GearNode) → SameGear x y → StandsGear d x n.gear → StandsGear d y n.gear
gear-same d x y n same st = record {
  promise = same.promise ∙ st.promise;
  fresh = same.fresh ∙ st.fresh;
  lanes = λ j lt. ap (λ (lanes : List (List Payload)). get_or lanes j []) same.lanes ∙ st.lanes j lt;
}

kind-shown : (d : Deployed) (i g : ℕ) (x : GearSeen) (n : GearNode) (by : ShownBy) (p : Payload) (kind : Kind) → p.label.kind ≡ kind → IsGear x → StandsGearNode d i g x n → may_show x.shape by p kind ≡ true → StandsGearNode d i g (shown_of x p kind) (gear_shows n p)
kind-shown d i g x n by p (Update items) e k st may =
    let w = and_parts (are_below (length x.shape.interest.replicas) (list_of items) && has_parts_here x.shape (list_of items) p.values) (is_written by x.shape items p.values) may in
    let v = and_parts (are_below (length x.shape.interest.replicas) (list_of items)) (has_parts_here x.shape (list_of items) p.values) w.0 in
    let y : GearSeen = shown_all x p.label (list_of items) p.values in
    let same : SameGear x y = same-all x p.label (list_of items) p.values in
    record {
      shape = same.shape ∙ st.shape;
      number = same.gear ∙ st.number;
      gear = gear-same d x y n same st.gear;
      beyond = st.beyond;
      versions = λ m lt kept at.
          all-shown d i g x p.label (list_of items) p.values n.store (stands-of d i g x n k st) (below_is (length x.shape.interest.replicas) (list_of items) v.0) v.1 st.versions m lt kept at
          ∙ (λ j. if is_update_of (sym e j) m then put (n.store m) (version_at p.label (part_for (items_of (sym e j)) p.values m)) else n.store m);
    }
kind-shown d i g x n by p (Move j) e k st may = absurd (cc)
kind-shown d i g x n by p Pulse e k st may = absurd (cc)
kind-shown d i g x n by p (Close q) e k st may = absurd (cc)

pub payload-shown : (d : Deployed) (i g : ℕ) (x : GearSeen) (n : GearNode) (by : ShownBy) (p : Payload) → IsGear x → StandsGearNode d i g x n → may_show x.shape by p p.label.kind ≡ true → StandsGearNode d i g (shown_of x p p.label.kind) (gear_shows n p)
payload-shown d i g x n by p k st may = kind-shown d i g x n by p p.label.kind refl k st may
