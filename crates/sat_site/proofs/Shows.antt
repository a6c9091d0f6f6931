-- An update that is shown, by a turn or in timestamp order.
use Rattle.std.specs.Prelude.{◌≡◌, ◌<◌, ◌/◌, ◌%◌, ◌||◌, not, ℕ, Bool, true, false, ◌==◌, List, [], ◌∷◌, length, set, slice_get, Option, Some, None, is_some, unwrap_or, if◌then◌else◌, refl}
use Rattle.std.proofs.Common.{subst, ap, sym, ◌∙◌, inl, inr}
use Rattle.std.proofs.lemmas.Bool.{and_parts, ne_eqb}
use Rattle.std.proofs.lemmas.List.{length-set}
use Rattle.std.proofs.lemmas.Nat.{mod_below}
use Rattle.sat_label.specs.declared.items.Items.{Items}
use Rattle.sat_label.specs.declared.label.Label.{Label}
use Rattle.sat_label.specs.declared.label.Kind.{Kind}
use Rattle.sat_label.specs.declared.label.Kind.TheVariants.{Update}
use Rattle.sat_label.specs.Grouped.{list_of}
use Rattle.sat_label.specs.Order.{label_eq, label_lt}
use Rattle.sat_label.specs.Members.{In}
use Rattle.sat_label.specs.Words.{has}
use Rattle.sat_label.proofs.Orders.{same-label, label_eq-self, label_lt-self}
use Rattle.sat_bulk.specs.Payloads.{Payload}
use Rattle.sat_pool.specs.Pool.{all_waiting, waiting_at}
use Rattle.sat_pool.proofs.Members.{in-found}
use Rattle.sat_gear.specs.Gear.{GearSeen, after_show, fresh_gear, places}
use Rattle.sat_gear.proofs.Places.{within_places}
use Rattle.sat_sites.specs.Interested.{keeps, AreBelow}
use Rattle.sat_sites.specs.declared.shape.Shape.{Shape}
use Rattle.sat_act.specs.declared.answer.Answer.TheVariants as ans
use Rattle.sat_act.specs.Answers.{gear_of}
use Rattle.sat_act.specs.Parts.{is_update_of, items_of, replicates}
use Rattle.sat_act.specs.Deployed.{Deployed}
use Rattle.sat_model.specs.Input.{SiteInput}
use Rattle.sat_model.specs.State.{SiteState, GearState, Version}
use Rattle.sat_model.specs.Next.{part_for, proxy_next, put, site_next, store_next, version_at, views_next}
use Rattle.sat_model.specs.Look.{payload_in}
use Rattle.sat_epoch.specs.Epochs.{Epochs}
use Rattle.sat_proxy.specs.Proxy.{ProxySeen}
use Rattle.sat_proxy.specs.Stands.{SamePayloads, StandsProxy}
use Rattle.sat_site.specs.Seen.{SiteSeen, IsSite, IsGuest, has_parts_here}
use Rattle.sat_site.specs.Stands.{StandsSite, StandsGear, StandsGears, StandsStore, StandsViews}
use Rattle.sat_site.specs.Changes.{shape_for}
use Rattle.sat_site.specs.SiteSteps.{shown_at, shown_by, shown_each, shown_of}
use Rattle.sat_site.proofs.Interests.{items-are, keeps-is}
use Rattle.sat_hub.proofs.Lists.{get-is, passed, set-cases}
use Rattle.sat_site.proofs.Parts.{gears-set, store-set}
use Rattle.sat_site.proofs.Stores.{newer-stored}

-- where all payloads of a label are one, its parts are found
parts-found : (ps : List Payload) (p : Payload) → In ps p → ((q : Payload) → In ps q → q.label ≡ p.label → q ≡ p) → payload_in ps p.label ≡ p.values
unfolding payload_in
parts-found [] p i f = absurd i
parts-found (q ∷ ps) p i f = go (label_eq q.label p.label) refl i (λ w. parts-found ps p w (λ x m. f x (inr m)))
  where
    go : (b : Bool) → label_eq q.label p.label ≡ b → In (q ∷ ps) p → (In ps p → payload_in ps p.label ≡ p.values) → (if b then q.values else payload_in ps p.label) ≡ p.values
    go true e w rest = ap (λ (x : Payload). x.values) (f q (inl refl) (same-label q.label p.label e))
    go false e (inl same) rest = absurd (let k : label_eq q.label p.label ≡ true = subst (λ (x : Payload). label_eq q.label x.label ≡ true) same (label_eq-self q.label) in let clash : true ≡ false = sym k ∙ e in cc)
    go false e (inr w) rest = rest w

-- the machine finds the parts of a payload that waits
pub parts-are : (x : SiteSeen) (ps : List Payload) (p : Payload) → IsSite x → SamePayloads (all_waiting x.proxy.pool) ps → In (all_waiting x.proxy.pool) p → payload_in ps p.label ≡ p.values
parts-are x ps p k same there = parts-found ps p (same.there p there) one
  where
    one : (q : Payload) → In ps q → q.label ≡ p.label → q ≡ p
    one q i e =
        let a : waiting_at x.proxy.pool q.label.point ≡ Some q = in-found x.proxy.pool q k.proxy.sound.pool (same.back q i) in
        let b : waiting_at x.proxy.pool p.label.point ≡ Some p = in-found x.proxy.pool p k.proxy.sound.pool there in
        let c : Some q ≡ Some p = sym a ∙ (ap (λ (l : Label). waiting_at x.proxy.pool l.point) e ∙ b) in
        cc

-- ---- one item

-- the gears of a site: as many as it says, each with a place for each of its items
pub record AreOf (shape : Shape) (gears : List GearSeen) : Type 0 where
  pub some : 0 < shape.gears
  pub count : length gears ≡ shape.gears
  pub each : (g : ℕ) (gear : GearSeen) → slice_get gears g ≡ Some gear → (gear.shape.gears ≡ shape.gears) × (length gear.versions ≡ places (length shape.interest.replicas) shape.gears)

pub are-of : (x : SiteSeen) → IsSite x → AreOf x.shape x.gears
are-of x k = record {
  some = k.shape.gears;
  count = k.gears.count;
  each = λ g gear at.
      let e : gear.shape ≡ x.shape = (k.gears.each g gear at).shape in
      ((λ j. (e j).gears), (k.gears.are g gear at).versions ∙ (λ j. places (length (e j).interest.replicas) (e j).gears));
}

pub set-of : (shape : Shape) (gears : List GearSeen) (g : ℕ) (gear new : GearSeen) → AreOf shape gears → slice_get gears g ≡ Some gear → new.shape ≡ gear.shape → length new.versions ≡ length gear.versions → AreOf shape (set gears g new)
set-of shape gears g gear new are at same many = record {
  some = are.some;
  count = length-set gears g new ∙ are.count;
  each = λ m y there. elim (set-cases gears g m new y there) [
    | inl w ↦ subst (λ (y : GearSeen). (y.shape.gears ≡ shape.gears) × (length y.versions ≡ places (length shape.interest.replicas) shape.gears)) w.0
        ((λ j. (same j).gears) ∙ (are.each g gear at).0, many ∙ (are.each g gear at).1)
    | inr w ↦ are.each m y w.0
  ];
}

shown-of : (b : Bool) (shape : Shape) (gears : List GearSeen) (l : Label) (k : ℕ) (p : Option (List ℕ)) → AreOf shape gears → AreOf shape (shown_at b shape gears l k p)
shown-of false shape gears l k p are = are
shown-of true shape gears l k None are = are
shown-of true shape gears l k (Some value) are = go (slice_get gears (k % shape.gears)) refl
  where
    go : (o : Option GearSeen) → slice_get gears (k % shape.gears) ≡ o → AreOf shape (shown_by gears (k % shape.gears) l k (Some value) o)
    go None at = are
    go (Some gear) at = set-of shape gears (k % shape.gears) gear (after_show gear k (record { label = l; value = value })) are at refl (length-set gear.versions _ _)

-- but for its versions a gear stays as it was
gears-shown : (d : Deployed) (s : ℕ → GearState) (b : Bool) (shape : Shape) (gears : List GearSeen) (l : Label) (k : ℕ) (p : Option (List ℕ)) → StandsGears d gears s → StandsGears d (shown_at b shape gears l k p) s
gears-shown d s false shape gears l k p st = st
gears-shown d s true shape gears l k None st = st
gears-shown d s true shape gears l k (Some value) st = go (slice_get gears (k % shape.gears)) refl
  where
    go : (o : Option GearSeen) → slice_get gears (k % shape.gears) ≡ o → StandsGears d (shown_by gears (k % shape.gears) l k (Some value) o) s
    go None at = st
    go (Some gear) at =
        let old : StandsGear d gear (s (k % shape.gears)) = st.each (k % shape.gears) gear at in
        gears-set d gears (k % shape.gears) (after_show gear k (record { label = l; value = value })) s s st (record { promise = old.promise; fresh = old.fresh; lanes = old.lanes }) (λ m y e old. old) (λ m j past. refl)

-- the versions of the items that the site keeps, after a part is shown at item k
store-shown : (d : Deployed) (i : ℕ) (shape : Shape) (gears : List GearSeen) (l : Label) (k : ℕ) (p : Option (List ℕ)) (f : ℕ → Option Version) → AreOf shape gears → shape ≡ shape_for d i → k < length shape.interest.replicas → (not (keeps shape.interest k shape.site) || is_some p) ≡ true → StandsStore d i gears f →
    StandsStore d i (shown_at (keeps shape.interest k shape.site) shape gears l k p) (λ m. if k == m then put (f m) (version_at l (unwrap_or p [])) else f m)
store-shown d i shape gears l k p f are is item full st = go (keeps shape.interest k shape.site) refl p full
  where
    kept-is : keeps shape.interest k shape.site ≡ replicates d k i
    kept-is = ap (λ (shape : Shape). keeps shape.interest k shape.site) is ∙ keeps-is d k i

    count : shape.gears ≡ d.gears
    count = λ j. (is j).gears

    known : k < length d.items
    known = subst (λ (n : ℕ). k < n) ((λ j. length (is j).interest.replicas) ∙ items-are d) item

    by : (value : List ℕ) (o : Option GearSeen) → slice_get gears (k % shape.gears) ≡ o → replicates d k i ≡ true → StandsStore d i (shown_by gears (k % shape.gears) l k (Some value) o) (λ m. if k == m then put (f m) (version_at l value) else f m)
    by value None at kept = absurd (let low : k % shape.gears < length gears = subst (λ (n : ℕ). k % shape.gears < n) (sym are.count) (mod_below k shape.gears are.some) in let there : slice_get gears (k % shape.gears) ≡ Some _ = get-is gears (k % shape.gears) (fresh_gear shape 0) low in cc)
    by value (Some gear) at kept =
        let e : gear.shape.gears ≡ shape.gears = (are.each (k % shape.gears) gear at).0 in
        let place : k / gear.shape.gears < length gear.versions =
        subst (λ (n : ℕ). k / gear.shape.gears < n) (sym (are.each (k % shape.gears) gear at).1) (subst (λ (n : ℕ). k / n < places (length shape.interest.replicas) shape.gears) (sym e) (within_places k (length shape.interest.replicas) shape.gears are.some item)) in
        store-set d i gears (k % shape.gears) gear (after_show gear k (record { label = l; value = value })) f (λ m. if k == m then put (f m) (version_at l value) else f m) at st
        (λ m same old. newer-stored gear.versions k m gear.shape.gears l value f place ((λ j. m % (e ∙ count) j) ∙ (same ∙ (λ j. k % sym e j))) (st.each k gear known kept (subst (λ (n : ℕ). slice_get gears (k % n) ≡ Some gear) count at)) old)
        (λ m other. sym (passed (k == m) (put (f m) (version_at l value)) (f m) (ne_eqb k m (λ same. other (sym (ap (gear_of d) same) ∙ (λ j. k % sym count j))))))

    go : (b : Bool) → keeps shape.interest k shape.site ≡ b → (p : Option (List ℕ)) → (not (keeps shape.interest k shape.site) || is_some p) ≡ true → StandsStore d i (shown_at b shape gears l k p) (λ m. if k == m then put (f m) (version_at l (unwrap_or p [])) else f m)
    go true e (Some value) full = by value (slice_get gears (k % shape.gears)) refl (sym kept-is ∙ e)
    go true e None full = absurd (let clash : false ≡ true = ap (λ (b : Bool). not b || false) (sym e) ∙ full in cc)
    go false e p full = record {
      each = λ m gear lt kept at. st.each m gear lt kept at ∙
          sym (passed (k == m) (put (f m) (version_at l (unwrap_or p []))) (f m) (ne_eqb k m (λ same. let clash : true ≡ false = sym kept ∙ (ap (λ (n : ℕ). replicates d n i) (sym same) ∙ (sym kept-is ∙ e)) in cc)));
    }

-- ---- all items

pub store-same : (d : Deployed) (i : ℕ) (gears : List GearSeen) (f g : ℕ → Option Version) → ((m : ℕ) → f m ≡ g m) → StandsStore d i gears f → StandsStore d i gears g
store-same d i gears f g e st = record { each = λ m gear lt kept at. st.each m gear lt kept at ∙ e m }

-- where a label was put it is not put again
own : (l : Label) (v w : List ℕ) → put (Some (version_at l v)) (version_at l w) ≡ Some (version_at l v)
own l v w = ap (λ (b : Bool). if b then Some (version_at l w) else Some (version_at l v)) (label_lt-self l)

again : (o : Option Version) (l : Label) (v w : List ℕ) → put (put o (version_at l v)) (version_at l w) ≡ put o (version_at l v)
again None l v w = own l v w
again (Some q) l v w = go (label_lt q.label l) refl
  where
    go : (b : Bool) → label_lt q.label l ≡ b → put (if b then Some (version_at l v) else Some q) (version_at l w) ≡ (if b then Some (version_at l v) else Some q)
    go true e = own l v w
    go false e = ap (λ (b : Bool). if b then Some (version_at l w) else Some q) e

twice : (a b : Bool) (o : Option Version) (l : Label) (v w : List ℕ) → (if b then put (if a then put o (version_at l v) else o) (version_at l w) else (if a then put o (version_at l v) else o)) ≡ (if a || b then put o (version_at l (if a then v else w)) else o)
twice true true o l v w = again o l v w
twice true false o l v w = refl
twice false b o l v w = refl

-- what the machine makes of the versions
abbrev pub put_parts : (ℕ → Option Version) → Label → List ℕ → List (Option (List ℕ)) → ℕ → Option Version
put_parts f l ks ps m = if has ◌==◌ ks m then put (f m) (version_at l (part_for ks ps m)) else f m

pub each-shown : (d : Deployed) (i : ℕ) (shape : Shape) (gears : List GearSeen) (l : Label) (ks : List ℕ) (ps : List (Option (List ℕ))) (f : ℕ → Option Version) → AreOf shape gears → shape ≡ shape_for d i → AreBelow (length shape.interest.replicas) ks → has_parts_here shape ks ps ≡ true → StandsStore d i gears f →
    StandsStore d i (shown_each shape gears l ks ps) (put_parts f l ks ps)
unfolding shown_each
each-shown d i shape gears l [] ps f are is known full st = st
each-shown d i shape gears l (k ∷ ks) [] f are is known full st = absurd (cc)
each-shown d i shape gears l (k ∷ ks) (p ∷ ps) f are is known full st =
    let w = and_parts (not (keeps shape.interest k shape.site) || is_some p) (has_parts_here shape ks ps) full in
    let now : ℕ → Option Version = (λ m. if k == m then put (f m) (version_at l (unwrap_or p [])) else f m) in
    store-same d i (shown_each shape gears l (k ∷ ks) (p ∷ ps)) (put_parts now l ks ps) _ (λ m. twice (k == m) (has ◌==◌ ks m) (f m) l (unwrap_or p []) (part_for ks ps m))
    (each-shown d i shape (shown_at (keeps shape.interest k shape.site) shape gears l k p) l ks ps now (shown-of (keeps shape.interest k shape.site) shape gears l k p are) is known.1 w.1 (store-shown d i shape gears l k p f are is known.0 w.0 st))

pub gears-each : (d : Deployed) (s : ℕ → GearState) (shape : Shape) (gears : List GearSeen) (l : Label) (ks : List ℕ) (ps : List (Option (List ℕ))) → StandsGears d gears s → StandsGears d (shown_each shape gears l ks ps) s
unfolding shown_each
gears-each d s shape gears l [] ps st = st
gears-each d s shape gears l (k ∷ ks) [] st = st
gears-each d s shape gears l (k ∷ ks) (p ∷ ps) st = gears-each d s shape (shown_at (keeps shape.interest k shape.site) shape gears l k p) l ks ps (gears-shown d s (keeps shape.interest k shape.site) shape gears l k p st)

-- ---- the site that shows it stands for what the machine makes of it

pub shown-stands : (d : Deployed) (i : ℕ) (x : SiteSeen) (s : SiteState) (p : Payload) (input : SiteInput) (v : Epochs) (q : ProxySeen) → IsSite x → In (all_waiting x.proxy.pool) p → StandsSite d i x s →
    StandsViews d i v (views_next s.views (ans.Shown p.label)) → StandsProxy q (proxy_next d i s input (ans.Shown p.label)) →
    StandsSite d i (shown_of (record x { views = v; proxy = q }) p p.label.kind) (site_next d i s input (ans.Shown p.label))
unfolding site_next
shown-stands d i x s p input v q site there st views proxy =
    let guest : IsGuest x.shape p = site.proxy.waiting p there in
    let items : Items = guest.items.0 in
    let kind : p.label.kind ≡ Update items = guest.items.1 in
    let parts : payload_in s.proxy.pool p.label ≡ p.values = parts-are x s.proxy.pool p site st.proxy.pool there in
    let full : has_parts_here x.shape (list_of items) p.values ≡ true = subst (λ (kind : Kind). has_parts_here x.shape (items_of kind) p.values ≡ true) kind guest.parts in
    let old : StandsGears d (shown_each x.shape x.gears p.label (list_of items) p.values) s.gears = gears-each d s.gears x.shape x.gears p.label (list_of items) p.values st.gears in
    subst (λ (kind : Kind). StandsSite d i (shown_of (record x { views = v; proxy = q }) p kind) (site_next d i s input (ans.Shown p.label))) (sym kind) (record {
      shape = st.shape;
      gears = record { each = λ g gear at. (let e : StandsGear d gear (s.gears g) = old.each g gear at in record { promise = e.promise; fresh = e.fresh; lanes = e.lanes }); none = old.none };
      sink = st.sink;
      views = views;
      proxy = proxy;
      store = store-same d i (shown_each x.shape x.gears p.label (list_of items) p.values) (put_parts s.store p.label (list_of items) p.values) (λ m. store_next m (s.store m) s.proxy.pool input (ans.Shown p.label))
          (λ m. λ j. if is_update_of (sym kind j) m then put (s.store m) (version_at p.label (part_for (items_of (sym kind j)) (sym parts j) m)) else s.store m)
          (each-shown d i x.shape x.gears p.label (list_of items) p.values s.store (are-of x site) st.shape guest.items.2 full st.store);
      made = st.made;
    })
