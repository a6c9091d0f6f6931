-- What the code read and wrote in an act. Here w is what the code found, and v the same by its name.
use Rattle.std.specs.Prelude.{◌≡◌, ◌<◌, ◌%◌, ℕ, Bool, true, false, zero, suc, max, List, [], ◌∷◌, length, map, set, get_or, Some, None, refl}
use Rattle.std.specs.List.{flat_map, list_all}
use Rattle.std.proofs.Common.{subst, ap, sym, ◌∙◌, arith}
use Rattle.std.proofs.lemmas.Bool.{and_parts, false_from_ne_true, true_from_ne_false}
use Rattle.std.proofs.lemmas.Option.{slice_get_read}
use Rattle.std.proofs.Common.{Result, Ok, Err}
use Rattle.std.specs.declared.alloc.AllocError.{AllocError}
use Rattle.std.specs.Prelude.{IfOk, IsErrOf, IsOkUnless, OnErr}
use Rattle.sat_gear.specs.declared.stamped.GearFault.{GearFault}
use Rattle.sat_gear.specs.declared.stamped.GearFault.TheVariants as fault
use Rattle.std.proofs.lemmas.List.{length-map}
use Rattle.std.proofs.lemmas.Nat.{mod_below}
use Rattle.sat_label.specs.declared.carried.Carried.{Carried}
use Rattle.sat_label.specs.declared.label.Label.{Label}
use Rattle.sat_label.specs.declared.items.Items.{Items}
use Rattle.sat_label.specs.declared.items.Items.TheVariants.{One, Two, Three, Four}
use Rattle.sat_label.specs.declared.label.Kind.TheVariants.{Update}
use Rattle.sat_label.specs.declared.point.Point.{Point}
use Rattle.sat_label.specs.Grouped.{least_item, list_of}
use Rattle.sat_bulk.specs.Payloads.{Payload}
use Rattle.sat_sites.specs.Interested.{keeps, AreBelow}
use Rattle.sat_sites.specs.declared.shape.Shape.{Shape}
use Rattle.sat_label.specs.Versions.{Version}
use Rattle.sat_gear.specs.Gear.{GearSeen, AreItemsOf, IsGear, IsItemOf, after_tick, after_write, payload_with, stamped, is_spent, after_drain, drained_of, version_of}
use Rattle.sat_sink.specs.Pending.{promise_of, least}
use Rattle.sat_act.specs.declared.answer.Answer.{Answer}
use Rattle.sat_act.specs.declared.answer.Answer.TheVariants as ans
use Rattle.sat_act.specs.declared.answer.Refusal.TheVariants as why
use Rattle.sat_site.specs.declared.input.SiteInput as code
use Rattle.sat_site.specs.declared.input.SiteInput.TheVariants as input
use Rattle.sat_site.specs.Inputs.{fits_in}
use Rattle.sat_hub.specs.Changes.{gathered}
use Rattle.sat_hub.specs.Seen.{HubSeen}
use Rattle.sat_site.specs.Seen.{SiteSeen, AreGears, IsSite, IsGearAt, site_of}
use Rattle.sat_site.specs.Changes.{with_gear, gathered_all, gear_for, ticked_to, fresh_of, HasGear}
use Rattle.sat_site.specs.Does.{Does, Stamps, stamps_none, stamps_short, stamps, ticks, gathers, Writes, spends, writes, Reads, reads_none, reads}
use Rattle.sat_site.specs.SiteSteps.{keeps_each, keeps_item, shown_parts, written}
use Rattle.sat_site.proofs.Sound.{with-gear-site, ticked-gear, wrote-gear, clocked-site}

pub at-place : (x : SiteSeen) (g : ℕ) (gear : GearSeen) → g < length x.gears → gear ≡ get_or x.gears g gear → HasGear x g gear
at-place x g gear lt e = slice_get_read x.gears (length x.gears) g gear refl lt e

-- ---- tick

pub tick-site : (w : SiteSeen) (g t : ℕ) (gear new : GearSeen) → IsSite w → g < length w.gears → gear ≡ get_or w.gears g gear → new ≡ after_tick gear t → IsGear new → IsSite (with_gear w g new)
tick-site w g t gear new k lt e f good =
    with-gear-site w g new k (subst (IsGearAt w.shape w.sink g) (sym f) (ticked-gear w.shape w.sink g t gear (k.gears.each g gear (at-place w g gear lt e)))) good

pub did-tick : (w v : SiteSeen) (g t r : ℕ) (gear new : GearSeen) → w ≡ v → g < length w.gears → gear ≡ get_or w.gears g gear → r ≡ max gear.promise t → new ≡ after_tick gear t → Does v (input.Tick g t) (ans.Ticked r) (with_gear w g new)
did-tick w v g t r gear new same lt e f h =
    subst (λ (x : SiteSeen). Does x (input.Tick g t) (ans.Ticked r) (with_gear w g new)) same
    (subst (λ (m : ℕ). Does w (input.Tick g t) (ans.Ticked m) (with_gear w g new)) (sym f)
    (subst (λ (y : GearSeen). Does w (input.Tick g t) (ans.Ticked (max gear.promise t)) (with_gear w g y)) (sym h) (ticks gear (at-place w g gear lt e))))

-- ---- numbers within their tables

pub within-gears : (w v : SiteSeen) (g : ℕ) → w ≡ v → IsSite w → g < v.shape.gears → g < length w.gears
within-gears w v g same k lt = subst (λ (n : ℕ). g < n) ((λ j. (sym same j).shape.gears) ∙ sym k.gears.count) lt

pub item-gear : (w v : SiteSeen) (g n : ℕ) → w ≡ v → IsSite w → g ≡ n % v.shape.gears → g < length w.gears
item-gear w v g n same k e =
    let f : g ≡ n % w.shape.gears = e ∙ (λ j. n % (sym same j).shape.gears) in
    let pos : 0 < w.shape.gears = k.shape.gears in
    let lt : g < w.shape.gears = subst (λ (m : ℕ). m < w.shape.gears) (sym f) (mod_below n w.shape.gears pos) in
    subst (λ (m : ℕ). g < m) (sym k.gears.count) lt

pub item-of-gear : (w v : SiteSeen) (g n : ℕ) → w ≡ v → g ≡ n % v.shape.gears → g ≡ n % w.shape.gears
item-of-gear w v g n same e = e ∙ (λ j. n % (sym same j).shape.gears)

pub kept-item : (w v : SiteSeen) (n : ℕ) → w ≡ v → keeps_item v n ≡ true → keeps_item w n ≡ true
kept-item w v n same e = subst (λ (x : SiteSeen). keeps_item x n ≡ true) (sym same) e

-- ---- write

pub item-here : (w : SiteSeen) (g n : ℕ) (gear : GearSeen) → IsSite w → g < length w.gears → gear ≡ get_or w.gears g gear → n < length w.shape.interest.replicas → keeps_item w n ≡ true → g ≡ n % w.shape.gears → IsItemOf gear n
item-here w g n gear k lt e item here f =
    let a : IsGearAt w.shape w.sink g gear = k.gears.each g gear (at-place w g gear lt e) in
    record {
      item = subst (λ (s : Shape). n < length s.interest.replicas) (sym a.shape) item;
      gear = subst (λ (s : Shape). n % s.gears ≡ gear.gear) (sym a.shape) (sym f ∙ sym a.number);
      kept = subst (λ (s : Shape). keeps s.interest n s.site ≡ true) (sym a.shape) here;
    }

least-below : (n : ℕ) (items : Items) → AreBelow n (list_of items) → least_item (list_of items) < n
least-below n (One a) k = k.0
least-below n (Two a b) k = k.0
least-below n (Three a b c) k = k.0
least-below n (Four a b c d) k = k.0

least-kept : (f : ℕ → Bool) (items : Items) → list_all f (list_of items) ≡ true → f (least_item (list_of items)) ≡ true
least-kept f (One a) e = (and_parts (f a) _ e).0
least-kept f (Two a b) e = (and_parts (f a) _ e).0
least-kept f (Three a b c) e = (and_parts (f a) _ e).0
least-kept f (Four a b c d) e = (and_parts (f a) _ e).0

pub items-here : (w v : SiteSeen) (g : ℕ) (items : Items) (gear : GearSeen) → w ≡ v → IsSite w → g ≡ least_item (list_of items) % v.shape.gears → gear ≡ get_or w.gears g gear → AreBelow (length v.shape.interest.replicas) (list_of items) → keeps_each v (list_of items) ≡ true → AreItemsOf gear (list_of items)
items-here w v g items gear same k e at known kept =
    let lt : g < length w.gears = item-gear w v g (least_item (list_of items)) same k e in
    let low : AreBelow (length w.shape.interest.replicas) (list_of items) = subst (λ (x : SiteSeen). AreBelow (length x.shape.interest.replicas) (list_of items)) (sym same) known in
    let here : keeps_each w (list_of items) ≡ true = subst (λ (x : SiteSeen). keeps_each x (list_of items) ≡ true) (sym same) kept in
    let shape : gear.shape ≡ w.shape = (k.gears.each g gear (at-place w g gear lt at)).shape in
    record {
      known = subst (λ (s : Shape). AreBelow (length s.interest.replicas) (list_of items)) (sym shape) low;
      least = item-here w g (least_item (list_of items)) gear k lt at (least-below (length w.shape.interest.replicas) items low) (least-kept (keeps_item w) items here) (item-of-gear w v g (least_item (list_of items)) same e);
      kept = subst (λ (s : Shape). list_all (λ x. keeps s.interest x s.site) (list_of items) ≡ true) (sym shape) here;
    }

-- nothing was written
pub same-gear : (w : SiteSeen) (g : ℕ) (gear new : GearSeen) → g < length w.gears → gear ≡ get_or w.gears g gear → new ≡ gear → with_gear w g new ≡ w
same-gear w g gear new lt e f = ap (with_gear w g) f ∙ (λ j. record w { gears = go w.gears g gear lt e j })
  where
    go : (gears : List GearSeen) (g : ℕ) (gear : GearSeen) → g < length gears → gear ≡ get_or gears g gear → set gears g gear ≡ gears
    go [] g gear lt e = absurd (omega arith)
    go (y ∷ gears) zero gear lt e = ap (λ (x : GearSeen). x ∷ gears) e
    go (y ∷ gears) (suc g) gear lt e = ap (λ (xs : List GearSeen). y ∷ xs) (go gears g gear (omega arith) e)

pub unwritten-site : (w : SiteSeen) (g : ℕ) (gear new : GearSeen) → IsSite w → g < length w.gears → gear ≡ get_or w.gears g gear → new ≡ gear → IsSite (with_gear w g new)
unwritten-site w g gear new k lt e f = subst IsSite (sym (same-gear w g gear new lt e f)) k

-- by what the gear answers
pub stamp-site : (w v : SiteSeen) (g : ℕ) (items : Items) (seen : Point) (values : List (List ℕ)) (gear new : GearSeen) (r : Result Payload GearFault) → w ≡ v → IsSite w → g ≡ least_item (list_of items) % v.shape.gears → gear ≡ get_or w.gears g gear → AreBelow (length v.shape.interest.replicas) (list_of items) →
    IfOk r (λ p. p ≡ payload_with (stamped gear seen (Update items)) values) → IfOk r (λ p. new ≡ after_write gear p) → OnErr r (new ≡ gear) → IsGear new → IsSite (with_gear w g new)
stamp-site w v g items seen values gear new (Ok p) same k e at known made is err good =
    let lt : g < length w.gears = item-gear w v g (least_item (list_of items)) same k e in
    let whole : new ≡ after_write gear (payload_with (stamped gear seen (Update items)) values) = is ∙ ap (λ (p : Payload). after_write gear p) made in
    with-gear-site w g new k (subst (IsGearAt w.shape w.sink g) (sym whole) (wrote-gear w.shape w.sink g gear seen items values (k.gears.each g gear (at-place w g gear lt at)) (subst (λ (x : SiteSeen). AreBelow (length x.shape.interest.replicas) (list_of items)) (sym same) known))) good
stamp-site w v g items seen values gear new (Err f) same k e at known made is err good =
    unwritten-site w g gear new k (item-gear w v g (least_item (list_of items)) same k e) at err

pub stamp-done : (w v : SiteSeen) (g : ℕ) (items : Items) (seen : Point) (values : List (List ℕ)) (gear new : GearSeen) (r : Result Payload GearFault) → w ≡ v → IsSite w → g ≡ least_item (list_of items) % v.shape.gears → gear ≡ get_or w.gears g gear → IsGear gear →
    (is_spent gear seen ≡ true → IsErrOf r fault.Spent) → (is_spent gear seen ≡ false → IsOkUnless r fault.Memory) → IfOk r (λ p. p ≡ payload_with (stamped gear seen (Update items)) values) → IfOk r (λ p. new ≡ after_write gear p) → OnErr r (new ≡ gear) → Stamps v seen items values r (with_gear w g new)
stamp-done w v g items seen values gear new r same k e at good spent free made is err = subst (λ (x : SiteSeen). Stamps x seen items values r (with_gear w g new)) same (go r spent free made is err)
  where
    lt : g < length w.gears
    lt = item-gear w v g (least_item (list_of items)) same k e

    own : g ≡ gear_for w items
    own = item-of-gear w v g (least_item (list_of items)) same e

    there : HasGear w (gear_for w items) gear
    there = subst (λ (g : ℕ). HasGear w g gear) own (at-place w g gear lt at)

    go : (r : Result Payload GearFault) → (is_spent gear seen ≡ true → IsErrOf r fault.Spent) → (is_spent gear seen ≡ false → IsOkUnless r fault.Memory) → IfOk r (λ p. p ≡ payload_with (stamped gear seen (Update items)) values) → IfOk r (λ p. new ≡ after_write gear p) → OnErr r (new ≡ gear) → Stamps w seen items values r (with_gear w g new)
    go (Ok p) spent free made is err =
        let whole : new ≡ after_write gear (payload_with (stamped gear seen (Update items)) values) = is ∙ ap (λ (p : Payload). after_write gear p) made in
        subst (λ (p : Payload). Stamps w seen items values (Ok p) (with_gear w g new)) (sym made)
        (subst (λ (y : SiteSeen). Stamps w seen items values (Ok (payload_with (stamped gear seen (Update items)) values)) y) (λ j. with_gear w (sym own j) (sym whole j))
        (stamps gear there good (false_from_ne_true (is_spent gear seen) (λ f. let clash : Ok p ≡ Err fault.Spent = spent f in cc))))
    go (Err fault.Spent) spent free made is err =
        subst (λ (y : SiteSeen). Stamps w seen items values (Err fault.Spent) y) (sym (same-gear w g gear new lt at err))
        (stamps_none gear there (true_from_ne_false (is_spent gear seen) (λ f. let clash : fault.Spent ≡ fault.Memory = free f in cc)))
    go (Err fault.Memory) spent free made is err = subst (λ (y : SiteSeen). Stamps w seen items values (Err fault.Memory) y) (sym (same-gear w g gear new lt at err)) stamps_short

pub stamped-shape : (x : SiteSeen) (seen : Point) (items : Items) (values : List (List ℕ)) (r : Result Payload GearFault) (y : SiteSeen) → Stamps x seen items values r y → y.shape ≡ x.shape
stamped-shape x seen items values r y (stamps_none gear at e) = refl
stamped-shape x seen items values r y stamps_short = refl
stamped-shape x seen items values r y (stamps gear at good e) = refl

-- the payload that the gear answers has a value for each item
pub stamped-count : (x : SiteSeen) (seen : Point) (items : Items) (values : List (List ℕ)) (r : Result Payload GearFault) (y : SiteSeen) (p q : Payload) → Stamps x seen items values r y → r ≡ Ok p → q ≡ p → length values ≡ length (list_of items) → length q.values ≡ length (list_of items)
stamped-count x seen items values r y p q (stamps_none gear at e) is same many = absurd (cc)
stamped-count x seen items values r y p q stamps_short is same many = absurd (cc)
stamped-count x seen items values r y p q (stamps gear at good e) is same many =
    let made : payload_with (stamped gear seen (Update items)) values ≡ p = cc in
    ap (λ (p : Payload). length p.values) (same ∙ sym made) ∙ (length-map values Some ∙ many)

pub wrote-writes : (x : SiteSeen) (seen : Carried) (items : Items) (values : List (List ℕ)) (r : Result Payload GearFault) (y z : SiteSeen) (p q : Payload) (l : Label) → Stamps x seen.point items values r y → r ≡ Ok p → keeps_each x (list_of items) ≡ true → l ≡ p.label → q ≡ p →
    z ≡ shown_parts y q.label items q.values → Writes x seen items values (ans.Wrote l) z
wrote-writes x seen items values r y z p q l (stamps_none gear at e) is kept label same shown = absurd (cc)
wrote-writes x seen items values r y z p q l stamps_short is kept label same shown = absurd (cc)
wrote-writes x seen items values r y z p q l (stamps gear at good e) is kept label same shown =
    let made : payload_with (stamped gear seen.point (Update items)) values ≡ p = cc in
    let whole : written x gear seen.point items values ≡ z = ap (λ (p : Payload). shown_parts y p.label items p.values) (made ∙ sym same) ∙ sym shown in
    subst (λ (l : Label). Writes x seen items values (ans.Wrote l) z) (ap (λ (p : Payload). p.label) made ∙ sym label) (subst (λ (z : SiteSeen). Writes x seen items values (ans.Wrote (stamped gear seen.point (Update items))) z) whole (writes gear kept at good e))

pub spent-writes : (x : SiteSeen) (seen : Carried) (items : Items) (values : List (List ℕ)) (r : Result Payload GearFault) (y : SiteSeen) → Stamps x seen.point items values r y → r ≡ Err fault.Spent → keeps_each x (list_of items) ≡ true → Writes x seen items values (ans.Refused why.Spent) y
spent-writes x seen items values r y (stamps_none gear at e) is kept = spends gear kept at e
spent-writes x seen items values r y stamps_short is kept = absurd (cc)
spent-writes x seen items values r y (stamps gear at good e) is kept = absurd (cc)

pub short-writes : (x : SiteSeen) (seen : Point) (items : Items) (values : List (List ℕ)) (r : Result Payload GearFault) (y : SiteSeen) → Stamps x seen items values r y → r ≡ Err fault.Memory → y ≡ x
short-writes x seen items values r y (stamps_none gear at e) is = absurd (cc)
short-writes x seen items values r y stamps_short is = refl
short-writes x seen items values r y (stamps gear at good e) is = absurd (cc)

-- ---- gather

pub did-gather : (h n : HubSeen) (v : SiteSeen) (old gears : List GearSeen) (count t : ℕ) → site_of h old ≡ v → gears ≡ map after_drain old → n ≡ gathered h (map drained_of old) → count ≡ length (flat_map fresh_of old) → t ≡ least (map promise_of (map drained_of old)) →
    Does v input.Gather (ans.Gathered count t) (site_of n gears)
did-gather h n v old gears count t same drained is many low =
    subst (λ (x : SiteSeen). Does x input.Gather (ans.Gathered count t) (site_of n gears)) same
    (subst (λ (y : SiteSeen). Does (site_of h old) input.Gather (ans.Gathered count t) y) (λ j. site_of (sym is j) (sym drained j))
    (subst (λ (r : Answer). Does (site_of h old) input.Gather r (gathered_all (site_of h old))) (λ j. ans.Gathered (sym many j) (sym low j)) gathers))

-- ---- clock

pub raise-site : (w : SiteSeen) (gears : List GearSeen) (t : ℕ) → IsSite w → gears ≡ map (ticked_to t) w.gears → AreGears gears → IsSite (record w { gears = gears })
raise-site w gears t k e good = subst IsSite (λ j. record w { gears = sym e j }) (clocked-site w t k (subst AreGears e good))

-- ---- read

pub read-item : (x : SiteSeen) (g n : ℕ) (gear : GearSeen) → IsSite x → g ≡ n % x.shape.gears → HasGear x g gear → n < length x.shape.interest.replicas → keeps_item x n ≡ true → IsItemOf gear n
read-item x g n gear k e at item here =
    let a : IsGearAt x.shape x.sink g gear = k.gears.each g gear at in
    record {
      item = subst (λ (s : Shape). n < length s.interest.replicas) (sym a.shape) item;
      gear = subst (λ (s : Shape). n % s.gears ≡ gear.gear) (sym a.shape) (sym e ∙ sym a.number);
      kept = subst (λ (s : Shape). keeps s.interest n s.site ≡ true) (sym a.shape) here;
    }

pub did-read-none : (x : SiteSeen) (g n : ℕ) (gear : GearSeen) → g ≡ n % x.shape.gears → HasGear x g gear → keeps_item x n ≡ true → version_of gear n ≡ None → Reads x n ans.ReadNone
did-read-none x g n gear e at here none = reads_none gear here (subst (λ (g : ℕ). HasGear x g gear) e at) none

pub did-read : (x : SiteSeen) (g n : ℕ) (gear : GearSeen) (v : Version) (l : Label) (value : List ℕ) → g ≡ n % x.shape.gears → HasGear x g gear → keeps_item x n ≡ true → version_of gear n ≡ Some v → l ≡ v.label → value ≡ v.value → Reads x n (ans.ReadSome l value)
did-read x g n gear v l value e at here some label f = subst (λ (r : Answer). Reads x n r) (λ j. ans.ReadSome (sym label j) (sym f j)) (reads gear v here (subst (λ (g : ℕ). HasGear x g gear) e at) some)

-- ---- inputs

pub given-fits : (x : SiteSeen) (g h : code.SiteInput) → g ≡ h → fits_in x g ≡ true → fits_in x h ≡ true
given-fits x g h e f = subst (λ (given : code.SiteInput). fits_in x given ≡ true) e f

pub by-values : (x : SiteSeen) (seen : Carried) (items : Items) (given values : List (List ℕ)) (r : Answer) (y : SiteSeen) → given ≡ values → Writes x seen items given r y → Writes x seen items values r y
by-values x seen items given values r y e w = subst (λ (values : List (List ℕ)). Writes x seen items values r y) e w

pub ok-map : {P Q : Answer → Type 0} (r : Result Answer AllocError) → ((a : Answer) → P a → Q a) → IfOk r P → IfOk r Q
ok-map (Ok a) f p = f a p
ok-map (Err e) f p = tt
