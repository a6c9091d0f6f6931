-- A client's write and read.
use Rattle.std.specs.Prelude.{◌≡◌, ◌≤◌, ◌<◌, ◌+◌, ◌%◌, ◌^◌, ℕ, Bool, true, ◌==◌, ◌&&◌, not, nat_le, max, List, [], ◌∷◌, ◌++◌, length, map, set, Option, Some, None, if◌then◌else◌, refl}
use Rattle.std.proofs.Common.{subst, ap, sym, ◌∙◌, arith}
use Rattle.std.proofs.lemmas.Nat.{mod_below}
use Rattle.std.proofs.lemmas.Bool.{and_from, eq-eqb, ne_eqb, or_right}
use Rattle.sat_label.specs.declared.carried.Carried.{Carried}
use Rattle.sat_label.specs.declared.label.Label.{Label}
use Rattle.sat_label.specs.declared.items.Items.{Items}
use Rattle.sat_label.specs.declared.label.Kind.TheVariants.{Update}
use Rattle.sat_label.specs.declared.point.Point.{Point}
use Rattle.sat_label.specs.Grouped.{least_item, list_of}
use Rattle.sat_label.specs.Order.{point_at}
use Rattle.sat_label.specs.Words.{has}
use Rattle.sat_bulk.specs.Payloads.{Payload}
use Rattle.sat_sites.specs.Interested.{Interested, is_for, keeps, AreBelow}
use Rattle.sat_sites.specs.declared.shape.Shape.{Shape}
use Rattle.sat_label.specs.Versions.{Version}
use Rattle.sat_gear.specs.Gear.{GearSeen, IsGear, EachLane, lane_to, stamped, is_spent, version_of, after_write, payload_with}
use Rattle.sat_act.specs.declared.answer.Answer.TheVariants as ans
use Rattle.sat_act.specs.declared.answer.Answer.{Answer}
use Rattle.sat_act.specs.declared.answer.Refusal.TheVariants as why
use Rattle.sat_act.specs.Answers.{refused_if}
use Rattle.sat_act.specs.Parts.{is_target}
use Rattle.sat_act.specs.Deployed.{Deployed}
use Rattle.sat_model.specs.Input as given
use Rattle.sat_model.specs.State.{SiteState, GearState, Version as VersionSeen}
use Rattle.sat_model.specs.Next.{site_next, gear_next, payload_at, put, version_at}
use Rattle.sat_model.specs.Reply.{gear_for as by_gear, site_answer}
use Rattle.sat_model.proofs.Writing.{part-value}
use Rattle.sat_site.specs.Seen.{SiteSeen, IsSite, has_parts_here}
use Rattle.sat_model.specs.Interests.{interest_of}
use Rattle.sat_site.specs.Stands.{StandsSite, StandsGear, version_seen}
use Rattle.sat_site.specs.Changes.{gear_at, gear_for, HasGear}
use Rattle.sat_site.specs.SiteSteps.{keeps_item, shown_each, written}
use Rattle.sat_site.specs.Does.{Writes, write_not_here, spends, writes, Reads, read_not_here, reads_none, reads}
use Rattle.sat_hub.proofs.Lists.{chosen, passed}
use Rattle.sat_site.proofs.Parts.{count-is, gear-of-is, gears-set, interest-is, item-known, site-is, sites-are, store-set}
use Rattle.sat_site.proofs.Shows.{are-of, each-shown, gears-each, put_parts, set-of, store-same}
use Rattle.sat_site.proofs.Interests.{keeps-each-here, keeps-here, target-is}
use Rattle.sat_site.proofs.Still.{refuses, reads-nothing, reads-some}

-- the label that is stamped is the machine's
stamped-is : (d : Deployed) (i : ℕ) (x : SiteSeen) (s : SiteState) (items : Items) (p : Point) (gear : GearSeen) → IsSite x → HasGear x (gear_for x items) gear → StandsSite d i x s →
    stamped gear p (Update items) ≡ record { point = point_at (max (s.gears (by_gear d items)).promise p.ts + 1) i (by_gear d items); kind = Update items }
stamped-is d i x s items p gear k at st =
    let g : gear_for x items ≡ by_gear d items = gear-of-is d i x s (least_item (list_of items)) st in
    let a : gear.promise ≡ (s.gears (by_gear d items)).promise = (st.gears.each (gear_for x items) gear at).promise ∙ ap (λ (g : ℕ). (s.gears g).promise) g in
    let b : gear.shape.site ≡ i = (λ j. ((k.gears.each (gear_for x items) gear at).shape j).site) ∙ site-is d i x s st in
    let c : gear.gear ≡ by_gear d items = (k.gears.each (gear_for x items) gear at).number ∙ g in
    λ j. record { point = point_at (max (a j) p.ts + 1) (b j) (c j); kind = Update items }

spent-is : (d : Deployed) (i : ℕ) (x : SiteSeen) (s : SiteState) (items : Items) (p : Point) (gear : GearSeen) → HasGear x (gear_for x items) gear → StandsSite d i x s → is_spent gear p ≡ nat_le (2 ^ 62) (max (s.gears (by_gear d items)).promise p.ts)
spent-is d i x s items p gear at st =
    let a : gear.promise ≡ (s.gears (by_gear d items)).promise = (st.gears.each (gear_for x items) gear at).promise ∙ ap (λ (g : ℕ). (s.gears g).promise) (gear-of-is d i x s (least_item (list_of items)) st) in
    ap (λ (q : ℕ). nat_le (2 ^ 62) (max q p.ts)) a

-- what the machine answers, by whether the site keeps all and whether no timestamp is left
abbrev machine_wrote : Deployed → ℕ → Items → ℕ → Answer
machine_wrote d i items ts = ans.Wrote (record { point = point_at (ts + 1) i (by_gear d items); kind = Update items })

abbrev machine_answer : Bool → Bool → Deployed → ℕ → Items → ℕ → Answer
machine_answer here spent d i items ts = refused_if (not here) why.NotHere (refused_if spent why.Spent (machine_wrote d i items ts))

abbrev machine_ts : Deployed → SiteState → Items → Point → ℕ
machine_ts d s items p = max (s.gears (by_gear d items)).promise p.ts

pub write-answer : (d : Deployed) (i : ℕ) (x : SiteSeen) (s : SiteState) (seen : Carried) (items : Items) (values : List (List ℕ)) (r : Answer) (y : SiteSeen) → IsSite x → StandsSite d i x s → Writes x seen items values r y → r ≡ site_answer d i s (given.Write seen items values)
unfolding site_answer
write-answer d i x s seen items values r y k st (write_not_here e) =
    let ts : ℕ = machine_ts d s items seen.point in
    ap (λ (b : Bool). machine_answer b (nat_le (2 ^ 62) ts) d i items ts) (sym e ∙ keeps-each-here d i x s items st)
write-answer d i x s seen items values r y k st (spends gear e at f) =
    let ts : ℕ = machine_ts d s items seen.point in
    ap (λ (b : Bool). machine_answer true b d i items ts) (sym f ∙ spent-is d i x s items seen.point gear at st) ∙
    ap (λ (b : Bool). machine_answer b (nat_le (2 ^ 62) ts) d i items ts) (sym e ∙ keeps-each-here d i x s items st)
write-answer d i x s seen items values r y k st (writes gear e at good f) =
    let ts : ℕ = machine_ts d s items seen.point in
    ap ans.Wrote (stamped-is d i x s items seen.point gear k at st) ∙
    (ap (λ (b : Bool). machine_answer true b d i items ts) (sym f ∙ spent-is d i x s items seen.point gear at st) ∙
    ap (λ (b : Bool). machine_answer b (nat_le (2 ^ 62) ts) d i items ts) (sym e ∙ keeps-each-here d i x s items st))

-- ---- the gear that wrote, and the others

lane-is : (d : Deployed) (a : Interested) (p : Point) (items : Items) (j : ℕ) (b : Bool) (ps qs : List Payload) (q : Payload) → a ≡ interest_of d → b ≡ true → ps ≡ qs →
    (if is_for a (record { point = p; kind = Update items }) j then ps ++ q ∷ [] else ps) ≡ (if b && is_target d (record { point = p; kind = Update items }) j then qs ++ q ∷ [] else qs)
lane-is d a p items j b ps qs q e f g =
    ap (λ (a : Interested). if is_for a (record { point = p; kind = Update items }) j then ps ++ q ∷ [] else ps) e ∙
    (ap (λ (c : Bool). if c then ps ++ q ∷ [] else ps) (target-is d p items j) ∙
    (λ k. if sym f k && is_target d (record { point = p; kind = Update items }) j then g k ++ q ∷ [] else g k))

wrote-gear : (d : Deployed) (gear : GearSeen) (s : GearState) (k : ℕ) (items : Items) (seen : Carried) (values : List (List ℕ)) → EachLane → IsGear gear → gear.shape.sites ≡ d.sites → gear.shape.interest ≡ interest_of d → gear.gear ≡ k → StandsGear d gear s →
    StandsGear d (after_write gear (payload_with (stamped gear seen.point (Update items)) values)) (gear_next d k s (given.Write seen items values) (ans.Wrote (stamped gear seen.point (Update items))))
wrote-gear d gear s k items seen values laws good sites interest e st = record {
  promise = sym (chosen (gear.gear == k) (stamped gear seen.point (Update items)).point.ts s.promise (eq-eqb gear.gear k e));
  fresh =
      ap (λ (ls : List Label). ls ++ stamped gear seen.point (Update items) ∷ []) st.fresh ∙
      sym (chosen (gear.gear == k) (s.fresh ++ stamped gear seen.point (Update items) ∷ []) s.fresh (eq-eqb gear.gear k e));
  lanes = λ j lt.
      let p : Payload = payload_with (stamped gear seen.point (Update items)) values in
      laws.lanes gear.shape.interest p gear.lanes j (subst (λ (m : ℕ). j < m) (sym (good.lanes ∙ sites)) lt) ∙
      lane-is d gear.shape.interest (stamped gear seen.point (Update items)).point items j (gear.gear == k) (lane_to gear j) (s.lanes j) p interest (eq-eqb gear.gear k e) (st.lanes j lt);
}

other-gear : (d : Deployed) (gear : GearSeen) (s : GearState) (k : ℕ) (items : Items) (seen : Carried) (values : List (List ℕ)) (l : Label) → (l.point.gear ≡ k → ⊥) → StandsGear d gear s → StandsGear d gear (gear_next d k s (given.Write seen items values) (ans.Wrote l))
other-gear d gear s k items seen values l e st = record {
  promise = st.promise ∙ sym (passed (l.point.gear == k) l.point.ts s.promise (ne_eqb l.point.gear k e));
  fresh = st.fresh ∙ sym (passed (l.point.gear == k) (s.fresh ++ l ∷ []) s.fresh (ne_eqb l.point.gear k e));
  lanes = λ j lt.
      st.lanes j lt ∙ sym (ap (λ (b : Bool). if b && is_target d l j then s.lanes j ++ payload_at l values ∷ [] else s.lanes j) (ne_eqb l.point.gear k e));
}

other-lane : (d : Deployed) (s : GearState) (k : ℕ) (items : Items) (seen : Carried) (values : List (List ℕ)) (l : Label) (j : ℕ) → (l.point.gear ≡ k → ⊥) → (gear_next d k s (given.Write seen items values) (ans.Wrote l)).lanes j ≡ s.lanes j
other-lane d s k items seen values l j e = ap (λ (b : Bool). if b && is_target d l j then s.lanes j ++ payload_at l values ∷ [] else s.lanes j) (ne_eqb l.point.gear k e)

-- no item is of a gear past the last
past-gear : (x : SiteSeen) (n gears m : ℕ) → IsSite x → x.shape.gears ≡ gears → gears ≤ m → m ≡ gear_at x n → ⊥
past-gear x n gears m k count past same = let low : n % x.shape.gears < x.shape.gears = mod_below n x.shape.gears k.shape.gears in omega arith

-- a value for each item is a part for each
pub whole-parts : (shape : Shape) (ns : List ℕ) (values : List (List ℕ)) → length values ≡ length ns → has_parts_here shape ns (map Some values) ≡ true
whole-parts shape [] [] e = refl
whole-parts shape [] (v ∷ vs) e = absurd (omega (arith, e))
whole-parts shape (n ∷ ns) [] e = absurd (omega (arith, e))
whole-parts shape (n ∷ ns) (v ∷ vs) e = and_from _ _ (or_right (not (keeps shape.interest n shape.site)) true refl) (whole-parts shape ns vs (omega (arith, e)))

pub writes-stand : (d : Deployed) (i : ℕ) (x : SiteSeen) (s : SiteState) (seen : Carried) (items : Items) (values : List (List ℕ)) (gear : GearSeen) → EachLane → IsSite x → AreBelow (length x.shape.interest.replicas) (list_of items) → length values ≡ length (list_of items) → HasGear x (gear_for x items) gear → IsGear gear → StandsSite d i x s →
    StandsSite d i (written x gear seen.point items values) (site_next d i s (given.Write seen items values) (ans.Wrote (stamped gear seen.point (Update items))))
unfolding site_next
writes-stand d i x s seen items values gear laws k known many at good st =
    let g : ℕ = gear_for x items in
    let l : Label = stamped gear seen.point (Update items) in
    let new : GearSeen = after_write gear (payload_with l values) in
    let number : gear.gear ≡ g = (k.gears.each g gear at).number in
    let shape : gear.shape ≡ x.shape = (k.gears.each g gear at).shape in
    let made : List GearSeen = set x.gears g new in
    record {
      shape = st.shape;
      gears = gears-each d (λ k. gear_next d k (s.gears k) (given.Write seen items values) (ans.Wrote l)) x.shape made l (list_of items) (map Some values)
          (gears-set d x.gears g new s.gears (λ k. gear_next d k (s.gears k) (given.Write seen items values) (ans.Wrote l)) st.gears
          (wrote-gear d gear (s.gears g) g items seen values laws good ((λ j. (shape j).sites) ∙ sites-are d i x s st) ((λ j. (shape j).interest) ∙ interest-is d i x s st) number (st.gears.each g gear at))
          (λ m y e old. other-gear d y (s.gears m) m items seen values l (λ f. e (sym f ∙ number)) old)
          (λ m j past. other-lane d (s.gears m) m items seen values l j (λ f. past-gear x (least_item (list_of items)) d.gears m k (count-is d i x s st) past (sym f ∙ number))));
      sink = st.sink;
      views = st.views;
      proxy = st.proxy;
      store = store-same d i (shown_each x.shape made l (list_of items) (map Some values)) (put_parts s.store l (list_of items) (map Some values)) _
          (λ m. ap (λ (value : List ℕ). if has ◌==◌ (list_of items) m then put (s.store m) (version_at l value) else s.store m) (part-value (list_of items) values m))
          (each-shown d i x.shape made l (list_of items) (map Some values) s.store (set-of x.shape x.gears g gear new (are-of x k) at refl refl) st.shape known (whole-parts x.shape (list_of items) values many)
          (store-set d i x.gears g gear new s.store s.store at st.store (λ n e old. old) (λ n e. refl)));
      made = st.made;
    }

pub write-stand : (d : Deployed) (i : ℕ) (x : SiteSeen) (s : SiteState) (seen : Carried) (items : Items) (values : List (List ℕ)) (r : Answer) (y : SiteSeen) → EachLane → IsSite x → AreBelow (length x.shape.interest.replicas) (list_of items) → length values ≡ length (list_of items) → StandsSite d i x s → Writes x seen items values r y →
    StandsSite d i y (site_next d i s (given.Write seen items values) r)
write-stand d i x s seen items values r y laws k known many st (write_not_here e) = refuses d i x s (given.Write seen items values) why.NotHere st
write-stand d i x s seen items values r y laws k known many st (spends gear e at f) = refuses d i x s (given.Write seen items values) why.Spent st
write-stand d i x s seen items values r y laws k known many st (writes gear e at good f) = writes-stand d i x s seen items values gear laws k known many at good st

-- ---- reads

-- the version of an item that the site keeps
pub version-is : (d : Deployed) (i : ℕ) (x : SiteSeen) (s : SiteState) (n : ℕ) (gear : GearSeen) → n < length x.shape.interest.replicas → keeps_item x n ≡ true → HasGear x (gear_at x n) gear → StandsSite d i x s → version_seen (version_of gear n) ≡ s.store n
version-is d i x s n gear item kept at st = st.store.each n gear (item-known d i x s n st item) (sym (keeps-here d i x s n st) ∙ kept) (subst (λ (q : ℕ). HasGear x q gear) (gear-of-is d i x s n st) at)

abbrev read_answer : Bool → Option VersionSeen → Answer
read_answer b o = refused_if (not b) why.NotHere (elim o [ None ↦ ans.ReadNone | Some p ↦ ans.ReadSome p.label p.value ])

pub read-answer : (d : Deployed) (i : ℕ) (x : SiteSeen) (s : SiteState) (seen : Carried) (n : ℕ) (r : Answer) → n < length x.shape.interest.replicas → StandsSite d i x s → Reads x n r → r ≡ site_answer d i s (given.Read seen n)
unfolding site_answer
read-answer d i x s seen n r item st (read_not_here e) = ap (λ (b : Bool). read_answer b (s.store n)) (sym e ∙ keeps-here d i x s n st)
read-answer d i x s seen n r item st (reads_none gear e at f) =
    ap (λ (o : Option VersionSeen). read_answer true o) (ap version_seen (sym f) ∙ version-is d i x s n gear item e at st) ∙ ap (λ (b : Bool). read_answer b (s.store n)) (sym e ∙ keeps-here d i x s n st)
read-answer d i x s seen n r item st (reads gear v e at f) =
    ap (λ (o : Option VersionSeen). read_answer true o) (ap version_seen (sym f) ∙ version-is d i x s n gear item e at st) ∙ ap (λ (b : Bool). read_answer b (s.store n)) (sym e ∙ keeps-here d i x s n st)

pub read-stand : (d : Deployed) (i : ℕ) (x : SiteSeen) (s : SiteState) (seen : Carried) (n : ℕ) (r : Answer) → StandsSite d i x s → Reads x n r → StandsSite d i x (site_next d i s (given.Read seen n) r)
read-stand d i x s seen n r st (read_not_here e) = refuses d i x s (given.Read seen n) why.NotHere st
read-stand d i x s seen n r st (reads_none gear e at f) = reads-nothing d i x s (given.Read seen n) st
read-stand d i x s seen n r st (reads gear v e at f) = reads-some d i x s (given.Read seen n) v.label v.value st

-- the version that a site shows of an item
pub shows-none : (d : Deployed) (i : ℕ) (x : SiteSeen) (s : SiteState) (n : ℕ) (gear : GearSeen) → n < length x.shape.interest.replicas → keeps_item x n ≡ true → HasGear x (gear_at x n) gear → version_of gear n ≡ None → StandsSite d i x s → s.store n ≡ None
shows-none d i x s n gear item kept at e st = sym (version-is d i x s n gear item kept at st) ∙ ap version_seen e

pub shows-some : (d : Deployed) (i : ℕ) (x : SiteSeen) (s : SiteState) (n : ℕ) (gear : GearSeen) (v : Version) → n < length x.shape.interest.replicas → keeps_item x n ≡ true → HasGear x (gear_at x n) gear → version_of gear n ≡ Some v → StandsSite d i x s → s.store n ≡ version_seen (Some v)
shows-some d i x s n gear v item kept at e st = sym (version-is d i x s n gear item kept at st) ∙ ap version_seen e
