-- A gear's node as a machine: fits, answers and steps, of each input.
use Rattle.std.specs.Prelude.{◌≡◌, ◌<◌, ◌≤◌, ◌+◌, ◌^◌, ℕ, ◌%◌, ◌==◌, zero, suc, Bool, true, false, ◌&&◌, ◌||◌, not, nat_le, nat_lt, max, List, [], ◌∷◌, ◌++◌, length, map, get_or, Option, Some, None, is_some, unwrap_or, if◌then◌else◌, slice_get, refl}
use Rattle.std.specs.List.{list_all}
use Rattle.std.proofs.Common.{subst, ap, sym, ◌∙◌, arith}
use Rattle.std.proofs.lemmas.Bool.{and_parts, and_from, eqb-true, eq-eqb, ltb-true}
use Rattle.std.proofs.lemmas.Bool.Decides.{nat_tests}
use Rattle.std.proofs.lemmas.List.{get_or_past, length-map}
use Rattle.sat_label.specs.declared.carried.Carried.{Carried}
use Rattle.sat_label.specs.declared.items.Items.{Items}
use Rattle.sat_label.specs.declared.items.Items.TheVariants.{One, Two, Three, Four}
use Rattle.sat_label.specs.declared.label.Label.{Label}
use Rattle.sat_label.specs.declared.label.Kind.{Kind}
use Rattle.sat_label.specs.declared.label.Kind.TheVariants.{Update, Move, Pulse, Close}
use Rattle.sat_label.specs.declared.node.NodeName.{NodeName}
use Rattle.sat_label.specs.declared.node.NodeName.TheVariants as named
use Rattle.sat_label.specs.declared.point.Point.{Point}
use Rattle.sat_label.specs.declared.site_set.SiteSet.{SiteSet}
use Rattle.sat_label.specs.Grouped.{are_items, least_item, list_of}
use Rattle.sat_label.specs.Order.{label_eq, point_at}
use Rattle.sat_label.specs.Words.{bit}
use Rattle.sat_label.specs.Versions.{Version as VersionKept}
use Rattle.sat_label.proofs.Orders.{same-label}
use Rattle.sat_bulk.specs.declared.Drained.{Drained}
use Rattle.sat_bulk.specs.Payloads.{Payload}
use Rattle.sat_sites.specs.declared.shape.Shape.{Shape}
use Rattle.sat_sites.specs.Interested.{AreBelow, Interested, IsInterest, are_below, is_for, keeps, keeps_one}
use Rattle.sat_sites.proofs.Below.{below_is}
use Rattle.sat_gear.specs.Gear.{EachLane, GearSeen, IsGear, after_move, after_tick, drained_of, is_spent, lane_to, payload_with, stamped, version_of}
use Rattle.sat_gear.specs.Lanes.{count_of}
use Rattle.sat_act.specs.declared.answer.Answer.{Answer}
use Rattle.sat_act.specs.declared.answer.Answer.TheVariants as ans
use Rattle.sat_act.specs.declared.answer.Refusal.TheVariants as why
use Rattle.sat_act.specs.Answers.{gear_of, refused_if}
use Rattle.sat_act.specs.Deployed.{Deployed}
use Rattle.sat_act.specs.Parts.{is_target, is_update_of, keeps_all, replicates}
use Rattle.sat_model.specs.Fits.{are_known, is_carried, is_group, is_item}
use Rattle.sat_model.specs.Interests.{interest_of}
use Rattle.sat_model.specs.Next.{payload_at, put, version_at}
use Rattle.sat_model.specs.Reply.{gear_for}
use Rattle.sat_model.specs.State.{Version}
use Rattle.sat_model.proofs.Writing.{part-value}
use Rattle.sat_hub.specs.Changes.{shape_for}
use Rattle.sat_hub.specs.Inputs.{is_carried_here, is_group_here, is_item_here, is_site_here}
use Rattle.sat_hub.specs.Seen.{has_parts_here}
use Rattle.sat_site.specs.Stands.{version_seen}
use Rattle.sat_site.specs.SiteSteps.{moved_answer, moved_gear, stamp_answer_of, version_answer}
use Rattle.sat_site.proofs.Interests.{all-by, items-are, keeps-is, target-is}
use Rattle.sat_site.proofs.Writes.{whole-parts}
use Rattle.sat_joint.specs.Machines.{GearNode, drain_of}
use Rattle.sat_hub_laws.specs.Inputs as model
use Rattle.sat_hub_laws.specs.Gears.{GivesOwn, gear_answer, gear_fits, gear_then, has_all, is_shown, values_of}
use Rattle.sat_hub_laws.specs.Changes.{gear_moved, gear_wrote}
use Rattle.sat_hub_laws.proofs.Changes.{gears-change}
use Rattle.sat_machines.specs.Plain.{is_plain}
use Rattle.sat_machines.specs.Sites.{number_of}
use Rattle.sat_parts.specs.declared.gear_answer.GearAnswer.{GearAnswer}
use Rattle.sat_parts.specs.declared.gear_input.GearInput.{GearInput}
use Rattle.sat_parts.specs.declared.gear_input.GearInput.TheVariants as gear
use Rattle.sat_parts.specs.declared.gear_input.ShownBy.{ShownBy}
use Rattle.sat_parts.specs.declared.gear_input.ShownBy.TheVariants as by
use Rattle.sat_parts.specs.Acts.{GearActSeen, IsBy, drain_from, gear_handed, is_gear_clients, shown_in}
use Rattle.sat_parts.specs.GearSteps.{counts_eq, drained_eq, gear_after, gear_answers, gear_takes, is_of, is_read, keeps_here, labels_eq, made_by, may_show, move_after, move_answer, read_answer, shown_all, shown_of, stamp_after, write_after, write_answer}
use Rattle.sat_parts.specs.Gears.{GearAnswersAt, GearFitsAt, GearStands, StandsGearNode, gear_number, is_kept_at}
use Rattle.sat_parts.proofs.GearShows.{SameGear, all-shown, payload-shown, same-all}

-- ---- what it gives to a gather

same-labels : (a b : List Label) → labels_eq a b ≡ true → a ≡ b
same-labels [] [] e = refl
same-labels [] (m ∷ ms) e = absurd (cc)
same-labels (l ∷ ls) [] e = absurd (cc)
same-labels (l ∷ ls) (m ∷ ms) e =
    let w = and_parts (label_eq l m) (labels_eq ls ms) e in
    λ j. same-label l m w.0 j ∷ same-labels ls ms w.1 j

same-counts : (a b : List ℕ) → counts_eq a b ≡ true → a ≡ b
same-counts [] [] e = refl
same-counts [] (m ∷ ms) e = absurd (cc)
same-counts (n ∷ ns) [] e = absurd (cc)
same-counts (n ∷ ns) (m ∷ ms) e =
    let w = and_parts (n == m) (counts_eq ns ms) e in
    λ j. eqb-true n m w.0 j ∷ same-counts ns ms w.1 j

same-drained : (a b : Drained) → drained_eq a b ≡ true → a ≡ b
same-drained a b e =
    let w = and_parts (a.promise == b.promise) (labels_eq a.labels b.labels && counts_eq a.counts b.counts) e in
    let v = and_parts (labels_eq a.labels b.labels) (counts_eq a.counts b.counts) w.1 in
    λ j. record { labels = same-labels a.labels b.labels v.0 j; promise = eqb-true a.promise b.promise w.0 j; counts = same-counts a.counts b.counts v.1 j }

lane-count : (lanes : List (List Payload)) (j : ℕ) → get_or (map count_of lanes) j 0 ≡ length (get_or lanes j [])
lane-count [] j = refl
lane-count (l ∷ lanes) zero = refl
lane-count (l ∷ lanes) (suc j) = lane-count lanes j

module _ (d : Deployed) (i g : ℕ) (x : GearSeen) (n : GearNode) (k : IsGear x) (st : StandsGearNode d i g x n) where
  sites : length x.lanes ≡ d.sites
  sites = k.lanes ∙ (λ j. (st.shape j).sites)

  lane-at : (j : ℕ) → lane_to x j ≡ n.gear.lanes j
  lane-at j = go (nat_lt j d.sites) refl
    where
      lt-false : (a b : ℕ) → nat_lt a b ≡ false → b ≤ a
      lt-false a b e = grind (arith, nat_tests)

      go : (b : Bool) → nat_lt j d.sites ≡ b → lane_to x j ≡ n.gear.lanes j
      go true e = st.gear.lanes j (ltb-true j d.sites e)
      go false e =
          let high : d.sites ≤ j = lt-false j d.sites e in
          get_or_past x.lanes j [] (subst (λ (m : ℕ). m ≤ j) (sym sites) high) ∙ sym (st.beyond j high)

  drain-is : drain_from (drained_of x) ≡ drain_of n
  drain-is = λ j. record {
    promise = st.gear.promise j;
    labels = st.gear.fresh j;
    counts = λ m. (lane-count x.lanes m ∙ ap (λ (ps : List Payload). length ps) (lane-at m)) j;
  }

  gives-own : (given : Drained) → drained_eq given (drained_of x) ≡ true → drain_from given ≡ drain_of n
  gives-own given e = ap drain_from (same-drained given (drained_of x) e) ∙ drain-is

  own-all : (given : GearInput) → gear_takes x given ≡ true → GivesOwn n (gear_handed given)
  unfolding gear_takes
  own-all (gear.Drain given labels stable) e = gives-own given e
  own-all (gear.Tick ts) e = tt
  own-all (gear.Write seen items values) e = tt
  own-all (gear.Read seen m) e = tt
  own-all (gear.Move seen j) e = tt
  own-all (gear.Show act p) e = tt

-- ---- fits

item-is : (d : Deployed) (i n : ℕ) → is_item_here (shape_for d i) n ≡ is_item d n
item-is d i n = ap (nat_lt n) (items-are d)

known-is : (d : Deployed) (xs : List ℕ) → are_below (length (interest_of d).replicas) xs ≡ are_known d xs
known-is d [] = refl
known-is d (x ∷ xs) = λ j. nat_lt x (items-are d j) && known-is d xs j

group-is : (d : Deployed) (i : ℕ) (items : Items) → is_group_here (shape_for d i) items ≡ is_group d items
group-is d i items = ap (λ (b : Bool). are_items (list_of items) && b) (known-is d (list_of items))

parts-count : (shape : Shape) (ns : List ℕ) (ps : List (Option (List ℕ))) → has_parts_here shape ns ps ≡ true → length ps ≡ length ns
parts-count shape [] [] e = refl
parts-count shape [] (p ∷ ps) e = absurd (cc)
parts-count shape (m ∷ ns) [] e = absurd (cc)
parts-count shape (m ∷ ns) (p ∷ ps) e = let w : length ps ≡ length ns = parts-count shape ns ps (and_parts (not (keeps shape.interest m shape.site) || is_some p) (has_parts_here shape ns ps) e).1 in omega (arith, w)

module _ (d : Deployed) (i g : ℕ) (x : GearSeen) (n : GearNode) (k : IsGear x) (st : StandsGearNode d i g x n) where
  carried-is : (seen : Carried) → is_carried_here x.shape seen ≡ true → is_carried d seen ≡ true
  carried-is seen e = subst (λ (s : Shape). is_carried_here s seen ≡ true) st.shape e

  group-known : (items : Items) → is_group_here x.shape items ≡ true → is_group d items ≡ true
  group-known items e = sym (group-is d i items) ∙ subst (λ (s : Shape). is_group_here s items ≡ true) st.shape e

  -- an item of the gear's
  of-gear : (m : ℕ) → is_of x m ≡ true → gear_of d m ≡ g
  of-gear m e = (λ j. m % (sym st.shape j).gears) ∙ (eqb-true (m % x.shape.gears) x.gear e ∙ st.number)

  of-is : (m : ℕ) → is_of x m ≡ true → (gear_of d m == g) ≡ true
  of-is m e = eq-eqb (gear_of d m) g (of-gear m e)

  written-is : (items : Items) (p : Payload) → is_group_here x.shape items ≡ true → has_parts_here x.shape (list_of items) p.values ≡ true → (is_group d items && (length (values_of p) == length (list_of items))) ≡ true
  written-is items p group full =
      and_from _ _ (group-known items group) (eq-eqb (length (values_of p)) (length (list_of items)) (length-map p.values (λ v. unwrap_or v []) ∙ parts-count x.shape (list_of items) p.values full))

  shown-is : (act : ShownBy) (p : Payload) (kind : Kind) → may_show x.shape act p kind ≡ true → is_shown d (shown_in act) p kind ≡ true
  shown-is by.Turn p (Update items) e = refl
  shown-is by.Stamp p (Update items) e = refl
  shown-is by.Write p (Update items) e =
      let w = and_parts (are_below (length x.shape.interest.replicas) (list_of items) && has_parts_here x.shape (list_of items) p.values) (is_group_here x.shape items && has_all p.values) e in
      let v = and_parts (is_group_here x.shape items) (has_all p.values) w.1 in
      and_from _ _ (written-is items p v.0 (and_parts (are_below (length x.shape.interest.replicas) (list_of items)) (has_parts_here x.shape (list_of items) p.values) w.0).1) v.1
  shown-is act p (Move j) e = absurd (cc)
  shown-is act p Pulse e = absurd (cc)
  shown-is act p (Close q) e = absurd (cc)

  fits-all : (given : GearInput) → gear_takes x given ≡ true → gear_fits d g (gear_handed given) ≡ true
  unfolding gear_takes
  fits-all (gear.Tick ts) e = e
  fits-all (gear.Write seen items values) e =
      let w = and_parts (is_carried_here x.shape seen && (is_group_here x.shape items && (length values == length (list_of items)))) (is_of x (least_item (list_of items))) e in
      let v = and_parts (is_carried_here x.shape seen) (is_group_here x.shape items && (length values == length (list_of items))) w.0 in
      let u = and_parts (is_group_here x.shape items) (length values == length (list_of items)) v.1 in
      and_from _ _ (carried-is seen v.0) (and_from _ _ (and_from _ _ (group-known items u.0) u.1) (of-is (least_item (list_of items)) w.1))
  fits-all (gear.Read seen m) e =
      let w = and_parts (is_carried_here x.shape seen && is_item_here x.shape m) (is_of x m) e in
      let v = and_parts (is_carried_here x.shape seen) (is_item_here x.shape m) w.0 in
      and_from _ _ (carried-is seen v.0) (and_from _ _ (sym (item-is d i m) ∙ subst (λ (s : Shape). is_item_here s m ≡ true) st.shape v.1) (of-is m w.1))
  fits-all (gear.Move seen j) e =
      let w = and_parts (is_carried_here x.shape seen && is_site_here x.shape j) (0 == x.gear) e in
      let v = and_parts (is_carried_here x.shape seen) (is_site_here x.shape j) w.0 in
      and_from _ _ (carried-is seen v.0) (and_from _ _ (subst (λ (s : Shape). is_site_here s j ≡ true) st.shape v.1) (subst (λ (m : ℕ). (0 == m) ≡ true) st.number w.1))
  fits-all (gear.Drain given labels stable) e = refl
  fits-all (gear.Show act p) e = shown-is act p p.label.kind e

  -- ---- answers

  keep-is : (m : ℕ) → keeps_here x m ≡ replicates d m i
  keep-is m = ap (λ (s : Shape). keeps s.interest m s.site) st.shape ∙ keeps-is d m i

  all-kept : (items : Items) → list_all (keeps_here x) (list_of items) ≡ keeps_all d (list_of items) i
  all-kept (One a) = all-by (keeps_here x) (λ m. replicates d m i) (a ∷ []) keep-is
  all-kept (Two a b) = all-by (keeps_here x) (λ m. replicates d m i) (a ∷ b ∷ []) keep-is
  all-kept (Three a b c) = all-by (keeps_here x) (λ m. replicates d m i) (a ∷ b ∷ c ∷ []) keep-is
  all-kept (Four a b c e) = all-by (keeps_here x) (λ m. replicates d m i) (a ∷ b ∷ c ∷ e ∷ []) keep-is

  spent-is : (p : Point) → is_spent x p ≡ nat_le (2 ^ 62) (max n.gear.promise p.ts)
  spent-is p = ap (λ (q : ℕ). nat_le (2 ^ 62) (max q p.ts)) st.gear.promise

  label-is : (p : Point) (kind : Kind) (m : ℕ) → x.gear ≡ m → stamped x p kind ≡ record { point = point_at (max n.gear.promise p.ts + 1) i m; kind = kind }
  label-is p kind m e = λ j. record { point = point_at (max (st.gear.promise j) p.ts + 1) (st.shape j).site (e j); kind = kind }

  stamp-is : (b : Bool) (l : Label) → stamp_answer_of b l ≡ refused_if b why.Spent (ans.Wrote l)
  stamp-is true l = refl
  stamp-is false l = refl

  move-is : (b : Bool) (l : Label) → moved_answer b l ≡ refused_if b why.Spent (ans.Moved l)
  move-is true l = refl
  move-is false l = refl

  write-is : (b : Bool) (p : Point) (items : Items) → write_answer b x p items ≡ refused_if (not b) why.NotHere (refused_if (is_spent x p) why.Spent (ans.Wrote (stamped x p (Update items))))
  write-is false p items = refl
  write-is true p items = stamp-is (is_spent x p) (stamped x p (Update items))

  writes : (seen : Carried) (items : Items) (values : List (List ℕ)) → x.gear ≡ gear_for d items → write_answer (list_all (keeps_here x) (list_of items)) x seen.point items ≡ gear_answer d i n (model.Write seen items values)
  unfolding gear_answer
  writes seen items values at =
      write-is (list_all (keeps_here x) (list_of items)) seen.point items ∙
      (λ j. refused_if (not (all-kept items j)) why.NotHere (refused_if (spent-is seen.point j) why.Spent (ans.Wrote (label-is seen.point (Update items) (gear_for d items) at j))))

  version-is : (o : Option VersionKept) → version_answer o ≡ elim (version_seen o) [ None ↦ ans.ReadNone | Some p ↦ ans.ReadSome p.label p.value ]
  version-is None = refl
  version-is (Some v) = refl

  abbrev by_version : Bool → Option Version → Answer
  by_version b o = refused_if (not b) why.NotHere (elim o [ None ↦ ans.ReadNone | Some p ↦ ans.ReadSome p.label p.value ])

  reads-here : (m : ℕ) (b : Bool) → keeps_here x m ≡ b → m < length d.items → gear_of d m ≡ g → read_answer b x m ≡ by_version b (n.store m)
  reads-here m false e lt at = refl
  reads-here m true e lt at = version-is (version_of x m) ∙ ap (by_version true) (st.versions m lt (sym (keep-is m) ∙ e) at)

  reads : (seen : Carried) (m : ℕ) → m < length d.items → gear_of d m ≡ g → read_answer (keeps_here x m) x m ≡ gear_answer d i n (model.Read seen m)
  unfolding gear_answer
  reads seen m lt at = reads-here m (keeps_here x m) refl lt at ∙ ap (λ (b : Bool). by_version b (n.store m)) (keep-is m)

  moved-is : (b : Bool) (seen : Carried) (j : ℕ) → move_answer b x seen j ≡ refused_if b why.SameSite (refused_if (is_spent x seen.point) why.Spent (ans.Moved (stamped x seen.point (Move j))))
  moved-is true seen j = refl
  moved-is false seen j = move-is (is_spent x seen.point) (stamped x seen.point (Move j))

  moves : (seen : Carried) (to : ℕ) → x.gear ≡ 0 → move_answer (to == x.shape.site) x seen to ≡ gear_answer d i n (model.Move seen to)
  unfolding gear_answer
  moves seen to at =
      moved-is (to == x.shape.site) seen to ∙
      (λ j. refused_if (to == (st.shape j).site) why.SameSite (refused_if (spent-is seen.point j) why.Spent (ans.Moved (label-is seen.point (Move to) 0 at j))))

  -- what the code asks of an input
  at-least : (seen : Carried) (items : Items) (values : List (List ℕ)) → gear_takes x (gear.Write seen items values) ≡ true → x.gear ≡ gear_for d items
  unfolding gear_takes
  at-least seen items values e = st.number ∙ sym (of-gear (least_item (list_of items)) (and_parts _ (is_of x (least_item (list_of items))) e).1)

  at-first : (seen : Carried) (j : ℕ) → gear_takes x (gear.Move seen j) ≡ true → x.gear ≡ 0
  unfolding gear_takes
  at-first seen j e = sym (eqb-true 0 x.gear (and_parts _ (0 == x.gear) e).1)

  at-item : (seen : Carried) (m : ℕ) → gear_takes x (gear.Read seen m) ≡ true → (m < length d.items) × (gear_of d m ≡ g)
  unfolding gear_takes
  at-item seen m e =
      let w = and_parts (is_carried_here x.shape seen && is_item_here x.shape m) (is_of x m) e in
      (ltb-true m (length d.items) (sym (item-is d i m) ∙ subst (λ (s : Shape). is_item_here s m ≡ true) st.shape (and_parts (is_carried_here x.shape seen) (is_item_here x.shape m) w.0).1), of-gear m w.1)

  answers-all : (given : GearInput) → gear_takes x given ≡ true → gear_answers x given ≡ gear_answer d i n (gear_handed given)
  unfolding gear_answers gear_answer
  answers-all (gear.Tick ts) e = ap (λ (p : ℕ). ans.Ticked (max p ts)) st.gear.promise
  answers-all (gear.Write seen items values) e = writes seen items values (at-least seen items values e)
  answers-all (gear.Read seen m) e = let w = at-item seen m e in reads seen m w.0 w.1
  answers-all (gear.Move seen j) e = moves seen j (at-first seen j e)
  answers-all (gear.Drain given labels stable) e = refl
  answers-all (gear.Show by.Turn p) e = refl
  answers-all (gear.Show by.Stamp p) e = refl
  answers-all (gear.Show by.Write p) e = refl

-- ---- what it becomes

keeps-within : (a : Interested) (m j : ℕ) → IsInterest a → a.sites ≤ j → keeps a m j ≡ false
keeps-within a m j k past = go (slice_get a.replicas m) refl
  where
    by : (set : SiteSet) (b : Bool) → slice_get a.replicas m ≡ Some set → bit set.bits j ≡ b → b ≡ false
    by set false at e = refl
    by set true at e = absurd (let lt : j < a.sites = k.within m j set at e in omega arith)

    go : (o : Option SiteSet) → slice_get a.replicas m ≡ o → (elim o [ None ↦ false | Some set ↦ bit set.bits j ]) ≡ false
    go None at = refl
    go (Some set) at = by set (bit set.bits j) at refl

none-within : (a : Interested) (xs : List ℕ) (j : ℕ) → IsInterest a → a.sites ≤ j → keeps_one a xs j ≡ false
none-within a [] j k past = refl
none-within a (m ∷ xs) j k past = λ q. keeps-within a m j k past q || none-within a xs j k past q

far-for : (a : Interested) (p : Point) (items : Items) (j : ℕ) → IsInterest a → a.sites ≤ j → is_for a (record { point = p; kind = Update items }) j ≡ false
unfolding is_for
far-for a p items j k past = ap (λ (b : Bool). b && not (j == p.site)) (none-within a (list_of items) j k past)

module _ (laws : EachLane) (d : Deployed) (i g : ℕ) (x : GearSeen) (n : GearNode) (k : IsGear x) (st : StandsGearNode d i g x n) where
  abbrev Becomes : GearSeen → model.GearInput → Answer → Type 0
  Becomes y input r = StandsGearNode d i g y (gear_then d g n input r)

  stays : (input : model.GearInput) (r : Answer) → gear_then d g n input r ≡ n → Becomes x input r
  stays input r e = subst (StandsGearNode d i g x) (sym e) st

  ticks : (ts : ℕ) → Becomes (after_tick x ts) (model.Tick ts) (ans.Ticked (max x.promise ts))
  ticks ts = subst (StandsGearNode d i g (after_tick x ts)) (sym ((gears-change d g n).tick ts (max x.promise ts))) (record {
    shape = st.shape;
    number = st.number;
    gear = record { promise = refl; fresh = st.gear.fresh; lanes = st.gear.lanes };
    beyond = st.beyond;
    versions = st.versions;
  })

  -- ---- a write

  module _ (seen : Carried) (items : Items) (values : List (List ℕ)) (known : AreBelow (length x.shape.interest.replicas) (list_of items)) (many : length values ≡ length (list_of items)) where
    abbrev label : Label
    label = stamped x seen.point (Update items)

    abbrev written : GearSeen
    written = made_by x seen.point items values

    abbrev after : GearSeen
    after = shown_all written label (list_of items) (map Some values)

    same : SameGear written after
    same = same-all written label (list_of items) (map Some values)

    lane-is : (j : ℕ) (ps qs : List Payload) (q : Payload) → ps ≡ qs → (if is_for x.shape.interest label j then ps ++ q ∷ [] else ps) ≡ (if is_target d label j then qs ++ q ∷ [] else qs)
    lane-is j ps qs q e =
        ap (λ (a : Interested). if is_for a label j then ps ++ q ∷ [] else ps) (λ m. (st.shape m).interest) ∙
        (ap (λ (b : Bool). if b then ps ++ q ∷ [] else ps) (target-is d label.point items j) ∙ (λ m. if is_target d label j then e m ++ q ∷ [] else e m))

    lane-after : (j : ℕ) → j < d.sites → lane_to after j ≡ (if is_target d label j then n.gear.lanes j ++ payload_at label values ∷ [] else n.gear.lanes j)
    lane-after j lt =
        ap (λ (lanes : List (List Payload)). get_or lanes j []) same.lanes ∙
        (laws.lanes x.shape.interest (payload_with label values) x.lanes j (subst (λ (m : ℕ). j < m) (sym (k.lanes ∙ (λ q. (st.shape q).sites))) lt) ∙
        lane-is j (lane_to x j) (n.gear.lanes j) (payload_with label values) (st.gear.lanes j lt))

    no-target : (j : ℕ) → d.sites ≤ j → is_target d label j ≡ false
    no-target j past =
        sym (target-is d label.point items j) ∙
        subst (λ (a : Interested). is_for a label j ≡ false) (λ m. (st.shape m).interest)
        (far-for x.shape.interest label.point items j k.shape.interest (subst (λ (m : ℕ). m ≤ j) (sym (k.shape.sites ∙ (λ q. (st.shape q).sites))) past))

    done : StandsGearNode d i g after (gear_wrote d n label values)
    done = record {
      shape = same.shape ∙ st.shape;
      number = same.gear ∙ st.number;
      gear = record { promise = same.promise; fresh = same.fresh ∙ ap (λ (ls : List Label). ls ++ label ∷ []) st.gear.fresh; lanes = lane-after };
      beyond = λ j past. ap (λ (b : Bool). if b then n.gear.lanes j ++ payload_at label values ∷ [] else n.gear.lanes j) (no-target j past) ∙ st.beyond j past;
      versions = λ m lt kept at.
          all-shown d i g written label (list_of items) (map Some values) n.store (record { shape = st.shape; number = st.number; some = k.shape.gears; places = k.versions }) known (whole-parts x.shape (list_of items) values many) st.versions m lt kept at
          ∙ ap (λ (value : List ℕ). if is_update_of (Update items) m then put (n.store m) (version_at label value) else n.store m) (part-value (list_of items) values m);
    }

    stamps : (b : Bool) → Becomes (stamp_after b x seen.point items values) (model.Write seen items values) (stamp_answer_of b label)
    stamps true = stays (model.Write seen items values) (ans.Refused why.Spent) ((gears-change d g n).refused (model.Write seen items values) why.Spent refl)
    stamps false = subst (StandsGearNode d i g after) (sym ((gears-change d g n).write seen items values label (eq-eqb x.gear g st.number))) done

    writes-to : (b : Bool) → Becomes (write_after b x seen.point items values) (model.Write seen items values) (write_answer b x seen.point items)
    writes-to false = stays (model.Write seen items values) (ans.Refused why.NotHere) ((gears-change d g n).refused (model.Write seen items values) why.NotHere refl)
    writes-to true = stamps (is_spent x seen.point)

  -- ---- a read, and a move

  version-stays : (seen : Carried) (m : ℕ) (o : Option VersionKept) → Becomes x (model.Read seen m) (version_answer o)
  version-stays seen m None = stays (model.Read seen m) ans.ReadNone ((gears-change d g n).missed seen m)
  version-stays seen m (Some v) = stays (model.Read seen m) (ans.ReadSome v.label v.value) ((gears-change d g n).read seen m v.label v.value)

  reads-to : (seen : Carried) (m : ℕ) (b : Bool) → Becomes x (model.Read seen m) (read_answer b x m)
  reads-to seen m false = stays (model.Read seen m) (ans.Refused why.NotHere) ((gears-change d g n).refused (model.Read seen m) why.NotHere refl)
  reads-to seen m true = version-stays seen m (version_of x m)

  moved : (l : Label) → l.point.gear ≡ x.gear → StandsGearNode d i g (after_move x l) (gear_moved n l)
  moved l at = record {
    shape = st.shape;
    number = st.number;
    gear = record { promise = refl; fresh = ap (λ (ls : List Label). ls ++ l ∷ []) st.gear.fresh; lanes = st.gear.lanes };
    beyond = st.beyond;
    versions = st.versions;
  }

  stamp-moves : (seen : Carried) (j : ℕ) (b : Bool) → Becomes (moved_gear b x (stamped x seen.point (Move j))) (model.Move seen j) (moved_answer b (stamped x seen.point (Move j)))
  stamp-moves seen j true = stays (model.Move seen j) (ans.Refused why.Spent) ((gears-change d g n).refused (model.Move seen j) why.Spent refl)
  stamp-moves seen j false =
      subst (StandsGearNode d i g (after_move x (stamped x seen.point (Move j)))) (sym ((gears-change d g n).move seen j (stamped x seen.point (Move j)) (eq-eqb x.gear g st.number)))
      (moved (stamped x seen.point (Move j)) refl)

  moves-to : (seen : Carried) (j : ℕ) (b : Bool) → Becomes (move_after b x seen j) (model.Move seen j) (move_answer b x seen j)
  moves-to seen j true = stays (model.Move seen j) (ans.Refused why.SameSite) ((gears-change d g n).refused (model.Move seen j) why.SameSite refl)
  moves-to seen j false = stamp-moves seen j (is_spent x seen.point)

  -- ---- all inputs

  becomes-all : (given : GearInput) → gear_takes x given ≡ true → Becomes (gear_after x given) (gear_handed given) (gear_answers x given)
  unfolding gear_takes gear_after gear_answers
  becomes-all (gear.Tick ts) e = ticks ts
  becomes-all (gear.Write seen items values) e =
      let w = and_parts (is_carried_here x.shape seen && (is_group_here x.shape items && (length values == length (list_of items)))) (is_of x (least_item (list_of items))) e in
      let v = and_parts (is_carried_here x.shape seen) (is_group_here x.shape items && (length values == length (list_of items))) w.0 in
      let u = and_parts (is_group_here x.shape items) (length values == length (list_of items)) v.1 in
      writes-to seen items values (below_is (length x.shape.interest.replicas) (list_of items) (and_parts (are_items (list_of items)) _ u.0).1) (eqb-true (length values) (length (list_of items)) u.1) (list_all (keeps_here x) (list_of items))
  becomes-all (gear.Read seen m) e = reads-to seen m (keeps_here x m)
  becomes-all (gear.Move seen j) e = moves-to seen j (j == x.shape.site)
  becomes-all (gear.Drain given labels stable) e = record {
    shape = st.shape;
    number = st.number;
    gear = record { promise = st.gear.promise; fresh = refl; lanes = st.gear.lanes };
    beyond = st.beyond;
    versions = st.versions;
  }
  becomes-all (gear.Show act p) e = payload-shown d i g x n act p k st e

-- ---- by the node's name

site-below : (d : Deployed) (i g : ℕ) (x : GearSeen) (n : GearNode) → IsGear x → StandsGearNode d i g x n → i < d.sites
site-below d i g x n k st = subst (λ (s : Shape). s.site < s.sites) st.shape k.shape.site

gear-below : (d : Deployed) (i g : ℕ) (x : GearSeen) (n : GearNode) → IsGear x → StandsGearNode d i g x n → g < d.gears
gear-below d i g x n k st = subst (λ (m : ℕ). m < d.gears) st.number (subst (λ (m : ℕ). x.gear < m) (λ j. (st.shape j).gears) k.gear)

pub named-fits : (d : Deployed) (name : NodeName) (x : GearSeen) (n : GearNode) (act : GearActSeen) → IsGear x → IsBy d act.by (is_gear_clients act.input) → gear_takes x act.input ≡ true → GearStands d name x n →
    GearFitsAt d (number_of name) (gear_number name) n act
named-fits d (named.Gear i g) x n act k by e st = record {
  by = by;
  site = site-below d i g x n k st;
  gear = gear-below d i g x n k st;
  fits = fits-all d i g x n k st act.input e;
  own = own-all d i g x n k st act.input e;
}
named-fits d (named.Site i) x n act k by e st = absurd st
named-fits d (named.Serializer f z) x n act k by e st = absurd st

pub named-answers : (d : Deployed) (name : NodeName) (x : GearSeen) (n : GearNode) (act : GearActSeen) (a : GearAnswer) → IsGear x → gear_takes x act.input ≡ true → a.answer ≡ gear_answers x act.input →
    ((j : ℕ) → bit a.keepers.bits j ≡ is_kept_at d act.input j) → GearStands d name x n → GearAnswersAt d (number_of name) n act a
named-answers d (named.Gear i g) x n act a k e answer keepers st = record { answer = answer ∙ answers-all d i g x n k st act.input e; keepers = keepers }
named-answers d (named.Site i) x n act a k e answer keepers st = absurd st
named-answers d (named.Serializer f z) x n act a k e answer keepers st = absurd st

pub named-after : EachLane → (d : Deployed) (name : NodeName) (x y : GearSeen) (n : GearNode) (given : GearInput) (r : Answer) → IsGear x → gear_takes x given ≡ true → y ≡ gear_after x given → r ≡ gear_answers x given → GearStands d name x n →
    GearStands d name y (gear_then d (gear_number name) n (gear_handed given) r)
named-after laws d (named.Gear i g) x y n given r k e is answer st =
    subst (λ (y : GearSeen). StandsGearNode d i g y (gear_then d g n (gear_handed given) r)) (sym is)
    (subst (λ (r : Answer). StandsGearNode d i g (gear_after x given) (gear_then d g n (gear_handed given) r)) (sym answer) (becomes-all laws d i g x n k st given e))
named-after laws d (named.Site i) x y n given r k e is answer st = absurd st
named-after laws d (named.Serializer f z) x y n given r k e is answer st = absurd st

-- ---- its answers but those of reads hold no list

stamp-plain : (b : Bool) (l : Label) → is_plain (stamp_answer_of b l) ≡ true
stamp-plain true l = refl
stamp-plain false l = refl

write-plain : (b : Bool) (x : GearSeen) (p : Point) (items : Items) → is_plain (write_answer b x p items) ≡ true
write-plain false x p items = refl
write-plain true x p items = stamp-plain (is_spent x p) (stamped x p (Update items))

moved-plain : (b : Bool) (l : Label) → is_plain (moved_answer b l) ≡ true
moved-plain true l = refl
moved-plain false l = refl

move-plain : (b : Bool) (x : GearSeen) (seen : Carried) (j : ℕ) → is_plain (move_answer b x seen j) ≡ true
move-plain true x seen j = refl
move-plain false x seen j = moved-plain (is_spent x seen.point) (stamped x seen.point (Move j))

pub gear-plain : (x : GearSeen) (given : GearInput) → is_read given ≡ false → is_plain (gear_answers x given) ≡ true
unfolding gear_answers
gear-plain x (gear.Tick ts) e = refl
gear-plain x (gear.Write seen items values) e = write-plain (list_all (keeps_here x) (list_of items)) x seen.point items
gear-plain x (gear.Read seen m) e = absurd (cc)
gear-plain x (gear.Move seen j) e = move-plain (j == x.shape.site) x seen j
gear-plain x (gear.Drain given labels stable) e = refl
gear-plain x (gear.Show by.Turn p) e = refl
gear-plain x (gear.Show by.Stamp p) e = refl
gear-plain x (gear.Show by.Write p) e = refl

-- ---- a step leaves the gear's shape and number

stamp-same : (b : Bool) (x : GearSeen) (p : Point) (items : Items) (values : List (List ℕ)) → ((stamp_after b x p items values).shape ≡ x.shape) × ((stamp_after b x p items values).gear ≡ x.gear)
stamp-same true x p items values = (refl, refl)
stamp-same false x p items values =
    let same : SameGear (made_by x p items values) (stamp_after false x p items values) = same-all (made_by x p items values) (stamped x p (Update items)) (list_of items) (map Some values) in
    (same.shape, same.gear)

write-same : (b : Bool) (x : GearSeen) (p : Point) (items : Items) (values : List (List ℕ)) → ((write_after b x p items values).shape ≡ x.shape) × ((write_after b x p items values).gear ≡ x.gear)
write-same false x p items values = (refl, refl)
write-same true x p items values = stamp-same (is_spent x p) x p items values

moved-same : (b : Bool) (x : GearSeen) (l : Label) → ((moved_gear b x l).shape ≡ x.shape) × ((moved_gear b x l).gear ≡ x.gear)
moved-same true x l = (refl, refl)
moved-same false x l = (refl, refl)

move-same : (b : Bool) (x : GearSeen) (seen : Carried) (j : ℕ) → ((move_after b x seen j).shape ≡ x.shape) × ((move_after b x seen j).gear ≡ x.gear)
move-same true x seen j = (refl, refl)
move-same false x seen j = moved-same (is_spent x seen.point) x (stamped x seen.point (Move j))

shown-same : (x : GearSeen) (p : Payload) (kind : Kind) → ((shown_of x p kind).shape ≡ x.shape) × ((shown_of x p kind).gear ≡ x.gear)
shown-same x p (Update items) = let same : SameGear x (shown_all x p.label (list_of items) p.values) = same-all x p.label (list_of items) p.values in (same.shape, same.gear)
shown-same x p (Move j) = (refl, refl)
shown-same x p Pulse = (refl, refl)
shown-same x p (Close e) = (refl, refl)

after-same : (x : GearSeen) (given : GearInput) → ((gear_after x given).shape ≡ x.shape) × ((gear_after x given).gear ≡ x.gear)
unfolding gear_after
after-same x (gear.Tick ts) = (refl, refl)
after-same x (gear.Write seen items values) = write-same (list_all (keeps_here x) (list_of items)) x seen.point items values
after-same x (gear.Read seen m) = (refl, refl)
after-same x (gear.Move seen j) = move-same (j == x.shape.site) x seen j
after-same x (gear.Drain given labels stable) = (refl, refl)
after-same x (gear.Show act p) = shown-same x p p.label.kind

pub same-after : (x y : GearSeen) (given : GearInput) → y ≡ gear_after x given → (y.shape ≡ x.shape) × (y.gear ≡ x.gear)
same-after x y given e = (ap (λ (z : GearSeen). z.shape) e ∙ (after-same x given).0, ap (λ (z : GearSeen). z.gear) e ∙ (after-same x given).1)
