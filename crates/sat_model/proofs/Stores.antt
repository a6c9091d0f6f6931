-- The store keeps the history's versions, with the values of their writes.
use Rattle.std.specs.Prelude.{◌≡◌, ℕ, Bool, true, false, ◌&&◌, List, [], ◌∷◌, ◌++◌, Option, Some, None, ◌==◌, if◌then◌else◌, refl}
use Rattle.std.proofs.Common.{sym, subst, ap, ◌∙◌, arith, inl, inr}
use Rattle.std.proofs.lemmas.Bool.Decides.{nat_tests}
use Rattle.std.proofs.lemmas.Bool.{and_from, or_parts, false_from_ne_true}
use Rattle.sat_label.specs.declared.label.Label.{Label}
use Rattle.sat_label.specs.declared.point.Point.{Point}
use Rattle.sat_label.specs.Grouped.{list_of}
use Rattle.sat_label.specs.Order.{label_eq, label_lt, point_lt, point_eq, kind_lt}
use Rattle.sat_label.specs.Words.{has}
use Rattle.sat_act.specs.declared.act.Act.{Act}
use Rattle.sat_act.specs.declared.answer.Answer.{Answer}
use Rattle.sat_act.specs.declared.answer.Answer.TheVariants as ans
use Rattle.sat_act.specs.declared.entry.Entry.{Entry}
use Rattle.sat_act.specs.Deployed.{Deployed}
use Rattle.sat_act.specs.Histories.{listed}
use Rattle.sat_act.specs.Parts.{items_of, is_update_of, shown, shown_entry, greatest_label, version, value_for, values_of, value_of, waiting}
use Rattle.sat_act.specs.Runs.{IsRun}
use Rattle.sat_act.specs.Goals.{Made, IsValid}
use Rattle.sat_laws.proofs.Steps.{Step, write_label, wrote, showed_turn, showed_stamp}
use Rattle.sat_laws.proofs.Runs.{step_of, before_of, entry}
use Rattle.sat_laws.proofs.Labels.{some_is}
use Rattle.sat_laws.proofs.Members.{listed-gives}
use Rattle.sat_laws.proofs.Shows.{shows-is, next-stamp-waits, candidate-least}
use Rattle.sat_laws.proofs.Links.{tail_of}
use Rattle.sat_model.specs.State.{SiteState, Version}
use Rattle.sat_model.specs.Input.{SiteInput}
use Rattle.sat_model.specs.Input as given
use Rattle.sat_model.specs.Look.{payload_in}
use Rattle.sat_model.specs.Next.{site_next, put, version_at, part_for}
use Rattle.sat_model.specs.Replay.{after, handed, site_state, turn_front}
use Rattle.sat_model.proofs.Kept.{kept}
use Rattle.sat_model.proofs.Lists.{plain}
use Rattle.sat_model.specs.Parts.{valued_version}
use Rattle.sat_laws.proofs.Values.{value-stays, values-new}
use Rattle.sat_model.proofs.Pools.{parts_of, waiting-parts}
use Rattle.sat_model.proofs.Writing.{at-write, write_input, part-value}
use Rattle.sat_label.specs.Members.{In}
use Rattle.sat_label.proofs.Orders.{same-label, kinds-connex, label_lt-trans, label_lt-self}
use Rattle.sat_label.proofs.Members.{has-in}

-- ---- the greatest label of a list that grows at its end

abbrev up : Label → Option Label → Option Label
up y o = elim o [ None ↦ Some y | Some m ↦ if label_lt m y then Some y else Some m ]

and_true : (a b : Bool) → a ≡ true → (a && b) ≡ false → b ≡ false
and_true true b e f = f
and_true false b e f = absurd (cc)

points-connex : (p q : Point) → point_lt p q ≡ false → point_lt q p ≡ false → point_eq p q ≡ true
points-connex p q a b = grind (arith, nat_tests)

point-sym : (p q : Point) → point_eq p q ≡ true → point_eq q p ≡ true
point-sym p q a = grind (arith, nat_tests)

pub connex : (a b : Label) → label_lt a b ≡ false → label_lt b a ≡ false → a ≡ b
connex a b p q =
    let x : (point_lt a.point b.point ≡ false) × ((point_eq a.point b.point && kind_lt a.kind b.kind) ≡ false) = or_parts _ _ p in
    let y : (point_lt b.point a.point ≡ false) × ((point_eq b.point a.point && kind_lt b.kind a.kind) ≡ false) = or_parts _ _ q in
    let z : point_eq a.point b.point ≡ true = points-connex a.point b.point x.0 y.0 in
    same-label a b (and_from _ _ z (kinds-connex a.kind b.kind (and_true _ _ z x.1) (and_true _ _ (point-sym a.point b.point z) y.1)))

asym : (a b : Label) → label_lt a b ≡ true → label_lt b a ≡ false
asym a b p = false_from_ne_true (label_lt b a) (λ q. let w : label_lt a a ≡ true = label_lt-trans a b a p q in let v : label_lt a a ≡ false = label_lt-self a in cc)

two : (y l : Label) → up y (Some l) ≡ up l (Some y)
two y l = go (label_lt l y) (label_lt y l) refl refl
  where
    go : (b c : Bool) → label_lt l y ≡ b → label_lt y l ≡ c → (if b then Some y else Some l) ≡ (if c then Some l else Some y)
    go true true e f = absurd (let w : label_lt y l ≡ false = asym l y e in cc)
    go true false e f = refl
    go false true e f = refl
    go false false e f = ap (λ (z : Label). Some z) (connex l y e f)

three : (y m l : Label) → up y (up l (Some m)) ≡ up l (up y (Some m))
three y m l = go (label_lt m l) (label_lt m y) refl refl
  where
    side : (b : Bool) (x z : Label) → b ≡ false → (if b then Some x else Some z) ≡ Some z
    side true x z e = absurd (cc)
    side false x z e = refl

    front : (b : Bool) (x z : Label) → b ≡ true → (if b then Some x else Some z) ≡ Some x
    front true x z e = refl
    front false x z e = absurd (cc)

    go : (b c : Bool) → label_lt m l ≡ b → label_lt m y ≡ c → up y (if b then Some l else Some m) ≡ up l (if c then Some y else Some m)
    go true true e f = two y l
    go true false e f = side (label_lt l y) y l (false_from_ne_true (label_lt l y) (λ k. let w : label_lt m y ≡ true = label_lt-trans m l y e k in cc)) ∙ sym (front (label_lt m l) l m e)
    go false true e f = front (label_lt m y) y m f ∙ sym (side (label_lt y l) l y (false_from_ne_true (label_lt y l) (λ k. let w : label_lt m l ≡ true = label_lt-trans m y l f k in cc)))
    go false false e f = side (label_lt m y) y m f ∙ sym (side (label_lt m l) l m e)

swap : (y l : Label) (o : Option Label) → up y (up l o) ≡ up l (up y o)
swap y l None = two y l
swap y l (Some m) = three y m l

greatest-more : (p : Label → Bool) (S : List Label) (l : Label) → greatest_label p (S ++ l ∷ []) ≡ (if p l then up l (greatest_label p S) else greatest_label p S)
unfolding greatest_label
greatest-more p [] l = refl
greatest-more p (y ∷ S) l =
    ap (λ (o : Option Label). if p y then up y o else o) (greatest-more p S l) ∙ go (p y) (p l)
  where
    go : (b c : Bool) → (if b then up y (if c then up l (greatest_label p S) else greatest_label p S) else (if c then up l (greatest_label p S) else greatest_label p S)) ≡
        (if c then up l (if b then up y (greatest_label p S) else greatest_label p S) else (if b then up y (greatest_label p S) else greatest_label p S))
    go true true = swap y l (greatest_label p S)
    go true false = refl
    go false c = refl

greatest-in : (p : Label → Bool) (S : List Label) (l : Label) → greatest_label p S ≡ Some l → In S l
unfolding greatest_label
greatest-in p [] l e = absurd (cc)
greatest-in p (y ∷ S) l e = go (p y) (greatest_label p S) (λ m. greatest-in p S m) e
  where
    last : (b : Bool) (m : Label) → (if b then Some y else Some m) ≡ Some l → (m ≡ l → In S l) → In (y ∷ S) l
    last true m e f = inl (some_is y l e)
    last false m e f = inr (f (some_is m l e))

    go : (b : Bool) (o : Option Label) → ((m : Label) → o ≡ Some m → In S m) → (if b then up y o else o) ≡ Some l → In (y ∷ S) l
    go true None f e = inl (some_is y l e)
    go true (Some m) f e = last (label_lt m y) m e (λ w. subst (In S) w (f m refl))
    go false o f e = inr (f l e)

-- ---- the store

-- the version that a label with a value for item x is
abbrev version_by : List Entry → ℕ → Label → Version
version_by h x l = version_at l (value_of h l x)

put-is : (h : List Entry) (x : ℕ) (l : Label) (o : Option Label) → put (valued_version h x o) (version_by h x l) ≡ valued_version h x (up l o)
put-is h x l None = refl
put-is h x l (Some m) = go (label_lt m l)
  where
    go : (b : Bool) → (if b then Some (version_by h x l) else Some (version_by h x m)) ≡ valued_version h x (if b then Some l else Some m)
    go true = refl
    go false = refl

put-if : (h : List Entry) (x : ℕ) (l : Label) (b c : Bool) (p : Label → Bool) (S : List Label) → p l ≡ c →
    (if b then (if c then put (valued_version h x (greatest_label p S)) (version_by h x l) else valued_version h x (greatest_label p S)) else valued_version h x (greatest_label p S)) ≡ valued_version h x (greatest_label p (S ++ tail_of (if b then Some l else None)))
put-if h x l true c p S e = sym (ap (valued_version h x) (greatest-more p S l) ∙ go c (p l) e)
  where
    go : (c b : Bool) → b ≡ c → valued_version h x (if b then up l (greatest_label p S) else greatest_label p S) ≡ (if c then put (valued_version h x (greatest_label p S)) (version_by h x l) else valued_version h x (greatest_label p S))
    go true true w = sym (put-is h x l (greatest_label p S))
    go false false w = refl
    go _ _ w = absurd (cc)
put-if h x l false c p S e = ap (λ (ls : List Label). valued_version h x (greatest_label p ls)) (sym (plain S))

pick : {X : Type 0} (G : Option SiteInput → X) (input : SiteInput) (b : Bool) (y z : X) → G None ≡ z → G (Some input) ≡ y → G (if b then Some input else None) ≡ (if b then y else z)
pick G input true y z e f = f
pick G input false y z e f = e

stamp-waits : (d : Deployed) (h : List Entry) (j : ℕ) (l : Label) → Rattle.sat_act.specs.Parts.next_stamp d h j ≡ Some l → In (waiting h j) l
stamp-waits d h j l e = (candidate-least d h j l (next-stamp-waits d h j l e).0).member

old-values : (h : List Entry) (a : Act) (l m : Label) (n : Bool) → values_of (entry a (ans.Shown l) n ∷ h) m ≡ values_of h m
unfolding values_of
old-values h a l m n = refl

-- of the parts of an update that is shown now, the value for an item is that of its write
shown-value : (h : List Entry) (a : Act) (l : Label) (n : Bool) (x : ℕ) (ps : List (Option (List ℕ))) → ps ≡ parts_of h l → part_for (items_of l.kind) ps x ≡ value_of (entry a (ans.Shown l) n ∷ h) l x
shown-value h a l n x ps e =
    ap (λ (ps : List (Option (List ℕ))). part_for (items_of l.kind) ps x) e ∙
    (part-value (items_of l.kind) (values_of h l) x ∙ ap (λ (vs : List (List ℕ)). value_for (items_of l.kind) vs x) (sym (old-values h a l l n)))

-- what a site has for item x with a label's value put there, where the label has the item
abbrev put_value : ℕ → Label → Option Version → List ℕ → Option Version
put_value x l old value = if is_update_of l.kind x then put old (version_at l value) else old

store-step : (d : Deployed) (h : List Entry) (j x : ℕ) (s : SiteState) (a : Act) (r : Answer) (n : Bool) → s.store x ≡ valued_version (entry a r n ∷ h) x (version h j x) → Step d h a r →
    ((l : Label) → In (waiting h j) l → payload_in s.proxy.pool l ≡ parts_of h l) →
    (after d j s (handed d h a j) r).store x ≡ valued_version (entry a r n ∷ h) x (version (entry a r n ∷ h) j x)
unfolding after handed site_next version shown
store-step d h j x s a r n k (wrote {w = w} {i = t} z p q b) u =
    let l : Label = write_label d h w t in
    let h' : List Entry = entry a r n ∷ h in
    let S : List Label = listed (shown_entry j) h in
    let old : Option Version = valued_version h' x (greatest_label (λ l. is_update_of l.kind x) S) in
    at-write (λ o. (after d j s o r).store x) _ d h a w j t z p
    (pick (λ o. (after d j s o r).store x) (write_input h w) (t == j) (put_value x l old (value_of h' l x)) old k
    (ap (λ (o : Option Version). put_value x l o (value_for (list_of w.items) w.values x)) k ∙ ap (λ (vs : List (List ℕ)). put_value x l old (value_for (list_of w.items) vs x)) (sym (values-new h l n a w z)))
    ∙ put-if h' x l (t == j) (is_update_of l.kind x) (λ l. is_update_of l.kind x) S refl)
store-step d h j x s a r n k (showed_turn {j = t} {l = l} p q w y z e) u = go (t == j) refl
  where
    S : List Label
    S = listed (shown_entry j) h

    h' : List Entry
    h' = entry a (ans.Shown l) n ∷ h

    num : (a b : ℕ) → (a == b) ≡ true → a ≡ b
    num a b e = grind (arith, nat_tests)

    go : (b : Bool) → (t == j) ≡ b → (after d j s (if b then Some (given.Turn (turn_front d h t)) else None) (ans.Shown l)).store x ≡ valued_version h' x (greatest_label (λ l. is_update_of l.kind x) (S ++ tail_of (if b then Some l else None)))
    go true w =
        ap (λ (o : Option Version). put_value x l o (part_for (items_of l.kind) (payload_in s.proxy.pool l) x)) k ∙
        (ap (put_value x l (valued_version h' x (greatest_label (λ l. is_update_of l.kind x) S))) (shown-value h a l n x (payload_in s.proxy.pool l) (u l (has-in (waiting h j) l (subst (λ (i : ℕ). has label_eq (waiting h i) l ≡ true) (num t j w) e)))) ∙
        put-if h' x l true (is_update_of l.kind x) (λ l. is_update_of l.kind x) S refl)
    go false w = k ∙ put-if h' x l false (is_update_of l.kind x) (λ l. is_update_of l.kind x) S refl
store-step d h j x s a r n k (showed_stamp {j = t} {l = l} p q) u = go (t == j) refl
  where
    S : List Label
    S = listed (shown_entry j) h

    h' : List Entry
    h' = entry a (ans.Shown l) n ∷ h

    num : (a b : ℕ) → (a == b) ≡ true → a ≡ b
    num a b e = grind (arith, nat_tests)

    go : (b : Bool) → (t == j) ≡ b → (after d j s (if b then Some given.Stamp else None) (ans.Shown l)).store x ≡ valued_version h' x (greatest_label (λ l. is_update_of l.kind x) (S ++ tail_of (if b then Some l else None)))
    go true w =
        ap (λ (o : Option Version). put_value x l o (part_for (items_of l.kind) (payload_in s.proxy.pool l) x)) k ∙
        (ap (put_value x l (valued_version h' x (greatest_label (λ l. is_update_of l.kind x) S))) (shown-value h a l n x (payload_in s.proxy.pool l) (u l (subst (λ (i : ℕ). In (waiting h i) l) (num t j w) (stamp-waits d h t l q)))) ∙
        put-if h' x l true (is_update_of l.kind x) (λ l. is_update_of l.kind x) S refl)
    go false w = k ∙ put-if h' x l false (is_update_of l.kind x) (λ l. is_update_of l.kind x) S refl
store-step d h j x s a r n k _ u =
    kept (λ s. s.store x) d j s (handed d h a j) r (λ input. refl) ∙ (k ∙ ap (λ (ls : List Label). valued_version (entry a r n ∷ h) x (greatest_label (λ l. is_update_of l.kind x) ls)) (sym (plain (listed (shown_entry j) h))))

stored-stays : (d : Deployed) (h : List Entry) (e : Entry) (x : ℕ) (o : Option Label) → IsValid d → IsRun d (e ∷ h) → ((l : Label) → o ≡ Some l → Made h l) → valued_version h x o ≡ valued_version (e ∷ h) x o
stored-stays d h e x None v run k = refl
stored-stays d h e x (Some l) v run k = ap (λ (w : List ℕ). Some (version_at l w)) (sym (value-stays d h e l x v run (k l refl)))

version-made : (d : Deployed) (h : List Entry) (j x : ℕ) (l : Label) → IsRun d h → version h j x ≡ Some l → Made h l
unfolding version shown
version-made d h j x l run e = (shows-is d h j l run (listed-gives (shown_entry j) h l (greatest-in (λ l. is_update_of l.kind x) (listed (shown_entry j) h) l e))).made

pub store-agrees : (d : Deployed) (h : List Entry) (j x : ℕ) → IsValid d → IsRun d h → (site_state d h j).store x ≡ valued_version h x (version h j x)
unfolding site_state
store-agrees d [] j x v run = unfold version shown greatest_label in refl
store-agrees d (e ∷ h) j x v run =
    let old : IsRun d h = before_of d h e run in
    store-step d h j x (site_state d h j) e.act e.answer e.inner (store-agrees d h j x v old ∙ stored-stays d h e x (version h j x) v run (λ l w. version-made d h j x l old w)) (step_of d h e run) (λ l m. waiting-parts d h j l v old m)
