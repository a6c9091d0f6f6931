-- The lines of groups: what they say is a group of the deployment, and a group's line says it.
use Rattle.std.proofs.Common.{◌≡◌, ℕ, ◌<◌, ◌≤◌, Bool, true, false, ◌&&◌, cond, eqb, leb, ltb, List, [], ◌∷◌, length, Some, None, ap, refl, subst, arith}
use Rattle.std.specs.List.{list_all}
use Rattle.std.proofs.lemmas.Bool.{and_from, and_parts, le-leb, leb-true, lt-ltb, ltb-true}
use Rattle.sat_label.specs.Formats.{limits_of as format_limits}
use Rattle.sat_label.specs.Grouped.{are_items, list_of}
use Rattle.sat_label.specs.Text.{is_value}
use Rattle.sat_label.specs.declared.items.Items.{Items}
use Rattle.sat_label.specs.declared.items.Items.TheVariants.{One, Two, Three, Four}
use Rattle.sat_act.specs.Deployed.{Deployed}
use Rattle.sat_act.specs.Ranges.{IsActOf, IsGroupOf}
use Rattle.sat_act.specs.declared.act.Act.{Act}
use Rattle.sat_act.specs.declared.act.Act.TheVariants as act
use Rattle.sat_script.specs.Dialect.{allows}
use Rattle.sat_script.specs.Said.{is_counted}
use Rattle.sat_script.specs.Table.{Said, place_at, bytes_at, act_of, form_of, group_form, group_of, unfit}
use Rattle.sat_script.specs.declared.fault.Cause.TheVariants.{BadGroup}
use Rattle.sat_script.specs.declared.form.Form.{Form}
use Rattle.sat_script.specs.declared.form.Form.TheVariants as form
use Rattle.sat_script.proofs.Choices.{tested}

-- ---- the formats that have a form

-- every format allows one item under a label
one_written : (format : ℕ) → leb 1 (format_limits format).written ≡ true
one_written format = go (eqb format 1)
  where
    go : (b : Bool) → leb 1 (cond b (format_limits 1) (format_limits 2)).written ≡ true
    go true = refl
    go false = refl

pub counted_allowed : (hops : Bool) (format : ℕ) (f : Form) → is_counted hops f ≡ true → allows format f ≡ true
unfolding allows
counted_allowed hops format form.WritesTwo h = absurd (cc)
counted_allowed hops format form.WritesThree h = absurd (cc)
counted_allowed hops format form.WritesFour h = absurd (cc)
counted_allowed hops format _ h = one_written format

group_allowed : (d : Deployed) (items : Items) (values : List (List ℕ)) → IsGroupOf d items values → allows d.format (group_form items) ≡ true
unfolding allows
group_allowed d (One x) values h = absurd (let some = h.some in omega arith)
group_allowed d (Two x y) values h = let few = h.few in le-leb 2 (format_limits d.format).written (omega arith)
group_allowed d (Three x y z) values h = let few = h.few in le-leb 3 (format_limits d.format).written (omega arith)
group_allowed d (Four x y z w) values h = let few = h.few in le-leb 4 (format_limits d.format).written (omega arith)

-- the deployment's format has the form of each of its acts
pub act_allowed : (d : Deployed) (a : Act) → IsActOf d a → allows d.format (form_of a) ≡ true
unfolding allows
act_allowed d (act.Writes c items values) h = group_allowed d items values h.1
act_allowed d (act.Bulk i g j None) h = one_written d.format
act_allowed d (act.Bulk i g j (Some n)) h = one_written d.format
act_allowed d _ h = one_written d.format

-- ---- items that ascend

ascends : (b : Bool) → cond b None (Some BadGroup) ≡ None → b ≡ true
ascends true h = refl
ascends false h = absurd (cc)

pub fit_order : (d : Deployed) (c : ℕ) (items : Items) (values : List (List ℕ)) → unfit d (act.Writes c items values) ≡ None → are_items (list_of items) ≡ true
fit_order d c items values h = ascends (are_items (list_of items)) h

pub order_fit : (d : Deployed) (c : ℕ) (items : Items) (values : List (List ℕ)) → are_items (list_of items) ≡ true → unfit d (act.Writes c items values) ≡ None
order_fit d c items values h = ap (λ (b : Bool). cond b None (Some BadGroup)) h

-- ---- what the words of a group say

-- the items are the deployment's
pub known_two : (n x y : ℕ) → x < n → y < n → list_all (λ x. ltb x n) (x ∷ y ∷ []) ≡ true
known_two n x y a b = and_from (ltb x n) (ltb y n && true) (lt-ltb x n a) (and_from (ltb y n) true (lt-ltb y n b) refl)

pub known_three : (n x y z : ℕ) → x < n → y < n → z < n → list_all (λ x. ltb x n) (x ∷ y ∷ z ∷ []) ≡ true
known_three n x y z a b c = and_from (ltb x n) _ (lt-ltb x n a) (known_two n y z b c)

pub known_four : (n x y z w : ℕ) → x < n → y < n → z < n → w < n → list_all (λ x. ltb x n) (x ∷ y ∷ z ∷ w ∷ []) ≡ true
known_four n x y z w a b c e = and_from (ltb x n) _ (lt-ltb x n a) (known_three n y z w b c e)

-- the values of a group, and how many items it has
abbrev values_in : Act → List (List ℕ)
values_in (act.Writes c items values) = values
values_in _ = []

abbrev items_in : Act → ℕ
items_in (act.Writes c items values) = length (list_of items)
items_in _ = 0

-- a group that words say has as many values as items, two at least, and each value is one
pub record IsSaid (items : Items) (values : List (List ℕ)) : Type 0 where
  pub some : 2 ≤ length (list_of items)
  pub same : length values ≡ length (list_of items)
  pub spelled : list_all is_value values ≡ true

said_group : (c e : ℕ) (items others : Items) (values texts : List (List ℕ)) → length texts ≡ length (list_of others) → 2 ≤ length texts → group_of e others texts ≡ Some (act.Writes c items values) → IsSaid items values
said_group c e items others values texts as_many some h =
    let t = tested (list_all is_value texts) (act.Writes e others texts) (act.Writes c items values) h in
    let same : texts ≡ values = ap values_in t.1 in
    let count : length (list_of others) ≡ length (list_of items) = ap items_in t.1 in
    let long : length texts ≡ length values = ap length same in
    record { some = omega (arith, count, as_many, some); same = omega (arith, count, as_many, long); spelled = subst (λ (vs : List (List ℕ)). list_all is_value vs ≡ true) same t.0 }

pub group_said : (c : ℕ) (items : Items) (values : List (List ℕ)) (xs : List Said) → act_of (group_form items) xs ≡ Some (act.Writes c items values) → IsSaid items values
group_said c (One x) values xs h = said_group c (place_at xs 0) (One x) (Two (place_at xs 1) (place_at xs 3)) values (bytes_at xs 2 ∷ bytes_at xs 4 ∷ []) refl (omega arith) h
group_said c (Two x y) values xs h = said_group c (place_at xs 0) (Two x y) (Two (place_at xs 1) (place_at xs 3)) values (bytes_at xs 2 ∷ bytes_at xs 4 ∷ []) refl (omega arith) h
group_said c (Three x y z) values xs h =
    said_group c (place_at xs 0) (Three x y z) (Three (place_at xs 1) (place_at xs 3) (place_at xs 5)) values (bytes_at xs 2 ∷ bytes_at xs 4 ∷ bytes_at xs 6 ∷ []) refl (omega arith) h
group_said c (Four x y z w) values xs h =
    said_group c (place_at xs 0) (Four x y z w) (Four (place_at xs 1) (place_at xs 3) (place_at xs 5) (place_at xs 7)) values (bytes_at xs 2 ∷ bytes_at xs 4 ∷ bytes_at xs 6 ∷ bytes_at xs 8 ∷ []) refl (omega arith) h

-- the format allows the group's items
pub group_few : (d : Deployed) (items : Items) → 2 ≤ length (list_of items) → allows d.format (group_form items) ≡ true → length (list_of items) ≤ (format_limits d.format).written
unfolding allows
group_few d (One x) some h = absurd (omega (arith, some))
group_few d (Two x y) some h = omega (arith, leb-true 2 (format_limits d.format).written h)
group_few d (Three x y z) some h = omega (arith, leb-true 3 (format_limits d.format).written h)
group_few d (Four x y z w) some h = omega (arith, leb-true 4 (format_limits d.format).written h)

pub known_parts : (n x : ℕ) (xs : List ℕ) → list_all (λ x. ltb x n) (x ∷ xs) ≡ true → (x < n) × (list_all (λ x. ltb x n) xs ≡ true)
known_parts n x xs h = let b = and_parts (ltb x n) (list_all (λ x. ltb x n) xs) h in (ltb-true x n b.0, b.1)

pub value_parts : (v : List ℕ) (vs : List (List ℕ)) → list_all is_value (v ∷ vs) ≡ true → (is_value v ≡ true) × (list_all is_value vs ≡ true)
value_parts v vs h = and_parts (is_value v) (list_all is_value vs) h
