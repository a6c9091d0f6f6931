-- The spelling of an act is read as the act.
use Rattle.std.proofs.Common.{◌≡◌, ℕ, ◌<◌, ◌≤◌, ◌^◌, ◌-◌, true, false, ◌&&◌, cond, eqb, ltb, leb, List, [], ◌∷◌, length, Option, Some, None, Ok, is_some, ap, ◌∙◌, refl, arith}
use Rattle.std.specs.Option.{option_map}
use Rattle.std.specs.List.{list_all}
use Rattle.std.proofs.lemmas.Bool.{and_from, and_parts, lt-ltb}
use Rattle.std.proofs.lemmas.Option.{slice_get_within, slice_get-get_or}
use Rattle.sat_label.specs.Text.{is_name, is_value, is_between, node_text}
use Rattle.sat_label.specs.Grouped.{list_of}
use Rattle.sat_label.specs.declared.items.Items.{Items}
use Rattle.sat_label.specs.declared.items.Items.TheVariants.{One, Two, Three, Four}
use Rattle.sat_label.specs.declared.node.NodeId.{NodeId}
use Rattle.sat_label.specs.declared.node.NodeId.TheVariants.{Site, Serializer}
use Rattle.sat_tree.specs.Shape.{TreeShape}
use Rattle.sat_tree.specs.Cut.{is_edge, IsNode}
use Rattle.sat_tree.proofs.Trees.{edge-end}
use Rattle.sat_act.specs.Deployed.{Deployed}
use Rattle.sat_act.specs.Limits.{IsDeployment}
use Rattle.sat_act.specs.Parts.{tree_of}
use Rattle.sat_act.proofs.Plans.{tree_in_plans}
use Rattle.sat_act.specs.Ranges.{IsActOf, IsGroupOf}
use Rattle.sat_act.specs.declared.act.Act.{Act}
use Rattle.sat_act.specs.declared.act.Act.TheVariants as act
use Rattle.sat_act.specs.declared.deployment.Item.{Item}
use Rattle.sat_act.specs.declared.deployment.ClientLine.{ClientLine}
use Rattle.sat_script.specs.Causes.{bar, given}
use Rattle.sat_script.specs.Grammar.{is_end}
use Rattle.sat_script.specs.Laws.{ActsAreRead}
use Rattle.sat_script.specs.Spelled.{HaveNames}
use Rattle.sat_script.specs.State.{State}
use Rattle.sat_script.specs.Table.{Said, place, num, bytes, at, word_of, kinds_of, act_forms, act_of, form_of, args_of, shape, known, says, text, shapes, all_known, onto, in_tree, all_say, no_tree, has_node, edge_cause, unfit, found_form, form_line, act_line, texts, act_words, client_name, item_name, group_form, pairs}
use Rattle.sat_script.specs.Words.{is_token, is_node, is_serializer, node_in, serializer_in}
use Rattle.sat_script.specs.declared.fault.Cause.{Cause}
use Rattle.sat_script.specs.declared.fault.Cause.TheVariants.{BadAct, OutOfRange, NoEdge}
use Rattle.sat_script.specs.declared.form.Form.{Form}
use Rattle.sat_script.specs.declared.form.Kind.{Kind}
use Rattle.sat_script.specs.declared.form.Kind.TheVariants as kind
use Rattle.sat_script.specs.declared.limits.TheConstants.{MOST_SITES}
use Rattle.sat_script.proofs.Acts.{Fits, AllFit, IsSmall, no_small, shape_small, stands_free}
use Rattle.sat_script.proofs.Groups.{act_allowed, order_fit, known_parts, value_parts}
use Rattle.sat_script.proofs.Digits.{decimal_number, below_reads, to_reads, up_to_reads}
use Rattle.sat_script.proofs.Lists.{all_at}
use Rattle.sat_script.proofs.Lookup.{client_at, client_reads, item_at, item_reads, no_client, no_item}
use Rattle.sat_script.proofs.Stands.{ActStands}

pub named_client : (d : Deployed) (c : ℕ) → HaveNames d → c < length d.clients → is_name (client_name d c) ≡ true
named_client d c names inside = ap is_name (client_at d c inside) ∙ all_at (λ (line : ClientLine). is_name line.name ≡ true) d.clients c _ names.clients (slice_get-get_or d.clients c no_client inside)

pub named_item : (d : Deployed) (x : ℕ) → HaveNames d → x < length d.items → is_name (item_name d x) ≡ true
named_item d x names inside = ap is_name (item_at d x inside) ∙ all_at (λ (item : Item). is_name item.name ≡ true) d.items x _ names.items (slice_get-get_or d.items x no_item inside)

pub token : (value : List ℕ) → is_value value ≡ true → is_token value ≡ true
token value h =
    let some = and_parts (ltb 0 (length value)) (leb (length value) 256 && list_all (is_between 33 126) value) h in
    let short = and_parts (leb (length value) 256) (list_all (is_between 33 126) value) some.1 in
    and_from (ltb 0 (length value)) (list_all (is_between 33 126) value) some.0 short.1

pub serializer_reads : (t : TreeShape) (z : ℕ) → z < length t.parents → length t.parents ≤ 15 → serializer_in t (node_text (Serializer z)) ≡ Some z
unfolding serializer_in node_text
serializer_reads t z less few = below_reads (length t.parents) z less (omega arith)

pub node_reads : (t : TreeShape) (u : NodeId) → IsNode t u → length t.parents ≤ 15 → length t.seats ≤ MOST_SITES → node_in t (node_text u) ≡ Some u
unfolding node_in node_text
node_reads t (Site i) less few seats = rw (below_reads (length t.seats) i less (omega arith)) refl
node_reads t (Serializer z) less few seats = rw (below_reads (length t.parents) z less (omega arith)) refl

pub node_shape : (t : TreeShape) (u : NodeId) → IsNode t u → length t.parents ≤ 15 → length t.seats ≤ MOST_SITES → is_node (node_text u) ≡ true
unfolding is_node node_text
node_shape t (Site i) less few seats = decimal_number i (omega arith)
node_shape t (Serializer z) less few seats = decimal_number z (omega arith)

pub epoch_inside : (d : Deployed) (e : ℕ) (t : TreeShape) → 1 ≤ e → tree_of d e ≡ Some t → e ≤ length d.plans
epoch_inside d e t some h =
    let inside = slice_get_within d.plans (e - 1) _ (tree_in_plans d e t h).1 in
    omega arith

-- what is known of a word of an act
pub record IsWordOf (d : Deployed) (t : TreeShape) (k : Kind) (a : Said) : Type 0 where
  pub shaped : shape k (text d k a) ≡ true
  pub named : known d k (text d k a) ≡ true
  pub said : says d t k (text d k a) ≡ Some a

is_word : (d : Deployed) (t : TreeShape) (k : Kind) (a : Said) → IsDeployment d → HaveNames d → IsSmall d t → Fits d t k a → IsWordOf d t k a
unfolding is_serializer node_text
is_word d t kind.Client (place c) is names small h = record { shaped = named_client d c names h; named = ap is_some (client_reads d c is h); said = ap (option_map place) (client_reads d c is h) }
is_word d t kind.Item (place x) is names small h = record { shaped = named_item d x names h; named = ap is_some (item_reads d x is h); said = ap (option_map place) (item_reads d x is h) }
is_word d t kind.Value (bytes v) is names small h = record { shaped = token v h; named = refl; said = ap (λ b. cond b (Some (bytes v)) None) h }
is_word d t kind.Site (place i) is names small h = let few = small.sites in record { shaped = decimal_number i (omega arith); named = refl; said = ap (option_map place) (below_reads d.sites i h (omega arith)) }
is_word d t kind.Gear (place g) is names small h = let few = small.gears in record { shaped = decimal_number g (omega arith); named = refl; said = ap (option_map place) (below_reads d.gears g h (omega arith)) }
is_word d t kind.Ts (num n) is names small h = record { shaped = decimal_number n (omega arith); named = refl; said = ap (option_map num) (up_to_reads (2 ^ 62) n h (omega arith)) }
is_word d t kind.Count (num n) is names small h = record { shaped = decimal_number n h; named = refl; said = ap (option_map num) (up_to_reads (2 ^ 64 - 1) n (omega arith) (omega arith)) }
is_word d t kind.Epoch (place e) is names small h = let few = small.plans in let high = h.1 in record { shaped = decimal_number e (omega arith); named = refl; said = ap (option_map place) (to_reads (length d.plans) e h.0 h.1 (omega arith)) }
is_word d t kind.Node (at u) is names small h = record { shaped = node_shape t u h small.parents small.seats; named = refl; said = ap (option_map at) (node_reads t u h small.parents small.seats) }
is_word d t kind.Serializer (place z) is names small h = let few = small.parents in record { shaped = decimal_number z (omega arith); named = refl; said = ap (option_map place) (serializer_reads t z h small.parents) }
is_word d t _ _ is names small h = absurd h

pub record AreWordsOf (d : Deployed) (t : TreeShape) (ks : List Kind) (xs : List Said) : Type 0 where
  pub shaped : shapes ks (texts d ks xs) ≡ true
  pub named : all_known d ks (texts d ks xs) ≡ true
  pub said : all_say d t ks (texts d ks xs) ≡ Ok xs

more_words : (d : Deployed) (t u : TreeShape) (k : Kind) (a : Said) (ks : List Kind) (xs : List Said) → IsWordOf d t k a → AreWordsOf d u ks xs → in_tree d k t a (λ u. onto a (all_say d u ks (texts d ks xs))) ≡ onto a (all_say d u ks (texts d ks xs)) → texts d (k ∷ ks) (a ∷ xs) ≡ text d k a ∷ texts d ks xs → AreWordsOf d t (k ∷ ks) (a ∷ xs)
more_words d t u k a ks xs one more goes same = record {
  shaped = and_from (shape k (text d k a)) (shapes ks (texts d ks xs)) one.shaped more.shaped;
  named = and_from (known d k (text d k a)) (all_known d ks (texts d ks xs)) one.named more.named;
  said = ap (λ (o : Option Said). given OutOfRange o (λ a. in_tree d k t a (λ u. onto a (all_say d u ks (texts d ks xs))))) one.said ∙ goes ∙ ap (onto a) more.said;
}

are_words : (d : Deployed) (t : TreeShape) (ks : List Kind) (xs : List Said) → IsDeployment d → HaveNames d → IsSmall d t → AllFit d t ks xs → AreWordsOf d t ks xs
are_words d t [] [] is names small h = record { shaped = refl; named = refl; said = refl }
are_words d t (kind.Epoch ∷ ks) (place e ∷ xs) is names small h =
    let one = is_word d t kind.Epoch (place e) is names small (h.2, epoch_inside d e h.0 h.2 h.1) in
    let more = are_words d h.0 ks xs is names (shape_small d e h.0 is h.1) h.3 in
    more_words d t h.0 kind.Epoch (place e) ks xs one more (ap (λ (o : Option TreeShape). given NoEdge o (λ u. onto (place e) (all_say d u ks (texts d ks xs)))) h.1) refl
are_words d t [] (a ∷ xs) is names small h = absurd h
are_words d t (kind.Epoch ∷ ks) [] is names small h = absurd h
are_words d t (k ∷ ks) [] is names small h = absurd h
are_words d t (k ∷ ks) (a ∷ xs) is names small h = more_words d t t k a ks xs (is_word d t k a is names small h.0) (are_words d t ks xs is names small h.1) refl refl

-- ---- the table

-- a group's words say it
group_again : (d : Deployed) (c : ℕ) (items : Items) (values : List (List ℕ)) → IsGroupOf d items values → act_of (group_form items) (place c ∷ pairs (list_of items) values) ≡ Some (act.Writes c items values)
group_again d c (Two x y) (v ∷ w ∷ []) h = ap (λ b. cond b (Some (act.Writes c (Two x y) (v ∷ w ∷ []))) None) h.spelled
group_again d c (Three x y z) (v ∷ w ∷ p ∷ []) h = ap (λ b. cond b (Some (act.Writes c (Three x y z) (v ∷ w ∷ p ∷ []))) None) h.spelled
group_again d c (Four x y z t) (v ∷ w ∷ p ∷ q ∷ []) h = ap (λ b. cond b (Some (act.Writes c (Four x y z t) (v ∷ w ∷ p ∷ q ∷ []))) None) h.spelled
group_again d c _ _ h = absurd (let some = h.some in let same = h.values_all in omega arith)

group_found : (d : Deployed) (c : ℕ) (items : Items) (values : List (List ℕ)) → IsGroupOf d items values
    → found_form (word_of (group_form items)) (length (texts d (kinds_of (group_form items)) (place c ∷ pairs (list_of items) values))) act_forms ≡ Some (group_form items)
group_found d c (Two x y) (v ∷ w ∷ []) h = refl
group_found d c (Three x y z) (v ∷ w ∷ p ∷ []) h = refl
group_found d c (Four x y z t) (v ∷ w ∷ p ∷ q ∷ []) h = refl
group_found d c _ _ h = absurd (let some = h.some in let same = h.values_all in omega arith)

group_args : (d : Deployed) (c : ℕ) (items : Items) (values : List (List ℕ)) → c < length d.clients → IsGroupOf d items values → AllFit d no_tree (kinds_of (group_form items)) (place c ∷ pairs (list_of items) values)
group_args d c (Two x y) (v ∷ w ∷ []) has h =
    let a = known_parts (length d.items) x (y ∷ []) h.known in
    let b = known_parts (length d.items) y [] a.1 in
    let e = value_parts v (w ∷ []) h.spelled in
    let f = value_parts w [] e.1 in
    (has, (a.0, (e.0, (b.0, (f.0, tt)))))
group_args d c (Three x y z) (v ∷ w ∷ p ∷ []) has h =
    let a = known_parts (length d.items) x (y ∷ z ∷ []) h.known in
    let b = known_parts (length d.items) y (z ∷ []) a.1 in
    let g = known_parts (length d.items) z [] b.1 in
    let e = value_parts v (w ∷ p ∷ []) h.spelled in
    let f = value_parts w (p ∷ []) e.1 in
    let i = value_parts p [] f.1 in
    (has, (a.0, (e.0, (b.0, (f.0, (g.0, (i.0, tt)))))))
group_args d c (Four x y z t) (v ∷ w ∷ p ∷ q ∷ []) has h =
    let a = known_parts (length d.items) x (y ∷ z ∷ t ∷ []) h.known in
    let b = known_parts (length d.items) y (z ∷ t ∷ []) a.1 in
    let g = known_parts (length d.items) z (t ∷ []) b.1 in
    let j = known_parts (length d.items) t [] g.1 in
    let e = value_parts v (w ∷ p ∷ q ∷ []) h.spelled in
    let f = value_parts w (p ∷ q ∷ []) e.1 in
    let i = value_parts p (q ∷ []) f.1 in
    let k = value_parts q [] i.1 in
    (has, (a.0, (e.0, (b.0, (f.0, (g.0, (i.0, (j.0, (k.0, tt)))))))))
group_args d c _ _ has h = absurd (let some = h.some in let same = h.values_all in omega arith)

act_again : (d : Deployed) (a : Act) → IsActOf d a → act_of (form_of a) (args_of a) ≡ Some a
act_again d (act.Write c x v) h = ap (λ b. cond b (Some (act.Write c x v)) None) h.2
act_again d (act.Writes c items values) h = group_again d c items values h.1
act_again d (act.Bulk i g j None) h = refl
act_again d (act.Bulk i g j (Some n)) h = refl
act_again d _ h = refl

form_again : (d : Deployed) (a : Act) → IsActOf d a → found_form (word_of (form_of a)) (length (texts d (kinds_of (form_of a)) (args_of a))) act_forms ≡ Some (form_of a)
form_again d (act.Writes c items values) h = group_found d c items values h.1
form_again d (act.Bulk i g j None) h = refl
form_again d (act.Bulk i g j (Some n)) h = refl
form_again d _ h = refl

apart : (i j : ℕ) (c : Cause) → eqb i j ≡ false → cond (eqb i j) (Some c) None ≡ None
apart i j c e = rw e refl

inside : (t : TreeShape) (u : NodeId) → IsNode t u → has_node t u ≡ true
inside t (Site i) h = lt-ltb i (length t.seats) h
inside t (Serializer z) h = lt-ltb z (length t.parents) h

edge_again : (o : Option TreeShape) (t : TreeShape) (v : NodeId) (z : ℕ) → o ≡ Some t → IsNode t v → z < length t.parents → is_edge t v (Serializer z) ≡ true → edge_cause o v z ≡ None
edge_again o t v z e node less h =
    ap (λ o. edge_cause o v z) e
    ∙ ap (λ b. cond b None (Some NoEdge)) (and_from (has_node t v) _ (inside t v node) (and_from (has_node t (Serializer z)) (is_edge t v (Serializer z)) (inside t (Serializer z) less) h))

pub args_fit : (d : Deployed) (a : Act) → IsDeployment d → IsActOf d a → AllFit d no_tree (kinds_of (form_of a)) (args_of a) × (unfit d a ≡ None)
args_fit d (act.Tick i g t) is h = ((h.0, (h.1, (h.2, tt))), refl)
args_fit d act.Clock is h = (tt, refl)
args_fit d (act.Write c x v) is h = ((h.0, (h.1, (h.2, tt))), refl)
args_fit d (act.Writes c items values) is h = (group_args d c items values h.0 h.1, order_fit d c items values h.1.order)
args_fit d (act.Read c x) is h = ((h.0, (h.1, tt)), refl)
args_fit d (act.Move c j) is h = ((h.0, (h.1, tt)), refl)
args_fit d (act.Attach c j) is h = ((h.0, (h.1, tt)), refl)
args_fit d (act.Hop e u z) is h =
    let less = edge-end h.0 (is.trees e h.0 h.2) u z h.4 in
    ((h.0, h.2, h.1, (h.3, (less, tt))), edge_again (tree_of d e) h.0 u z h.2 h.3 less h.4)
args_fit d (act.Bulk i g j None) is h = ((h.0.0, (h.1, (h.0.1, tt))), apart i j OutOfRange h.0.2)
args_fit d (act.Bulk i g j (Some n)) is h = ((h.0.0, (h.1, (h.0.1, (h.2, tt)))), apart i j OutOfRange h.0.2)
args_fit d (act.Beat i j) is h = ((h.0, (h.1, tt)), apart i j OutOfRange h.2)
args_fit d (act.BeatIn i j n) is h = ((h.0.0, (h.0.1, (h.1, tt))), apart i j OutOfRange h.0.2)
args_fit d (act.Kill e z) is h = ((h.0, h.2, h.1, (h.3, tt)), refl)
args_fit d act.Settle is h = (tt, refl)
args_fit d _ is h = ((h, tt), refl)

pub acts_read : ActsAreRead
unfolding act_line act_words form_line
acts_read bars d a is names h free =
    let f = args_fit d a is h in
    let w = are_words d no_tree (kinds_of (form_of a)) (args_of a) is names (no_small d no_tree is (omega arith) (omega arith)) f.0 in
    let line : form_line bars d (form_of a) (texts d (kinds_of (form_of a)) (args_of a)) ≡ Ok a = rw (act_allowed d a h, w.shaped, free, w.named, w.said, act_again d a h, f.1) refl in
    ap (λ (o : Option Form). given BadAct o (λ f. form_line bars d f (texts d (kinds_of (form_of a)) (args_of a)))) (form_again d a h) ∙ line

-- what stands may be said
pub act_reads : (s : State) (a : Act) → IsDeployment s.header → HaveNames s.header → ActStands s a → act_line (bar s) s.header (act_words s.header a) ≡ Ok a
act_reads s a is names st = acts_read (bar s) s.header a is names st.fits (stands_free s a st)

-- no act is the line `end`
pub not_end : (d : Deployed) (a : Act) → is_end (act_words d a) ≡ false
unfolding act_words
not_end d (act.Writes c (One x) values) = refl
not_end d (act.Writes c (Two x y) values) = refl
not_end d (act.Writes c (Three x y z) values) = refl
not_end d (act.Writes c (Four x y z w) values) = refl
not_end d (act.Bulk i g j None) = refl
not_end d (act.Bulk i g j (Some n)) = refl
not_end d _ = refl
