-- What a line says is an act of the deployment, and it is spelled so.
use Rattle.std.proofs.Common.{◌≡◌, ℕ, ◌<◌, ◌≤◌, ◌^◌, ◌-◌, Bool, true, false, ◌&&◌, ◌||◌, cond, eqb, ltb, List, [], ◌∷◌, length, Option, Some, None, Result, Ok, Err, sym, ap, ◌∙◌, refl, subst, arith}
use Rattle.std.specs.Str.{bytes_eq}
use Rattle.std.specs.Option.{option_map}
use Rattle.std.specs.List.{list_all}
use Rattle.std.proofs.lemmas.Bool.{and_from, and_parts, eqb-true, false_from_ne_true, lt-ltb, ltb-true}
use Rattle.std.proofs.lemmas.Bool.Decides.{nat_tests}
use Rattle.sat_label.specs.Text.{is_value, node_text}
use Rattle.sat_label.specs.Grouped.{are_items, list_of}
use Rattle.sat_label.specs.declared.items.Items.{Items}
use Rattle.sat_label.specs.declared.items.Items.TheVariants.{One, Two, Three, Four}
use Rattle.sat_label.specs.declared.node.NodeId.{NodeId}
use Rattle.sat_label.specs.declared.node.NodeId.TheVariants.{Site, Serializer}
use Rattle.sat_tree.specs.Shape.{TreeShape}
use Rattle.sat_tree.specs.Cut.{is_edge, IsNode}
use Rattle.sat_act.specs.Deployed.{Deployed}
use Rattle.sat_act.specs.Limits.{IsDeployment}
use Rattle.sat_act.specs.Parts.{tree_of}
use Rattle.sat_act.specs.Ranges.{IsActOf, IsGroupOf}
use Rattle.sat_act.specs.declared.act.Act.{Act}
use Rattle.sat_act.specs.declared.act.Act.TheVariants as act
use Rattle.sat_script.specs.Causes.{bar, has_room, client_of, item_of, given, barred}
use Rattle.sat_script.specs.Dialect.{allows}
use Rattle.sat_script.specs.Grammar.{with_settle}
use Rattle.sat_script.specs.Laws.{ActsAreSpelled}
use Rattle.sat_script.specs.State.{State, limits_at}
use Rattle.sat_script.specs.Table.{Said, place, num, bytes, at, word_of, kinds_of, act_forms, act_of, form_of, args_of, shape, says, text, shapes, all_known, onto, in_tree, all_say, no_tree, has_node, joins, edge_cause, unfit, said_act, found_form, form_line, act_line, texts, act_words, group_form, pairs}
use Rattle.sat_script.specs.Words.{number_below, number_to, number_up_to, node_in, serializer_in, is_node, is_serializer, is_number}
use Rattle.sat_script.specs.declared.fault.Cause.{Cause}
use Rattle.sat_script.specs.declared.fault.Cause.TheVariants.{BadAct, OutOfRange, NoEdge}
use Rattle.sat_script.specs.declared.form.Form.{Form}
use Rattle.sat_script.specs.declared.form.Form.TheVariants as form
use Rattle.sat_script.specs.declared.form.Kind.{Kind}
use Rattle.sat_script.specs.declared.form.Kind.TheVariants as kind
use Rattle.sat_script.specs.declared.limits.TheConstants.{MOST_SITES}
use Rattle.sat_script.specs.declared.line.Parsed.TheVariants as parsed
use Rattle.sat_script.proofs.Bars.{free, bars_nothing}
use Rattle.sat_script.proofs.Choices.{passed, unbarred, found, same_ok, word_is}
use Rattle.sat_script.proofs.Digits.{below_is, to_is, up_to_is}
use Rattle.sat_script.proofs.Groups.{IsSaid, group_said, group_few, fit_order, known_two, known_three, known_four}
use Rattle.sat_script.proofs.Lookup.{client_is, item_is}
use Rattle.sat_script.proofs.Stands.{ActStands}

-- ---- nodes, as in sat_script

pub serializer_is : (t : TreeShape) (word : List ℕ) (z : ℕ) → length t.parents ≤ 15 → is_serializer word ≡ true → serializer_in t word ≡ Some z → (z < length t.parents) × (word ≡ node_text (Serializer z))
unfolding serializer_in is_serializer node_text
serializer_is t [] z few shape h = absurd (cc)
serializer_is t (byte ∷ number) z few shape h =
    let b = and_parts (eqb byte 122) (is_number number) shape in
    let is = below_is (length t.parents) number z (omega arith) h in
    (is.0, ap (λ n. n ∷ number) (eqb-true byte 122 b.0) ∙ ap (λ n. 122 ∷ n) is.1)

pub mapped : {X Y : Type 0} (f : X → Y) (o : Option X) (y : Y) → option_map f o ≡ Some y → (x : X) × (o ≡ Some x) × (y ≡ f x)
mapped f (Some x) y h = (x, refl, cc)
mapped f None y h = absurd (cc)

either_byte : (byte : ℕ) → (eqb byte 115 || eqb byte 122) ≡ true → eqb byte 115 ≡ false → byte ≡ 122
either_byte byte h other = grind (arith, nat_tests)

pub node_is : (t : TreeShape) (word : List ℕ) (u : NodeId) → length t.parents ≤ 15 → length t.seats ≤ MOST_SITES → is_node word ≡ true → node_in t word ≡ Some u → IsNode t u × (word ≡ node_text u)
unfolding node_in is_node node_text
node_is t [] u few seats shape h = absurd (cc)
node_is t (byte ∷ number) u few seats shape h = go (eqb byte 115) refl h
  where
    letters : (eqb byte 115 || eqb byte 122) ≡ true
    letters = (and_parts (eqb byte 115 || eqb byte 122) (is_number number) shape).0

    go : (b : Bool) → eqb byte 115 ≡ b → cond b (option_map Site (number_below (length t.seats) number)) (option_map Serializer (number_below (length t.parents) number)) ≡ Some u → IsNode t u × ((byte ∷ number) ≡ node_text u)
    go true e h =
        let m = mapped Site (number_below (length t.seats) number) u h in
        let is = below_is (length t.seats) number m.0 (omega arith) m.1 in
        subst (λ (u : NodeId). IsNode t u × ((byte ∷ number) ≡ node_text u)) (sym m.2) (is.0, ap (λ n. n ∷ number) (eqb-true byte 115 e) ∙ ap (λ n. 115 ∷ n) is.1)
    go false e h =
        let m = mapped Serializer (number_below (length t.parents) number) u h in
        let is = below_is (length t.parents) number m.0 (omega arith) m.1 in
        subst (λ (u : NodeId). IsNode t u × ((byte ∷ number) ≡ node_text u)) (sym m.2) (is.0, ap (λ n. n ∷ number) (either_byte byte letters e) ∙ ap (λ n. 122 ∷ n) is.1)

-- ---- words

-- what a word says is in range
abbrev pub Fits : Deployed → TreeShape → Kind → Said → Type 0
Fits d t kind.Client (place c) = c < length d.clients
Fits d t kind.Item (place x) = x < length d.items
Fits d t kind.Value (bytes v) = is_value v ≡ true
Fits d t kind.Site (place i) = i < d.sites
Fits d t kind.Gear (place g) = g < d.gears
Fits d t kind.Ts (num n) = n ≤ 2 ^ 62
Fits d t kind.Count (num n) = n < 2 ^ 64
Fits d t kind.Epoch (place e) = (1 ≤ e) × (e ≤ length d.plans)
Fits d t kind.Node (at u) = IsNode t u
Fits d t kind.Serializer (place z) = z < length t.parents
Fits d t _ _ = ⊥

pub record IsSmall (d : Deployed) (t : TreeShape) : Type 0 where
  pub sites : d.sites ≤ MOST_SITES
  pub gears : d.gears ≤ 8
  pub plans : length d.plans ≤ 16
  pub parents : length t.parents ≤ 15
  pub seats : length t.seats ≤ MOST_SITES

word_fits : (d : Deployed) (t : TreeShape) (k : Kind) (w : List ℕ) (a : Said) → IsSmall d t → shape k w ≡ true → says d t k w ≡ Some a → (w ≡ text d k a) × Fits d t k a
word_fits d t kind.Client w a small h e = let m = mapped place (client_of d w) a e in let is = client_is d w m.0 m.1 in subst (λ a. (w ≡ text d kind.Client a) × Fits d t kind.Client a) (sym m.2) (sym is.1, is.0)
word_fits d t kind.Item w a small h e = let m = mapped place (item_of d w) a e in let is = item_is d w m.0 m.1 in subst (λ a. (w ≡ text d kind.Item a) × Fits d t kind.Item a) (sym m.2) (sym is.1, is.0)
word_fits d t kind.Site w a small h e = let m = mapped place (number_below d.sites w) a e in let few = small.sites in let is = below_is d.sites w m.0 (omega arith) m.1 in subst (λ a. (w ≡ text d kind.Site a) × Fits d t kind.Site a) (sym m.2) (is.1, is.0)
word_fits d t kind.Gear w a small h e = let m = mapped place (number_below d.gears w) a e in let few = small.gears in let is = below_is d.gears w m.0 (omega arith) m.1 in subst (λ a. (w ≡ text d kind.Gear a) × Fits d t kind.Gear a) (sym m.2) (is.1, is.0)
word_fits d t kind.Ts w a small h e = let m = mapped num (number_up_to (2 ^ 62) w) a e in let is = up_to_is (2 ^ 62) w m.0 (omega arith) m.1 in subst (λ a. (w ≡ text d kind.Ts a) × Fits d t kind.Ts a) (sym m.2) (is.1, is.0)
word_fits d t kind.Count w a small h e = let m = mapped num (number_up_to (2 ^ 64 - 1) w) a e in let is = up_to_is (2 ^ 64 - 1) w m.0 (omega arith) m.1 in subst (λ a. (w ≡ text d kind.Count a) × Fits d t kind.Count a) (sym m.2) (is.1, omega (arith, is.0))
word_fits d t kind.Epoch w a small h e = let m = mapped place (number_to (length d.plans) w) a e in let few = small.plans in let is = to_is (length d.plans) w m.0 (omega arith) m.1 in subst (λ a. (w ≡ text d kind.Epoch a) × Fits d t kind.Epoch a) (sym m.2) (is.2, (is.0, is.1))
word_fits d t kind.Node w a small h e = let m = mapped at (node_in t w) a e in let is = node_is t w m.0 small.parents small.seats h m.1 in subst (λ a. (w ≡ text d kind.Node a) × Fits d t kind.Node a) (sym m.2) (is.1, is.0)
word_fits d t kind.Serializer w a small h e = let m = mapped place (serializer_in t w) a e in let is = serializer_is t w m.0 small.parents h m.1 in subst (λ a. (w ≡ text d kind.Serializer a) × Fits d t kind.Serializer a) (sym m.2) (is.1, is.0)
word_fits d t kind.Value w a small h e = go (is_value w) refl e
  where
    go : (b : Bool) → is_value w ≡ b → cond b (Some (bytes w)) None ≡ Some a → (w ≡ text d kind.Value a) × Fits d t kind.Value a
    go true v e = subst (λ a. (w ≡ text d kind.Value a) × Fits d t kind.Value a) (let s : bytes w ≡ a = cc in s) (refl, v)
    go false v e = absurd (cc)

-- the words in turn
abbrev pub AllFit : Deployed → TreeShape → List Kind → List Said → Type 0
AllFit d t [] [] = Unit {0}
AllFit d t (kind.Epoch ∷ ks) (place e ∷ xs) = (u : TreeShape) × (tree_of d e ≡ Some u) × (1 ≤ e) × AllFit d u ks xs
AllFit d t (k ∷ ks) (a ∷ xs) = Fits d t k a × AllFit d t ks xs
AllFit d t _ _ = ⊥

pub no_small : (d : Deployed) (t : TreeShape) → IsDeployment d → (length t.parents ≤ 15) → (length t.seats ≤ MOST_SITES) → IsSmall d t
no_small d t is ps ss = record { sites = is.few_sites; gears = is.few_gears; plans = is.few_plans; parents = ps; seats = ss }

onto_ok : (a : Said) (r : Result (List Said) Cause) (xs : List Said) → onto a r ≡ Ok xs → (more : List Said) × (r ≡ Ok more) × (xs ≡ a ∷ more)
onto_ok a (Ok more) xs h = (more, refl, let s : a ∷ more ≡ xs = cc in sym s)
onto_ok a (Err cause) xs h = absurd (cc)

-- all kinds but an epoch go on in the tree that they are read in
plain : (d : Deployed) (t : TreeShape) (k : Kind) (w : List ℕ) (a : Said) (xs : List Said) (ks : List Kind) (ws : List (List ℕ)) (r : Result (List Said) Cause)
    → IsSmall d t → shape k w ≡ true → says d t k w ≡ Some a → onto a r ≡ Ok xs → ((more : List Said) → r ≡ Ok more → (ws ≡ texts d ks more) × AllFit d t ks more)
    → (more : List Said) × (xs ≡ a ∷ more) × (w ∷ ws ≡ text d k a ∷ texts d ks more) × Fits d t k a × AllFit d t ks more
plain d t k w a xs ks ws r small h e o next =
    let m = onto_ok a r xs o in
    let f = word_fits d t k w a small h e in
    let rest = next m.0 m.1 in
    (m.0, m.2, ap (λ (w : List ℕ). w ∷ ws) f.0 ∙ ap (λ (ws : List (List ℕ)). text d k a ∷ ws) rest.0, f.1, rest.1)

say_plain : (d : Deployed) (t : TreeShape) (k : Kind) (w : List ℕ) (ws : List (List ℕ)) (xs : List Said) (ks : List Kind) → IsSmall d t → shape k w ≡ true
    → given OutOfRange (says d t k w) (λ a. onto a (all_say d t ks ws)) ≡ Ok xs → ((more : List Said) → all_say d t ks ws ≡ Ok more → (ws ≡ texts d ks more) × AllFit d t ks more)
    → (a : Said) × (more : List Said) × (xs ≡ a ∷ more) × (w ∷ ws ≡ text d k a ∷ texts d ks more) × Fits d t k a × AllFit d t ks more
say_plain d t k w ws xs ks small h say next =
    let f = found (says d t k w) OutOfRange (λ a. onto a (all_say d t ks ws)) xs say in
    let p = plain d t k w f.0 xs ks ws (all_say d t ks ws) small h f.1 f.2 next in
    (f.0, p.0, p.1, p.2, p.3, p.4)

abbrev pub AreSaid : Deployed → TreeShape → List Kind → List (List ℕ) → List Said → Type 0
AreSaid d t ks ws xs = (ws ≡ texts d ks xs) × AllFit d t ks xs

pub shape_small : (d : Deployed) (e : ℕ) (u : TreeShape) → IsDeployment d → tree_of d e ≡ Some u → IsSmall d u
shape_small d e u is here = no_small d u is (is.few_serializers e u here) (let s = is.all_seated e u here in let few = is.few_sites in omega arith)

pub say_is : (d : Deployed) (t : TreeShape) (ks : List Kind) (ws : List (List ℕ)) (xs : List Said) → IsDeployment d → IsSmall d t → shapes ks ws ≡ true → all_say d t ks ws ≡ Ok xs → AreSaid d t ks ws xs
say_is d t [] [] xs is small h e = subst (λ xs. AreSaid d t [] [] xs) (same_ok [] xs e) (refl, tt)
say_is d t [] (w ∷ ws) xs is small h e = absurd (let none = eqb-true (length (w ∷ ws)) 0 h in omega (arith, none))
say_is d t (k ∷ ks) [] xs is small h e = absurd (let never : false ≡ true = h in cc)
say_is d t (kind.Epoch ∷ ks) (w ∷ ws) xs is small h e =
    let b = and_parts (shape kind.Epoch w) (shapes ks ws) h in
    let m = found (number_to (length d.plans) w) OutOfRange (λ n. given NoEdge (tree_of d n) (λ u. onto (place n) (all_say d u ks ws))) xs (number_first w (λ n. given NoEdge (tree_of d n) (λ u. onto (place n) (all_say d u ks ws))) e) in
    let f = word_fits d t kind.Epoch w (place m.0) small b.0 (ap (option_map place) m.1) in
    let u = found (tree_of d m.0) NoEdge (λ u. onto (place m.0) (all_say d u ks ws)) xs m.2 in
    let o = onto_ok (place m.0) (all_say d u.0 ks ws) xs u.2 in
    let rest = say_is d u.0 ks ws o.0 is (shape_small d m.0 u.0 is u.1) b.1 o.1 in
    subst (λ xs. AreSaid d t (kind.Epoch ∷ ks) (w ∷ ws) xs) (sym o.2) (ap (λ (w : List ℕ). w ∷ ws) f.0 ∙ ap (λ (ws : List (List ℕ)). text d kind.Epoch (place m.0) ∷ ws) rest.0, (u.0, u.1, f.1.0, rest.1))
  where
    number_first : (w : List ℕ) (next : ℕ → Result (List Said) Cause) → given OutOfRange (option_map place (number_to (length d.plans) w)) (λ a. in_tree d kind.Epoch t a (λ u. onto a (all_say d u ks ws))) ≡ Ok xs → given OutOfRange (number_to (length d.plans) w) (λ n. given NoEdge (tree_of d n) (λ u. onto (place n) (all_say d u ks ws))) ≡ Ok xs
    number_first w next e = go (number_to (length d.plans) w) e
      where
        go : (o : Option ℕ) → given OutOfRange (option_map place o) (λ a. in_tree d kind.Epoch t a (λ u. onto a (all_say d u ks ws))) ≡ Ok xs → given OutOfRange o (λ n. given NoEdge (tree_of d n) (λ u. onto (place n) (all_say d u ks ws))) ≡ Ok xs
        go None e = absurd (cc)
        go (Some n) e = e
say_is d t (k ∷ ks) (w ∷ ws) xs is small h e =
    let b = and_parts (shape k w) (shapes ks ws) h in
    let p = say_plain d t k w ws xs ks small b.0 e (λ more r. say_is d t ks ws more is small b.1 r) in
    subst (λ xs. AreSaid d t (k ∷ ks) (w ∷ ws) xs) (sym p.2) (p.3, (p.4, p.5))

-- ---- the table

-- words of these kinds, whatever they name
abbrev is_kind : Kind → Said → Bool
is_kind kind.Client (place n) = true
is_kind kind.Item (place n) = true
is_kind kind.Value (bytes v) = true
is_kind kind.Site (place n) = true
is_kind kind.Gear (place n) = true
is_kind kind.Ts (num n) = true
is_kind kind.Count (num n) = true
is_kind kind.Epoch (place n) = true
is_kind kind.Node (at u) = true
is_kind kind.Serializer (place n) = true
is_kind _ _ = false

abbrev are_kinds : List Kind → List Said → Bool
are_kinds [] [] = true
are_kinds (k ∷ ks) (a ∷ xs) = is_kind k a && are_kinds ks xs
are_kinds _ _ = false

fit_kind : (d : Deployed) (t : TreeShape) (k : Kind) (a : Said) → Fits d t k a → is_kind k a ≡ true
fit_kind d t kind.Client (place n) h = refl
fit_kind d t kind.Item (place n) h = refl
fit_kind d t kind.Value (bytes v) h = refl
fit_kind d t kind.Site (place n) h = refl
fit_kind d t kind.Gear (place n) h = refl
fit_kind d t kind.Ts (num n) h = refl
fit_kind d t kind.Count (num n) h = refl
fit_kind d t kind.Epoch (place n) h = refl
fit_kind d t kind.Node (at u) h = refl
fit_kind d t kind.Serializer (place n) h = refl
fit_kind d t _ _ h = absurd h

fit_kinds : (d : Deployed) (t : TreeShape) (ks : List Kind) (xs : List Said) → AllFit d t ks xs → are_kinds ks xs ≡ true
fit_kinds d t [] [] h = refl
fit_kinds d t (kind.Epoch ∷ ks) (place e ∷ xs) h = fit_kinds d h.0 ks xs h.3
fit_kinds d t [] (a ∷ xs) h = absurd h
fit_kinds d t (kind.Epoch ∷ ks) [] h = absurd h
fit_kinds d t (k ∷ ks) [] h = absurd h
fit_kinds d t (k ∷ ks) (a ∷ xs) h = and_from (is_kind k a) (are_kinds ks xs) (fit_kind d t k a h.0) (fit_kinds d t ks xs h.1)

row : (x a : Act) → (let o : Option Act = Some x in o) ≡ Some a → (form_of x ≡ form_of a) × (args_of x ≡ args_of a)
row x a h = let e : x ≡ a = cc in (ap form_of e, ap args_of e)

tested : (b : Bool) (x a : Act) → cond b (Some x) None ≡ Some a → (form_of x ≡ form_of a) × (args_of x ≡ args_of a)
tested true x a h = row x a h
tested false x a h = absurd (cc)

pub act_is : (f : Form) (xs : List Said) (a : Act) → are_kinds (kinds_of f) xs ≡ true → act_of f xs ≡ Some a → (f ≡ form_of a) × (xs ≡ args_of a)
act_is form.Tick (place i ∷ place g ∷ num t ∷ []) a k h = row (act.Tick i g t) a h
act_is form.Clock [] a k h = row act.Clock a h
act_is form.Write (place c ∷ place x ∷ bytes v ∷ []) a k h = tested (is_value v) (act.Write c x v) a h
act_is form.WritesTwo (place c ∷ place x ∷ bytes v ∷ place y ∷ bytes w ∷ []) a k h = tested (list_all is_value (v ∷ w ∷ [])) (act.Writes c (Two x y) (v ∷ w ∷ [])) a h
act_is form.WritesThree (place c ∷ place x ∷ bytes v ∷ place y ∷ bytes w ∷ place z ∷ bytes p ∷ []) a k h = tested (list_all is_value (v ∷ w ∷ p ∷ [])) (act.Writes c (Three x y z) (v ∷ w ∷ p ∷ [])) a h
act_is form.WritesFour (place c ∷ place x ∷ bytes v ∷ place y ∷ bytes w ∷ place z ∷ bytes p ∷ place t ∷ bytes q ∷ []) a k h =
    tested (list_all is_value (v ∷ w ∷ p ∷ q ∷ [])) (act.Writes c (Four x y z t) (v ∷ w ∷ p ∷ q ∷ [])) a h
act_is form.Read (place c ∷ place x ∷ []) a k h = row (act.Read c x) a h
act_is form.Move (place c ∷ place j ∷ []) a k h = row (act.Move c j) a h
act_is form.Leave (place c ∷ []) a k h = row (act.Leave c) a h
act_is form.Attach (place c ∷ place j ∷ []) a k h = row (act.Attach c j) a h
act_is form.Gather (place i ∷ []) a k h = row (act.Gather i) a h
act_is form.Emit (place i ∷ []) a k h = row (act.Emit i) a h
act_is form.Pulse (place i ∷ []) a k h = row (act.Pulse i) a h
act_is form.Hop (place e ∷ at u ∷ place z ∷ []) a k h = row (act.Hop e u z) a h
act_is form.Turn (place i ∷ []) a k h = row (act.Turn i) a h
act_is form.Bulk (place i ∷ place g ∷ place j ∷ []) a k h = row (act.Bulk i g j None) a h
act_is form.NumberedBulk (place i ∷ place g ∷ place j ∷ num n ∷ []) a k h = row (act.Bulk i g j (Some n)) a h
act_is form.Beat (place i ∷ place j ∷ []) a k h = row (act.Beat i j) a h
act_is form.BeatIn (place i ∷ place j ∷ num n ∷ []) a k h = row (act.BeatIn i j n) a h
act_is form.Stamp (place i ∷ []) a k h = row (act.Stamp i) a h
act_is form.Close (place i ∷ []) a k h = row (act.Close i) a h
act_is form.Fall (place i ∷ []) a k h = row (act.Fall i) a h
act_is form.Advance (place i ∷ []) a k h = row (act.Advance i) a h
act_is form.Kill (place e ∷ place z ∷ []) a k h = row (act.Kill e z) a h
act_is form.Settle [] a k h = row act.Settle a h
act_is _ _ a k h = absurd (cc)

eq_test : (i j : ℕ) (c : Cause) → cond (eqb i j) (Some c) None ≡ None → eqb i j ≡ false
eq_test i j c h = false_from_ne_true (eqb i j) (λ e. let never : Some c ≡ None = rw e at h in cc)

edge_is : (o : Option TreeShape) (t : TreeShape) (v : NodeId) (z : ℕ) → o ≡ Some t → edge_cause o v z ≡ None → is_edge t v (Serializer z) ≡ true
edge_is None t v z e h = absurd (cc)
edge_is (Some u) t v z e h =
    let joined = go (joins u v z) h in
    let edge = and_parts (has_node u (Serializer z)) (is_edge u v (Serializer z)) (and_parts (has_node u v) _ joined).1 in
    subst (λ t. is_edge t v (Serializer z) ≡ true) (let s : u ≡ t = cc in s) edge.1
  where
    go : (b : Bool) → cond b None (Some NoEdge) ≡ None → b ≡ true
    go true h = refl
    go false h = absurd (cc)

-- as many values as items, each item one of the deployment's
group_known : (d : Deployed) (c : ℕ) (items : Items) (values : List (List ℕ)) → IsSaid items values → AllFit d no_tree (kinds_of (group_form items)) (place c ∷ pairs (list_of items) values)
    → (c < length d.clients) × (list_all (λ x. ltb x (length d.items)) (list_of items) ≡ true)
group_known d c (Two x y) (v ∷ w ∷ []) said h = (h.0, known_two (length d.items) x y h.1.0 h.1.1.1.0)
group_known d c (Three x y z) (v ∷ w ∷ p ∷ []) said h = (h.0, known_three (length d.items) x y z h.1.0 h.1.1.1.0 h.1.1.1.1.1.0)
group_known d c (Four x y z t) (v ∷ w ∷ p ∷ q ∷ []) said h = (h.0, known_four (length d.items) x y z t h.1.0 h.1.1.1.0 h.1.1.1.1.1.0 h.1.1.1.1.1.1.1.0)
group_known d c _ _ said h = absurd (let some = said.some in let same = said.same in omega arith)

-- what the words of a group say is one of the deployment
group_fits : (d : Deployed) (c : ℕ) (items : Items) (values : List (List ℕ)) → IsSaid items values → AllFit d no_tree (kinds_of (group_form items)) (place c ∷ pairs (list_of items) values)
    → are_items (list_of items) ≡ true → allows d.format (group_form items) ≡ true → (c < length d.clients) × IsGroupOf d items values
group_fits d c items values said h order allowed =
    let known = group_known d c items values said h in
    (known.0, record { some = said.some; few = group_few d items said.some allowed; order = order; known = known.1; values_all = said.same; spelled = said.spelled })

-- what such words say is an act of the deployment
pub act_fits : (d : Deployed) (a : Act) → AllFit d no_tree (kinds_of (form_of a)) (args_of a) → unfit d a ≡ None → act_of (form_of a) (args_of a) ≡ Some a → allows d.format (form_of a) ≡ true → IsActOf d a
act_fits d (act.Tick i g t) h u says allowed = (h.0, h.1.0, h.1.1.0)
act_fits d act.Clock h u says allowed = tt
act_fits d (act.Write c x v) h u says allowed = (h.0, h.1.0, h.1.1.0)
act_fits d (act.Writes c items values) h u says allowed = group_fits d c items values (group_said c items values (args_of (act.Writes c items values)) says) h (fit_order d c items values u) allowed
act_fits d (act.Read c x) h u says allowed = (h.0, h.1.0)
act_fits d (act.Move c j) h u says allowed = (h.0, h.1.0)
act_fits d (act.Attach c j) h u says allowed = (h.0, h.1.0)
act_fits d (act.Hop e v z) h u says allowed = (h.0, h.2, h.1, h.3.0, edge_is (tree_of d e) h.0 v z h.1 u)
act_fits d (act.Bulk i g j None) h u says allowed = ((h.0, h.1.1.0, eq_test i j OutOfRange u), h.1.0, tt)
act_fits d (act.Bulk i g j (Some n)) h u says allowed = ((h.0, h.1.1.0, eq_test i j OutOfRange u), h.1.0, h.1.1.1.0)
act_fits d (act.Beat i j) h u says allowed = (h.0, h.1.0, eq_test i j OutOfRange u)
act_fits d (act.BeatIn i j n) h u says allowed = ((h.0, h.1.0, eq_test i j OutOfRange u), h.1.1.0)
act_fits d (act.Kill e z) h u says allowed = (h.0, h.2, h.1, h.3.0)
act_fits d act.Settle h u says allowed = tt
act_fits d _ h u says allowed = h.0

pub form_is : (word : List ℕ) (n : ℕ) (fs : List Form) (f : Form) → found_form word n fs ≡ Some f → word ≡ word_of f
form_is word n [] f h = absurd (cc)
form_is word n (g ∷ fs) f h = go (eqb (length (kinds_of g)) n && bytes_eq word (word_of g)) refl h (form_is word n fs f)
  where
    go : (b : Bool) → (eqb (length (kinds_of g)) n && bytes_eq word (word_of g)) ≡ b → cond b (Some g) (found_form word n fs) ≡ Some f → (found_form word n fs ≡ Some f → word ≡ word_of f) → word ≡ word_of f
    go true e h later = let same : g ≡ f = cc in word_is word (word_of g) (and_parts (eqb (length (kinds_of g)) n) (bytes_eq word (word_of g)) e).1 ∙ ap word_of same
    go false e h later = later h

-- ---- a line

chosen : (d : Deployed) (f : Form) (r : Result (List Said) Cause) (a : Act) → said_act d f r ≡ Ok a
    → (xs : List Said) × (r ≡ Ok xs) × (act_of f xs ≡ Some a) × (unfit d a ≡ None)
chosen d f (Err cause) a h = absurd (cc)
chosen d f (Ok xs) a h =
    let g = found (act_of f xs) OutOfRange (λ a. barred (unfit d a) (Ok a)) a h in
    let u = unbarred (unfit d g.0) (Ok g.0) a g.2 in
    let e : g.0 ≡ a = same_ok g.0 a u.1 in
    (xs, refl, g.1 ∙ ap Some e, ap (unfit d) (sym e) ∙ u.0)

line_says : (bars : Form → Option Cause) (d : Deployed) (f : Form) (words : List (List ℕ)) (a : Act) → IsDeployment d → form_line bars d f words ≡ Ok a
    → (f ≡ form_of a) × (words ≡ texts d (kinds_of (form_of a)) (args_of a)) × IsActOf d a × (bars (form_of a) ≡ None)
unfolding form_line
line_says bars d f words a is h =
    let allowed = passed (allows d.format f) _ _ _ h in
    let shaped = passed (shapes (kinds_of f) words) _ _ _ allowed.1 in
    let free = unbarred (bars f) _ a shaped.1 in
    let named = passed (all_known d (kinds_of f) words) _ _ _ free.1 in
    let c = chosen d f (all_say d no_tree (kinds_of f) words) a named.1 in
    let said = say_is d no_tree (kinds_of f) words c.0 is (no_small d no_tree is (omega arith) (omega arith)) shaped.0 c.1 in
    let t = act_is f c.0 a (fit_kinds d no_tree (kinds_of f) c.0 said.1) c.2 in
    let fits = subst (λ xs. AllFit d no_tree (kinds_of (form_of a)) xs) t.1 (subst (λ f. AllFit d no_tree (kinds_of f) c.0) t.0 said.1) in
    let again = ap (λ f. act_of f (args_of a)) (sym t.0) ∙ ap (act_of f) (sym t.1) ∙ c.2 in
    let has = ap (allows d.format) (sym t.0) ∙ allowed.0 in
    (t.0, said.0 ∙ ap (λ f. texts d (kinds_of f) c.0) t.0 ∙ ap (texts d (kinds_of (form_of a))) t.1, act_fits d a fits c.3 again has, ap bars (sym t.0) ∙ free.0)

pub acts_spelled : ActsAreSpelled
unfolding act_line act_words
acts_spelled bars d [] a is h = absurd (cc)
acts_spelled bars d (word ∷ words) a is h =
    let f = found (found_form word (length words) act_forms) BadAct (λ f. form_line bars d f words) a h in
    let l = line_says bars d f.0 words a is f.2 in
    (ap (λ (w : List ℕ). w ∷ words) (form_is word (length words) act_forms f.0 f.1 ∙ ap word_of l.0) ∙ ap (λ (ws : List (List ℕ)). word_of (form_of a) ∷ ws) l.1, l.2, l.3)

-- ---- what the form bars

-- where the form bars nothing
pub form_stands : (s : State) (a : Act) → IsActOf s.header a → bar s (form_of a) ≡ None → ActStands s a
form_stands s a fits none = let is = free s (form_of a) none in record { fits = fits; has = is.has; room = is.room }

pub stands_free : (s : State) (a : Act) → ActStands s a → bar s (form_of a) ≡ None
stands_free s a st = bars_nothing s (form_of a) st.has st.room

-- a group has the room of any act
group_room : (s : State) (items : Items) → has_room s (group_form items) ≡ ltb s.acts (limits_at s).acts
unfolding has_room
group_room s (One x) = refl
group_room s (Two x y) = refl
group_room s (Three x y z) = refl
group_room s (Four x y z w) = refl

-- the room for one more act, and for a settle
pub act_room : (s : State) (a : Act) → has_room s (form_of a) ≡ true → s.acts < (limits_at s).acts
unfolding has_room
act_room s act.Settle h = ltb-true s.acts (limits_at s).acts (and_parts (ltb s.acts (limits_at s).acts) (ltb s.settles (limits_at s).settles) h).0
act_room s (act.Writes c items values) h = ltb-true s.acts (limits_at s).acts (sym (group_room s items) ∙ h)
act_room s (act.Bulk i g j None) h = ltb-true s.acts (limits_at s).acts h
act_room s (act.Bulk i g j (Some n)) h = ltb-true s.acts (limits_at s).acts h
act_room s _ h = ltb-true s.acts (limits_at s).acts h

pub settle_room : (s : State) (a : Act) → s.settles ≤ (limits_at s).settles → has_room s (form_of a) ≡ true → with_settle s.settles (parsed.Act a) ≤ (limits_at s).settles
unfolding has_room
settle_room s act.Settle few h =
    let less = ltb-true s.settles (limits_at s).settles (and_parts (ltb s.acts (limits_at s).acts) (ltb s.settles (limits_at s).settles) h).1 in
    omega (arith, less)
settle_room s _ few h = few

-- and the other way
pub has_both : (s : State) (a : Act) → s.acts < (limits_at s).acts → with_settle s.settles (parsed.Act a) ≤ (limits_at s).settles → has_room s (form_of a) ≡ true
unfolding has_room
has_both s act.Settle acts settles =
    and_from (ltb s.acts (limits_at s).acts) (ltb s.settles (limits_at s).settles) (lt-ltb s.acts (limits_at s).acts acts) (lt-ltb s.settles (limits_at s).settles (omega (arith, settles)))
has_both s (act.Writes c items values) acts settles = group_room s items ∙ lt-ltb s.acts (limits_at s).acts acts
has_both s (act.Bulk i g j None) acts settles = lt-ltb s.acts (limits_at s).acts acts
has_both s (act.Bulk i g j (Some n)) acts settles = lt-ltb s.acts (limits_at s).acts acts
has_both s _ acts settles = lt-ltb s.acts (limits_at s).acts acts
