-- The lines of the header: what each says, and that it is spelled so.
use Rattle.std.proofs.Common.{◌≡◌, ℕ, ◌+◌, ◌<◌, ◌≤◌, ◌^◌, Bool, true, false, not, ◌&&◌, cond, eqb, ltb, List, [], ◌∷◌, ◌++◌, length, map, filter, take, drop, get_or, position, Option, Some, None, Result, Ok, Err, sym, ap, ◌∙◌, refl, subst, arith}
use Rattle.std.specs.Str.{bytes_eq}
use Rattle.std.specs.Prelude.{codes}
use Rattle.std.specs.Fmt.{decimal}
use Rattle.std.specs.List.{list_all, join_with_byte}
use Rattle.std.proofs.lemmas.Bool.{and_from, and_parts, eqb-true, false_from_ne_true, lt-ltb, ltb-true}
use Rattle.std.proofs.lemmas.Bool.Decides.{nat_tests}
use Rattle.std.proofs.lemmas.List.{drop_more, length-map, take-append-drop}
use Rattle.std.proofs.lemmas.List.Folds.{list_all-map}
use Rattle.std.proofs.lemmas.Simd.{map-map}
use Rattle.std.proofs.lemmas.List.Splits.{join_with_byte-slice_split, length-slice_split}
use Rattle.std.proofs.lemmas.List.Quantifiers.{position-Some}
use Rattle.sat_label.specs.Text.{is_name}
use Rattle.sat_label.specs.Words.{are_sites, bit, below}
use Rattle.sat_label.specs.declared.site_set.SiteSet.{SiteSet}
use Rattle.sat_tree.specs.Shape.{TreeShape}
use Rattle.sat_act.specs.declared.deployment.Plan.TheVariants as plan
use Rattle.sat_script.specs.Causes.{bar, has_room, has_client, has_item}
use Rattle.sat_script.specs.Grammar.{format_line, counted, of_count, sites_line, gears_line, item_line, client_line, begin_line, are_parents, parent_number, tree_on, tree_in, is_tree, tree_line, is_slash, parted_line, stamp_line, plan_line, named_line, header_form, header_line}
use Rattle.sat_script.specs.Spelled.{sites_text}
use Rattle.sat_tree.specs.PlanLine.{parent_text}
use Rattle.sat_script.specs.State.{State, limits_at}
use Rattle.sat_script.specs.Words.{is_number, value_of, is_comma, parts_of, is_rising, are_rising, is_list, set_of, are_below, sites_among, number_below, number_to}
use Rattle.sat_script.specs.declared.fault.Cause.{Cause}
use Rattle.sat_script.specs.declared.fault.Cause.TheVariants.{BadHeader, OutOfRange, BadTree}
use Rattle.sat_script.specs.declared.form.Form.TheVariants as form
use Rattle.sat_script.specs.declared.limits.TheConstants.{LAST_FORMAT, MOST_GEARS, MOST_PLANS, MOST_SITES}
use Rattle.sat_script.specs.declared.line.Parsed.{Parsed}
use Rattle.sat_script.specs.declared.line.Parsed.TheVariants as parsed
use Rattle.sat_script.proofs.Bars.{free}
use Rattle.sat_script.proofs.Choices.{passed, skipped, unbarred, tested, found, same_ok, word_is}
use Rattle.sat_script.proofs.Digits.{number_is, below_is, to_is}
use Rattle.sat_script.proofs.Lists.{all_weaker}
use Rattle.sat_script.proofs.Rising.{set_members, set_small}
use Rattle.sat_script.proofs.Sites.{bit_set_of, bit_zero}
use Rattle.sat_script.proofs.Stands.{IsGood, limits_few}
use Rattle.sat_script.specs.declared.line.Stage.TheVariants as stage
use Rattle.sat_script.proofs.Trees.{empty_line, parents_below, seats_below, tree_small}

-- ---- numbers

pub empty : {X : Type 0} (xs : List X) → eqb (length xs) 0 ≡ true → xs ≡ []
empty [] h = refl
empty (x ∷ xs) h = absurd (let n = eqb-true (length (x ∷ xs)) 0 h in omega arith)

-- numbers below a limit are spelled in digits
pub digits_of : (limit : ℕ) (words : List (List ℕ)) → limit ≤ 2 ^ 16 → list_all is_number words ≡ true → are_below limit words ≡ true → words ≡ map decimal (map value_of words)
digits_of limit [] few numbers low = refl
digits_of limit (w ∷ words) few numbers low =
    let n = and_parts (is_number w) (list_all is_number words) numbers in
    let l = and_parts (ltb (value_of w) limit) (are_below limit words) low in
    let less = ltb-true (value_of w) limit l.0 in
    let word = number_is w n.0 (omega arith) in
    ap (λ v. v ∷ words) word ∙ ap (λ ws. decimal (value_of w) ∷ ws) (digits_of limit words few n.1 l.1)

wide : (limit n : ℕ) (xs : List ℕ) → limit ≤ n → list_all (λ x. ltb x limit) xs ≡ true → list_all (λ x. ltb x n) xs ≡ true
wide limit n xs few h = all_weaker (λ x. ltb x limit) (λ x. ltb x n) (λ x low. let less = ltb-true x limit low in lt-ltb x n (omega arith)) xs h

-- ---- a list of sites

among_some : (x : ℕ) (xs : List ℕ) → bit (set_of (x ∷ xs)) x ≡ true
among_some x xs = bit_set_of (x ∷ xs) x ∙ (let same : eqb x x ≡ true = grind (arith, nat_tests) in rw same refl)

bit_none : (n k : ℕ) → n ≡ 0 → bit n k ≡ true → ⊥
bit_none n k e h = let never : true ≡ false = sym h ∙ ap (λ n. bit n k) e ∙ bit_zero k in cc

not_zero : (n : ℕ) → (n ≡ 0 → ⊥) → not (eqb n 0) ≡ true
not_zero n h = ap not (false_from_ne_true (eqb n 0) (λ t. h (eqb-true n 0 t)))

some_member : (xs : List ℕ) → 0 < length xs → not (eqb (set_of xs) 0) ≡ true
some_member [] some = absurd (omega arith)
some_member (x ∷ xs) some = not_zero (set_of (x ∷ xs)) (λ e. bit_none (set_of (x ∷ xs)) x e (among_some x xs))

rises : (parts : List (List ℕ)) → are_rising parts ≡ true → (list_all is_number parts ≡ true) × (is_rising (map value_of parts) ≡ true)
unfolding are_rising
rises parts h = go (list_all is_number parts) refl h
  where
    go : (b : Bool) → list_all is_number parts ≡ b → cond b (is_rising (map value_of parts)) false ≡ true → (list_all is_number parts ≡ true) × (is_rising (map value_of parts) ≡ true)
    go true e h = (e, h)
    go false e h = absurd (cc)

pub list_is : (limit : ℕ) (list : List ℕ) (set : SiteSet) → limit ≤ MOST_SITES → is_list list ≡ true → sites_among limit (parts_of list) ≡ Some set → (list ≡ sites_text set) × (are_sites limit set.bits ≡ true)
unfolding sites_among sites_text
list_is limit list set few rising h =
    let parts : List (List ℕ) = parts_of list in
    let c = tested (are_below limit parts) (let s : SiteSet = record { bits = set_of (map value_of parts) } in s) set h in
    let r = rises parts rising in
    let under = list_all-map (λ x. ltb x limit) value_of parts ∙ c.0 in
    let members = set_members (map value_of parts) 64 r.1 (wide limit 64 (map value_of parts) (omega arith) under) in
    let digits = digits_of limit parts (omega arith) r.0 c.0 in
    let bits : set.bits ≡ set_of (map value_of parts) = ap (λ (s : SiteSet). s.bits) (sym c.1) in
    let some : 0 < length (map value_of parts) = omega (arith, length-map parts value_of, length-slice_split is_comma list) in (
      sym (join_with_byte-slice_split 44 list)
          ∙ ap (join_with_byte 44) digits
          ∙ ap (λ (xs : List ℕ). join_with_byte 44 (map decimal xs)) (sym members)
          ∙ ap (λ (n : ℕ). join_with_byte 44 (map decimal (filter (bit n) (below 64)))) (sym bits),
      subst (λ (n : ℕ). are_sites limit n ≡ true) (sym bits)
          (and_from (not (eqb (set_of (map value_of parts)) 0)) (ltb (set_of (map value_of parts)) (2 ^ limit)) (some_member (map value_of parts) some) (lt-ltb (set_of (map value_of parts)) (2 ^ limit) (set_small (map value_of parts) limit under))),
    )

-- ---- the first lines

two_words : (a b c e : List ℕ) → a ≡ c → b ≡ e → (let l : List (List ℕ) = a ∷ b ∷ [] in l) ≡ c ∷ e ∷ []
two_words a b c e h k = rw (h, k) refl

three_words : (a b c x y z : List ℕ) → a ≡ x → b ≡ y → c ≡ z → (let l : List (List ℕ) = a ∷ b ∷ c ∷ [] in l) ≡ x ∷ y ∷ z ∷ []
three_words a b c x y z h k m = rw (h, k, m) refl

pub format_is : (s : State) (words : List (List ℕ)) (p : Parsed) → format_line words ≡ Ok p → IsGood stage.Start s words p
unfolding format_line
format_is s (word ∷ number ∷ []) p h =
    let t = passed (bytes_eq word (codes "saturn")) _ _ _ h in
    let f = found (number_to LAST_FORMAT number) BadHeader _ p t.1 in
    let is = to_is LAST_FORMAT number f.0 (omega arith) f.1 in
    subst (λ (p : Parsed). IsGood stage.Start s (word ∷ number ∷ []) p) (same_ok _ p f.2)
    (record { spelled = two_words word number _ _ (word_is word (codes "saturn") t.0) is.2; stands = (is.0, is.1) })
format_is s _ p h = absurd (cc)

counted_is : (keyword : List ℕ) (limit : ℕ) (word number : List ℕ) (n : ℕ) → limit < 2 ^ 16 → counted keyword limit word number ≡ Ok n → (word ≡ keyword) × (number ≡ decimal n) × (1 ≤ n) × (n ≤ limit)
unfolding counted
counted_is keyword limit word number n few h =
    let t = passed (bytes_eq word keyword && is_number number) _ _ _ h in
    let b = and_parts (bytes_eq word keyword) (is_number number) t.0 in
    let f = found (number_to limit number) OutOfRange _ n t.1 in
    let same = same_ok f.0 n f.2 in
    let is = to_is limit number f.0 few f.1 in
    (word_is word keyword b.0, is.2 ∙ ap decimal same, omega (arith, is.0), omega (arith, is.1))

of_count_is : (says : ℕ → Parsed) (r : Result ℕ Cause) (p : Parsed) → of_count says r ≡ Ok p → (n : ℕ) × (r ≡ Ok n) × (says n ≡ p)
of_count_is says (Ok n) p h = (n, refl, same_ok (says n) p h)
of_count_is says (Err cause) p h = absurd (cc)

pub sites_is : (s : State) (words : List (List ℕ)) (p : Parsed) → sites_line s words ≡ Ok p → IsGood stage.Sites s words p
unfolding sites_line
sites_is s (word ∷ number ∷ []) p h =
    let few = (limits_few s.dialect s.header.format).sites in
    let c = of_count_is parsed.Sites (counted (codes "sites") (limits_at s).sites word number) p h in
    let is = counted_is (codes "sites") (limits_at s).sites word number c.0 (omega arith) c.1 in
    subst (λ (p : Parsed). IsGood stage.Sites s (word ∷ number ∷ []) p) c.2 (record { spelled = two_words word number _ _ is.0 is.1; stands = (is.2, is.3) })
sites_is s _ p h = absurd (cc)

pub gears_is : (s : State) (words : List (List ℕ)) (p : Parsed) → gears_line words ≡ Ok p → IsGood stage.Gears s words p
unfolding gears_line
gears_is s (word ∷ number ∷ []) p h =
    let c = of_count_is parsed.Gears (counted (codes "gears") MOST_GEARS word number) p h in
    let is = counted_is (codes "gears") MOST_GEARS word number c.0 (omega arith) c.1 in
    subst (λ (p : Parsed). IsGood stage.Gears s (word ∷ number ∷ []) p) c.2 (record { spelled = two_words word number _ _ is.0 is.1; stands = (is.2, is.3) })
gears_is s _ p h = absurd (cc)

-- ---- items and clients

item_says : (s : State) (word name sites : List ℕ) (p : Parsed) → s.header.sites ≤ MOST_SITES → word ≡ codes "item" → item_line s name sites ≡ Ok p → IsGood stage.Header s (word ∷ name ∷ sites ∷ []) p
unfolding item_line has_room
item_says s word name sites p few is h =
    let t = passed (eqb (length s.header.clients) 0 && eqb (length s.header.plans) 0) _ _ _ h in
    let n = passed (is_name name && is_list sites) _ _ _ t.1 in
    let b = unbarred (bar s form.Item) _ p n.1 in
    let new = skipped (has_item s.header name) _ _ _ b.1 in
    let set = found (sites_among s.header.sites (parts_of sites)) OutOfRange _ p new.1 in
    let places = and_parts (eqb (length s.header.clients) 0) (eqb (length s.header.plans) 0) t.0 in
    let shapes = and_parts (is_name name) (is_list sites) n.0 in
    let list = list_is s.header.sites sites set.0 few shapes.1 set.1 in
    let room = (free s form.Item b.0).room in
    subst (λ (p : Parsed). IsGood stage.Header s (word ∷ name ∷ sites ∷ []) p) (same_ok _ p set.2)
    (record {
      spelled = three_words word name sites _ _ _ is refl list.0;
      stands = record { name = shapes.0; sites = list.1; clients = empty s.header.clients places.0; plans = empty s.header.plans places.1; room = ltb-true (length s.header.items) (limits_at s).items room; new = new.0 };
    })

client_says : (s : State) (word name site : List ℕ) (p : Parsed) → s.header.sites ≤ MOST_SITES → word ≡ codes "client" → client_line s name site ≡ Ok p → IsGood stage.Header s (word ∷ name ∷ site ∷ []) p
unfolding client_line has_room
client_says s word name site p few is h =
    let t = passed (eqb (length s.header.plans) 0) _ _ _ h in
    let n = passed (is_name name && is_number site) _ _ _ t.1 in
    let b = unbarred (bar s form.Client) _ p n.1 in
    let new = skipped (has_client s.header name) _ _ _ b.1 in
    let home = found (number_below s.header.sites site) OutOfRange _ p new.1 in
    let shapes = and_parts (is_name name) (is_number site) n.0 in
    let at = below_is s.header.sites site home.0 (omega arith) home.1 in
    let room = (free s form.Client b.0).room in
    subst (λ (p : Parsed). IsGood stage.Header s (word ∷ name ∷ site ∷ []) p) (same_ok _ p home.2)
    (record {
      spelled = three_words word name site _ _ _ is refl at.1;
      stands = record { name = shapes.0; home = at.0; plans = empty s.header.plans t.0; room = ltb-true (length s.header.clients) (limits_at s).clients room; new = new.0 };
    })

-- ---- plans

-- the words of a tree are those of its parents and seats
rooted : (sites : ℕ) (words seats : List (List ℕ)) → sites ≤ MOST_SITES → list_all is_number words ≡ true → list_all is_number seats ≡ true → is_tree sites (tree_on words seats) ≡ true
    → (words ≡ map parent_text (map parent_number words)) × (seats ≡ map decimal (map value_of seats))
rooted sites words seats few numbers places h =
    let t : TreeShape = tree_on words seats in
    let is = (tree_small sites t h few).0 in
    let most = is.few_serializers in (
      digits_of (length t.parents) words (omega arith) numbers (parents_below t words is.tree refl) ∙ map-map decimal value_of words ∙ sym (map-map parent_text parent_number words),
      digits_of (length t.parents) seats (omega arith) places (seats_below t seats is.tree refl),
    )

tree_says : (s : State) (parents seats : List (List ℕ)) (p : Parsed) → s.header.sites ≤ MOST_SITES → tree_line s parents seats ≡ Ok p
    → (t : TreeShape) × (p ≡ parsed.Plan (plan.Tree t)) × (is_tree s.header.sites t ≡ true) × (length s.header.plans < MOST_PLANS) × (parents ≡ map parent_text t.parents) × (seats ≡ map decimal t.seats)
unfolding tree_line are_parents tree_in has_room
tree_says s [] seats p few h =
    let w = passed (list_all is_number seats) _ _ _ h in
    let b = unbarred (bar s form.PlanTree) _ p w.1 in
    let tree : TreeShape = record { parents = []; seats = map value_of seats } in
    let t = passed (is_tree s.header.sites tree) (Ok (parsed.Plan (plan.Tree tree))) BadTree p b.1 in
    let none : is_tree s.header.sites tree ≡ false = empty_line s.header.sites seats few in
    absurd (let never : true ≡ false = sym t.0 ∙ none in cc)
tree_says s (root ∷ words) seats p few h =
    let w = passed ((bytes_eq root (codes "-") && list_all is_number words) && list_all is_number seats) _ _ _ h in
    let shapes = and_parts (bytes_eq root (codes "-") && list_all is_number words) (list_all is_number seats) w.0 in
    let inner = and_parts (bytes_eq root (codes "-")) (list_all is_number words) shapes.0 in
    let b = unbarred (bar s form.PlanTree) _ p w.1 in
    let t = passed (is_tree s.header.sites (tree_on words seats)) _ _ _ b.1 in
    let text = rooted s.header.sites words seats few inner.1 shapes.1 t.0 in
    let room = (free s form.PlanTree b.0).room in (
      tree_on words seats,
      sym (same_ok _ p t.1),
      t.0,
      ltb-true (length s.header.plans) MOST_PLANS room,
      ap (λ (w : List ℕ). w ∷ words) (word_is root (codes "-") inner.0) ∙ ap (λ (ws : List (List ℕ)). codes "-" ∷ ws) text.0,
      text.1,
    )

parted_words : (words : List (List ℕ)) (k : ℕ) → position is_slash words ≡ Some k → words ≡ take k words ++ codes "/" ∷ drop (k + 1) words
parted_words words k h =
    let at = position-Some is_slash words k [] h in
    let next = drop_more words k [] at.0 in
    sym (take-append-drop k words) ∙ ap (λ (ws : List (List ℕ)). take k words ++ ws) (next ∙ ap (λ (w : List ℕ). w ∷ drop (k + 1) words) (word_is (get_or words k []) (codes "/") at.1))

parted_says : (s : State) (words : List (List ℕ)) (o : Option ℕ) (p : Parsed) → s.header.sites ≤ MOST_SITES → position is_slash words ≡ o → parted_line s words o ≡ Ok p → IsGood stage.Header s (codes "plan" ∷ codes "tree" ∷ words) p
unfolding parted_line
parted_says s words None p few at h = absurd (cc)
parted_says s words (Some k) p few at h =
    let t = tree_says s (take k words) (drop (k + 1) words) p few h in
    subst (λ (p : Parsed). IsGood stage.Header s (codes "plan" ∷ codes "tree" ∷ words) p) (sym t.1)
    (record {
      spelled = ap (λ (ws : List (List ℕ)). codes "plan" ∷ codes "tree" ∷ ws) (parted_words words k at ∙ ap (λ (ws : List (List ℕ)). ws ++ codes "/" ∷ drop (k + 1) words) t.4 ∙ ap (λ (ws : List (List ℕ)). map parent_text t.0.parents ++ codes "/" ∷ ws) t.5);
      stands = record { fits = t.2; room = t.3 };
    })

stamp_says : (s : State) (kind : List ℕ) (words : List (List ℕ)) (p : Parsed) → kind ≡ codes "stamp" → words ≡ [] → stamp_line s ≡ Ok p → IsGood stage.Header s (codes "plan" ∷ kind ∷ words) p
unfolding stamp_line has_room
stamp_says s kind words p is none h =
    let b = unbarred (bar s form.PlanStamp) _ p h in
    let room = (free s form.PlanStamp b.0).room in
    subst (λ (p : Parsed). IsGood stage.Header s (codes "plan" ∷ kind ∷ words) p) (same_ok _ p b.1)
    (record { spelled = rw (is, none) refl; stands = record { fits = tt; room = ltb-true (length s.header.plans) MOST_PLANS room } })

-- either of two forms, by a word
by_word : {X : Type 0} (word text : List ℕ) (r other : Result Parsed Cause) (p : Parsed) → (word ≡ text → r ≡ Ok p → X) → (other ≡ Ok p → X) → cond (bytes_eq word text) r other ≡ Ok p → X
by_word {X} word text r other p yields later h = go (bytes_eq word text) refl h
  where
    go : (b : Bool) → bytes_eq word text ≡ b → cond b r other ≡ Ok p → X
    go true e h = yields (word_is word text e) h
    go false e h = later h

plan_says : (s : State) (word : List ℕ) (words : List (List ℕ)) (p : Parsed) → s.header.sites ≤ MOST_SITES → word ≡ codes "plan" → plan_line s words ≡ Ok p → IsGood stage.Header s (word ∷ words) p
unfolding plan_line
plan_says s word [] p few is h = absurd (cc)
plan_says s word (kind ∷ words) p few is h =
    by_word kind (codes "tree") (parted_line s words (position is_slash words)) _ p
    (λ tree good. subst (λ (w : List ℕ). IsGood stage.Header s (w ∷ kind ∷ words) p) (sym is) (subst (λ (k : List ℕ). IsGood stage.Header s (codes "plan" ∷ k ∷ words) p) (sym tree) (parted_says s words (position is_slash words) p few refl good)))
    (λ other.
    let t = passed (bytes_eq kind (codes "stamp") && eqb (length words) 0) _ _ _ other in
    let b = and_parts (bytes_eq kind (codes "stamp")) (eqb (length words) 0) t.0 in
    subst (λ (w : List ℕ). IsGood stage.Header s (w ∷ kind ∷ words) p) (sym is) (stamp_says s kind words p (word_is kind (codes "stamp") b.0) (empty words b.1) t.1)) h

begin_says : (s : State) (word : List ℕ) (p : Parsed) → word ≡ codes "begin" → begin_line s.header ≡ Ok p → IsGood stage.Header s (word ∷ []) p
unfolding begin_line
begin_says s word p is h =
    let t = skipped (eqb (length s.header.plans) 0) _ _ _ h in
    subst (λ (p : Parsed). IsGood stage.Header s (word ∷ []) p) (same_ok _ p t.1) (record { spelled = ap (λ (w : List ℕ). w ∷ []) is; stands = grind (arith, nat_tests) })

form_says : (s : State) (word : List ℕ) (words : List (List ℕ)) (p : Parsed) → s.header.sites ≤ MOST_SITES → header_form s word words ≡ Ok p → IsGood stage.Header s (word ∷ words) p
unfolding header_form named_line
form_says s word [] p few h = by_word word (codes "begin") (begin_line s.header) _ p (begin_says s word p) (λ e. absurd (cc)) h
form_says s word (name ∷ place ∷ []) p few h =
    by_word word (codes "item") (item_line s name place) _ p (item_says s word name place p few)
    (by_word word (codes "client") (client_line s name place) _ p (client_says s word name place p few) (λ e. absurd (cc))) h
form_says s word _ p few h = absurd (cc)

pub header_is : (s : State) (words : List (List ℕ)) (p : Parsed) → s.header.sites ≤ MOST_SITES → header_line s words ≡ Ok p → IsGood stage.Header s words p
unfolding header_line
header_is s [] p few h = absurd (cc)
header_is s (word ∷ words) p few h = by_word word (codes "plan") (plan_line s words) _ p (plan_says s word words p few) (form_says s word words p few) h
