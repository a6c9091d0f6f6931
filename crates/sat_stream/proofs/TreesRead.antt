-- The spelling of a tree is read as the tree.
use Rattle.std.proofs.Common.{◌≡◌, ℕ, suc, ◌+◌, ◌<◌, ◌≤◌, ◌^◌, true, false, not, List, [], ◌∷◌, ◌++◌, length, map, drop, get_or, position, Option, Some, None, Ok, sym, ap, ◌∙◌, refl, subst, arith}
use Rattle.std.specs.Prelude.{codes, unwrap_or}
use Rattle.std.specs.Fmt.{decimal}
use Rattle.std.specs.List.{slice_get, list_all}
use Rattle.std.proofs.lemmas.List.{get_or_append_left, length-append}
use Rattle.std.proofs.lemmas.List.Sums.{AllPass-from_list_all}
use Rattle.std.proofs.lemmas.Simd.{map-map}
use Rattle.std.proofs.Math.Seq.{drop-append-add, get_or-append_seam, take-append_seam}
use Rattle.std.proofs.lemmas.Bool.{and_from, false_from_ne_true, not-true}
use Rattle.sat_label.specs.Text.{is_between}
use Rattle.sat_label.proofs.Numbers.{get-map}
use Rattle.sat_tree.specs.Shape.{TreeShape}
use Rattle.sat_tree.specs.Cut.{IsTree, parent_of, seat_of}
use Rattle.sat_tree.specs.Flaw.{IsSmallTree}
use Rattle.sat_act.specs.declared.deployment.Plan.{Plan}
use Rattle.sat_act.specs.declared.deployment.Plan.TheVariants as plan
use Rattle.sat_script.specs.Grammar.{are_parents, parent_number, tree_on, tree_in, is_tree, tree_line, is_slash, parted_line, stamp_line, plan_line, header_line}
use Rattle.sat_script.specs.Spelled.{plan_words}
use Rattle.sat_tree.specs.PlanLine.{parent_text}
use Rattle.sat_script.specs.State.{State}
use Rattle.sat_script.specs.Words.{is_number, value_of}
use Rattle.sat_script.specs.declared.limits.TheConstants.{MOST_PLANS, MOST_SITES}
use Rattle.sat_script.specs.declared.line.Parsed.{Parsed}
use Rattle.sat_script.specs.declared.line.Parsed.TheVariants as parsed
use Rattle.sat_script.proofs.Choices.{word_is}
use Rattle.sat_script.proofs.Digits.{decimal_between, AreSmall, numbers_back, values_back}
use Rattle.sat_stream.proofs.HeadersRead.{tree_free, stamp_free}
use Rattle.sat_script.proofs.Lookup.{first_is}
use Rattle.sat_script.proofs.Stands.{PlanStands}
use Rattle.sat_script.proofs.Trees.{tree_small}

-- ---- numbers

no_slash : (n : ℕ) → n < 2 ^ 16 → is_slash (decimal n) ≡ false
no_slash n small = false_from_ne_true (is_slash (decimal n)) (λ same.
    let e = word_is (decimal n) (codes "/") same in
    let digits : list_all (is_between 48 57) (codes "/") ≡ true = subst (λ (w : List ℕ). list_all (is_between 48 57) w ≡ true) e (decimal_between n (omega arith)) in cc)

no_slashes : (ns : List ℕ) → AreSmall ns → list_all (λ w. not (is_slash w)) (map decimal ns) ≡ true
no_slashes [] h = refl
no_slashes (n ∷ ns) h = and_from (not (is_slash (decimal n))) (list_all (λ w. not (is_slash w)) (map decimal ns)) (ap not (no_slash n (h 0 n refl))) (no_slashes ns (λ k m at. h (suc k) m at))

-- ---- the place of the slash

at_slash : (front rest : List (List ℕ)) → list_all (λ w. not (is_slash w)) front ≡ true → position is_slash (front ++ codes "/" ∷ rest) ≡ Some (length front)
at_slash front rest h =
    first_is is_slash (front ++ codes "/" ∷ rest) (length front) [] (omega (arith, length-append front (codes "/" ∷ rest))) (ap is_slash (get_or-append_seam front (codes "/") rest []))
    (λ k less. ap is_slash (get_or_append_left front (codes "/" ∷ rest) [] k less) ∙ not-true (is_slash (get_or front k [])) (AllPass-from_list_all (λ w. not (is_slash w)) front h k [] less))

-- ---- the shape of a tree

some_list : (xs : List (Option ℕ)) → ((k : ℕ) → k < length xs → (p : ℕ) × (slice_get xs k ≡ Some (Some p))) → (ps : List ℕ) × (xs ≡ map Some ps)
some_list [] h = ([], refl)
some_list (x ∷ xs) h =
    let first = h 0 (omega arith) in
    let more = some_list xs (λ k less. h (suc k) (omega arith)) in
    let same : x ≡ Some first.0 = (let e : Some x ≡ Some (Some first.0) = first.1 in cc) in
    (first.0 ∷ more.0, ap (λ (y : Option ℕ). y ∷ xs) same ∙ ap (λ (ys : List (Option ℕ)). Some first.0 ∷ ys) more.1)

got : (o : Option (Option ℕ)) (p : ℕ) → unwrap_or o None ≡ Some p → o ≡ Some (Some p)
got (Some q) p h = ap (λ (q : Option ℕ). Some q) h
got None p h = absurd (cc)

tail_parents : (x : Option ℕ) (xs : List (Option ℕ)) (seats : List ℕ) → IsTree (record { parents = x ∷ xs; seats = seats }) → (k : ℕ) → k < length xs → (p : ℕ) × (slice_get xs k ≡ Some (Some p))
unfolding parent_of
tail_parents x xs seats is k less = let h = is.hung (suc k) (omega arith) (omega arith) in (h.0, got (slice_get xs k) h.0 h.1)

root_none : (x : Option ℕ) (xs : List (Option ℕ)) (seats : List ℕ) → IsTree (record { parents = x ∷ xs; seats = seats }) → x ≡ None
unfolding parent_of
root_none None xs seats is = refl
root_none (Some p) xs seats is = absurd (let less = is.down 0 p refl in omega arith)

shape : (parents : List (Option ℕ)) (seats : List ℕ) → IsTree (record { parents = parents; seats = seats }) → 0 < length parents → (ps : List ℕ) × (parents ≡ None ∷ map Some ps)
shape [] seats is some = absurd (omega arith)
shape (x ∷ xs) seats is some =
    let rest = some_list xs (tail_parents x xs seats is) in
    (rest.0, ap (λ (y : Option ℕ). y ∷ xs) (root_none x xs seats is) ∙ ap (λ (ys : List (Option ℕ)). None ∷ ys) rest.1)

parents_small : (t : TreeShape) (ps : List ℕ) → IsTree t → length t.parents ≤ 15 → t.parents ≡ None ∷ map Some ps → AreSmall ps
unfolding parent_of
parents_small t ps is few e k p at =
    let here : parent_of t.parents (suc k) ≡ Some p = ap (λ (xs : List (Option ℕ)). parent_of xs (suc k)) e ∙ ap (λ (o : Option (Option ℕ)). unwrap_or o None) (get-map Some ps k p at) in
    let low = is.down (suc k) p here in
    let inner = is.inner (suc k) p here in
    omega arith

seats_small : (t : TreeShape) → IsTree t → length t.parents ≤ 15 → AreSmall t.seats
unfolding seat_of
seats_small t is few k n at =
    let here : seat_of t k ≡ n = ap (λ (o : Option ℕ). unwrap_or o 0) at in
    let low = is.seats k in
    omega arith

-- ---- the line

tree_again : (t : TreeShape) (ps : List ℕ) → IsTree t → length t.parents ≤ 15 → t.parents ≡ None ∷ map Some ps → tree_on (map decimal ps) (map decimal t.seats) ≡ t
tree_again t ps is few e =
    let parents : None ∷ map parent_number (map decimal ps) ≡ t.parents = ap (λ (qs : List (Option ℕ)). None ∷ qs) (sym (map-map Some value_of (map decimal ps)) ∙ ap (map Some) (values_back ps (parents_small t ps is few e))) ∙ sym e in
    ap (λ (qs : List (Option ℕ)). (let u : TreeShape = record { parents = qs; seats = map value_of (map decimal t.seats) } in u)) parents
    ∙ ap (λ (ss : List ℕ). (let u : TreeShape = record { parents = t.parents; seats = ss } in u)) (values_back t.seats (seats_small t is few))

rooted_reads : (s : State) (words seats : List (List ℕ)) (t : TreeShape) → list_all is_number words ≡ true → list_all is_number seats ≡ true → length s.header.plans < MOST_PLANS → tree_on words seats ≡ t → is_tree s.header.sites t ≡ true
    → tree_line s (codes "-" ∷ words) seats ≡ Ok (parsed.Plan (plan.Tree t))
unfolding tree_line are_parents tree_in
rooted_reads s words seats t numbers places room same fits =
    let here : is_tree s.header.sites (tree_on words seats) ≡ true = ap (is_tree s.header.sites) same ∙ fits in
    rw (numbers, places, tree_free s room, here) (ap (λ (u : TreeShape). Ok (parsed.Plan (plan.Tree u))) same)

parted_reads : (s : State) (front rest : List (List ℕ)) (p : Parsed) → list_all (λ w. not (is_slash w)) front ≡ true → tree_line s front rest ≡ Ok p → parted_line s (front ++ codes "/" ∷ rest) (position is_slash (front ++ codes "/" ∷ rest)) ≡ Ok p
unfolding parted_line
parted_reads s front rest p clear h =
    ap (parted_line s (front ++ codes "/" ∷ rest)) (at_slash front rest clear)
    ∙ ap (λ (ws : List (List ℕ)). tree_line s ws (drop (length front + 1) (front ++ codes "/" ∷ rest))) (take-append_seam front (codes "/" ∷ rest))
    ∙ ap (tree_line s front) (drop-append-add front (codes "/" ∷ rest) 1)
    ∙ h

tree_reads : (s : State) (t : TreeShape) → IsSmallTree t → is_tree s.header.sites t ≡ true → length s.header.plans < MOST_PLANS → header_line s (plan_words (plan.Tree t)) ≡ Ok (parsed.Plan (plan.Tree t))
unfolding header_line plan_line
tree_reads s t small fits room =
    let is = small.tree in
    let few = small.few_serializers in
    let sh = shape t.parents t.seats is small.some_serializer in
    let low = parents_small t sh.0 is few sh.1 in
    let text : map parent_text t.parents ≡ codes "-" ∷ map decimal sh.0 = ap (map parent_text) sh.1 ∙ ap (λ (ws : List (List ℕ)). codes "-" ∷ ws) (map-map parent_text Some sh.0) in
    let said = rooted_reads s (map decimal sh.0) (map decimal t.seats) t (numbers_back sh.0 low) (numbers_back t.seats (seats_small t is few)) room (tree_again t sh.0 is few sh.1) fits in
    ap (λ (ws : List (List ℕ)). parted_line s (ws ++ codes "/" ∷ map decimal t.seats) (position is_slash (ws ++ codes "/" ∷ map decimal t.seats))) text
    ∙ parted_reads s (codes "-" ∷ map decimal sh.0) (map decimal t.seats) (parsed.Plan (plan.Tree t)) (no_slashes sh.0 low) said

stamp_reads : (s : State) → length s.header.plans < MOST_PLANS → header_line s (plan_words plan.Stamp) ≡ Ok (parsed.Plan plan.Stamp)
unfolding header_line plan_line stamp_line
stamp_reads s room = rw (stamp_free s room) refl

pub plan_reads : (s : State) (p : Plan) → s.header.sites ≤ MOST_SITES → PlanStands s p → header_line s (plan_words p) ≡ Ok (parsed.Plan p)
plan_reads s plan.Stamp few st = stamp_reads s st.room
plan_reads s (plan.Tree t) few st = tree_reads s t (tree_small s.header.sites t st.fits few).0 st.fits st.room
