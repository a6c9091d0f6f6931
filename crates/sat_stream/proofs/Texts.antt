-- Lines of words and their bytes.
use Rattle.std.proofs.Common.{◌≡◌, ℕ, suc, ◌+◌, ◌*◌, ◌<◌, ◌≤◌, ◌^◌, Bool, true, false, not, ◌&&◌, cond, eqb, ltb, leb, List, [], ◌∷◌, ◌++◌, length, map, filter, All, Option, Some, None, ap, ◌∙◌, refl, arith}
use Rattle.std.specs.List.{slice_get, join_with_byte, list_all, AllByRecursion}
use Rattle.std.specs.Prelude.{codes}
use Rattle.std.specs.Fmt.{decimal}
use Rattle.std.proofs.lemmas.List.{length-append}
use Rattle.std.proofs.lemmas.List.Filters.{length-filter_both}
use Rattle.std.proofs.lemmas.List.Folds.{list_all-append}
use Rattle.std.proofs.lemmas.List.Splits.{join_with_byte-slice_split, slice_split_at, slice_split_none}
use Rattle.std.proofs.lemmas.List.Sums.{AllPass-from_list_all}
use Rattle.std.proofs.lemmas.Bool.{and_from, and_parts, leb-true, ltb-true}
use Rattle.std.proofs.lemmas.Bool.Decides.{nat_tests}
use Rattle.sat_label.proofs.Numbers.{length-below}
use Rattle.sat_label.specs.Text.{is_between, is_name, is_name_byte, is_value, node_text}
use Rattle.sat_label.specs.Words.{bit, below}
use Rattle.sat_label.specs.Formats.{limits_of as format_limits}
use Rattle.sat_label.specs.declared.items.Items.TheVariants.{One, Two, Three, Four}
use Rattle.sat_label.specs.declared.site_set.SiteSet.{SiteSet}
use Rattle.sat_label.specs.declared.node.NodeId.{NodeId}
use Rattle.sat_label.specs.declared.node.NodeId.TheVariants.{Site, Serializer}
use Rattle.sat_tree.specs.Shape.{TreeShape}
use Rattle.sat_tree.specs.Cut.{IsNode, parent_of, seat_of}
use Rattle.sat_tree.specs.Flaw.{IsSmallTree}
use Rattle.std.specs.Prelude.{unwrap_or}
use Rattle.sat_script.proofs.Lists.{all_append, all_weaker}
use Rattle.sat_act.specs.Deployed.{Deployed}
use Rattle.sat_act.specs.Ranges.{IsActOf}
use Rattle.sat_act.specs.declared.act.Act.{Act}
use Rattle.sat_act.specs.declared.act.Act.TheVariants as act
use Rattle.sat_act.specs.declared.deployment.Item.{Item}
use Rattle.sat_act.specs.declared.deployment.Plan.{Plan}
use Rattle.sat_act.specs.declared.deployment.Plan.TheVariants as plan
use Rattle.sat_script.specs.Dialect.{allows}
use Rattle.sat_script.specs.Grammar.{words_line, line_at, is_ended, with_parsed}
use Rattle.sat_script.specs.Kept.{IsWhole, HasHeader}
use Rattle.sat_script.specs.Spelled.{line_text, item_words, plan_words, sites_text, HaveNames}
use Rattle.sat_tree.specs.PlanLine.{parent_text}
use Rattle.sat_script.specs.Table.{Said, place, num, bytes, at, kinds_of, word_of, form_of, args_of, text, texts, no_tree, act_words, client_name, item_name}
use Rattle.sat_act.specs.Limits.{IsDeployment}
use Rattle.sat_script.specs.declared.form.Kind.{Kind}
use Rattle.sat_script.specs.declared.form.Kind.TheVariants as kind
use Rattle.sat_script.proofs.Acts.{Fits, AllFit, IsSmall, no_small, shape_small}
use Rattle.sat_script.proofs.Groups.{act_allowed}
use Rattle.sat_script.proofs.ActsRead.{args_fit, epoch_inside, named_client, named_item}
use Rattle.sat_script.specs.State.{State}
use Rattle.sat_script.specs.Words.{is_newline, is_blank, is_text, words_of}
use Rattle.sat_script.specs.declared.limits.TheConstants.{LONGEST_LINE, MOST_SITES}
use Rattle.sat_stream.specs.Stream.{line_bytes}
use Rattle.sat_stream.specs.declared.limits.TheConstants.{LINE_BYTES, LONG_LINE_BYTES}
use Rattle.sat_script.specs.declared.line.Parsed.{Parsed}
use Rattle.sat_script.specs.declared.line.Parsed.TheVariants as parsed
use Rattle.sat_script.specs.declared.line.Stage.{Stage}
use Rattle.sat_script.specs.declared.line.Stage.TheVariants as stage
use Rattle.sat_script.proofs.Digits.{decimal_between, decimal_length, decimal_short}
use Rattle.sat_script.proofs.Lookup.{name_parts}
use Rattle.sat_script.proofs.Rising.{members_under}
use Rattle.sat_script.proofs.Stands.{parsed_words, Stands, ItemStands, IsPlanFor, limits_few}
use Rattle.sat_script.proofs.Trees.{tree_small}

-- ---- words

-- bytes from 33 to 126 only
abbrev pub IsWord : List ℕ → Type 0
IsWord word = list_all (is_between 33 126) word ≡ true

pub lacks : (p : ℕ → Bool) (q : ℕ → Bool) → ((x : ℕ) → q x ≡ true → p x ≡ false) → (xs : List ℕ) → list_all q xs ≡ true → All (λ x. p x ≡ false) xs
lacks p q w xs h = λ k d inside. w _ (AllPass-from_list_all q xs h k d inside)

pub no_newline : (x : ℕ) → is_between 32 126 x ≡ true → is_newline x ≡ false
no_newline x h = grind (arith, nat_tests)

no_blank : (x : ℕ) → is_between 33 126 x ≡ true → is_blank x ≡ false
no_blank x h = grind (arith, nat_tests)

word_byte : (x : ℕ) → is_between 33 126 x ≡ true → is_between 32 126 x ≡ true
word_byte x h = grind (arith, nat_tests)

name_byte : (x : ℕ) → is_name_byte x ≡ true → is_between 33 126 x ≡ true
name_byte x h = grind (arith, nat_tests)

digit_byte : (x : ℕ) → is_between 48 57 x ≡ true → is_between 33 126 x ≡ true
digit_byte x h = grind (arith, nat_tests)

-- ---- lines of words

-- the bytes of words, one more for each
abbrev size : List (List ℕ) → ℕ
size [] = 0
size (word ∷ words) = length word + 1 + size words

-- words of a line that has at most so many bytes
pub record IsSized (most : ℕ) (words : List (List ℕ)) : Type 0 where
  pub each : AllByRecursion IsWord words
  pub some : 0 < length words
  pub short : size words ≤ most

-- words of a line that may stand in a script of either format
abbrev pub IsLine : List (List ℕ) → Type 0
IsLine words = IsSized LONG_LINE_BYTES words

-- either format has lines of so many bytes, and none of more
sized_in : (format : ℕ) (words : List (List ℕ)) → IsSized LINE_BYTES words → IsSized (line_bytes format) words
sized_in format words is = go (eqb format 1)
  where
    go : (b : Bool) → IsSized (cond b LINE_BYTES LONG_LINE_BYTES) words
    go true = is
    go false = let short = is.short in record { each = is.each; some = is.some; short = omega arith }

sized_line : (format : ℕ) (words : List (List ℕ)) → IsSized (line_bytes format) words → IsLine words
sized_line format words is = go (eqb format 1) is
  where
    go : (b : Bool) → IsSized (cond b LINE_BYTES LONG_LINE_BYTES) words → IsLine words
    go true is = let short = is.short in record { each = is.each; some = is.some; short = omega arith }
    go false is = is

text_size : (words : List (List ℕ)) → 0 < length words → length (line_text words) + 1 ≡ size words
text_size [] some = absurd (omega arith)
text_size (a ∷ []) some = omega arith
text_size (a ∷ b ∷ words) some = let more = text_size (b ∷ words) (omega arith) in omega (arith, length-append a (32 ∷ line_text (b ∷ words)))

pub line_size : (most : ℕ) (words : List (List ℕ)) → IsSized most words → length (line_text words) + 1 ≤ most
line_size most words is = let n = text_size words is.some in let m = is.short in omega arith

line_is_text : (words : List (List ℕ)) → AllByRecursion IsWord words → is_text (line_text words) ≡ true
line_is_text [] h = refl
line_is_text (a ∷ []) h = all_weaker (is_between 33 126) (is_between 32 126) word_byte a h.0
line_is_text (a ∷ b ∷ words) h =
    let front = all_weaker (is_between 33 126) (is_between 32 126) word_byte a h.0 in
    let more = line_is_text (b ∷ words) h.1 in
    rw (list_all-append (is_between 32 126) a (32 ∷ line_text (b ∷ words)), front, more) refl

pub again : (words : List (List ℕ)) → AllByRecursion IsWord words → 0 < length words → words_of (line_text words) ≡ words
again [] h some = absurd (omega arith)
again (a ∷ []) h some = slice_split_none is_blank a (lacks is_blank (is_between 33 126) no_blank a h.0)
again (a ∷ b ∷ words) h some =
    slice_split_at is_blank a 32 (line_text (b ∷ words)) (lacks is_blank (is_between 33 126) no_blank a h.0) refl
    ∙ ap (λ (ws : List (List ℕ)). a ∷ ws) (again (b ∷ words) h.1 (omega arith))

pub line_text-words : (line : List ℕ) → line_text (words_of line) ≡ line
line_text-words line = join_with_byte-slice_split 32 line

pub is_text-line : (words : List (List ℕ)) → IsLine words → is_text (line_text words) ≡ true
is_text-line words is = line_is_text words is.each

-- a line is read by its words
pub line_at-words : (s : State) (words : List (List ℕ)) → IsLine words → is_ended s.stage ≡ false → line_at s (line_text words) ≡ words_line s.stage s words
unfolding line_at
line_at-words s words is going =
    let few = line_size LONG_LINE_BYTES words is in
    let fits : ltb LONGEST_LINE (length (line_text words)) ≡ false = grind (arith, nat_tests) in
    rw (going, fits, line_is_text words is.each, again words is.each is.some) refl

-- ---- the words of good lines

name_word : (name : List ℕ) → is_name name ≡ true → IsWord name × (length name ≤ 32)
name_word name h = let n = name_parts name h in (all_weaker is_name_byte (is_between 33 126) name_byte name n.0, n.1)

value_word : (value : List ℕ) → is_value value ≡ true → IsWord value × (length value ≤ 256)
value_word value h =
    let some = and_parts (ltb 0 (length value)) (leb (length value) 256 && list_all (is_between 33 126) value) h in
    let short = and_parts (leb (length value) 256) (list_all (is_between 33 126) value) some.1 in
    (short.1, leb-true (length value) 256 short.0)

number_word : (n : ℕ) → n < 2 ^ 16 → IsWord (decimal n) × (length (decimal n) ≤ 5)
number_word n small = (all_weaker (is_between 48 57) (is_between 33 126) digit_byte (decimal n) (decimal_between n (omega arith)), decimal_length n small)

-- a letter and a number
lettered : (letter n : ℕ) → is_between 33 126 letter ≡ true → n < 2 ^ 16 → IsWord (letter ∷ decimal n) × (length (letter ∷ decimal n) ≤ 6)
lettered letter n h small = let w = number_word n small in (and_from (is_between 33 126 letter) (list_all (is_between 33 126) (decimal n)) h w.0, omega (arith, w.1))

-- a node of a small tree
node_word : (t : TreeShape) (u : NodeId) → length t.parents ≤ 15 → length t.seats ≤ MOST_SITES → IsNode t u → IsWord (node_text u) × (length (node_text u) ≤ 6)
unfolding node_text
node_word t (Site i) few seats inside = lettered 115 i refl (omega arith)
node_word t (Serializer z) few seats inside = lettered 122 z refl (omega arith)

few_of : (n : ℕ) → ltb n 64 ≡ true → n < 2 ^ 16
few_of n h = let less = ltb-true n 64 h in omega arith

parent_at : (ps : List (Option ℕ)) (k p : ℕ) → slice_get ps k ≡ Some (Some p) → parent_of ps k ≡ Some p
unfolding parent_of
parent_at ps k p here = ap (λ (o : Option (Option ℕ)). unwrap_or o None) here

seat_at : (t : TreeShape) (k n : ℕ) → slice_get t.seats k ≡ Some n → seat_of t k ≡ n
unfolding seat_of
seat_at t k n here = ap (λ (o : Option ℕ). unwrap_or o 0) here

-- a ts or a payload's number
long_number : (n : ℕ) → n < 2 ^ 64 → IsWord (decimal n) × (length (decimal n) ≤ 20)
long_number n small = (all_weaker (is_between 48 57) (is_between 33 126) digit_byte (decimal n) (decimal_between n small), decimal_short n small)

-- the most bytes of a word of a kind and its blank
abbrev most : Kind → ℕ
most kind.Client = 33
most kind.Item = 33
most kind.Value = 257
most _ = 21

abbrev most_of : List Kind → ℕ
most_of [] = 0
most_of (k ∷ ks) = most k + most_of ks

-- a word of an act
word_fits : (d : Deployed) (t : TreeShape) (k : Kind) (a : Said) → IsSmall d t → HaveNames d → Fits d t k a → IsWord (text d k a) × (length (text d k a) + 1 ≤ most k)
unfolding node_text
word_fits d t kind.Client (place c) small names h = let w = name_word (client_name d c) (named_client d c names h) in (w.0, omega (arith, w.1))
word_fits d t kind.Item (place x) small names h = let w = name_word (item_name d x) (named_item d x names h) in (w.0, omega (arith, w.1))
word_fits d t kind.Value (bytes v) small names h = let w = value_word v h in (w.0, omega (arith, w.1))
word_fits d t kind.Site (place i) small names h = let few = small.sites in let w = number_word i (omega (arith, h)) in (w.0, omega (arith, w.1))
word_fits d t kind.Gear (place g) small names h = let few = small.gears in let w = number_word g (omega (arith, h)) in (w.0, omega (arith, w.1))
word_fits d t kind.Ts (num n) small names h = let w = long_number n (omega (arith, h)) in (w.0, omega (arith, w.1))
word_fits d t kind.Count (num n) small names h = let w = long_number n h in (w.0, omega (arith, w.1))
word_fits d t kind.Epoch (place e) small names h = let few = small.plans in let w = number_word e (omega (arith, h.1)) in (w.0, omega (arith, w.1))
word_fits d t kind.Node (at u) small names h = let w = node_word t u small.parents small.seats h in (w.0, omega (arith, w.1))
word_fits d t kind.Serializer (place z) small names h = let few = small.parents in let w = lettered 122 z refl (omega (arith, h)) in (w.0, omega (arith, w.1))
word_fits d t _ _ small names h = absurd h

words_fit : (d : Deployed) (t : TreeShape) (ks : List Kind) (xs : List Said) → IsDeployment d → IsSmall d t → HaveNames d → AllFit d t ks xs → AllByRecursion IsWord (texts d ks xs) × (size (texts d ks xs) ≤ most_of ks)
words_fit d t [] [] is small names h = (tt, omega arith)
words_fit d t (kind.Epoch ∷ ks) (place e ∷ xs) is small names h =
    let one = word_fits d t kind.Epoch (place e) small names (h.2, epoch_inside d e h.0 h.2 h.1) in
    let more = words_fit d h.0 ks xs is (shape_small d e h.0 is h.1) names h.3 in
    ((one.0, more.0), omega (arith, one.1, more.1))
words_fit d t [] (a ∷ xs) is small names h = absurd h
words_fit d t (kind.Epoch ∷ ks) [] is small names h = absurd h
words_fit d t (k ∷ ks) [] is small names h = absurd h
words_fit d t (k ∷ ks) (a ∷ xs) is small names h =
    let one = word_fits d t k a small names h.0 in
    let more = words_fit d t ks xs is small names h.1 in
    ((one.0, more.0), omega (arith, one.1, more.1))

-- a format that has a form which writes more than one item has long lines
long_in : (format n count : ℕ) → 2 ≤ n → leb n (format_limits format).written ≡ true → count ≤ LONG_LINE_BYTES → count ≤ line_bytes format
long_in format n count many has few = go (eqb format 1) has
  where
    go : (b : Bool) → leb n (cond b (format_limits 1) (format_limits 2)).written ≡ true → count ≤ cond b LINE_BYTES LONG_LINE_BYTES
    go true has = absurd (let one = leb-true n 1 has in omega (arith, one, many))
    go false has = few

short_in : (format count : ℕ) → count ≤ LINE_BYTES → count ≤ line_bytes format
short_in format count few = go (eqb format 1)
  where
    go : (b : Bool) → count ≤ cond b LINE_BYTES LONG_LINE_BYTES
    go true = few
    go false = omega (arith, few)

keyword_fits : (format : ℕ) (a : Act) → allows format (form_of a) ≡ true → IsWord (word_of (form_of a)) × (length (word_of (form_of a)) + 1 + most_of (kinds_of (form_of a)) ≤ line_bytes format)
unfolding allows
keyword_fits format (act.Writes c (One x) values) has = (refl, long_in format 2 _ (omega arith) has (omega arith))
keyword_fits format (act.Writes c (Two x y) values) has = (refl, long_in format 2 _ (omega arith) has (omega arith))
keyword_fits format (act.Writes c (Three x y z) values) has = (refl, long_in format 3 _ (omega arith) has (omega arith))
keyword_fits format (act.Writes c (Four x y z w) values) has = (refl, long_in format 4 _ (omega arith) has (omega arith))
keyword_fits format (act.Bulk i g j None) has = (refl, short_in format _ (omega arith))
keyword_fits format (act.Bulk i g j (Some n)) has = (refl, short_in format _ (omega arith))
keyword_fits format _ has = (refl, short_in format _ (omega arith))

act_line_sized : (d : Deployed) (a : Act) → IsWhole d → IsActOf d a → IsSized (line_bytes d.format) (act_words d a)
unfolding act_words
act_line_sized d a is fits =
    let first = keyword_fits d.format a (act_allowed d a fits) in
    let small = no_small d no_tree is.deployment (omega arith) (omega arith) in
    let more = words_fit d no_tree (kinds_of (form_of a)) (args_of a) is.deployment small is.names (args_fit d a is.deployment fits).0 in
    record { each = (first.0, more.0); some = omega arith; short = omega (arith, first.1, more.1) }

pub act_line_fits : (d : Deployed) (a : Act) → IsWhole d → IsActOf d a → IsLine (act_words d a)
act_line_fits d a is fits = sized_line d.format (act_words d a) (act_line_sized d a is fits)

-- ---- lists

list_all_join : (xs ys : List ℕ) → list_all (is_between 33 126) xs ≡ true → list_all (is_between 33 126) ys ≡ true → list_all (is_between 33 126) (xs ++ 44 ∷ ys) ≡ true
list_all_join xs ys h k = rw (list_all-append (is_between 33 126) xs (44 ∷ ys), h, k) refl

joined_word : (ns : List ℕ) → list_all (λ n. ltb n 64) ns ≡ true → IsWord (join_with_byte 44 (map decimal ns)) × (length (join_with_byte 44 (map decimal ns)) ≤ 6 * length ns)
joined_word [] h = (refl, omega arith)
joined_word (a ∷ []) h = let w = number_word a (few_of a (and_parts (ltb a 64) true h).0) in (w.0, omega (arith, w.1))
joined_word (a ∷ b ∷ ns) h =
    let c = and_parts (ltb a 64) (list_all (λ n. ltb n 64) (b ∷ ns)) h in
    let w = number_word a (few_of a c.0) in
    let more = joined_word (b ∷ ns) c.1 in
    (list_all_join (decimal a) (join_with_byte 44 (map decimal (b ∷ ns))) w.0 more.0, omega (arith, w.1, more.1, length-append (decimal a) (44 ∷ join_with_byte 44 (map decimal (b ∷ ns)))))

filter_short : (p : ℕ → Bool) (xs : List ℕ) → length (filter p xs) ≤ length xs
filter_short p xs = let both = length-filter_both p (λ x. not (p x)) (λ x. refl) xs in omega arith

pub sites_word : (set : SiteSet) → IsWord (sites_text set) × (length (sites_text set) ≤ 384)
unfolding sites_text
sites_word set =
    let w = joined_word (filter (bit set.bits) (below 64)) (members_under (bit set.bits) 64) in
    let few = filter_short (bit set.bits) (below 64) in
    let count = length-below 64 in
    (w.0, omega (arith, w.1))

item_line_fits : (s : State) (item : Item) → ItemStands s item → IsSized LINE_BYTES (item_words item)
item_line_fits s item is =
    let n = name_word item.name is.name in
    let w = sites_word item.replicas in
    record { each = (refl, (n.0, (w.0, tt))); some = omega arith; short = omega (arith, n.1, w.1) }

-- ---- trees

size_append : (xs ys : List (List ℕ)) → size (xs ++ ys) ≡ size xs + size ys
size_append [] ys = omega arith
size_append (x ∷ xs) ys = let more = size_append xs ys in omega arith

numbers_line : (ns : List ℕ) → ((k n : ℕ) → slice_get ns k ≡ Some n → n < 2 ^ 16) → AllByRecursion IsWord (map decimal ns) × (size (map decimal ns) ≤ 6 * length ns)
numbers_line [] h = (tt, omega arith)
numbers_line (n ∷ ns) h =
    let w = number_word n (h 0 n refl) in
    let more = numbers_line ns (λ k m at. h (suc k) m at) in
    ((w.0, more.0), omega (arith, w.1, more.1))

parents_line : (ps : List (Option ℕ)) → ((k p : ℕ) → slice_get ps k ≡ Some (Some p) → p < 2 ^ 16) → AllByRecursion IsWord (map parent_text ps) × (size (map parent_text ps) ≤ 6 * length ps)
parents_line [] h = (tt, omega arith)
parents_line (None ∷ ps) h = let more = parents_line ps (λ k m at. h (suc k) m at) in ((refl, more.0), omega (arith, more.1))
parents_line (Some p ∷ ps) h =
    let w = number_word p (h 0 p refl) in
    let more = parents_line ps (λ k m at. h (suc k) m at) in
    ((w.0, more.0), omega (arith, w.1, more.1))

tree_line_fits : (t : TreeShape) → IsSmallTree t → IsSized LINE_BYTES (plan_words (plan.Tree t))
tree_line_fits t is =
    let few = is.few_serializers in
    let seats = is.few_seats in
    let ps = parents_line t.parents (λ k p at. let low = is.tree.down k p (parent_at t.parents k p at) in let inner = is.tree.inner k p (parent_at t.parents k p at) in omega arith) in
    let ss = numbers_line t.seats (λ k n at. let low = is.tree.seats k in let same = seat_at t k n at in omega arith) in
    let tail_words = all_append IsWord (map parent_text t.parents) (codes "/" ∷ map decimal t.seats) ps.0 (refl, ss.0) in
    let tail_size = size_append (map parent_text t.parents) (codes "/" ∷ map decimal t.seats) in
    record { each = (refl, (refl, tail_words)); some = omega arith; short = omega (arith, ps.1, ss.1) }

plan_line_fits : (sites : ℕ) (p : Plan) → sites ≤ MOST_SITES → IsPlanFor sites p → IsSized LINE_BYTES (plan_words p)
plan_line_fits sites plan.Stamp few h = record { each = (refl, (refl, tt)); some = omega arith; short = omega arith }
plan_line_fits sites (plan.Tree t) few h = tree_line_fits t (tree_small sites t h few).0

-- ---- any line

pub line_sized : (here : Stage) (s : State) (p : Parsed) → HasHeader here s.header → s.header.sites ≤ MOST_SITES → Stands here s p → IsSized (line_bytes (with_parsed s.header p).format) (parsed_words s.header p)
line_sized stage.Start s (parsed.Format f) kept few h =
    let w = number_word f (omega (arith, h.1)) in
    sized_in f (codes "saturn" ∷ decimal f ∷ []) (record { each = (refl, (w.0, tt)); some = omega arith; short = omega (arith, w.1) })
line_sized stage.Sites s (parsed.Sites n) kept few h =
    let most = (limits_few s.dialect s.header.format).sites in
    let w = number_word n (omega (arith, h.1)) in
    sized_in s.header.format (codes "sites" ∷ decimal n ∷ []) (record { each = (refl, (w.0, tt)); some = omega arith; short = omega (arith, w.1) })
line_sized stage.Gears s (parsed.Gears n) kept few h =
    let w = number_word n (omega (arith, h.1)) in
    sized_in s.header.format (codes "gears" ∷ decimal n ∷ []) (record { each = (refl, (w.0, tt)); some = omega arith; short = omega (arith, w.1) })
line_sized stage.Header s (parsed.Item item) kept few h = sized_in s.header.format (item_words item) (item_line_fits s item h)
line_sized stage.Header s (parsed.Client line) kept few h =
    let n = name_word line.name h.name in
    let w = number_word line.site (omega (arith, h.home)) in
    sized_in s.header.format (codes "client" ∷ line.name ∷ decimal line.site ∷ []) (record { each = (refl, (n.0, (w.0, tt))); some = omega arith; short = omega (arith, n.1, w.1) })
line_sized stage.Header s (parsed.Plan p) kept few h = sized_in s.header.format (plan_words p) (plan_line_fits s.header.sites p few h.fits)
line_sized stage.Header s parsed.Begin kept few h = sized_in s.header.format (codes "begin" ∷ []) (record { each = (refl, tt); some = omega arith; short = omega arith })
line_sized stage.Body s (parsed.Act a) kept few h = act_line_sized s.header a kept h.fits
line_sized stage.Body s parsed.End kept few h = sized_in s.header.format (codes "end" ∷ []) (record { each = (refl, tt); some = omega arith; short = omega arith })
line_sized _ s _ kept few h = absurd h

pub line_fits : (here : Stage) (s : State) (p : Parsed) → HasHeader here s.header → s.header.sites ≤ MOST_SITES → Stands here s p → IsLine (parsed_words s.header p)
line_fits here s p kept few h = sized_line (with_parsed s.header p).format (parsed_words s.header p) (line_sized here s p kept few h)
